-- Quoted texts, and the escapes in them. A text is read as its UTF-8 bytes.
use Rattle.std.specs.Prelude.{ℕ, ◌+◌, ◌*◌, Bool, if◌then◌else◌, ◌==◌, ◌&&◌, ◌||◌, nat_le, nat_lt, List, [], ◌∷◌, ◌++◌, length, Option, Some, None, encode_utf8}
use Rattle.std.specs.Char.{digit_value}
use Rattle.std.specs.List.{position_or_len, before_first, after_first}

-- the number whose hexadecimal digits are those of `n` and then these
abbrev pub hex_behind : ℕ → List ℕ → Option ℕ
hex_behind n [] = Some n
hex_behind n (c ∷ cs) =
    if nat_lt (digit_value c) 16 then hex_behind (n * 16 + digit_value c) cs else None

-- whether a number is a Unicode scalar value
abbrev pub is_scalar : ℕ → Bool
is_scalar n = nat_lt n 55296 || nat_le 57344 n && nat_lt n 1114112

-- a number that is a Unicode scalar value
abbrev pub scalar : Option ℕ → Option ℕ
scalar None = None
scalar (Some n) = if is_scalar n then Some n else None

-- the scalar value that one to six hexadecimal digits spell
abbrev pub scalar_in : List ℕ → Option ℕ
scalar_in digits =
    if nat_le 1 (length digits) && nat_le (length digits) 6 then scalar (hex_behind 0 digits)
    else None

-- the character that one letter behind a backslash stands for: `\` (92), `"` (34), `n` (110) for
-- the line feed (10), `r` (114) for the carriage return (13), `t` (116) for the tab (9)
abbrev pub plain_escape : ℕ → Option ℕ
plain_escape c =
    if c == 92 then Some 92
    else if c == 34 then Some 34
    else if c == 110 then Some 10
    else if c == 114 then Some 13
    else if c == 116 then Some 9
    else None

-- bytes in front of what is spelled
abbrev pub behind_bytes : List ℕ → Option (List ℕ × List ℕ)
    → Option (List ℕ × List ℕ)
behind_bytes front None = None
behind_bytes front (Some spelling) = Some (front ++ spelling.0, spelling.1)

-- a character in front of what is spelled
abbrev pub behind_char : Option ℕ → Option (List ℕ × List ℕ) → Option (List ℕ × List ℕ)
behind_char None spelling = None
behind_char (Some c) spelling = behind_bytes (encode_utf8 c) spelling

-- the bytes that are spelled up to the closing quote, and what stands behind it
abbrev mutual
  -- up to the closing quote (34), from any character on; 92 is the backslash
  pub text_from : List ℕ → Option (List ℕ × List ℕ)
  text_from [] = None
  text_from (c ∷ cs) =
      if c == 34 then Some ([], cs)
      else if c == 92 then escape_from cs
      else behind_bytes (c ∷ []) (text_from cs)

  -- behind a backslash: 117 is `u`
  pub escape_from : List ℕ → Option (List ℕ × List ℕ)
  escape_from [] = None
  escape_from (c ∷ cs) =
      if c == 117 then brace_from cs else behind_char (plain_escape c) (text_from cs)

  -- behind `\u`: 123 is `{`
  pub brace_from : List ℕ → Option (List ℕ × List ℕ)
  brace_from [] = None
  brace_from (c ∷ cs) = if c == 123 then digits_from [] cs else None

  -- behind the brace and these digits: 125 is `}`
  pub digits_from : List ℕ → List ℕ → Option (List ℕ × List ℕ)
  digits_from digits [] = None
  digits_from digits (c ∷ cs) =
      if c == 125 then behind_char (scalar_in digits) (text_from cs)
      else digits_from (digits ++ c ∷ []) cs

-- an escape by its parts, as the reader finds them
abbrev pub is_special : ℕ → Bool
is_special c = c == 34 || c == 92

-- a closing brace
abbrev pub is_close : ℕ → Bool
is_close c = c == 125

-- a character that may be absent, and what stands behind it
abbrev pub with_rest : List ℕ → Option ℕ → Option (ℕ × List ℕ)
with_rest rest None = None
with_rest rest (Some c) = Some (c, rest)

-- behind `\u{`: the character, and what stands behind the brace
abbrev pub digits_at : List ℕ → Option (ℕ × List ℕ)
digits_at cs =
    if nat_lt (position_or_len is_close cs) (length cs)
    then with_rest (after_first is_close cs) (scalar_in (before_first is_close cs))
    else None

-- behind `\u`
abbrev pub brace_at : List ℕ → Option (ℕ × List ℕ)
brace_at [] = None
brace_at (c ∷ cs) = if c == 123 then digits_at cs else None

-- behind a backslash
abbrev pub escape_at : List ℕ → Option (ℕ × List ℕ)
escape_at [] = None
escape_at (c ∷ cs) = if c == 117 then brace_at cs else with_rest cs (plain_escape c)

-- the text behind an escape, with the character in front
abbrev pub behind_escape : Option (ℕ × List ℕ) → Option (List ℕ × List ℕ)
behind_escape None = None
behind_escape (Some e) = behind_bytes (encode_utf8 e.0) (text_from e.1)
