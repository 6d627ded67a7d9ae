-- Which bytes a text may have. A character is a Unicode scalar value: a number below 1114112,
-- outside 55296 to 57343.
use Rattle.std.specs.Prelude.{◌≡◌, ℕ, true, false, List, drop, Result, MatchResult}
use Rattle.std.specs.Str.{chars, encode_utf8_all, all_scalars, is_utf8, valid_up_to, error_len}
use Rattle.std.specs.Str.Lossy.{utf8_valid_len, utf8_error_len}
use Rattle.std.specs.declared.str.Utf8Error.{Utf8Error}
use Rattle.ecow_base.specs.Plain.{plain_bytes}
use Rattle.ecow_base.specs.Plain.{text_of}
use Rattle.ecow_base.specs.declared.plain.PlainBytes.{PlainBytes}
use Rattle.ecow_base.specs.declared.plain.PlainText.{PlainText}

-- each number of the list is a character
abbrev pub AreChars : List ℕ → Type 0
AreChars cs = all_scalars cs ≡ true

-- the bytes are the UTF-8 of the characters that they spell
pub record AreUtf8 (bytes : List ℕ) : Type 0 where
  pub spelling : encode_utf8_all (chars bytes) ≡ bytes
  pub valid : AreChars (chars bytes)

-- the UTF-8 bytes of a text, in its mode
abbrev pub bytes_of : PlainText → PlainBytes
bytes_of text = plain_bytes (encode_utf8_all text.chars) text.inline

-- the error is that of std's `str::from_utf8`: how many bytes before the fault are UTF-8, and how
-- long it is
abbrev pub SaysFault : List ℕ → Utf8Error → Type 0
SaysFault bytes error =
    (valid_up_to error ≡ utf8_valid_len bytes)
    × (error_len error ≡ utf8_error_len (drop (valid_up_to error) bytes))

-- a text is made of bytes exactly where they are UTF-8, and it is what they spell, in their mode
abbrev pub TriesText : PlainBytes → Result PlainText Utf8Error → Type 0
TriesText held r =
    MatchResult r
    (λ text. (is_utf8 held.bytes ≡ true) × (text ≡ text_of held))
    (λ error. (is_utf8 held.bytes ≡ false) × SaysFault held.bytes error)
