-- The forms of numbers and lists in a script, as functions of a word's bytes.
use Rattle.std.specs.Prelude.{ℕ, ◌+◌, ◌-◌, ◌*◌, ℤ, pos, negsuc, ◌<◌, ◌-ℤ◌, Bool, true, false, if◌then◌else◌, ◌==◌, ◌&&◌, nat_le, List, [], ◌∷◌, drop, Option, Some, None}
use Rattle.std.specs.Option.{option_map}
use Rattle.std.specs.List.{slice_split, before_first, position_or_len}
use Rattle.std.specs.declared.ops.Bound.{Bound}
use Rattle.std.specs.declared.ops.Bound.TheVariants.{Included, Excluded, Unbounded}

infixl 10 ◌>>=◌
-- a value that may be absent, and then another that it decides
abbrev pub ◌>>=◌ : {A B : Type 0} → Option A → (A → Option B) → Option B
(Some x) >>= f = f x
None >>= f = None

-- a decimal digit: 48 is `0`, and 57 is `9`
abbrev pub is_digit : ℕ → Bool
is_digit c = nat_le 48 c && nat_le c 57

-- the number whose digits are those of `n` and then these
abbrev pub digits_behind : ℕ → List ℕ → Option ℕ
digits_behind n [] = Some n
digits_behind n (c ∷ cs) = if is_digit c then digits_behind (n * 10 + (c - 48)) cs else None

-- the number that one or more decimal digits spell
abbrev pub number_in : List ℕ → Option ℕ
number_in [] = None
number_in (c ∷ cs) = digits_behind 0 (c ∷ cs)

-- a number that is not too great
abbrev pub up_to : ℕ → Option ℕ → Option ℕ
up_to most None = None
up_to most (Some n) = if nat_le n most then Some n else None

-- COUNT
abbrev pub count_in : List ℕ → Option ℕ
count_in word = up_to 18446744073709551615 (number_in word)

-- BYTE
abbrev pub byte_in : List ℕ → Option ℕ
byte_in word = up_to 255 (number_in word)

-- the negative of a number
abbrev pub negative : ℕ → ℤ
negative n = pos 0 -ℤ pos n

-- INT: 45 is `-`
abbrev pub integer_in : List ℕ → Option ℤ
integer_in [] = None
integer_in (c ∷ cs) =
    if c == 45 then option_map negative (up_to 9223372036854775808 (number_in cs))
    else option_map pos (up_to 9223372036854775807 (number_in (c ∷ cs)))

-- what stands in front of a closing bracket (93), which is the last
abbrev pub closed : List ℕ → Option (List ℕ)
closed [] = None
closed (c ∷ []) = if c == 93 then Some [] else None
closed (c ∷ d ∷ ds) = option_map (λ inner. c ∷ inner) (closed (d ∷ ds))

-- what stands between brackets, of which the opening one is 91
abbrev pub bracketed : List ℕ → Option (List ℕ)
bracketed [] = None
bracketed (c ∷ cs) = if c == 91 then closed cs else None

-- what each of the parts spells
abbrev pub each_in : {A : Type 0} → (List ℕ → Option A) → List (List ℕ)
    → Option (List A)
each_in read [] = Some []
each_in read (part ∷ parts) = do
  x ← read part
  xs ← each_in read parts
  Some (x ∷ xs)

-- the values that parts between commas (44) spell; nothing is no part
abbrev pub parted_in : {A : Type 0} → (List ℕ → Option A) → List ℕ → Option (List A)
parted_in read [] = Some []
parted_in read (c ∷ cs) = each_in read (slice_split (λ b. b == 44) (c ∷ cs))

-- INTS, BYTES
abbrev pub list_in : {A : Type 0} → (List ℕ → Option A) → List ℕ → Option (List A)
list_in read word = do
  inner ← bracketed word
  parted_in read inner

-- a mark of what is kept (`+`, 43), or is not (`-`, 45)
abbrev pub mark_in : ℕ → Option Bool
mark_in c = if c == 43 then Some true else if c == 45 then Some false else None

-- what each byte marks
abbrev pub each_mark : List ℕ → Option (List Bool)
each_mark [] = Some []
each_mark (c ∷ cs) = do
  mark ← mark_in c
  marks ← each_mark cs
  Some (mark ∷ marks)

-- MARKS
abbrev pub marks_in : List ℕ → Option (List Bool)
marks_in word = do
  inner ← bracketed word
  each_mark inner

-- a dot, in BOUNDS
abbrev pub is_dot : ℕ → Bool
is_dot c = c == 46

-- where a range starts: nothing, an index, or `>` (62) and an excluded one
abbrev pub start_in : List ℕ → Option (Bound ℕ)
start_in [] = Some Unbounded
start_in (c ∷ cs) =
    if c == 62 then option_map Excluded (count_in cs)
    else option_map Included (count_in (c ∷ cs))

-- where a range ends: nothing, an index, or `=` (61) and an included one
abbrev pub end_in : List ℕ → Option (Bound ℕ)
end_in [] = Some Unbounded
end_in (c ∷ cs) =
    if c == 61 then option_map Included (count_in cs)
    else option_map Excluded (count_in (c ∷ cs))

-- what stands behind two dots
abbrev pub behind_dots : List ℕ → Option (List ℕ)
behind_dots [] = None
behind_dots (c ∷ []) = None
behind_dots (c ∷ d ∷ cs) = if is_dot c && is_dot d then Some cs else None

-- BOUNDS
abbrev pub bounds_in : List ℕ → Option (Bound ℕ × Bound ℕ)
bounds_in word = do
  behind ← behind_dots (drop (position_or_len is_dot word) word)
  start ← start_in (before_first is_dot word)
  end ← end_in behind
  Some (start, end)

-- the integers of 64 bits
abbrev pub IsI64 : ℤ → Type 0
IsI64 (pos n) = n < 9223372036854775808
IsI64 (negsuc n) = n < 9223372036854775808
