-- The words of a line, and readings: what is read at a place in a line, behind the names that were
-- read before.
use Rattle.std.specs.Prelude.{◌≡◌, ℕ, Bool, true, false, not, if◌then◌else◌, ◌==◌, ◌&&◌, ◌||◌, nat_le, nat_lt, nat_eq, List, [], ◌∷◌, ◌++◌, length, drop, Option, Some, None, Result, Ok, Err, ℤ}
use Rattle.std.specs.List.{before_first, position_or_len, position, list_all}
use Rattle.std.specs.Cmp.Lexicographic.{pointwise}
use Rattle.ecow_script.specs.Numbers.{count_in, integer_in, byte_in, list_in, marks_in, bounds_in}
use Rattle.ecow_script.specs.Outcomes.{Fails}
use Rattle.ecow_script.specs.declared.reason.Reason.{Reason}
use Rattle.ecow_script.specs.declared.reason.Reason.TheVariants as reason
use Rattle.ecow_script.specs.declared.reason.Misfit.{Misfit}
use Rattle.std.specs.declared.ops.Bound.{Bound}
use denote.Ref.{Bor}
use Rattle.std.specs.Str.{chars}
use Rattle.ecow_script.specs.Quoted.{text_from}

-- a space (32) or a tab (9)
abbrev pub is_blank : ℕ → Bool
is_blank c = c == 32 || c == 9

-- any other byte
abbrev pub is_ink : ℕ → Bool
is_ink c = not (is_blank c)

-- what is left of a line from its next word on
abbrev pub behind_blanks : List ℕ → List ℕ
behind_blanks line = drop (position_or_len is_ink line) line

-- the word at the front, and what stands behind it
abbrev pub word_at : List ℕ → List ℕ
word_at text = before_first is_blank text

-- what stands behind the word at the front
abbrev pub behind_word : List ℕ → List ℕ
behind_word text = drop (position_or_len is_blank text) text

-- what is left of a line, and the names that were read so far, in the order in which they came
pub record Place : Type 0 where
  pub rest : List ℕ
  pub names : List (List ℕ)

-- a place in a line
abbrev pub place : List ℕ → List (List ℕ) → Place
place rest names = record { rest = rest; names = names }

-- the next word, if there is one
abbrev pub word_of : List ℕ → List (List ℕ) → Option (List ℕ) × Place
word_of [] names = (None, place [] names)
word_of (c ∷ cs) names = (Some (word_at (c ∷ cs)), place (behind_word (c ∷ cs)) names)

-- the next word of a line, if there is one
abbrev pub next_word : Place → Option (List ℕ) × Place
next_word old = word_of (behind_blanks old.rest) old.names

-- a value at a place and the place behind it, or what was expected there
abbrev pub Reading : Type 0 → Type 0
Reading A = Place → Result (A × Place) Reason

-- one reading, and then another that its value decides
abbrev pub read_on : {A B : Type 0} → Result (A × Place) Reason → (A → Reading B)
    → Result (B × Place) Reason
read_on (Ok x) f = f x.0 x.1
read_on (Err reason) f = Err reason

infixl 10 ◌>>=◌
-- a reading, and then another that its value decides
abbrev pub ◌>>=◌ : {A B : Type 0} → Reading A → (A → Reading B) → Reading B
◌>>=◌ form f old = read_on (form old) f

-- a value for which nothing is read
abbrev pub gives : {A : Type 0} → A → Reading A
gives x old = Ok (x, old)

-- no value, since this was expected
abbrev pub expected : {A : Type 0} → Reason → Reading A
expected reason old = Err reason

-- a value that may be absent
abbrev pub wanted : {A : Type 0} → Reason → Option A → Reading A
wanted reason None = expected reason
wanted reason (Some x) = gives x

-- a value that may be absent, and the place behind it
abbrev pub wanted_at : {A : Type 0} → Reason → Option A × Place → Result (A × Place) Reason
wanted_at reason found = wanted reason found.0 found.1

-- the next word of a line that must have one
abbrev pub argument : Reading (List ℕ)
argument old = wanted_at reason.Arguments (next_word old)

-- a word that spells a value, or is no such word
abbrev pub spelling : {A : Type 0} → Reason → (List ℕ → Option A) → Reading A
spelling reason form = argument >>= λ word. wanted reason (form word)

-- COUNT
abbrev pub count : Reading ℕ
count = spelling reason.Number count_in

-- INT
abbrev pub integer : Reading ℤ
integer = spelling reason.Number integer_in

-- BYTE
abbrev pub byte : Reading ℕ
byte = spelling reason.Number byte_in

-- INTS
abbrev pub integers : Reading (List ℤ)
integers = spelling reason.List (list_in integer_in)

-- BYTES
abbrev pub bytes : Reading (List ℕ)
bytes = spelling reason.List (list_in byte_in)

-- MARKS
abbrev pub marks : Reading (List Bool)
marks = spelling reason.Marks marks_in

-- BOUNDS
abbrev pub bounds : Reading (Bound ℕ × Bound ℕ)
bounds = spelling reason.Bounds bounds_in

-- whether two words are equal
abbrev pub same : List ℕ → List ℕ → Bool
same = pointwise nat_eq

-- a letter from `a` (97) to `z` (122)
abbrev pub is_lower : ℕ → Bool
is_lower c = nat_le 97 c && nat_le c 122

-- such a letter, a digit (48 to 57) or an underscore (95)
abbrev pub is_name_byte : ℕ → Bool
is_name_byte c = is_lower c || nat_le 48 c && nat_le c 57 || c == 95

-- a name: such a letter, and then at most 31 of these
abbrev pub is_name : List ℕ → Bool
is_name [] = false
is_name (c ∷ cs) = is_lower c && nat_lt (length cs) 32 && list_all is_name_byte cs

-- the number of a name: its place among the names that were read
abbrev pub number_of : List ℕ → List (List ℕ) → Option ℕ
number_of word names = position (same word) names

-- a name that was not read before gets the next number
abbrev pub new_name : List ℕ → Reading ℕ
new_name word old =
    if is_name word then Ok (length old.names, place old.rest (old.names ++ word ∷ []))
    else Err reason.Name

-- a name with this number, or a new one
abbrev pub name_or_new : List ℕ → Option ℕ → Reading ℕ
name_or_new word (Some number) = gives number
name_or_new word None = new_name word

-- the number of a name
abbrev pub numbered : List ℕ → Reading ℕ
numbered word old = name_or_new word (number_of word old.names) old

-- NAME
abbrev pub name : Reading ℕ
name = argument >>= numbered

-- what was answered, and the place after it, are what the form gives, unless memory ran out
abbrev pub Reads : {A : Type 0} → Reading A → Place → Result A Misfit → Place → Type 0
Reads form old (Ok x) new = form old ≡ Ok (x, new)
Reads form old (Err misfit) new = Fails misfit (form old)

-- what was answered where bytes are lent
abbrev pub ReadsRef : Reading (List ℕ) → Place → Result (Bor (List ℕ)) Misfit → Place
    → Type 0
ReadsRef form old (Ok x) new = form old ≡ Ok (x.now, new)
ReadsRef form old (Err misfit) new = Fails misfit (form old)

-- a blank or the line's end
abbrev pub ends_word : List ℕ → Bool
ends_word [] = true
ends_word (c ∷ cs) = is_blank c

-- a text that was spelled, behind which the word ends
abbrev pub text_behind : Option (List ℕ × List ℕ) → List (List ℕ)
    → Result (List ℕ × Place) Reason
text_behind None names = Err reason.Text
text_behind (Some spelling) names =
    if ends_word spelling.1 then Ok (chars spelling.0, place spelling.1 names)
    else Err reason.Text

-- a text from its quote (34) on
abbrev pub text_at : List ℕ → List (List ℕ) → Result (List ℕ × Place) Reason
text_at [] names = Err reason.Arguments
text_at (c ∷ cs) names = if c == 34 then text_behind (text_from cs) names else Err reason.Text

-- TEXT, by its characters
abbrev pub text : Reading (List ℕ)
text old = text_at (behind_blanks old.rest) old.names

-- the only character of a text
abbrev pub only : List ℕ → Option ℕ
only [] = None
only (c ∷ []) = Some c
only (c ∷ d ∷ cs) = None

-- CHAR
abbrev pub character : Reading ℕ
character = text >>= λ cs. wanted reason.Text (only cs)
