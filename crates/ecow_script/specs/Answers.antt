-- The answer line of an outcome: the bytes of its text.
use Rattle.std.specs.Prelude.{ℕ, List, [], ◌∷◌, ◌++◌, false, if◌then◌else◌, ◌==◌, ◌||◌, nat_lt, Option, Some, None, codes, decimal, encode_utf8, ℤ, ◌≡◌, String, string_bytes}
use Rattle.std.specs.List.{flat_map}
use Rattle.std.specs.Fmt.{digits, signed_decimal}
use Rattle.ecow_model.specs.declared.command.Outcome.{Outcome}
use Rattle.ecow_model.specs.declared.command.Outcome.TheVariants.{Done, Element, Popped, Elements, Byte, PoppedByte, Bytes, Char, PoppedChar, Text, Count, Flag, Refused}
use Rattle.ecow_model.specs.declared.command.Refusal.{Refusal}
use Rattle.ecow_model.specs.declared.command.Refusal.TheVariants.{NoName, Taken, Kind, Index, Range, Boundary, Marks, NotUtf8, Capacity, Memory}

-- a text has more behind what it had
abbrev pub Appended : {Z : Type 0} → String Z → String Z → List ℕ → Type 0
Appended old new text = string_bytes new ≡ string_bytes old ++ text

-- values parted by commas; `before` stands in front of the first
abbrev pub items_behind : {A : Type 0} → List ℕ → (A → List ℕ) → List A → List ℕ
items_behind before show [] = []
items_behind before show (x ∷ xs) = before ++ show x ++ items_behind (codes ",") show xs

-- values parted by commas
abbrev pub items_text : {A : Type 0} → (A → List ℕ) → List A → List ℕ
items_text show xs = items_behind [] show xs

-- values in brackets, parted by commas
abbrev pub list_text : {A : Type 0} → (A → List ℕ) → List A → List ℕ
list_text show xs = codes "[" ++ items_text show xs ++ codes "]"

-- a character as it stands in a quoted text, by its code: backslash, quote, line feed, carriage
-- return, tab, and the other control characters of ASCII
abbrev pub escaped : ℕ → List ℕ
escaped c =
    if c == 92 then codes "\\\\"
    else if c == 34 then codes "\\\""
    else if c == 10 then codes "\\n"
    else if c == 13 then codes "\\r"
    else if c == 9 then codes "\\t"
    else if nat_lt c 32 || c == 127 then codes "\\u{" ++ digits 16 false c ++ codes "}"
    else encode_utf8 c

-- characters in quotes
abbrev pub text_form : List ℕ → List ℕ
text_form cs = codes "\"" ++ flat_map escaped cs ++ codes "\""

-- the word for a refusal
abbrev pub refusal_word : Refusal → List ℕ
refusal_word NoName = codes "no-name"
refusal_word Taken = codes "taken"
refusal_word Kind = codes "kind"
refusal_word Index = codes "index"
refusal_word Range = codes "range"
refusal_word Boundary = codes "boundary"
refusal_word Marks = codes "marks"
refusal_word NotUtf8 = codes "not-utf8"
refusal_word Capacity = codes "capacity"
refusal_word Memory = codes "memory"

-- a value that may be absent
abbrev pub or_none : {A : Type 0} → (A → List ℕ) → Option A → List ℕ
or_none show (Some x) = show x
or_none show None = codes "none"

-- what an outcome says, without the end of its line
abbrev pub answer : Outcome ℤ → List ℕ
answer Done = codes "ok"
answer (Element value) = signed_decimal value
answer (Popped last) = or_none signed_decimal last
answer (Elements items) = list_text signed_decimal items
answer (Byte byte) = decimal byte
answer (PoppedByte last) = or_none decimal last
answer (Bytes bytes) = list_text decimal bytes
answer (Char c) = text_form (c ∷ [])
answer (PoppedChar last) = or_none (λ c. text_form (c ∷ [])) last
answer (Text cs) = text_form cs
answer (Count n) = decimal n
answer (Flag flag) = if flag then codes "true" else codes "false"
answer (Refused refusal) = codes "refused " ++ refusal_word refusal

-- the line of an outcome
abbrev pub answer_line : Outcome ℤ → List ℕ
answer_line outcome = answer outcome ++ codes "\n"

-- the lines of outcomes
abbrev pub answer_lines : List (Outcome ℤ) → List ℕ
answer_lines outcomes = flat_map answer_line outcomes
