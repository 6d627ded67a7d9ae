-- Fields by their names.
use Rattle.std.specs.Prelude.{ℕ, Bool, List, ◌≡◌, Some, length, filter, slice_get, slice_set}
use Rattle.ecow_base.specs.declared.plain.PlainText.{PlainText}
use Rattle.std.specs.Str.{bytes_eq, encode_utf8_all}
use Rattle.ecow_nested.specs.declared.fields.Field.{Field}

-- whether a field has the name, which is given by its bytes
abbrev pub has_name : {T : Type 0} → List ℕ → Field T → Bool
has_name name field = bytes_eq (encode_utf8_all field.name.chars) name

-- how many fields have the name
abbrev pub how_many : {T : Type 0} → List ℕ → List (Field T) → ℕ
how_many name fields = length (filter (has_name name) fields)

-- a field of that name and value
abbrev pub named : {T : Type 0} → PlainText → T → Field T
named name value = record { name = name; value = value }

-- the value of a field was one and is another
abbrev pub Revalues : {T : Type 0} → List (Field T) → ℕ → T → T → List (Field T) → Type 0
Revalues {T} old index was is new =
    (name : PlainText) × (slice_get old index ≡ Some (named name was))
    × (new ≡ slice_set old index (named name is))
