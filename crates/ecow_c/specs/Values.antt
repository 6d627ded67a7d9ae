-- Nested values at a pointer of C's.
use Rattle.std.specs.Prelude.{◌≡◌, ◌≢◌, ◌≤◌, ◌-◌, ℕ, true, List, Option, None, IfSome, IsSomeAnd, length, position, slice_get, unwrap_or}
use Rattle.std.specs.Option.{option_and_then, option_map_or}
use Rattle.ecow_c.specs.Answers.{AreBothAnd}
use Rattle.ecow_c.specs.declared.status.TheConstants.{OK}
use Rattle.ecow_nested.specs.declared.nested.TheConstants.{MAX_DEPTH}
use Rattle.ecow_nested.specs.declared.value.Kind.{Kind}
use Rattle.ecow_nested.specs.declared.value.Kind.TheVariants as kind
use Rattle.ecow_nested.specs.declared.value.Value.{Value}
use Rattle.std.specs.Str.{is_utf8}
use Rattle.ecow_base.specs.declared.plain.PlainText.{PlainText}
use Rattle.ecow_nested.specs.Names.{has_name}
use Rattle.ecow_nested.specs.Values.{depth_of, fields_of, items_of, kind_of, len_of, look_up, name_in, Covers, RisesAtMost}

-- the number of a kind in the header
abbrev pub kind_number : Kind → ℕ
kind_number kind.Nothing = 0
kind_number kind.Truth = 1
kind_number kind.Number = 2
kind_number kind.Real = 3
kind_number kind.Text = 4
kind_number kind.List = 5
kind_number kind.Fields = 6

-- the number of a value's kind; a null pointer has that of nothing
abbrev pub kind_at : Option Value → ℕ
kind_at value = option_map_or (λ v. kind_number (kind_of v)) value 0

-- the item of a list at an index, and the last one
abbrev pub item_at : ℕ → Value → Option Value
item_at index value = option_and_then (λ items. slice_get items index) (items_of value)

abbrev pub last_item : Value → Option Value
last_item value = option_and_then (λ items. slice_get items (length items - 1)) (items_of value)

-- the value of the field of a name, which is given by its bytes
abbrev pub field_at : List ℕ → Value → Option Value
field_at name value = option_and_then (λ fields. look_up name fields) (fields_of value)

-- the bytes spell a name, and the value has no fields at all
abbrev pub HasNoFields : List ℕ → Value → Type 0
HasNoFields name value = (is_utf8 name ≡ true) × (fields_of value ≡ None)

-- the bytes spell a name, and the value has fields, but none of that name
abbrev pub LacksField : List ℕ → Value → Type 0
LacksField name value =
    (is_utf8 name ≡ true)
    × IsSomeAnd (fields_of value) (λ fields. look_up name fields ≡ None)

-- the index of the first field of a name, which is given by its bytes
abbrev pub position_at : List ℕ → Value → Option ℕ
position_at name value = option_and_then (position (has_name name)) (fields_of value)

-- the bytes spell a name, and the value has fields, but no index leads to one of that name
abbrev pub LacksPosition : List ℕ → Value → Type 0
LacksPosition name value =
    (is_utf8 name ≡ true)
    × IsSomeAnd (fields_of value) (λ fields. position (has_name name) fields ≡ None)

-- the bytes spell the name of a field that the value has
abbrev pub HasField : List ℕ → Value → Type 0
HasField name value =
    (is_utf8 name ≡ true)
    × IsSomeAnd (fields_of value) (λ fields. look_up name fields ≢ None)

-- how deep a value nests; a null pointer as nothing does
abbrev pub depth_at : Option Value → ℕ
depth_at value = option_map_or depth_of value 0

-- the value nests as deep as any may, so that no container takes it
abbrev pub IsDeepest : Value → Type 0
IsDeepest value = MAX_DEPTH ≤ depth_of value

-- a container nests deeper than each of its parts
abbrev pub CoversAt : Option Value → Type 0
CoversAt value = IfSome value Covers

-- where a container got the item, it nests no deeper than before, or than the item demands
abbrev pub RisesAtMostBy : Option Value → Option Value → ℕ → Option Value → Type 0
RisesAtMostBy old item status new =
    status ≡ OK
    → AreBothAnd old item (λ before item. IsSomeAnd new (λ after. RisesAtMost item before after))

-- the name of the field at an index
abbrev pub name_at : ℕ → Value → Option PlainText
name_at index value =
    option_and_then (λ fields. name_in (slice_get fields index)) (fields_of value)

-- how many items or fields a value has; one of another kind, and a null pointer, have none
abbrev pub len_at : Option Value → ℕ
len_at value = option_map_or (λ v. unwrap_or (len_of v) 0) value 0
