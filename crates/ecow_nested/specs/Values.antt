-- Nested values: what each kind holds, and how one is changed.
use Rattle.std.specs.Prelude.{◌≡◌, ◌↔◌, ℕ, ℤ, ◌+◌, ◌<◌, ◌≤◌, ⊤, Bool, true, false, not, ◌&&◌, ◌||◌, List, [], ◌∷◌, Option, None, Some, Result, OnOk, OnErr, IfErr, IsErrOf, length, map, max, slice_get, find, if◌then◌else◌}
use Rattle.std.specs.Float.Ieee.{Float, eq, is_nan}
use Rattle.std.specs.List.{list_any}
use Rattle.std.specs.Option.{option_and_then, option_map}
use Rattle.std.specs.Ordering.{int_eq}
use Rattle.std.specs.Str.{chars, bytes_eq, encode_utf8_all}
use Rattle.ecow_base.specs.Inline.{inline_for}
use Rattle.ecow_base.specs.Plain.{plain_text}
use Rattle.ecow_base.specs.declared.plain.PlainText.{PlainText}
use Rattle.ecow_nested.specs.Depths.{largest}
use Rattle.ecow_nested.specs.Names.{has_name}
use Rattle.ecow_nested.specs.declared.refusal.Refusal.{Refusal}
use Rattle.ecow_nested.specs.declared.refusal.Refusal.TheVariants as refused
use Rattle.ecow_nested.specs.declared.value.Kind.{Kind}
use Rattle.ecow_nested.specs.declared.value.Kind.TheVariants as kind
use Rattle.ecow_nested.specs.declared.value.Value.{Value, out-Value}
use Rattle.ecow_nested.specs.declared.value.Value.TheOpen.{Value-F}
use Rattle.ecow_nested.specs.declared.value.Value.TheFolds.{fold-Value}
use Rattle.ecow_nested.specs.declared.fields.Field.{Field}

abbrev pub kind_in : {A : Type 0} → Value-F A → Kind
kind_in Value-F.Nothing = kind.Nothing
kind_in (Value-F.Truth truth) = kind.Truth
kind_in (Value-F.Number number) = kind.Number
kind_in (Value-F.Real real) = kind.Real
kind_in (Value-F.Text text) = kind.Text
kind_in (Value-F.List items) = kind.List
kind_in (Value-F.Fields fields) = kind.Fields

-- which kind of value it is
abbrev pub kind_of : Value → Kind
kind_of value = kind_in (out-Value value)

-- what a value of each kind holds, and nothing where it is of another kind
abbrev pub truth_of : Value → Option Bool
truth_of value = elim (out-Value value) [ Value-F.Truth truth ↦ Some truth | _ ↦ None ]

abbrev pub number_of : Value → Option ℤ
number_of value = elim (out-Value value) [ Value-F.Number number ↦ Some number | _ ↦ None ]

abbrev pub real_of : Value → Option Float
real_of value = elim (out-Value value) [ Value-F.Real real ↦ Some real | _ ↦ None ]

abbrev pub text_of : Value → Option PlainText
text_of value = elim (out-Value value) [ Value-F.Text text ↦ Some text | _ ↦ None ]

abbrev pub items_of : Value → Option (List Value)
items_of value = elim (out-Value value) [ Value-F.List nested ↦ Some nested.items | _ ↦ None ]

abbrev pub fields_of : Value → Option (List (Field Value))
fields_of value = elim (out-Value value) [ Value-F.Fields nested ↦ Some nested.items | _ ↦ None ]

-- how deep a value nests, as it says: 0 of what is no container
abbrev pub depth_of : Value → ℕ
depth_of value =
    elim (out-Value value) [
      | Value-F.List nested ↦ nested.depth
      | Value-F.Fields nested ↦ nested.depth
      | _ ↦ 0
    ]

-- how deep the deepest item nests, or the value of a field
abbrev pub deepest : List Value → ℕ
deepest items = largest (map depth_of items)

abbrev pub field_depth : Field Value → ℕ
field_depth field = depth_of field.value

-- the same of a field that may be missing
abbrev pub slot_depth : Option (Field Value) → ℕ
slot_depth slot = elim slot [ None ↦ 0 | Some field ↦ field_depth field ]

abbrev pub deepest_field : List (Field Value) → ℕ
deepest_field fields = largest (map field_depth fields)

-- a container nests deeper than each of its parts
abbrev pub Covers : Value → Type 0
Covers value =
    elim (out-Value value) [
      | Value-F.List nested ↦ deepest nested.items < nested.depth
      | Value-F.Fields nested ↦ deepest_field nested.items < nested.depth
      | _ ↦ ⊤
    ]

-- a container nests no deeper than it did, or than a part that it got demands
abbrev pub RisesAtMost : Value → Value → Value → Type 0
RisesAtMost part old new = depth_of new ≤ max (depth_of old) (depth_of part + 1)

-- how many items or fields there are
abbrev pub len_of : Value → Option ℕ
len_of value =
    elim (out-Value value) [
      | Value-F.List nested ↦ Some (length nested.items)
      | Value-F.Fields nested ↦ Some (length nested.items)
      | _ ↦ None
    ]

-- the value, and the name, of a field that is there
abbrev pub value_in : Option (Field Value) → Option Value
value_in field = option_map (λ f. f.value) field

abbrev pub name_in : Option (Field Value) → Option PlainText
name_in field = option_map (λ f. f.name) field

-- the item of a list, or the value of a field, at the index
abbrev pub part_of : Value → ℕ → Option Value
part_of value index =
    elim (out-Value value) [
      | Value-F.List nested ↦ slice_get nested.items index
      | Value-F.Fields nested ↦ value_in (slice_get nested.items index)
      | _ ↦ None
    ]

-- whether a refusal is the one that is meant
abbrev pub is_refusal : Refusal → Refusal → Bool
is_refusal refused.Kind refused.Kind = true
is_refusal refused.Index refused.Index = true
is_refusal refused.Depth refused.Depth = true
is_refusal refused.Capacity refused.Capacity = true
is_refusal refused.Memory refused.Memory = true
is_refusal _ _ = false

-- the call is not refused for another reason
abbrev pub IsErrAmong : {R : Type 0} → List Refusal → Result R Refusal → Type 0
IsErrAmong refusals result = IfErr result (λ refusal. list_any (is_refusal refusal) refusals ≡ true)

-- the items are what `change` makes of them; where the call is refused nothing has changed
pub record EditsItems {R : Type 0} (change : List Value → List Value) (old : Value)
    (result : Result R Refusal) (new : Value) : Type 0 where
  pub ok : OnOk result (items_of new ≡ option_map change (items_of old))
  pub unchanged : OnErr result (new ≡ old)
  pub kind : IsErrOf result refused.Kind ↔ (items_of old ≡ None)

-- the same of fields
pub record EditsFields {R : Type 0} (change : List (Field Value) → List (Field Value)) (old : Value)
    (result : Result R Refusal) (new : Value) : Type 0 where
  pub ok : OnOk result (fields_of new ≡ option_map change (fields_of old))
  pub unchanged : OnErr result (new ≡ old)
  pub kind : IsErrOf result refused.Kind ↔ (fields_of old ≡ None)

-- the value of the first field of that name
abbrev pub look_up : List ℕ → List (Field Value) → Option Value
look_up name fields = value_in (find (has_name name) fields)

-- the value of the first field of that name; none where the value has no fields
abbrev pub field_of : Value → List ℕ → Option Value
field_of value name = option_and_then (look_up name) (fields_of value)

-- the text of a new field's name
abbrev pub name_of : List ℕ → PlainText
name_of name = plain_text (chars name) (inline_for 15 (length name))

-- a new field
abbrev pub new_field : List ℕ → Value → Field Value
new_field name value = record { name = name_of name; value = value }

-- the fields with another value in the first one of that name, or with one more field
abbrev pub with_field : List ℕ → Value → List (Field Value) → List (Field Value)
with_field name value [] = new_field name value ∷ []
with_field name value (f ∷ fs) =
    if has_name name f then record { name = f.name; value = value } ∷ fs
    else f ∷ with_field name value fs

-- the fields without the first one of that name
abbrev pub without_field : List ℕ → List (Field Value) → List (Field Value)
without_field name [] = []
without_field name (f ∷ fs) = if has_name name f then fs else f ∷ without_field name fs

-- the tests hold of as many elements, one of each
abbrev pub each_holds : {X : Type 0} → List (X → Bool) → List X → Bool
each_holds [] [] = true
each_holds [] (x ∷ xs) = false
each_holds (test ∷ tests) [] = false
each_holds (test ∷ tests) (x ∷ xs) = test x && each_holds tests xs

-- equal floating-point numbers, the two zeros among them, or two NaNs
abbrev pub real_eq : Float → Float → Bool
real_eq x y = eq x y || (is_nan x && is_nan y)

-- a field has a name, and its value passes the test beside it
abbrev pub field_test : Field (Value → Bool) → Field Value → Bool
field_test test field =
    bytes_eq (encode_utf8_all test.name.chars) (encode_utf8_all field.name.chars)
    && test.value field.value

-- one value is equal to another, by tests in the places of its parts
abbrev pub eq_in : Value-F (Value → Bool) → Value-F Value → Bool
eq_in Value-F.Nothing Value-F.Nothing = true
eq_in (Value-F.Truth x) (Value-F.Truth y) = if x then y else not y
eq_in (Value-F.Number x) (Value-F.Number y) = int_eq x y
eq_in (Value-F.Real x) (Value-F.Real y) = real_eq x y
eq_in (Value-F.Text x) (Value-F.Text y) =
    bytes_eq (encode_utf8_all x.chars) (encode_utf8_all y.chars)
eq_in (Value-F.List tests) (Value-F.List nested) = each_holds tests.items nested.items
eq_in (Value-F.Fields tests) (Value-F.Fields nested) =
    each_holds (map field_test tests.items) nested.items
eq_in _ _ = false

abbrev pub value_step : Value-F (Value → Bool) → Value → Bool
value_step tests value = eq_in tests (out-Value value)

-- values of one kind that hold the same, item by item and field by field, whatever the modes of
-- their texts
abbrev pub value_eq : Value → Value → Bool
value_eq = fold-Value (Value → Bool) value_step

-- the same of fields
abbrev pub field_eq : Field Value → Field Value → Bool
field_eq field = field_test (record { name = field.name; value = value_eq field.value })
