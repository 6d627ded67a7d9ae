-- Where paths lead in a nested value, and what is there once a value was set.
use Rattle.std.specs.Prelude.{◌≡◌, ◌≢◌, ◌⊎◌, ⊤, List, [], ◌∷◌, Option, Some, slice_get, slice_set}
use Rattle.std.specs.Option.{option_and_then, option_map}
use Rattle.std.specs.Str.{encode_utf8_all}
use Rattle.ecow_nested.specs.Values.{items_of, fields_of, look_up, with_field}
use Rattle.ecow_nested.specs.declared.value.Value.{Value}
use Rattle.ecow_nested.specs.declared.value.paths.Step.{Step}
use Rattle.ecow_nested.specs.declared.value.paths.Step.TheVariants as step

-- the part that a step leads to: an item, or the value of the first field of a name
abbrev pub part_at : Value → Step → Option Value
part_at value (step.Index index) = option_and_then (λ items. slice_get items index) (items_of value)
part_at value (step.Name name) =
    option_and_then (look_up (encode_utf8_all name.chars)) (fields_of value)

-- the value that a path leads to
abbrev pub value_at : Value → List Step → Option Value
value_at value [] = Some value
value_at value (step ∷ path) = option_and_then (λ part. value_at part path) (part_at value step)

-- new is old with this part where the step leads
abbrev pub HasPart : Step → Value → Value → Value → Type 0
HasPart (step.Index index) part old new =
    items_of new ≡ option_map (λ items. slice_set items index part) (items_of old)
HasPart (step.Name name) part old new =
    fields_of new ≡ option_map (with_field (encode_utf8_all name.chars) part) (fields_of old)

-- new is old with `value` at the end of the path, and all else as it was
abbrev pub IsSet : List Step → Value → Value → Value → Type 0
IsSet [] value old new = new ≡ value
IsSet (step ∷ path) value old new =
    (before : Value) × (after : Value) × (part_at old step ≡ Some before)
    × IsSet path value before after × HasPart step after old new

-- the steps lead to different parts of every value
abbrev pub AreApart : Step → Step → Type 0
AreApart (step.Index i) (step.Index j) = i ≢ j
AreApart (step.Name name) (step.Name other) = name.chars ≢ other.chars
AreApart _ _ = ⊤

-- the steps lead to the same part
abbrev pub AreSame : Step → Step → Type 0
AreSame (step.Index i) (step.Index j) = i ≡ j
AreSame (step.Name name) (step.Name other) = name.chars ≡ other.chars
AreSame _ _ = ⊥

-- the paths part: after steps that are the same, they go different ways
abbrev pub IsApart : List Step → List Step → Type 0
IsApart [] others = ⊥
IsApart (step ∷ path) [] = ⊥
IsApart (step ∷ path) (other ∷ others) =
    AreApart step other ⊎ (AreSame step other × IsApart path others)
