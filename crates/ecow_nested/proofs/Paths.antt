-- Where paths lead, before and after a value is set.
use Rattle.std.proofs.Common.{◌≡◌, ◌≢◌, ℕ, List, [], ◌∷◌, Option, Some, None, slice_get, slice_set, refl, sym, ap, ◌∙◌, inl, inr}
use Rattle.std.specs.Option.{option_and_then, option_map}
use Rattle.std.specs.Str.{encode_utf8_all}
use Rattle.std.proofs.lemmas.Option.{none-some, slice_get_within}
use Rattle.std.proofs.lemmas.Str.{encodes_same}
use Rattle.ecow_list.proofs.Places.{get_set, get_set_other}
use Rattle.ecow_nested.proofs.ByName.{look_up_set, look_up_other}
use Rattle.ecow_nested.specs.Paths.{part_at, value_at, HasPart, IsSet, AreApart, AreSame, IsApart}
use Rattle.ecow_nested.specs.Values.{items_of, fields_of, look_up, with_field}
use Rattle.ecow_nested.specs.declared.fields.Field.{Field}
use Rattle.ecow_nested.specs.declared.value.paths.Step.{Step}
use Rattle.ecow_nested.specs.declared.value.paths.Step.TheVariants as step
use Rattle.ecow_nested.specs.declared.value.Value.{Value, out-Value}
use Rattle.ecow_nested.specs.declared.value.Value.TheOpen.{Value-F}

abbrev item_at : ℕ → List Value → Option Value
item_at i items = slice_get items i

-- another item where one was found
item_there : (o : Option (List Value)) (i : ℕ) (before after : Value) → option_and_then (item_at i) o ≡ Some before
    → option_and_then (item_at i) (option_map (λ items. slice_set items i after) o) ≡ Some after
item_there None i before after found = absurd (none-some before found)
item_there (Some items) i before after found = get_set items i after (slice_get_within items i before found)

item_elsewhere : (o : Option (List Value)) (i j : ℕ) (after : Value) → i ≢ j
    → option_and_then (item_at j) (option_map (λ items. slice_set items i after) o) ≡ option_and_then (item_at j) o
item_elsewhere None i j after apart = refl
item_elsewhere (Some items) i j after apart = get_set_other items i j after (λ same. apart (sym same))

-- another value in the first field of a name
there_already : {X : Type 0} (o : Option Value) (before : Value) → o ≡ Some before → o ≡ None → X
there_already o before found none = absurd (none-some before (sym none ∙ found))

field_there : (o : Option (List (Field Value))) (name : List ℕ) (before after : Value)
    → option_and_then (look_up name) o ≡ Some before
    → option_and_then (look_up name) (option_map (with_field name after) o) ≡ Some after
field_there None name before after found = absurd (none-some before found)
field_there (Some fs) name before after found = look_up_set name after fs (there_already (look_up name fs) before found)

field_elsewhere : (o : Option (List (Field Value))) (name other : List ℕ) (before after : Value) → name ≢ other
    → option_and_then (look_up name) o ≡ Some before
    → option_and_then (look_up other) (option_map (with_field name after) o) ≡ option_and_then (look_up other) o
field_elsewhere None name other before after apart found = refl
field_elsewhere (Some fs) name other before after apart found =
    look_up_other name other after fs (there_already (look_up name fs) before found) apart

-- what has items has no fields, and the other way round
abbrev items_in : Value-F Value → Option (List Value)
items_in layer = elim layer [ Value-F.List nested ↦ Some nested.items | _ ↦ None ]

abbrev fields_in : Value-F Value → Option (List (Field Value))
fields_in layer = elim layer [ Value-F.Fields nested ↦ Some nested.items | _ ↦ None ]

one_of_both : (layer : Value-F Value) (items : List Value) (fields : List (Field Value))
    → items_in layer ≡ Some items → fields_in layer ≡ Some fields → ⊥
one_of_both (Value-F.List nested) xs fs has_items has_fields = none-some fs has_fields
one_of_both (Value-F.Fields nested) xs fs has_items has_fields = none-some xs has_items
one_of_both Value-F.Nothing xs fs has_items has_fields = none-some xs has_items
one_of_both (Value-F.Truth truth) xs fs has_items has_fields = none-some xs has_items
one_of_both (Value-F.Number number) xs fs has_items has_fields = none-some xs has_items
one_of_both (Value-F.Real real) xs fs has_items has_fields = none-some xs has_items
one_of_both (Value-F.Text text) xs fs has_items has_fields = none-some xs has_items

leads_nowhere : {X Y Z : Type 0} (o : Option X) (p : Option Y) (k : Y → Option Z) → ((x : X) → o ≡ Some x → (y : Y) → p ≡ Some y → ⊥)
    → (x : X) → o ≡ Some x → option_and_then k p ≡ None
leads_nowhere o None k never x is = refl
leads_nowhere o (Some y) k never x is = absurd (never x is y refl)

found_in : {X Y : Type 0} (o : Option X) (k : X → Option Y) (y : Y) → option_and_then k o ≡ Some y → (x : X) × (o ≡ Some x)
found_in None k y found = absurd (none-some y found)
found_in (Some x) k y found = (x, refl)

-- steps to different parts
part_there : (s : Step) (before after old new : Value) → part_at old s ≡ Some before → HasPart s after old new → part_at new s ≡ Some after
part_there (step.Index i) before after old new found has = ap (option_and_then (item_at i)) has ∙ item_there (items_of old) i before after found
part_there (step.Name name) before after old new found has =
    let bytes = encode_utf8_all name.chars in
    ap (option_and_then (look_up bytes)) has ∙ field_there (fields_of old) bytes before after found

part_elsewhere : (s t : Step) (before after old new : Value) → part_at old s ≡ Some before → HasPart s after old new → AreApart s t
    → part_at new t ≡ part_at old t
part_elsewhere (step.Index i) (step.Index j) before after old new found has apart =
    ap (option_and_then (item_at j)) has ∙ item_elsewhere (items_of old) i j after apart
part_elsewhere (step.Name name) (step.Name other) before after old new found has apart =
    let a = encode_utf8_all name.chars in
    let b = encode_utf8_all other.chars in
    ap (option_and_then (look_up b)) has
    ∙ field_elsewhere (fields_of old) a b before after (λ same. apart (encodes_same name.chars other.chars same)) found
part_elsewhere (step.Index i) (step.Name name) before after old new found has apart =
    let is = found_in (items_of old) (item_at i) before found in
    let look = look_up (encode_utf8_all name.chars) in
    let never = λ (value : Value) (xs : List Value) (e : items_of value ≡ Some xs) (fs : List (Field Value)) (d : fields_of value ≡ Some fs). one_of_both (out-Value value) xs fs e d in
    leads_nowhere (items_of new) (fields_of new) look (never new) (slice_set is.0 i after) (has ∙ ap (option_map (λ items. slice_set items i after)) is.1)
    ∙ sym (leads_nowhere (items_of old) (fields_of old) look (never old) is.0 is.1)
part_elsewhere (step.Name name) (step.Index j) before after old new found has apart =
    let bytes = encode_utf8_all name.chars in
    let is = found_in (fields_of old) (look_up bytes) before found in
    let never = λ (value : Value) (fs : List (Field Value)) (d : fields_of value ≡ Some fs) (xs : List Value) (e : items_of value ≡ Some xs). one_of_both (out-Value value) xs fs e d in
    leads_nowhere (fields_of new) (items_of new) (item_at j) (never new) (with_field bytes after is.0) (has ∙ ap (option_map (with_field bytes after)) is.1)
    ∙ sym (leads_nowhere (fields_of old) (items_of old) (item_at j) (never old) is.0 is.1)

-- steps to the same part
same_part : (value : Value) (s t : Step) → AreSame s t → part_at value s ≡ part_at value t
same_part value (step.Index i) (step.Index j) same = ap (λ k. option_and_then (item_at k) (items_of value)) same
same_part value (step.Name name) (step.Name other) same = ap (λ cs. option_and_then (look_up (encode_utf8_all cs)) (fields_of value)) same
same_part value (step.Index i) (step.Name name) same = absurd same
same_part value (step.Name name) (step.Index j) same = absurd same

-- a path leads to what was set at its end
pub set_there : (path : List Step) (value old new : Value) → IsSet path value old new → value_at new path ≡ Some value
set_there [] value old new is = ap Some is
set_there (s ∷ path) value old new (before, after, found, below, has) =
    ap (option_and_then (λ part. value_at part path)) (part_there s before after old new found has) ∙ set_there path value before after below

-- and a path that parts from it to what it led to before
pub set_elsewhere : (path other : List Step) (value old new : Value) → IsSet path value old new → IsApart path other
    → value_at new other ≡ value_at old other
set_elsewhere [] other value old new is apart = absurd apart
set_elsewhere (s ∷ path) [] value old new is apart = absurd apart
set_elsewhere (s ∷ path) (t ∷ others) value old new (before, after, found, below, has) (inl apart) =
    ap (option_and_then (λ part. value_at part others)) (part_elsewhere s t before after old new found has apart)
set_elsewhere (s ∷ path) (t ∷ others) value old new (before, after, found, below, has) (inr (same, apart)) =
    let onward = option_and_then (λ part. value_at part others) in
    ap onward (sym (same_part new s t same) ∙ part_there s before after old new found has)
    ∙ set_elsewhere path others value before after below apart
    ∙ sym (ap onward (sym (same_part old s t same) ∙ found))
