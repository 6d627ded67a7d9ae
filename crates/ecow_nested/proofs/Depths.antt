-- What a change of a list, or of fields, makes of the largest depth of the parts.
use Rattle.std.proofs.Common.{arith, ◌≡◌, ◌≤◌, ◌<◌, ◌+◌, ℕ, zero, suc, max, true, false, cond, List, [], ◌∷◌, ◌++◌, map, length, take, get_or, slice_get, slice_set, None, Some, refl, ap, ◌∙◌}
use Rattle.std.proofs.lemmas.Option.{none-some, same_Some}
use Rattle.std.specs.List.{insert, remove}
use Rattle.std.specs.Prelude.{Option}
use Rattle.std.proofs.lemmas.List.{take_all}
use Rattle.ecow_nested.specs.Depths.{largest}
use Rattle.ecow_nested.specs.Names.{has_name}
use Rattle.ecow_nested.specs.Values.{deepest_field, depth_of, field_depth, slot_depth, with_field, without_field}
use Rattle.ecow_nested.specs.Index.{fields_in, present, slots_in}
use Rattle.ecow_nested.specs.declared.fields.Entry.{Entry}
use Rattle.ecow_nested.specs.declared.fields.Field.{Field}
use Rattle.ecow_nested.specs.declared.value.Value.{Value}

module _ {X : Type 0} (f : X → ℕ) where
  taken_more : (xs : List X) (i : ℕ) (d : X) → i < length xs
      → largest (map f (take (suc i) xs)) ≡ max (largest (map f (take i xs))) (f (get_or xs i d))
  taken_more [] i d within = absurd (omega (arith, within))
  taken_more (x ∷ xs) zero d within = omega arith
  taken_more (x ∷ xs) (suc i) d within = omega (arith, taken_more xs i d (omega (arith, within)))

  pub taken_next : (xs : List X) (i : ℕ) (d : X) → i < length xs
      → largest (map f (take (i + 1) xs)) ≡ max (largest (map f (take i xs))) (f (get_or xs i d))
  taken_next xs i d within =
      let one : i + 1 ≡ suc i = omega arith in
      ap (λ k. largest (map f (take k xs))) one ∙ taken_more xs i d within

  pub taken_less : (xs : List X) (n : ℕ) → largest (map f (take n xs)) ≤ largest (map f xs)
  taken_less xs zero = omega arith
  taken_less [] (suc n) = omega arith
  taken_less (x ∷ xs) (suc n) = omega (arith, taken_less xs n)

  pub taken_all : (xs : List X) (n : ℕ) → length xs ≤ n
      → largest (map f (take n xs)) ≡ largest (map f xs)
  taken_all xs n past = ap (λ ys. largest (map f ys)) (take_all n xs past)

  pub part_less : (xs : List X) (i : ℕ) (x : X) → slice_get xs i ≡ Some x
      → f x ≤ largest (map f xs)
  part_less [] i x found = absurd (none-some x found)
  part_less (y ∷ ys) zero x found =
      let same : f y ≡ f x = ap f (same_Some y x found) in
      omega (arith, same)
  part_less (y ∷ ys) (suc i) x found = omega (arith, part_less ys i x found)

  pub pushed : (xs : List X) (x : X)
      → largest (map f (xs ++ x ∷ [])) ≡ max (largest (map f xs)) (f x)
  pushed [] x = omega arith
  pushed (y ∷ ys) x = omega (arith, pushed ys x)

  pub inserted : (xs : List X) (i : ℕ) (x : X)
      → largest (map f (insert xs i x)) ≡ max (largest (map f xs)) (f x)
  inserted xs zero x = omega arith
  inserted [] (suc i) x = omega arith
  inserted (y ∷ ys) (suc i) x = omega (arith, inserted ys i x)

  pub set_less : (xs : List X) (i : ℕ) (x : X)
      → largest (map f (slice_set xs i x)) ≤ max (largest (map f xs)) (f x)
  set_less [] i x = omega arith
  set_less (y ∷ ys) zero x = omega arith
  set_less (y ∷ ys) (suc i) x = omega (arith, set_less ys i x)

  pub removed_less : (xs : List X) (i : ℕ) → largest (map f (remove xs i)) ≤ largest (map f xs)
  removed_less [] zero = omega arith
  removed_less [] (suc i) = omega arith
  removed_less (y ∷ ys) zero = omega arith
  removed_less (y ∷ ys) (suc i) = omega (arith, removed_less ys i)

pub with_less : (name : List ℕ) (value : Value) (fs : List (Field Value))
    → deepest_field (with_field name value fs) ≤ max (deepest_field fs) (depth_of value)
with_less name value [] = omega arith
with_less name value (f ∷ fs) =
    let renewed : Field Value = record { name = f.name; value = value } in
    elim (has_name name f) as (λ b.
    deepest_field (cond b (renewed ∷ fs) (f ∷ with_field name value fs))
    ≤ max (deepest_field (f ∷ fs)) (depth_of value)) [
      | true ↦ omega arith
      | false ↦ omega (arith, with_less name value fs)
    ]

pub without_less : (name : List ℕ) (fs : List (Field Value))
    → deepest_field (without_field name fs) ≤ deepest_field fs
without_less name [] = omega arith
without_less name (f ∷ fs) =
    elim (has_name name f) as (λ b. deepest_field (cond b fs (f ∷ without_field name fs))
    ≤ deepest_field (f ∷ fs)) [
      | true ↦ omega arith
      | false ↦ omega (arith, without_less name fs)
    ]

slots_depth : (slots : List (Option (Field Value)))
    → largest (map slot_depth slots) ≡ deepest_field (present slots)
slots_depth [] = refl
slots_depth (None ∷ slots) = omega (arith, slots_depth slots)
slots_depth (Some f ∷ slots) = ap (max (field_depth f)) (slots_depth slots)

depths_along : (es : List (Entry Value))
    → map (λ e. slot_depth e.field) es ≡ map slot_depth (slots_in es)
depths_along [] = refl
depths_along (e ∷ es) = ap (λ ns. slot_depth e.field ∷ ns) (depths_along es)

pub entry_depths : (entries : List (Entry Value))
    → largest (map (λ e. slot_depth e.field) entries) ≡ deepest_field (fields_in entries)
entry_depths entries = ap largest (depths_along entries) ∙ slots_depth (slots_in entries)
