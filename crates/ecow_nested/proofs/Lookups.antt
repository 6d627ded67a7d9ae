-- The first field of a name, and what a change at its place leaves.
use Rattle.std.proofs.Common.{◌≡◌, ℕ, suc, ◌+◌, ◌<◌, ◌≤◌, true, false, not, cond, nat_lt, List, [], ◌∷◌, ◌++◌, length, get_or, Option, Some, None, inl, inr, refl, sym, ap, ◌∙◌, arith}
use Rattle.std.specs.Prelude.{slice_get, slice_set, remove, position}
use Rattle.std.specs.List.{position_or_len}
use Rattle.std.proofs.lemmas.Bool.{ltb-true, ltb-false}
use Rattle.std.proofs.lemmas.List.Folds.{find_at}
use Rattle.std.proofs.lemmas.Option.{get_or_from_slice_get, none-some, slice_get_past, slice_get-get_or, slice_get_cases}
use Rattle.ecow_nested.specs.Names.{has_name}
use Rattle.ecow_nested.specs.Values.{value_in, look_up, new_field, with_field, without_field}
use Rattle.ecow_nested.specs.declared.fields.Field.{Field}
use Rattle.ecow_nested.specs.declared.value.Value.{Value}

-- what `position` answers
pub placed : (p n i : ℕ) → Some i ≡ cond (nat_lt p n) (Some p) None → (i ≡ p) × (i < n)
placed p n i e =
    elim (nat_lt p n) as (λ b. nat_lt p n ≡ b → Some i ≡ cond b (Some p) None → (i ≡ p) × (i < n)) [
      | true ↦ λ t s. let same : i ≡ p = cc in (same, omega (arith, ltb-true p n t, same))
      | false ↦ λ t s. absurd (none-some i (sym s))
    ] refl e

pub unplaced : (p n : ℕ) (r : Option ℕ) → r ≡ None → r ≡ cond (nat_lt p n) (Some p) None → n ≤ p
unplaced p n r none e =
    elim (nat_lt p n) as (λ b. nat_lt p n ≡ b → r ≡ cond b (Some p) None → n ≤ p) [
      | true ↦ λ t s. absurd (none-some p (sym none ∙ s))
      | false ↦ λ t s. omega (arith, ltb-false p n t)
    ] refl e

one_more : (n : ℕ) → 1 + n ≡ suc n
one_more n = omega arith

module _ (name : List ℕ) where
  abbrev first : List (Field Value) → ℕ
  first = position_or_len (has_name name)

  pub found : (fs : List (Field Value)) (at : ℕ) (d : Field Value)
      → Some at ≡ position (has_name name) fs → look_up name fs ≡ Some (get_or fs at d).value
  found fs at d e =
      let is = placed (first fs) (length fs) at e in
      ap value_in (find_at (has_name name) fs ∙ ap (slice_get fs) (sym is.0) ∙ slice_get-get_or fs at d is.1)

  pub taken : (fs : List (Field Value)) (at : ℕ) (f : Field Value)
      → Some at ≡ position (has_name name) fs → slice_get fs at ≡ Some f
      → look_up name fs ≡ Some f.value
  taken fs at f e read =
      let is = placed (first fs) (length fs) at e in
      ap value_in (find_at (has_name name) fs ∙ ap (slice_get fs) (sym is.0) ∙ read)

  pub there : (fs : List (Field Value)) (at : ℕ) → Some at ≡ position (has_name name) fs
      → look_up name fs ≡ None → ⊥
  there fs at e none =
      let is = placed (first fs) (length fs) at e in
      elim (slice_get_cases fs at).1 [
        | inl read ↦ none-some read.0.value (sym none ∙ taken fs at read.0 e read.2)
        | inr past ↦ absurd (omega (arith, past.0, is.1))
      ]

  pub missing : (fs : List (Field Value)) (r : Option ℕ) → r ≡ None
      → r ≡ position (has_name name) fs → look_up name fs ≡ None
  missing fs r none e = ap value_in (find_at (has_name name) fs ∙ slice_get_past fs (first fs) (unplaced (first fs) (length fs) r none e))

  module _ (value : Value) where
    -- a field with another value
    abbrev pub renewed : Field Value → Field Value
    renewed f = record { name = f.name; value = value }

    set_first : (fs : List (Field Value)) (d : Field Value) → first fs < length fs
        → slice_set fs (first fs) (renewed (get_or fs (first fs) d)) ≡ with_field name value fs
    set_first [] d h = absurd (omega (arith, h))
    set_first (f ∷ fs) d h =
        elim (has_name name f) as (λ b. cond (not b) (1 + first fs) 0 < suc (length fs)
        → slice_set (f ∷ fs) (cond (not b) (1 + first fs) 0) (renewed (get_or (f ∷ fs) (cond (not b) (1 + first fs) 0) d))
        ≡ cond b (renewed f ∷ fs) (f ∷ with_field name value fs)) [
          | true ↦ λ h. refl
          | false ↦ λ h. ap (λ k. slice_set (f ∷ fs) k (renewed (get_or (f ∷ fs) k d))) (one_more (first fs))
              ∙ ap (λ r. f ∷ r) (set_first fs d (omega (arith, h)))
        ] h

    pub set_there : (fs : List (Field Value)) (at : ℕ) (d : Field Value)
        → Some at ≡ position (has_name name) fs
        → slice_set fs at (renewed (get_or fs at d)) ≡ with_field name value fs
    set_there fs at d e =
        let is = placed (first fs) (length fs) at e in
        ap (λ i. slice_set fs i (renewed (get_or fs i d))) is.0 ∙ set_first fs d (omega (arith, is.0, is.1))

    push_last : (fs : List (Field Value)) → length fs ≤ first fs
        → fs ++ new_field name value ∷ [] ≡ with_field name value fs
    push_last [] h = refl
    push_last (f ∷ fs) h =
        elim (has_name name f) as (λ b. suc (length fs) ≤ cond (not b) (1 + first fs) 0
        → f ∷ (fs ++ new_field name value ∷ [])
        ≡ cond b (renewed f ∷ fs) (f ∷ with_field name value fs)) [
          | true ↦ λ h. absurd (omega (arith, h))
          | false ↦ λ h. ap (λ r. f ∷ r) (push_last fs (omega (arith, h)))
        ] h

    pub pushed : (fs : List (Field Value)) (r : Option ℕ) → r ≡ None
        → r ≡ position (has_name name) fs
        → fs ++ new_field name value ∷ [] ≡ with_field name value fs
    pushed fs r none e = push_last fs (unplaced (first fs) (length fs) r none e)

  -- a field in the place of the first one of that name, which has the same name
  pub set_found : (fs : List (Field Value)) (at : ℕ) (f g : Field Value)
      → Some at ≡ position (has_name name) fs → slice_get fs at ≡ Some f → g.name ≡ f.name
      → slice_set fs at g ≡ with_field name g.value fs
  set_found fs at f g e read same =
      ap (λ n. slice_set fs at (record { name = n; value = g.value })) same
      ∙ ap (λ h. slice_set fs at (renewed g.value h)) (sym (get_or_from_slice_get fs at f f read))
      ∙ set_there g.value fs at f e

  remove_first : (fs : List (Field Value)) → first fs < length fs
      → remove fs (first fs) ≡ without_field name fs
  remove_first [] h = absurd (omega (arith, h))
  remove_first (f ∷ fs) h =
      elim (has_name name f) as (λ b. cond (not b) (1 + first fs) 0 < suc (length fs)
      → remove (f ∷ fs) (cond (not b) (1 + first fs) 0) ≡ cond b fs (f ∷ without_field name fs)) [
        | true ↦ λ h. refl
        | false ↦ λ h. ap (remove (f ∷ fs)) (one_more (first fs)) ∙ ap (λ r. f ∷ r) (remove_first fs (omega (arith, h)))
      ] h

  pub removed : (fs : List (Field Value)) (at : ℕ) → Some at ≡ position (has_name name) fs
      → remove fs at ≡ without_field name fs
  removed fs at e =
      let is = placed (first fs) (length fs) at e in
      ap (remove fs) is.0 ∙ remove_first fs (omega (arith, is.0, is.1))
