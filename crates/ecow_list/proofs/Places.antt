-- Places in lists, in forms that a search uses: name one by `#[tactic(auto, using(..))]`. A test is a
-- variable, since a search finds no instance of a written-out function in a statement.
use Rattle.std.proofs.Common.{◌≡◌, ◌≢◌, ◌<◌, ℕ, zero, suc, List, [], ◌∷◌, Option, Some, None, length, slice_get, slice_set, refl, ap, sym, ◌∙◌, arith, Bool, true, false, cond, not, nat_lt, get_or, ◌+◌, ◌++◌}
use Rattle.std.proofs.lemmas.Bool.Decides.{nat_tests}
use Rattle.std.specs.List.{find, position, position_or_len}
use Rattle.std.specs.Option.{option_and_then}
use Rattle.std.proofs.lemmas.List.{length-set}
use Rattle.std.proofs.lemmas.List.Folds.{find_at, find-set, find_past, find-append}
use Rattle.std.proofs.lemmas.List.Quantifiers.{position-Some}
use Rattle.std.proofs.lemmas.Option.{none-some, slice_get_past, slice_get-get_or, get_or_from_slice_get, same_Some}

module _ {X : Type 0} where
  -- equations, for a place that is known to be within
  pub get_set : (xs : List X) (i : ℕ) (y : X) → i < length xs → slice_get (slice_set xs i y) i ≡ Some y
  get_set [] i y within = absurd (omega arith)
  get_set (z ∷ zs) zero y within = refl
  get_set (z ∷ zs) (suc i) y within = get_set zs i y (omega arith)

  pub get_set_other : (xs : List X) (i j : ℕ) (y : X) → j ≢ i → slice_get (slice_set xs i y) j ≡ slice_get xs j
  get_set_other [] i j y apart = refl
  get_set_other (z ∷ zs) zero zero y apart = absurd (apart refl)
  get_set_other (z ∷ zs) zero (suc j) y apart = refl
  get_set_other (z ∷ zs) (suc i) zero y apart = refl
  get_set_other (z ∷ zs) (suc i) (suc j) y apart = get_set_other zs i j y (λ e. apart (ap suc e))

place_of : (n i : ℕ) (b : Bool) → cond b (Some n) None ≡ Some i → n ≡ i
place_of n i true e = same_Some n i e
place_of n i false e = absurd (none-some i e)

module _ {X : Type 0} where
  at_place : (xs : List X) (n : ℕ) (b : Bool) → nat_lt n (length xs) ≡ b → slice_get xs n ≡ option_and_then (slice_get xs) (cond b (Some n) None)
  at_place xs n true e = refl
  at_place xs n false e = slice_get_past xs n (grind (arith, nat_tests))

  -- the place that `position` gives is that of `find`
  pub find_position : (p : X → Bool) (xs : List X) → find p xs ≡ option_and_then (slice_get xs) (position p xs)
  find_position p xs = find_at p xs ∙ at_place xs (position_or_len p xs) (nat_lt (position_or_len p xs) (length xs)) refl

  -- the same in two parts, as a search needs them at a `match` on the place
  pub find_found : (p : X → Bool) (xs : List X) (i : ℕ) → position p xs ≡ Some i → find p xs ≡ slice_get xs i
  find_found p xs i at = find_position p xs ∙ ap (option_and_then (slice_get xs)) at

  pub find_missing : (p : X → Bool) (xs : List X) → position p xs ≡ None → find p xs ≡ None
  find_missing p xs at = find_position p xs ∙ ap (option_and_then (slice_get xs)) at

  pub found_passes : (p : X → Bool) (xs : List X) (i : ℕ) (x : X) → position p xs ≡ Some i → slice_get xs i ≡ Some x → p x ≡ true
  found_passes p xs i x at found =
      let passes = position-Some p xs i x at in
      ap p (sym (get_or_from_slice_get xs i x x found)) ∙ passes.1

  pub find_pushed : (p : X → Bool) (xs : List X) (x : X) → find p xs ≡ None → p x ≡ true → find p (xs ++ x ∷ []) ≡ Some x
  find_pushed p xs x none passes = find-append p xs (x ∷ []) ∙ cc

  pub find_pushed_other : (p : X → Bool) (xs : List X) (x : X) → p x ≡ false → find p (xs ++ x ∷ []) ≡ find p xs
  find_pushed_other p [] x fails = cc
  find_pushed_other p (z ∷ zs) x fails = ap (λ o. cond (p z) (Some z) o) (find_pushed_other p zs x fails)

  pub find_set_other : (p : X → Bool) (xs : List X) (i : ℕ) (x y : X) → slice_get xs i ≡ Some x → p x ≡ false → p y ≡ false → find p (slice_set xs i y) ≡ find p xs
  find_set_other p xs i x y found before after =
      find_past p xs i y x (ap p (get_or_from_slice_get xs i x x found) ∙ before) after

  pub find_set_there : (p : X → Bool) (xs : List X) (i : ℕ) (y : X) → position p xs ≡ Some i → p y ≡ true → find p (slice_set xs i y) ≡ Some y
  find_set_there p xs i y at passes =
      let within = position-Some p xs i y at in
      find-set p xs i y (sym (place_of (position_or_len p xs) i (nat_lt (position_or_len p xs) (length xs)) at)) within.0 passes

  -- an index in code reads by `get_or`: so the place comes first, and the list is found by it
  pub find_read : (p : X → Bool) (xs : List X) (i : ℕ) (d : X) → position p xs ≡ Some i → find p xs ≡ Some (get_or xs i d)
  find_read p xs i d at =
      let within = position-Some p xs i d at in
      find_found p xs i at ∙ slice_get-get_or xs i d within.0

-- another test, which fails on what was there and on what is there now
pub find_set_apart : {X : Type 0} (p r : X → Bool) (xs : List X) (i : ℕ) (y : X) → position p xs ≡ Some i → r y ≡ false
    → r (get_or xs i y) ≡ false → find r (slice_set xs i y) ≡ find r xs
find_set_apart p r xs i y at after before =
    let here = position-Some p xs i y at in
    find_set_other r xs i (get_or xs i y) y (slice_get-get_or xs i y here.0) before after

-- the same, where it fails on all that the place's test passes
pub find_set_beside : {X : Type 0} (p r : X → Bool) (xs : List X) (i : ℕ) (y : X) → position p xs ≡ Some i
    → ((x : X) → p x ≡ true → r x ≡ false) → p y ≡ true → find r (slice_set xs i y) ≡ find r xs
find_set_beside p r xs i y at apart passes =
    let here = position-Some p xs i y at in
    find_set_apart p r xs i y at (apart y passes) (apart (get_or xs i y) here.1)

-- a place stays where the test says the same of what is put there
module _ {X : Type 0} (p : X → Bool) where
  first_set : (xs : List X) (i : ℕ) (x y : X) → slice_get xs i ≡ Some x → p y ≡ p x → position_or_len p (slice_set xs i y) ≡ position_or_len p xs
  first_set [] i x y found same = refl
  first_set (z ∷ zs) zero x y found same = ap (λ b. cond (not b) (1 + position_or_len p zs) 0) (same ∙ ap p (sym (same_Some z x found)))
  first_set (z ∷ zs) (suc i) x y found same = ap (λ n. cond (not (p z)) (1 + n) 0) (first_set zs i x y found same)

  pub position_set : (xs : List X) (i : ℕ) (x y : X) → slice_get xs i ≡ Some x → p y ≡ p x → position p (slice_set xs i y) ≡ position p xs
  position_set xs i x y found same =
      let at = position_or_len p xs in
      ap (λ n. cond (nat_lt n (length (slice_set xs i y))) (Some n) None) (first_set xs i x y found same)
      ∙ ap (λ n. cond (nat_lt at n) (Some at) None) (length-set xs i y)
