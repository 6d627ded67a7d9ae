-- What a `pop` took, and elements that are pairs.
use Rattle.std.proofs.Common.{◌≡◌, ℕ, zero, suc, ◌-◌, ◌<◌, List, [], ◌∷◌, ◌++◌, Option, Some, None, MatchOption, length, take, slice_get, slice_set, refl, ap, ◌∙◌, sym, arith}
use Rattle.std.proofs.lemmas.List.{nil_from_length}
use Rattle.std.proofs.lemmas.Option.{none-some, same_Some, slice_get-get_or, slice_get_within}
use Rattle.std.specs.Borrow.{MutBor}
use Rattle.std.specs.Fn.{Once}
use Rattle.ecow_block.specs.Updates.{UpdatesAt}
use Rattle.ecow_list.specs.Leaves.{LeavesAt}
use Rattle.ecow_base.specs.Clones.{ClonesAreEqual}

module _ {X : Type 0} where
  -- the elements are those before the last, and then the last
  split_last : (xs : List X) (n : ℕ) (last : X) → length xs ≡ suc n → slice_get xs n ≡ Some last → xs ≡ take n xs ++ last ∷ []
  split_last [] n last long found = absurd (none-some last found)
  split_last (x ∷ xs) zero last long found =
      let none : xs ≡ [] = nil_from_length xs (omega (arith, long)) in
      let same : x ≡ last = same_Some _ _ found in
      cc (none, same)
  split_last (x ∷ xs) (suc n) last long found = ap (λ l. x ∷ l) (split_last xs n last (omega (arith, long)) found)

  -- a pop that gave `last` leaves the elements before it
  pub popped : (old new : List X) (last : X) → Some last ≡ slice_get old (length old - 1) → new ≡ take (length old - 1) old → old ≡ new ++ last ∷ []
  popped old new last found left =
      let some : length old - 1 < length old = slice_get_within old (length old - 1) last (sym found) in
      split_last old (length old - 1) last (omega (arith, some)) (sym found) ∙ ap (λ l. l ++ last ∷ []) (sym left)

  -- what a pop gave, if there was an element
  pub taken : (old new : List X) (r : Option X) → r ≡ slice_get old (length old - 1) → new ≡ take (length old - 1) old
      → MatchOption r (old ≡ []) (λ last. old ≡ new ++ last ∷ [])
  taken old new (Some last) found left = popped old new last found left
  taken [] new None found left = refl
  taken (x ∷ xs) new None found left =
      let within : length (x ∷ xs) - 1 < length (x ∷ xs) = omega arith in
      absurd (none-some _ (found ∙ slice_get-get_or (x ∷ xs) (length (x ∷ xs) - 1) x within))

-- an element that is put back where it stood changes nothing
pub put_back : {X : Type 0} (xs : List X) (i : ℕ) (x : X) → slice_get xs i ≡ Some x → slice_set xs i x ≡ xs
put_back [] i x found = refl
put_back (z ∷ zs) zero x found = ap (λ y. y ∷ zs) (sym (same_Some z x found))
put_back (z ∷ zs) (suc i) x found = ap (λ l. z ∷ l) (put_back zs i x found)

-- an update whose answer says that the element stays leaves the elements
pub stayed : {F T R : Type 0} (g : Once F (MutBor T × Unit {0}) (R × (MutBor T × Unit {0}))) (f : F) (i : ℕ) (old new : List T) (answer : R)
    → UpdatesAt g f i old new answer → LeavesAt g f answer → new ≡ old
stayed g f i old new answer (x, y, found, called, is) leaves = is ∙ ap (λ z. slice_set old i z) (leaves x y called) ∙ put_back old i x found

-- clones of pairs equal their sources where those of either part do
pub pairs_equal : {A B : Type 0} (a_clone : A → A → Type 0) (b_clone : B → B → Type 0) → ClonesAreEqual a_clone → ClonesAreEqual b_clone
    → ClonesAreEqual (λ (x y : A × B). a_clone x.0 y.0 × b_clone x.1 y.1)
pairs_equal a_clone b_clone a_equal b_equal = λ x y both i. (a_equal x.0 y.0 both.0 i, b_equal x.1 y.1 both.1 i)
