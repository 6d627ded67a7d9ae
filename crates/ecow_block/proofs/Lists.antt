-- Facts on lists.
use Rattle.std.proofs.Common.{◌≡◌, ℕ, zero, suc, List, [], ◌∷◌, drop, slice_get, Some}

module _ {X : Type 0} where
  -- what a list goes on with from the place i on
  pub goes_on : (i : ℕ) (xs : List X) (x : X) (ys : List X) → drop i xs ≡ x ∷ ys → (slice_get xs i ≡ Some x) × (drop (suc i) xs ≡ ys)
  goes_on zero [] x ys e = cc
  goes_on zero (z ∷ zs) x ys e = (cc, cc)
  goes_on (suc i) [] x ys e = cc
  goes_on (suc i) (z ∷ zs) x ys e = goes_on i zs x ys e
