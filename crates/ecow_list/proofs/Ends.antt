-- A front and a back that overlap decide the equality of all.
use Rattle.std.proofs.Common.{◌≡◌, ℕ, zero, suc, ◌≤◌, Bool, true, false, List, [], ◌∷◌, take, drop, refl, arith}
use Rattle.std.specs.Cmp.Lexicographic.{pointwise}
use mathlib.Core.Bool.{◌&&◌}

twice : (e p f d : Bool) → p ≡ (f && d) → (e && p) ≡ ((e && f) && d)
twice true p f d h = h
twice false p f d h = refl

again : (e p f : Bool) → p ≡ (f && p) → (e && p) ≡ ((e && f) && (e && p))
again true p f h = h
again false p f h = refl

module _ {X : Type 0} (eq : X → X → Bool) where
  front : (g : ℕ) (xs ys : List X) → pointwise eq xs ys ≡ (pointwise eq (take g xs) (take g ys) && pointwise eq xs ys)
  front zero xs ys = refl
  front (suc g) [] [] = refl
  front (suc g) [] (y ∷ ys) = refl
  front (suc g) (x ∷ xs) [] = refl
  front (suc g) (x ∷ xs) (y ∷ ys) = again (eq x y) (pointwise eq xs ys) (pointwise eq (take g xs) (take g ys)) (front g xs ys)

  pub ends : (a g : ℕ) (xs ys : List X) → a ≤ g
      → pointwise eq xs ys ≡ (pointwise eq (take g xs) (take g ys) && pointwise eq (drop a xs) (drop a ys))
  ends zero g xs ys le = front g xs ys
  ends (suc a) zero xs ys le = absurd (omega arith)
  ends (suc a) (suc g) [] [] le = refl
  ends (suc a) (suc g) [] (y ∷ ys) le = refl
  ends (suc a) (suc g) (x ∷ xs) [] le = refl
  ends (suc a) (suc g) (x ∷ xs) (y ∷ ys) le =
      twice (eq x y) (pointwise eq xs ys) (pointwise eq (take g xs) (take g ys)) (pointwise eq (drop a xs) (drop a ys)) (ends a g xs ys (omega arith))
