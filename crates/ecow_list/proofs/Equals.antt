-- Lists that are compared part by part.
use Rattle.std.proofs.Common.{◌≡◌, ℕ, zero, suc, ◌≤◌, Bool, true, false, List, [], ◌∷◌, ◌++◌, length, take, drop, refl, sym, ap, ap₂, ◌∙◌, arith}
use mathlib.Core.Bool.{◌&&◌}
use Rattle.std.specs.Cmp.Lexicographic.{pointwise}

assoc : (a b c : Bool) → (a && (b && c)) ≡ ((a && b) && c)
assoc true b c = refl
assoc false b c = refl

with_true : (a : Bool) → (a && true) ≡ a
with_true true = refl
with_true false = refl

module _ {X : Type 0} (E : X → X → Bool) where
  -- with one more element of each
  longer : (xs ys : List X) (x y : X) → length xs ≡ length ys → pointwise E (xs ++ x ∷ []) (ys ++ y ∷ []) ≡ (pointwise E xs ys && E x y)
  longer [] [] x y e = with_true (E x y)
  longer [] (z ∷ ys) x y e = absurd (omega arith)
  longer (z ∷ xs) [] x y e = absurd (omega arith)
  longer (z ∷ xs) (w ∷ ys) x y e = ap (λ b. E z w && b) (longer xs ys x y (omega arith)) ∙ assoc (E z w) (pointwise E xs ys) (E x y)

  pub one_more : (xs ys more others : List X) (x y : X) → length xs ≡ length ys → more ≡ xs ++ x ∷ []
      → others ≡ ys ++ y ∷ [] → pointwise E more others ≡ (pointwise E xs ys && E x y)
  one_more xs ys more others x y e f g = ap₂ (pointwise E) f g ∙ longer xs ys x y e

  in_parts : (n : ℕ) (xs ys : List X) → n ≤ length xs → n ≤ length ys
      → pointwise E xs ys ≡ (pointwise E (take n xs) (take n ys) && pointwise E (drop n xs) (drop n ys))
  in_parts zero xs ys l m = refl
  in_parts (suc n) [] ys l m = absurd (omega arith)
  in_parts (suc n) (x ∷ xs) [] l m = absurd (omega arith)
  in_parts (suc n) (x ∷ xs) (y ∷ ys) l m =
      ap (λ b. E x y && b) (in_parts n xs ys (omega arith) (omega arith))
      ∙ assoc (E x y) (pointwise E (take n xs) (take n ys)) (pointwise E (drop n xs) (drop n ys))

  module _ (n : ℕ) (xs ys : List X) (l : n ≤ length xs) (m : n ≤ length ys) (front other : List X) (f : front ≡ take n xs) (g : other ≡ take n ys) where
    -- where the fronts are equal, the rests decide
    pub rests_decide : (rest others : List X) → rest ≡ drop n xs → others ≡ drop n ys
        → pointwise E front other ≡ true → pointwise E xs ys ≡ pointwise E rest others
    rests_decide rest others h k is =
        in_parts n xs ys l m ∙ ap (λ b. b && pointwise E (drop n xs) (drop n ys)) (sym (ap₂ (pointwise E) f g) ∙ is) ∙ sym (ap₂ (pointwise E) h k)

    -- where they are not, the lists are not
    pub fronts_decide : pointwise E front other ≡ false → pointwise E xs ys ≡ false
    fronts_decide is = in_parts n xs ys l m ∙ ap (λ b. b && pointwise E (drop n xs) (drop n ys)) (sym (ap₂ (pointwise E) f g) ∙ is)
