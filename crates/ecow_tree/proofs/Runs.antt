-- Runs of elements that come one after another, and two lists that are compared by these.
use Rattle.std.proofs.Common.{◌≡◌, ◌≤◌, ◌+◌, ◌-◌, arith, length-append, ℕ, Bool, true, false, zero, suc, List, [], ◌∷◌, ◌++◌, length, take, drop, refl, ap, sym, ◌∙◌}
use mathlib.Core.Bool.{not, true≢false, ◌&&◌}
use Rattle.std.specs.Cmp.Lexicographic.{pointwise}
use Rattle.std.proofs.Math.Seq.{drop-append_seam, drop-append-add}
use Rattle.std.proofs.lemmas.List.{drop-drop, drop-take, take-append-le}
use Rattle.ecow_tree.proofs.More.{length_taken}

module _ {X : Type 0} where
  -- what comes behind a run
  pub run_rest : (xs run more : List X) (at : ℕ) → drop at xs ≡ run ++ more → drop at xs ≡ run ++ drop (at + length run) xs
  run_rest xs run more at part =
      part
      ∙ ap (λ ys. run ++ ys) (sym (drop-append_seam run more) ∙ ap (drop (length run)) (sym part) ∙ drop-drop (length run) at xs)

  take_none : (n : ℕ) → take {A = X} n [] ≡ []
  take_none zero = refl
  take_none (suc n) = refl

  take_split : (xs : List X) (n m : ℕ) → take (n + m) xs ≡ take n xs ++ take m (drop n xs)
  take_split xs zero m = let same : 0 + m ≡ m = omega arith in ap (λ k. take k xs) same
  take_split [] (suc n) m = take_none (suc n + m) ∙ sym (take_none m)
  take_split (x ∷ xs) (suc n) m = let next : suc n + m ≡ suc (n + m) = omega arith in ap (λ k. take k (x ∷ xs)) next ∙ ap (λ ys. x ∷ ys) (take_split xs n m)

  -- the first n of the elements from an index up to another, which a run begins with
  pub run_first : (xs run more : List X) (at end n : ℕ) → drop at xs ≡ run ++ more → at + n ≤ end → n ≤ length run
      → take (end - at) (drop at xs) ≡ take n run ++ take (end - (at + n)) (drop (at + n) xs)
  run_first xs run more at end n part short within =
      let left : end - at ≡ n + (end - (at + n)) = omega (arith, short) in
      ap (λ k. take k (drop at xs)) left ∙ take_split (drop at xs) n (end - (at + n))
      ∙ ap (λ ys. ys ++ take (end - (at + n)) (drop n (drop at xs))) (ap (take n) part ∙ take-append-le n run more within)
      ∙ ap (λ ys. take n run ++ take (end - (at + n)) ys) (drop-drop n at xs)

  -- the last n of them, which a run ends with
  pub run_last : (xs less run : List X) (at end n : ℕ) → end ≤ length xs → take end xs ≡ less ++ run → at + n ≤ end → n ≤ length run
      → take (end - at) (drop at xs) ≡ take (end - n - at) (drop at xs) ++ drop (length run - n) run
  run_last xs less run at end n within part short low =
      let k = end - n - at in
      let left : end - at ≡ k + n = omega (arith, short) in
      let there : at + k ≡ end - n = omega (arith, short) in
      let all : end - n + n ≡ end = omega (arith, short) in
      let behind : end - n ≡ length less + (length run - n) =
      omega (arith, low, short, length_taken end xs within, ap length part, length-append less run) in
      ap (λ m. take m (drop at xs)) left ∙ take_split (drop at xs) k n
      ∙ ap (λ ys. take k (drop at xs) ++ take n ys) (drop-drop k at xs ∙ ap (λ m. drop m xs) there)
      ∙ ap (λ ys. take k (drop at xs) ++ ys)
      (sym (drop-take (end - n) n xs) ∙ ap (λ m. drop (end - n) (take m xs)) all ∙ ap (drop (end - n)) part
      ∙ ap (λ m. drop m (less ++ run)) behind ∙ drop-append-add less run (length run - n))

pub not_false : (b : Bool) → false ≡ not b → b ≡ true
not_false true same = refl
not_false false same = absurd (true≢false (sym same))

pub not_true : (b : Bool) → true ≡ not b → b ≡ false
not_true true same = absurd (true≢false same)
not_true false same = refl

module _ {X : Type 0} (E : X → X → Bool) where
  first_so : (a b : Bool) → (a && b) ≡ true → a ≡ true
  first_so true b both = refl
  first_so false b both = both

  second_so : (a b : Bool) → (a && b) ≡ true → b ≡ true
  second_so true b both = both
  second_so false b both = absurd (true≢false (sym both))

  other_so : (a b c : Bool) → (b ≡ false → c ≡ false) → (a && b) ≡ false → (a && c) ≡ false
  other_so true b c step both = step both
  other_so false b c step both = refl

  front_same : (n : ℕ) (xs ys : List X) → pointwise E (take n xs) (take n ys) ≡ true → pointwise E xs ys ≡ pointwise E (drop n xs) (drop n ys)
  front_same zero xs ys same = refl
  front_same (suc n) [] [] same = refl
  front_same (suc n) [] (y ∷ ys) same = absurd (true≢false (sym same))
  front_same (suc n) (x ∷ xs) [] same = absurd (true≢false (sym same))
  front_same (suc n) (x ∷ xs) (y ∷ ys) same =
      ap (λ b. b && pointwise E xs ys) (first_so (E x y) (pointwise E (take n xs) (take n ys)) same)
      ∙ front_same n xs ys (second_so (E x y) (pointwise E (take n xs) (take n ys)) same)

  front_other : (n : ℕ) (xs ys : List X) → pointwise E (take n xs) (take n ys) ≡ false → pointwise E xs ys ≡ false
  front_other zero xs ys other = absurd (true≢false other)
  front_other (suc n) [] [] other = absurd (true≢false other)
  front_other (suc n) [] (y ∷ ys) other = refl
  front_other (suc n) (x ∷ xs) [] other = refl
  front_other (suc n) (x ∷ xs) (y ∷ ys) other =
      other_so (E x y) (pointwise E (take n xs) (take n ys)) (pointwise E xs ys) (front_other n xs ys) other

  -- two lists from an index on, and a run of each
  module _ (xs ys ours theirs more others : List X) (at both : ℕ) (left : drop at xs ≡ ours ++ more) (right : drop at ys ≡ theirs ++ others)
      (low : both ≤ length ours) (short : both ≤ length theirs) where
    front_left : take both (drop at xs) ≡ take both ours
    front_left = ap (take both) left ∙ take-append-le both ours more low

    front_right : take both (drop at ys) ≡ take both theirs
    front_right = ap (take both) right ∙ take-append-le both theirs others short

    fronts : pointwise E (take both (drop at xs)) (take both (drop at ys)) ≡ pointwise E (take both ours) (take both theirs)
    fronts = ap (λ zs. pointwise E zs (take both (drop at ys))) front_left ∙ ap (λ zs. pointwise E (take both ours) zs) front_right

    pub runs_same : pointwise E (take both ours) (take both theirs) ≡ true
        → pointwise E (drop at xs) (drop at ys) ≡ pointwise E (drop (at + both) xs) (drop (at + both) ys)
    runs_same same =
        front_same both (drop at xs) (drop at ys) (fronts ∙ same)
        ∙ ap (λ zs. pointwise E zs (drop both (drop at ys))) (drop-drop both at xs)
        ∙ ap (λ zs. pointwise E (drop (at + both) xs) zs) (drop-drop both at ys)

    pub runs_other : pointwise E (take both ours) (take both theirs) ≡ false → pointwise E (drop at xs) (drop at ys) ≡ false
    runs_other other = front_other both (drop at xs) (drop at ys) (fronts ∙ other)
