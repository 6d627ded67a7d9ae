-- Bytes that are compared a group at a time: what an empty mask says, ends that cover all, and fronts that are the same.
use Rattle.std.proofs.Common.{Ordering, ◌≡◌, ◌≢◌, ℕ, zero, suc, ◌+◌, ◌-◌, ◌*◌, ◌%◌, ◌^◌, ◌<◌, ◌≤◌, ◌↔◌, Bool, true, false, not, cond, eqb, nat_eq, IsTrue, List, [], ◌∷◌, ◌++◌, map, length, take, drop, min, get_or, inl, inr, ◌⊎◌, refl, sym, ap, subst, ◌∙◌, arith, eqb-true, eq-eqb}
use Rattle.std.proofs.lemmas.Bool.{cases_lt}
use Rattle.std.proofs.lemmas.List.{length-map, ext_get_or, get_or-take, get_or-drop}
use Rattle.std.proofs.lemmas.Simd.{mask_l-mod, length-zip2}
use Rattle.std.proofs.Math.Seq.{take-add}
use lib.ListN.{length-drop}
use lib.Seq.{length-take-le}
use mathlib.Core.Bool.{◌&&◌}
use borrow.Author.Clash.{clash}
use Rattle.std.proofs.lemmas.List.{take_all}
use Rattle.std.specs.Ordering.{MatchOrdering, nat_cmp, ordering_then}
use Rattle.std.specs.declared.cmp.Ordering.TheVariants.{Less, Equal, Greater}
use Rattle.std.specs.Cmp.{nat_cmp_is}
use Rattle.std.specs.Cmp.Lexicographic.{pointwise, slice_cmp, same_text, other_text}
use lib.Lanes.{zip2, mask_l, top}

-- what a comparison of two lanes gives
abbrev lane : ℕ → ℕ → ℕ
lane a b = cond (not (eqb a b)) 255 0

-- the lanes in which two lists differ
abbrev pub differing : List ℕ → List ℕ → ℕ
differing xs ys = mask_l (map (top 7) (zip2 lane xs ys))

unset : (same : Bool) (m : ℕ) → cond (top 7 (cond (not same) 255 0)) 1 0 + 2 * m ≡ 0 → (same ≡ true) × (m ≡ 0)
unset true m z = (refl, omega arith)
unset false m z = absurd (omega arith)

same_lanes : (xs ys : List ℕ) → length xs ≡ length ys → differing xs ys ≡ 0 → xs ≡ ys
same_lanes [] [] e z = refl
same_lanes [] (y ∷ ys) e z = absurd (omega arith)
same_lanes (x ∷ xs) [] e z = absurd (omega arith)
same_lanes (x ∷ xs) (y ∷ ys) e z =
    let h = unset (eqb x y) (differing xs ys) z in
    (λ i. eqb-true x y h.0 i ∷ same_lanes xs ys (omega arith) h.1 i)

no_lane : (xs : List ℕ) → differing xs xs ≡ 0
no_lane [] = refl
no_lane (x ∷ xs) = ap (λ b. cond (top 7 (cond (not b) 255 0)) 1 0 + 2 * differing xs xs) (eq-eqb x x refl) ∙ (let rest = no_lane xs in omega arith)

pub same_by_mask : (xs ys : List ℕ) → length xs ≡ length ys → length xs ≤ 64 → IsTrue (nat_eq (differing xs ys % 2 ^ 64) 0) ↔ (xs ≡ ys)
same_by_mask xs ys long few =
    let lanes = zip2 lane xs ys in
    let small = mask_l-mod (map (top 7) lanes) 64 (omega (arith, length-map lanes (top 7), length-zip2 lane xs ys long)) in
    (λ t. same_lanes xs ys long (sym small ∙ eqb-true _ _ t), λ e. eq-eqb _ _ (small ∙ ap (λ zs. differing xs zs) (sym e) ∙ no_lane xs))

in_chunk : (m a i : ℕ) (xs : List ℕ) → a ≤ i → i < a + m → get_or (take m (drop a xs)) (i - a) 0 ≡ get_or xs i 0
in_chunk m a i xs low high = get_or-take m (drop a xs) (i - a) 0 (omega arith) ∙ get_or-drop a xs (i - a) 0 ∙ ap (λ k. get_or xs k 0) (omega arith)

-- the first m and the last m places of both are the same
pub same_by_ends : (m : ℕ) (xs ys : List ℕ) → length xs ≡ length ys → m ≤ length xs → length xs ≤ 2 * m
    → take m (drop 0 xs) ≡ take m (drop 0 ys) → take m (drop (length xs - m) xs) ≡ take m (drop (length xs - m) ys) → xs ≡ ys
same_by_ends m xs ys long some most front back =
    let a = length xs - m in
    ext_get_or 0 xs ys long (λ i within.
    elim (cases_lt i m) [
      | inl l ↦ sym (in_chunk m 0 i xs (omega arith) (omega arith)) ∙ ap (λ zs. get_or zs (i - 0) 0) front ∙ in_chunk m 0 i ys (omega arith) (omega arith)
      | inr g ↦ sym (in_chunk m a i xs (omega arith) (omega arith)) ∙ ap (λ zs. get_or zs (i - a) 0) back ∙ in_chunk m a i ys (omega arith) (omega arith)
    ])

-- a front that is the same grows by a chunk that is
pub longer : (n m : ℕ) (xs ys : List ℕ) → take n xs ≡ take n ys → take m (drop n xs) ≡ take m (drop n ys) → take (n + m) xs ≡ take (n + m) ys
longer n m xs ys front chunk = take-add n m xs ∙ (λ i. front i ++ chunk i) ∙ sym (take-add n m ys)

pub chunk_len : (m a : ℕ) (xs : List ℕ) → a + m ≤ length xs → length (take m (drop a xs)) ≡ m
chunk_len m a xs le = length-take-le m (drop a xs) (omega (arith, length-drop a xs))

pub both : (a b : Bool) → (a && b) ≡ true → (a ≡ true) × (b ≡ true)
both true b e = (refl, e)
both false b e = clash false e refl

pub and_both : (a b : Bool) → a ≡ true → b ≡ true → (a && b) ≡ true
and_both true b p q = q
and_both false b p q = p

pub longer_twice : (n m : ℕ) (xs ys : List ℕ) → take n xs ≡ take n ys → take m (drop n xs) ≡ take m (drop n ys)
    → take m (drop (n + m) xs) ≡ take m (drop (n + m) ys) → take (n + 2 * m) xs ≡ take (n + 2 * m) ys
longer_twice n m xs ys front chunk next =
    let sum : n + 2 * m ≡ n + m + m = omega arith in
    ap (λ j. take j xs) sum ∙ longer (n + m) m xs ys (longer n m xs ys front chunk) next ∙ sym (ap (λ j. take j ys) sum)

-- and a part of a front that is the same is
pub part_of_front : (a m n : ℕ) (xs ys : List ℕ) → a + m ≤ n → n ≤ length xs → n ≤ length ys → take n xs ≡ take n ys → take m (drop a xs) ≡ take m (drop a ys)
part_of_front a m n xs ys le in_xs in_ys front =
    let long = chunk_len m a xs (omega arith) in
    ext_get_or 0 (take m (drop a xs)) (take m (drop a ys)) (long ∙ sym (chunk_len m a ys (omega arith))) (λ i within.
    let below : i < m = omega (arith, long) in
    let at : (zs : List ℕ) → get_or (take m (drop a zs)) i 0 ≡ get_or (take n zs) (a + i) 0 =
    λ zs. get_or-take m (drop a zs) i 0 below ∙ get_or-drop a zs i 0 ∙ sym (get_or-take n zs (a + i) 0 (omega arith)) in
    at xs ∙ ap (λ zs. get_or zs (a + i) 0) front ∙ sym (at ys))

-- a front that is the same, the chunk that follows it or the last, and the last
pub joined : (n m len k : ℕ) (xs ys : List ℕ) → k ≡ min n (len - m) → n ≤ len → m ≤ len → len ≤ n + 2 * m → len ≤ length xs → len ≤ length ys
    → take n xs ≡ take n ys → take m (drop k xs) ≡ take m (drop k ys) → take m (drop (len - m) xs) ≡ take m (drop (len - m) ys) → take len xs ≡ take len ys
joined n m len k xs ys nearer below fits reached in_xs in_ys front chunk back =
    let a = len - m in
    let sum : len ≡ a + m = omega arith in
    let near : take (k + m) xs ≡ take (k + m) ys = longer k m xs ys (part_of_front 0 k n xs ys (omega arith) (omega arith) (omega arith) front) chunk in
    ap (λ j. take j xs) sum ∙ longer a m xs ys (part_of_front 0 a (k + m) xs ys (omega arith) (omega arith) (omega arith) near) back
    ∙ sym (ap (λ j. take j ys) sum)

-- a front tells whether all are the same
pub equal_by_front : (xs ys : List ℕ) (n : ℕ) → length xs ≡ length ys → n ≤ length xs
    → take n xs ≡ take n ys → (n < length xs → take (length xs) xs ≢ take (length xs) ys)
    → nat_eq n (length xs) ≡ pointwise nat_eq xs ys
equal_by_front xs ys n long le front differ = decided (pointwise nat_eq xs ys) refl
  where
    whole : n ≡ length xs → xs ≡ ys
    whole e = sym (take_all n xs (omega arith)) ∙ front ∙ take_all n ys (omega arith)

    refuted : (b : Bool) → pointwise nat_eq xs ys ≡ false → nat_eq n (length xs) ≡ b → b ≡ false
    refuted true unlike e = absurd (other_text xs ys (sym unlike) (whole (eqb-true n (length xs) e)))
    refuted false unlike e = refl

    decided : (b : Bool) → pointwise nat_eq xs ys ≡ b → nat_eq n (length xs) ≡ pointwise nat_eq xs ys
    decided true alike =
        let all : n ≡ length xs =
        elim (cases_lt n (length xs)) [ inl l ↦ absurd (differ l (ap (take (length xs)) (same_text xs ys (sym alike)))) | inr g ↦ omega arith ] in
        eq-eqb n (length xs) all ∙ sym alike
    decided false unlike = refuted (nat_eq n (length xs)) unlike refl ∙ sym unlike

tied : (x y : ℕ) → x ≡ y → Equal ≡ nat_cmp x y
tied x y e = nat_cmp_is x y Equal e

head_same : (x y : ℕ) (xs ys : List ℕ) → x ∷ xs ≡ y ∷ ys → (x ≡ y) × (xs ≡ ys)
head_same x y xs ys e = (ap (λ l. get_or l 0 0) e, ap (drop 1) e)

-- what comes behind a front that is the same decides the order
pub order_past : (n : ℕ) (xs ys : List ℕ) → take n xs ≡ take n ys → slice_cmp nat_cmp (drop n xs) (drop n ys) ≡ slice_cmp nat_cmp xs ys
order_past zero xs ys front = refl
order_past (suc n) [] [] front = refl
order_past (suc n) [] (y ∷ ys) front = absurd (let long = ap length front in omega arith)
order_past (suc n) (x ∷ xs) [] front = absurd (let long = ap length front in omega arith)
order_past (suc n) (x ∷ xs) (y ∷ ys) front =
    let h = head_same x y (take n xs) (take n ys) front in
    order_past n xs ys h.1 ∙ ap (λ o. ordering_then o (slice_cmp nat_cmp xs ys)) (tied x y h.0)

one_more : (o : Ordering) (n m : ℕ) → MatchOrdering o (n < m) (n ≡ m) (m < n) → MatchOrdering o (suc n < suc m) (suc n ≡ suc m) (suc m < suc n)
one_more Less n m h = omega arith
one_more Equal n m h = omega arith
one_more Greater n m h = omega arith

-- where all of one are the front of the other, the lengths do
by_lengths : (n : ℕ) (xs ys : List ℕ) → take n xs ≡ take n ys → (length xs ≤ n) ⊎ (length ys ≤ n)
    → MatchOrdering (slice_cmp nat_cmp xs ys) (length xs < length ys) (length xs ≡ length ys) (length ys < length xs)
by_lengths n [] [] front short = refl
by_lengths n [] (y ∷ ys) front short = omega arith
by_lengths n (x ∷ xs) [] front short = omega arith
by_lengths zero (x ∷ xs) (y ∷ ys) front short = elim short [ inl l ↦ absurd (omega arith) | inr l ↦ absurd (omega arith) ]
by_lengths (suc n) (x ∷ xs) (y ∷ ys) front short =
    let h = head_same x y (take n xs) (take n ys) front in
    let fewer : (length xs ≤ n) ⊎ (length ys ≤ n) = elim short [ inl l ↦ inl (omega arith) | inr l ↦ inr (omega arith) ] in
    subst (λ o. MatchOrdering (ordering_then o (slice_cmp nat_cmp xs ys)) (suc (length xs) < suc (length ys))
    (suc (length xs) ≡ suc (length ys)) (suc (length ys) < suc (length xs))) (tied x y h.0)
    (one_more (slice_cmp nat_cmp xs ys) (length xs) (length ys) (by_lengths n xs ys h.1 fewer))

pub order_by_lengths : (n : ℕ) (xs ys : List ℕ) → take n xs ≡ take n ys → (length xs ≤ n) ⊎ (length ys ≤ n)
    → nat_cmp (length xs) (length ys) ≡ slice_cmp nat_cmp xs ys
order_by_lengths n xs ys front short = sym (nat_cmp_is (length xs) (length ys) (slice_cmp nat_cmp xs ys) (by_lengths n xs ys front short))

pub order_of_same : (xs ys : List ℕ) → xs ≡ ys → Equal ≡ slice_cmp nat_cmp xs ys
order_of_same xs ys e =
    let n = length xs in
    tied n (length ys) (ap length e) ∙ order_by_lengths n xs ys (ap (take n) e) (inl (omega arith))

pub shortest : (a b n : ℕ) → n ≡ min a b → (a ≤ n) ⊎ (b ≤ n)
shortest a b n e = elim (cases_lt a b) [ inl l ↦ inl (omega (arith, e)) | inr g ↦ inr (omega (arith, e)) ]
