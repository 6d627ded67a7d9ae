-- A list from which each element goes that is the same as the last one kept.
use Rattle.std.proofs.Common.{◌≡◌, ℕ, ◌+◌, ◌-◌, ◌<◌, ◌≤◌, Bool, true, false, List, [], ◌∷◌, ◌++◌, length, take, drop, sym, ap, ◌∙◌, append_assoc}
use Rattle.std.proofs.Common.{arith, set, get_or, inl, inr}
use Rattle.std.proofs.lemmas.List.{length-set, take_more, take-set-le, drop-set-lt, drop_more, get_or-set_same, get_or-set_other, get_or_default}
use Rattle.std.proofs.lemmas.List.Edits.{swap_is}
use Rattle.std.proofs.lemmas.Bool.{cases_lt}
use Rattle.std.proofs.Math.ListN.{drop_of_length-le}
use Rattle.std.specs.Prelude.{cond}
use Rattle.std.specs.List.{dedup, dedup_from, swap}

-- the element at i of xs is moved to the place n, which is no further
module _ {X : Type 0} (xs : List X) (n i : ℕ) (y : X) (before : n ≤ i) (in_xs : i < length xs) where
  abbrev here : X
  here = get_or xs i y

  abbrev there : X
  there = get_or xs n y

  swapped : swap xs n i ≡ set (set xs n here) i there
  swapped = sym (swap_is xs n i y (omega (arith, before, in_xs)) in_xs)

  pub front_stays : take n (swap xs n i) ≡ take n xs
  front_stays =
      ap (take n) swapped ∙ take-set-le n (set xs n here) i there before ∙ take-set-le n xs n here (omega arith)

  pub rest_stays : drop (i + 1) (swap xs n i) ≡ drop (i + 1) xs
  rest_stays =
      ap (drop (i + 1)) swapped
      ∙ drop-set-lt (i + 1) (set xs n here) i there (omega arith)
      ∙ drop-set-lt (i + 1) xs n here (omega (arith, before))

  pub moved : (d : X) → get_or (swap xs n i) n d ≡ here
  moved d =
      ap (λ l. get_or l n d) swapped
      ∙ elim (cases_lt n i) [
        | inl lt ↦
            get_or-set_other (set xs n here) i n there d (λ e. omega (arith, e, lt))
            ∙ get_or-set_same xs n here d (omega (arith, lt, in_xs))
        | inr ge ↦
            let at : n ≡ i = omega (arith, ge, before) in
            ap (λ m. get_or (set (set xs n here) i there) m d) at
            ∙ get_or-set_same (set xs n here) i there d (omega (arith, in_xs, length-set xs n here))
            ∙ ap (λ m. get_or xs m y) at
      ]

module _ {X : Type 0} (E : X → X → Bool) (all : List X) where
  -- the first `count` of xs are kept, and those from i on were not looked at
  abbrev pub Left : List X → ℕ → ℕ → Type 0
  Left xs count i =
      (d : X) → dedup E all ≡ take (count - 1) xs ++ dedup_from E (get_or xs (count - 1) d) (drop i xs)

  pub first_left : (xs : List X) → 0 < length xs → xs ≡ all → Left xs 1 1
  first_left [] some e d = absurd (omega (arith, some))
  first_left (x ∷ xs) some e d = ap (dedup E) (sym e)

  -- x is the element at i, and k the last one kept
  module _ (xs : List X) (count i : ℕ) (x k : X) (left : Left xs count i) (some : 0 < count) (before : count ≤ i)
      (in_xs : i < length xs) (x_is : get_or xs i x ≡ x) (k_is : get_or xs (count - 1) k ≡ k) where
    abbrev front : List X
    front = take (count - 1) xs

    abbrev more : List X
    more = drop (i + 1) xs

    abbrev answer : Bool → List X
    answer same = front ++ cond same (dedup_from E k more) (k ∷ dedup_from E x more)

    goes_on : dedup E all ≡ answer (E x k)
    goes_on =
        left k
        ∙ ap (λ l. front ++ dedup_from E (get_or xs (count - 1) k) l)
        (drop_more xs i x in_xs ∙ ap (λ z. z ∷ more) x_is)
        ∙ ap (λ z. front ++ dedup_from E z (x ∷ more)) k_is

    pub gone : E x k ≡ true → Left xs count (i + 1)
    gone same d =
        goes_on ∙ ap answer same
        ∙ ap (λ z. front ++ dedup_from E z more)
        (sym (get_or_default xs (count - 1) d k (omega (arith, some, before, in_xs)) ∙ k_is))

    abbrev now : List X
    now = swap xs count i

    kept_front : front ++ k ∷ [] ≡ take (count + 1 - 1) now
    kept_front =
        ap (λ z. front ++ z ∷ []) (sym k_is)
        ∙ sym (take_more xs (count - 1) k (omega (arith, some, before, in_xs)))
        ∙ ap (λ n. take n xs) (omega (arith, some))
        ∙ sym (front_stays xs count i x before in_xs)
        ∙ ap (λ n. take n now) (omega arith)

    pub stays : E x k ≡ false → Left now (count + 1) (i + 1)
    stays differs d =
        goes_on ∙ ap answer differs
        ∙ sym (append_assoc front (k ∷ []) (dedup_from E x more))
        ∙ ap (λ l. l ++ dedup_from E x more) kept_front
        ∙ ap (λ z. take (count + 1 - 1) now ++ dedup_from E z more)
        (sym (ap (λ n. get_or now n d) (omega arith) ∙ moved xs count i x before in_xs d ∙ x_is))
        ∙ ap (λ l. take (count + 1 - 1) now ++ dedup_from E (get_or now (count + 1 - 1) d) l)
        (sym (rest_stays xs count i x before in_xs))

  -- all were looked at
  pub all_left : (xs : List X) (count i : ℕ) → Left xs count i → 0 < count → count ≤ length xs → length xs ≤ i
      → take count xs ≡ dedup E all
  all_left [] count i left some fits end = absurd (omega (arith, some, fits))
  all_left (x ∷ xs) count i left some fits end =
      let all = x ∷ xs in
      sym
      (left x
      ∙ ap (λ l. take (count - 1) all ++ dedup_from E (get_or all (count - 1) x) l) (drop_of_length-le all end)
      ∙ sym (take_more all (count - 1) x (omega (arith, some, fits)))
      ∙ ap (λ n. take n all) (omega (arith, some)))
