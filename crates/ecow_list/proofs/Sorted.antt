-- Elements in rising order, which `insert` and `remove` keep at the places that a `binary_search`
-- answers with.
use Rattle.std.proofs.Common.{◌≡◌, ℕ, ◌+◌, ◌-◌, ◌<◌, ◌≤◌, List, [], ◌∷◌, length, get_or, refl, sym, ap, subst, ◌∙◌, arith, inl, inr, Result, Ok, Err, true}
use Rattle.std.specs.Prelude.{◌↔◌, slice_get, Contains, IfSome, IsPermutation, All}
use Rattle.std.specs.Cmp.{IsTotalOrder}
use Rattle.std.specs.declared.cmp.Ordering.{Ordering}
use Rattle.std.specs.declared.cmp.Ordering.TheVariants.{Less, Greater}
use Rattle.std.specs.List.{insert, remove}
use Rattle.std.specs.List.Sorted.{IsBinarySearchResult, IsSorted, IsStrictlyIncreasing, IsStrictlySortedBy}
use Rattle.std.specs.Ordering.{is_lt, nat_cmp, ordering_reverse}
use Rattle.std.specs.Result.{is_ok}
use Rattle.std.proofs.lemmas.Bool.{cases_lt, false≢true}
use Rattle.std.proofs.lemmas.Cmp.{nat_cmp_total}
use Rattle.std.proofs.lemmas.List.{get_or_default, get_or_past}
use Rattle.std.proofs.lemmas.List.Edits.{length-insert, length-remove, get_or-insert_below, get_or-insert_at, get_or-insert_above, get_or-remove_below, get_or-remove_above}
use Rattle.std.proofs.lemmas.List.Sorted.{searchable_from_sorted, searched, IsPermutation-remove, IsPermutation-sym}
use Rattle.std.proofs.lemmas.Map.Keys.{below_from_sorted, IsStrictlyIncreasing-from_sorted, Less-from_sorted, sorted_from_all_adjacent, sorted_from_strictly_increasing}

module _ {K : Type 0} {R : K → K → Ordering} (o : IsTotalOrder R) where
  -- what is below is the other way round above
  flipped : (x y : K) → R x y ≡ Less → R y x ≡ Greater
  flipped x y less = o.antisymm y x ∙ ap ordering_reverse less

  flipped_back : (x y : K) → R x y ≡ Greater → R y x ≡ Less
  flipped_back x y greater = o.antisymm y x ∙ ap ordering_reverse greater

  -- no element is below itself
  not_below : (x : K) → R x x ≡ Less → ⊥
  not_below x less = let greater = flipped x x less in let bad : Less ≡ Greater = sym less ∙ greater in false≢true (sym (ap is_lt bad))

  -- elements of which each is below the next are sorted
  pub sorted_from_strictly_sorted : (xs : List K) → IsStrictlySortedBy R xs → IsSorted R xs
  sorted_from_strictly_sorted xs up k d low within =
      ap is_lt (flipped (get_or xs k d) (get_or xs (k + 1) d) (Less-from_sorted R xs k (k + 1) d up (omega arith) within))

  -- a search that finds nothing answers the place between what is below and what is above
  pub place_between : (xs : List K) (x : K) (i : ℕ) → IsBinarySearchResult (λ y. R y x) xs (Err i) → IsStrictlySortedBy R xs
      → (i ≤ length xs) × ((k : ℕ) → k < i → R (get_or xs k x) x ≡ Less) × ((k : ℕ) → i ≤ k → k < length xs → R x (get_or xs k x) ≡ Less)
  place_between xs x i sought up =
      let parted = sought (searchable_from_sorted o (λ y. y) xs x (sorted_from_strictly_sorted xs up)) in (
        elim (cases_lt (length xs) i) [
          | inl past ↦ absurd (not_below x (subst (λ y. R y x ≡ Less) (get_or_past xs (length xs) x (omega arith)) (parted.0 (length xs) x (omega arith) past)))
          | inr within ↦ within
        ],
        (λ k low. parted.0 k x (omega arith) low),
        λ k high within. flipped_back (get_or xs k x) x (parted.1 k x high within),
      )

  -- elements stay in strict order after the insertion of one where a search for it ended
  pub sorted_inserted : (xs : List K) (x : K) (i : ℕ) → IsBinarySearchResult (λ y. R y x) xs (Err i) → IsStrictlySortedBy R xs → IsStrictlySortedBy R (insert xs i x)
  sorted_inserted xs x i sought up = sorted_from_all_adjacent o (insert xs i x) x (λ k within.
      let (le, below, above) = place_between xs x i sought up in
      let n = length-insert xs i x le in
      elim (cases_lt (k + 1) i) [
        | inl low ↦ rw (get_or-insert_below xs i x x k (omega arith) le, get_or-insert_below xs i x x (k + 1) low le) (Less-from_sorted R xs k (k + 1) x up (omega arith) (omega arith))
        | inr high ↦ elim (cases_lt k i) [
          | inl low ↦ (let here : k + 1 ≡ i = omega arith in
              rw (get_or-insert_below xs i x x k low le, ap (λ n. get_or (insert xs i x) n x) here ∙ get_or-insert_at xs i x x le) (below k low))
          | inr past ↦ elim (cases_lt i k) [
            | inl over ↦ (let back : k ≡ (k - 1) + 1 = omega arith in
                rw (ap (λ n. get_or (insert xs i x) n x) back ∙ get_or-insert_above xs i x x (k - 1) (omega arith) le, get_or-insert_above xs i x x k past le) (Less-from_sorted R xs (k - 1) k x up (omega arith) (omega arith)))
            | inr same ↦ (let here : k ≡ i = omega arith in
                rw (ap (λ n. get_or (insert xs i x) n x) here ∙ get_or-insert_at xs i x x le, get_or-insert_above xs i x x k past le) (above k past (omega arith)))
          ]
        ]
      ])

  -- elements stay in strict order after the removal of one
  pub sorted_removed : (xs : List K) (x : K) (i : ℕ) → IsStrictlySortedBy R xs → i < length xs → IsStrictlySortedBy R (remove xs i)
  sorted_removed xs x i up lt = sorted_from_all_adjacent o (remove xs i) x (λ k within.
      let n = length-remove xs i lt in
      elim (cases_lt (k + 1) i) [
        | inl low ↦ rw (get_or-remove_below xs i x k (omega arith) lt, get_or-remove_below xs i x (k + 1) low lt) (Less-from_sorted R xs k (k + 1) x up (omega arith) (omega arith))
        | inr high ↦ elim (cases_lt k i) [
          | inl low ↦ rw (get_or-remove_below xs i x k low lt, get_or-remove_above xs i x (k + 1) high lt) (Less-from_sorted R xs k (k + 1 + 1) x up (omega arith) (omega arith))
          | inr past ↦ rw (get_or-remove_above xs i x k past lt, get_or-remove_above xs i x (k + 1) (omega arith) lt) (Less-from_sorted R xs (k + 1) (k + 1 + 1) x up (omega arith) (omega arith))
        ]
      ])

-- numbers still rise after the insertion of one where a search for it ended
pub rises_inserted : (xs : List ℕ) (x i : ℕ) → IsBinarySearchResult (λ y. nat_cmp y x) xs (Err i) → IsStrictlyIncreasing xs → IsStrictlyIncreasing (insert xs i x)
rises_inserted xs x i sought up =
    IsStrictlyIncreasing-from_sorted (insert xs i x) (sorted_inserted nat_cmp_total xs x i sought (sorted_from_strictly_increasing xs up))

-- of numbers that rise, none is above a later one
pub le_from_rising : (xs : List ℕ) → IsStrictlyIncreasing xs → (i j d : ℕ) → i ≤ j → j < length xs → get_or xs i d ≤ get_or xs j d
le_from_rising xs up i j d le within = elim (cases_lt i j) [
  | inl before ↦ (let a = below_from_sorted xs i j d (sorted_from_strictly_increasing xs up) before within in omega (arith, a))
  | inr same ↦ (let here : i ≡ j = omega arith in let e = ap (λ n. get_or xs n d) here in omega (arith, e))
]

-- the place of the number that a search finds
pub found_number : (xs : List ℕ) (x i : ℕ) → IsBinarySearchResult (λ y. nat_cmp y x) xs (Ok i) → IsStrictlyIncreasing xs
    → (i < length xs) × (x ≡ get_or xs i x)
found_number xs x i sought up =
    let s = searched xs x (Ok i) sought (λ a b. le_from_rising xs up a b 0) in (s.0, sym s.1 ∙ get_or_default xs i 0 x s.0)

-- numbers still rise after the removal of the one that a search finds
pub rises_removed : (xs : List ℕ) (x i : ℕ) → IsBinarySearchResult (λ y. nat_cmp y x) xs (Ok i) → IsStrictlyIncreasing xs → IsStrictlyIncreasing (remove xs i)
rises_removed xs x i sought up =
    IsStrictlyIncreasing-from_sorted (remove xs i) (sorted_removed nat_cmp_total xs x i (sorted_from_strictly_increasing xs up) (found_number xs x i sought up).0)

-- with the number that was removed, those that are left are the old ones
pub moved_removed : (xs : List ℕ) (x i : ℕ) → IsBinarySearchResult (λ y. nat_cmp y x) xs (Ok i) → IsStrictlyIncreasing xs → IsPermutation (x ∷ remove xs i) xs
moved_removed xs x i sought up =
    let at = found_number xs x i sought up in IsPermutation-sym _ _ (IsPermutation-remove xs i x at.0 at.1)

-- a search of numbers that rise finds just those that are there
pub finds_iff_contains : (xs : List ℕ) (x : ℕ) (r : Result ℕ ℕ) → IsBinarySearchResult (λ y. nat_cmp y x) xs r → IsStrictlyIncreasing xs
    → (is_ok r ≡ true) ↔ Contains xs x
finds_iff_contains xs x (Ok i) sought up =
    let at = found_number xs x i sought up in (λ found. (i, at.0, sym at.1), λ has. refl)
finds_iff_contains xs x (Err i) sought up =
    let s = searched xs x (Err i) sought (λ a b. le_from_rising xs up a b 0) in
    (λ found. absurd (false≢true found), λ has. absurd (apart s.1 s.2 has.0 has.1 has.2))
  where
    apart : ((k : ℕ) → k < i → get_or xs k 0 < x) → ((k : ℕ) → i ≤ k → k < length xs → x < get_or xs k 0)
        → (k : ℕ) → k < length xs → get_or xs k x ≡ x → ⊥
    apart below above k within is =
        let e = get_or_default xs k 0 x within in
        elim (cases_lt k i) [
          | inl low ↦ omega (arith, below k low, e, is)
          | inr high ↦ omega (arith, above k high within, e, is)
        ]

-- the first of numbers that rise is the least
pub first_is_least : (xs : List ℕ) → IsStrictlyIncreasing xs → IfSome (slice_get xs 0) (λ least. All (λ n. least ≤ n) xs)
first_is_least [] up = tt
first_is_least (x ∷ xs) up = λ k d within. let a = le_from_rising (x ∷ xs) up 0 k d (omega arith) within in omega (arith, a)
