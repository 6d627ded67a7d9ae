-- A count stays while the bytes that it counts change.
use Rattle.std.proofs.Common.{◌≡◌, ℕ, ◌+◌, ◌-◌, ◌<◌, ◌≤◌, List, length, take, drop, slice_index, sym, ap, ◌∙◌, arith, length-append, length-take-le, length-drop}
use Rattle.std.proofs.lemmas.List.{drop-drop, get_or-drop, take_at, drop_at}
use Rattle.std.proofs.lemmas.Bool.Decides.{nat_tests}
use Rattle.std.specs.List.{refill, length_refill}
use Rattle.ecow_bytes.specs.Counts.{counted, before_last}
use Rattle.ecow_bytes.specs.Lends.{with_front}

module _ (n : ℕ) (xs ys : List ℕ) (same : drop n xs ≡ drop n ys) where
  further_behind : (k : ℕ) → n ≤ k → drop k xs ≡ drop k ys
  further_behind k le =
      let sum : n + (k - n) ≡ k = omega arith in
      ap (λ j. drop j xs) (sym sum) ∙ sym (drop-drop (k - n) n xs) ∙ ap (drop (k - n)) same
      ∙ drop-drop (k - n) n ys ∙ ap (λ j. drop j ys) sum

  cell_behind : (k : ℕ) → n ≤ k → slice_index xs k ≡ slice_index ys k
  cell_behind k le =
      let sum : n + (k - n) ≡ k = omega arith in
      ap (λ j. slice_index xs j) (sym sum) ∙ sym (get_or-drop n xs (k - n) 0)
      ∙ ap (λ zs. slice_index zs (k - n)) same ∙ get_or-drop n ys (k - n) 0
      ∙ ap (λ j. slice_index ys j) sum

  before_behind : (limit : ℕ) → n ≤ limit - 9 → before_last limit xs ≡ before_last limit ys
  unfolding before_last
  before_behind limit le = rw (further_behind (limit - 9) le)

-- bytes that are counted do not hold the count
counted-behind : (limit n : ℕ) (xs ys : List ℕ) → n ≡ counted limit xs → n < limit
    → drop n xs ≡ drop n ys → counted limit ys ≡ counted limit xs
unfolding counted
counted-behind limit n xs ys e fits same =
    let last : slice_index xs (limit - 1) ≡ slice_index ys (limit - 1) =
    cell_behind n xs ys same (limit - 1) (omega arith) in
    let before = before_behind n xs ys same limit in
    grind (arith, nat_tests)

module _ (n : ℕ) (cells ws : List ℕ) (within : n ≤ length cells) where
  length-front : length (refill n (take n cells) ws) ≡ n
  length-front = sym (length_refill n (take n cells) ws (sym (length-take-le n cells within)))

  pub length-with_front : length (with_front n cells ws) ≡ length cells
  length-with_front =
      let both = length-append (refill n (take n cells) ws) (drop n cells) in
      omega (arith, length-front, both, length-drop n cells)

-- another front keeps the count, and is seen
module _ (limit n : ℕ) (cells ws : List ℕ) (e : n ≡ counted limit cells) (fits : n < limit)
    (within : n ≤ length cells) where
  pub counted-with_front : counted limit (with_front n cells ws) ≡ n
  counted-with_front =
      let back = drop_at _ (drop n cells) n (length-front n cells ws within) in
      counted-behind limit n cells (with_front n cells ws) e fits (sym back) ∙ sym e

  pub seen-with_front : take (counted limit (with_front n cells ws)) (with_front n cells ws)
      ≡ refill (length (take n cells)) (take n cells) ws
  seen-with_front =
      rw (counted-with_front, length-take-le n cells within)
      (take_at _ (drop n cells) n (length-front n cells ws within))
