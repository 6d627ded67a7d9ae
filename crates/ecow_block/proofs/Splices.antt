-- A splice in three steps: as many elements as both lists have change places, then the others of the replacement go in, and
-- then the others of those that it replaces come out.
use Rattle.std.proofs.Common.{arith, ◌≡◌, ℕ, ◌+◌, ◌-◌, ◌≤◌, List, ◌++◌, length, take, drop, slice_range, ap, ap₂, sym, ◌∙◌, length-append, length-take, length-drop, append_assoc}
use Rattle.std.proofs.lemmas.List.{take-append-drop}
use Rattle.std.proofs.Math.Seq.{drop-drop, take-add, take_at, drop_at}
use Rattle.std.specs.List.{insert_slice, remove_range, splice}

module _ {X : Type 0} (xs ys : List X) (start both : ℕ) (in_bounds : start + both ≤ length xs) (enough : both ≤ length ys) where
  -- after the first step
  abbrev pub swapped : List X
  swapped = splice xs start (start + both) (take both ys)

  abbrev pub swapped_other : List X
  swapped_other = slice_range xs start (start + both) ++ drop both ys

  long : length (take start xs ++ take both ys) ≡ start + both
  long = omega (arith, length-append (take start xs) (take both ys), length-take start xs, length-take both ys, in_bounds, enough)

  is_head : swapped ≡ (take start xs ++ take both ys) ++ drop (start + both) xs
  is_head = sym (append_assoc (take start xs) (take both ys) _)

  before : take (start + both) swapped ≡ take start xs ++ take both ys
  before = ap (take (start + both)) is_head ∙ take_at (take start xs ++ take both ys) _ (start + both) long

  after : drop (start + both) swapped ≡ drop (start + both) xs
  after = ap (drop (start + both)) is_head ∙ drop_at (take start xs ++ take both ys) _ (start + both) long

  short : length (slice_range xs start (start + both)) ≡ both
  short = omega (arith, length-take (start + both - start) (drop start xs), length-drop start xs, in_bounds)

  rest : drop both swapped_other ≡ drop both ys
  rest = drop_at (slice_range xs start (start + both)) (drop both ys) both short

  pub other_inserted : take both swapped_other ≡ slice_range xs start (start + both)
  other_inserted = take_at (slice_range xs start (start + both)) (drop both ys) both short

  pub inserted : insert_slice swapped (start + both) (drop both swapped_other) ≡ splice xs start (start + both) ys
  inserted =
      ap₂ (λ l r. (l ++ drop both swapped_other) ++ r) before after
      ∙ ap (λ l. l ++ drop (start + both) xs) (ap (λ m. (take start xs ++ take both ys) ++ m) rest
      ∙ append_assoc (take start xs) (take both ys) _ ∙ ap (λ l. take start xs ++ l) (take-append-drop both ys))
      ∙ append_assoc (take start xs) ys _

module _ {X : Type 0} (xs ys : List X) (start both end : ℕ) (ordered : start + both ≤ end) (in_bounds : end ≤ length xs) where
  -- after the second step
  abbrev pub placed : List X
  placed = splice xs start (start + both) ys

  is_placed : placed ≡ (take start xs ++ ys) ++ drop (start + both) xs
  is_placed = sym (append_assoc (take start xs) ys _)

  size : length (take start xs ++ ys) ≡ start + length ys
  size = omega (arith, length-append (take start xs) ys, length-take start xs, ordered, in_bounds)

  first : take (start + length ys) placed ≡ take start xs ++ ys
  first = ap (take (start + length ys)) is_placed ∙ take_at (take start xs ++ ys) _ (start + length ys) size

  behind : drop (start + length ys) placed ≡ drop (start + both) xs
  behind = ap (drop (start + length ys)) is_placed ∙ drop_at (take start xs ++ ys) _ (start + length ys) size

  tail : drop (end - both + length ys) placed ≡ drop end xs
  tail =
      let here : end - both + length ys ≡ start + length ys + (end - (start + both)) = omega (arith, ordered) in
      let there : start + both + (end - (start + both)) ≡ end = omega (arith, ordered) in
      ap (λ n. drop n placed) here ∙ sym (drop-drop (end - (start + both)) (start + length ys) placed) ∙ ap (drop (end - (start + both))) behind
      ∙ drop-drop (end - (start + both)) (start + both) xs ∙ ap (λ n. drop n xs) there

  pub drained : remove_range placed (start + length ys) (end - both + length ys) ≡ splice xs start end ys
  drained = ap₂ (λ l r. l ++ r) first tail ∙ append_assoc (take start xs) ys (drop end xs)

  pub other_drained : slice_range xs start (start + both) ++ slice_range placed (start + length ys) (end - both + length ys) ≡ slice_range xs start end
  other_drained =
      let count : end - both + length ys - (start + length ys) ≡ end - (start + both) = omega (arith, ordered) in
      let some : start + both - start ≡ both = omega arith in
      let all : end - start ≡ both + (end - (start + both)) = omega (arith, ordered) in
      ap₂ (λ n r. take n (drop start xs) ++ r) some (ap₂ take count (behind ∙ sym (drop-drop both start xs)))
      ∙ sym (take-add both (end - (start + both)) (drop start xs)) ∙ ap (λ n. take n (drop start xs)) (sym all)
