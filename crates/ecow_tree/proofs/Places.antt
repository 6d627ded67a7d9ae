-- Nodes that are put in place of others.
use Rattle.std.proofs.Common.{◌≡◌, ◌<◌, ◌≤◌, ◌+◌, ◌^◌, ℕ, zero, suc, List, [], ◌∷◌, ◌++◌, Some, length, get_or, slice_get, slice_set, refl, ap, subst, sym, ◌∙◌, arith, length-append}
use Rattle.std.specs.List.{insert, refill, remove}
use Rattle.std.proofs.lemmas.Option.{slice_get-get_or, none-some, same_Some}
use Rattle.ecow_tree.specs.Grown.{Grown}
use Rattle.ecow_tree.specs.Nodes.{items_of, tallest, AllFit, LeadsTo}
use Rattle.ecow_tree.specs.Kept.{AreKeptIn}
use Rattle.ecow_tree.proofs.Kept.{insert_pair}
use Rattle.ecow_tree.proofs.Fits.{fit_at, fit_set, fit_insert, fit_remove}
use Rattle.ecow_tree.proofs.Parts.{halved, tallest_at, tallest_set, tallest_insert, pair_joined, tallest_remove, written}

module _ {X : Type 0} where
  pub set_again : (xs : List X) (at : ℕ) (y : X) → remove (slice_set xs at y) at ≡ remove xs at
  set_again [] at y = refl
  set_again (x ∷ xs) zero y = refl
  set_again (x ∷ xs) (suc at) y = ap (λ ys. x ∷ ys) (set_again xs at y)

  -- what is put in before one that was set
  swapped : (xs : List X) (at : ℕ) (first second : X) → at < length xs
      → insert (slice_set xs at second) at first ≡ insert (slice_set xs at first) (suc at) second
  swapped [] at first second within = absurd (omega (arith, within))
  swapped (x ∷ xs) zero first second within = refl
  swapped (x ∷ xs) (suc at) first second within = ap (λ ys. x ∷ ys) (swapped xs at first second (omega (arith, within)))

  pub within_by : (xs : List X) (at : ℕ) (y : X) → slice_get xs at ≡ Some y → at < length xs
  within_by [] at y found = absurd (none-some y found)
  within_by (x ∷ xs) zero y found = omega arith
  within_by (x ∷ xs) (suc at) y found = omega (arith, within_by xs at y found)

-- two nodes stand in place of one
module _ {T : Type 0} (nodes full : List (Grown T)) (at : ℕ) (d left right : Grown T) (found : slice_get nodes at ≡ Some d)
    (put : full ≡ insert (slice_set nodes at left) (at + 1) right) where
  pub two_items : left.items ++ right.items ≡ d.items → items_of full ≡ items_of nodes
  two_items same = ap (λ ns. items_of ns) put ∙ halved nodes at d left right found same

  pub two_tallest : left.height ≡ d.height → right.height ≡ d.height → tallest full ≤ tallest nodes
  two_tallest l r =
      omega (
        arith,
        ap (λ ns. tallest ns) put,
        tallest_insert (slice_set nodes at left) (at + 1) right,
        tallest_set nodes at left,
        tallest_at nodes at d found,
        l,
        r,
      )

  pub two_fit : (h : ℕ) → AllFit h nodes → left.height ≡ d.height → right.height ≡ d.height
      → 4 ^ d.height ≤ length left.items → 4 ^ d.height ≤ length right.items → AllFit h full
  two_fit h all l r lw rw =
      let was = fit_at h nodes at d all found in
      let lp : 4 ^ left.height ≡ 4 ^ d.height = ap (λ n. 4 ^ n) l in
      let rp : 4 ^ right.height ≡ 4 ^ d.height = ap (λ n. 4 ^ n) r in
      subst (AllFit h) (sym put)
      (fit_insert h (slice_set nodes at left) (at + 1) right
      (fit_set h nodes at left all (record { height = omega (arith, l, was.height); weight = omega (arith, lp, lw) }))
      (record { height = omega (arith, r, was.height); weight = omega (arith, rp, rw) }))

-- one node stands in place of two
module _ {T : Type 0} (nodes full : List (Grown T)) (at : ℕ) (l r both : Grown T) (at_l : slice_get nodes at ≡ Some l)
    (at_r : slice_get nodes (at + 1) ≡ Some r) (put : full ≡ remove (slice_set nodes at both) (at + 1)) where
  after : at + 1 ≡ suc at
  after = omega arith

  pub one_items : both.items ≡ l.items ++ r.items → items_of full ≡ items_of nodes
  one_items items =
      ap (λ ns. items_of ns) put ∙ ap (λ i. items_of (remove (slice_set nodes at both) i)) after
      ∙ pair_joined nodes at l r both at_l (ap (λ i. slice_get nodes i) (sym after) ∙ at_r) items

  pub one_tallest : both.height ≡ l.height → tallest full ≤ tallest nodes
  one_tallest height =
      omega (
        arith,
        tallest_remove (slice_set nodes at both) full (at + 1) put,
        tallest_set nodes at both,
        tallest_at nodes at l at_l,
        height,
      )

  pub one_fit : (h : ℕ) → AllFit h nodes → both.items ≡ l.items ++ r.items → both.height ≡ l.height → AllFit h full
  one_fit h all items height =
      let was = fit_at h nodes at l all at_l in
      let power : 4 ^ both.height ≡ 4 ^ l.height = ap (λ n. 4 ^ n) height in
      subst (AllFit h) (sym put)
      (fit_remove h (slice_set nodes at both) (at + 1)
      (fit_set h nodes at both all
      (record {
        height = omega (arith, height, was.height);
        weight = omega (arith, power, was.weight, ap length items, length-append l.items r.items);
      })))

-- the node that was read at a place
pub read_place : {T : Type 0} (nodes seen : List (Grown T)) (at : ℕ) (d : Grown T) → seen ≡ nodes → d ≡ get_or seen at d → at < length nodes
    → slice_get nodes at ≡ Some d
read_place nodes seen at d old is within = slice_get-get_or nodes at d within ∙ ap Some (sym (is ∙ ap (λ ns. get_or ns at d) old))

pub at_most : (a b : ℕ) → a ≡ b → a ≤ b
at_most a b same = omega arith

-- what a block holds that was lent, once one of its nodes was changed and another was put in beside it, or it was taken out
module _ {T : Type 0} (nodes block lent left : List (Grown T)) (at : ℕ) (same : lent ≡ block) (was : block ≡ nodes) where
  pub placed_behind : (first second : Grown T) → left ≡ insert (refill (length block) block (slice_set lent at first)) (at + 1) second
      → left ≡ insert (slice_set nodes at first) (at + 1) second
  placed_behind first second is = is ∙ ap (λ ns. insert ns (at + 1) second) (written nodes block lent _ at first refl same was)

  pub placed_before : (first second : Grown T) → at < length nodes → left ≡ insert (refill (length block) block (slice_set lent at second)) at first
      → left ≡ insert (slice_set nodes at first) (at + 1) second
  placed_before first second bound is =
      let next : suc at ≡ at + 1 = omega arith in
      is ∙ ap (λ ns. insert ns at first) (written nodes block lent _ at second refl same was) ∙ swapped nodes at first second bound
      ∙ ap (λ i. insert (slice_set nodes at first) i second) next

  pub placed_gone : (new : Grown T) → left ≡ remove (refill (length block) block (slice_set lent at new)) at → left ≡ remove nodes at
  placed_gone new is = is ∙ ap (λ ns. remove ns at) (written nodes block lent _ at new refl same was) ∙ set_again nodes at new

pub parting_kept : {T : Type 0} (is_clone : T → T → Type 0) (nodes left : List (Grown T)) (at index all : ℕ) (x : T) (d first second : Grown T)
    → LeadsTo nodes all at index → slice_get nodes at ≡ Some d → left ≡ insert (slice_set nodes at first) (at + 1) second
    → AreKeptIn is_clone d.items (λ xs. insert xs index x) (first.items ++ second.items)
    → AreKeptIn is_clone (items_of nodes) (λ xs. insert xs all x) (items_of left)
parting_kept {T} is_clone nodes left at index all x d first second l found put k =
    let next : at + 1 ≡ suc at = omega arith in
    let same : d ≡ l.node = same_Some d l.node (sym found ∙ l.found) in
    subst (λ ns. AreKeptIn is_clone (items_of nodes) (λ xs. insert xs all x) (items_of ns))
    (sym (put ∙ ap (λ i. insert (slice_set nodes at first) i second) next))
    (insert_pair is_clone nodes all at index l x first second
    (subst (λ (n : Grown T). AreKeptIn is_clone n.items (λ xs. insert xs index x) (first.items ++ second.items)) same k))
