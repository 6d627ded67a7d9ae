-- One node of a block that was lent is changed. `seen` is what was searched, and `left` what stays.
use Rattle.std.proofs.Common.{◌≡◌, ◌<◌, ◌≤◌, ◌+◌, ◌^◌, ℕ, suc, List, ◌++◌, Some, length, take, drop, slice_get, slice_set, get_or, ap, subst, sym, ◌∙◌, arith, inl, inr, length-append}
use lib.ListN.{length-set}
use Rattle.std.specs.Prelude.{IfSome}
use Rattle.std.specs.List.{insert, refill}
use Rattle.std.proofs.lemmas.Option.{get_or_from_slice_get, slice_get-get_or, same_Some}
use Rattle.std.specs.Borrow.{MutBor}
use Rattle.std.specs.Fn.{Once}
use Rattle.ecow_block.specs.Updates.{UpdatesAt}
use Rattle.ecow_tree.specs.Grown.{Grown}
use Rattle.ecow_tree.specs.Kept.{AreKeptIn, Removes, SomeKept}
use Rattle.ecow_tree.specs.Nodes.{items_of, tallest, CanSpare, LeadsTo, AllFit}
use Rattle.ecow_tree.proofs.Fits.{fit_at, fit_set}
use Rattle.ecow_tree.proofs.Kept.{set_below, insert_below, remove_below, update_below}
use Rattle.ecow_tree.proofs.Places.{within_by}
use Rattle.ecow_tree.proofs.Parts.{read, parted, parted_set, written, kept_below, tallest_at, tallest_set}

module _ {T : Type 0} (nodes seen block lent left : List (Grown T)) (index at rest : ℕ) (d new : Grown T) (old : seen ≡ nodes)
    (leads : LeadsTo seen index at rest) (is : left ≡ refill (length block) block (slice_set lent at new)) (same : lent ≡ block)
    (was : block ≡ nodes) where
  lead : LeadsTo nodes index at rest
  lead = subst (λ ns. LeadsTo ns index at rest) old leads

  became : left ≡ slice_set nodes at new
  became = written nodes block lent left at new is same was

  node_was : get_or lent at d ≡ lead.node
  node_was = ap (λ ns. get_or ns at d) (same ∙ was) ∙ get_or_from_slice_get nodes at lead.node d lead.found

  pub lent_fit : (h : ℕ) → AllFit h nodes → new.height ≡ (get_or lent at d).height → length (get_or lent at d).items ≤ length new.items → AllFit h left
  lent_fit h all height long =
      let was_fit = fit_at h nodes at lead.node all lead.found in
      let hs : new.height ≡ lead.node.height = height ∙ ap (λ n. n.height) node_was in
      let ls = ap (λ n. length n.items) node_was in
      let power : 4 ^ new.height ≡ 4 ^ lead.node.height = ap (λ n. 4 ^ n) hs in
      subst (AllFit h) (sym became)
      (fit_set h nodes at new all
      (record { height = omega (arith, hs, was_fit.height); weight = omega (arith, power, was_fit.weight, ls, long) }))

  pub lent_same_length : length new.items ≡ length (get_or lent at d).items → length (items_of left) ≡ length (items_of nodes)
  lent_same_length same_length =
      let before = items_of (take at nodes) in
      let behind = items_of (drop (suc at) nodes) in
      let ls = ap (λ n. length n.items) node_was in
      omega (
        arith,
        ap (λ ns. length (items_of ns)) became,
        ap length (parted_set nodes at lead.node new lead.found),
        ap length (parted nodes at lead.node lead.found),
        length-append before (new.items ++ behind),
        length-append before (lead.node.items ++ behind),
        length-append new.items behind,
        length-append lead.node.items behind,
        ls,
        same_length,
      )

module _ {T : Type 0} (is_clone : T → T → Type 0) (nodes seen block lent left : List (Grown T)) (index at rest : ℕ) (d new : Grown T) (old : seen ≡ nodes)
    (leads : LeadsTo seen index at rest) (is : left ≡ refill (length block) block (slice_set lent at new)) (same : lent ≡ block)
    (was : block ≡ nodes) where
  leading : LeadsTo nodes index at rest
  leading = subst (λ ns. LeadsTo ns index at rest) old leads

  became_so : left ≡ slice_set nodes at new
  became_so = written nodes block lent left at new is same was

  was_node : get_or lent at d ≡ leading.node
  was_node = ap (λ ns. get_or ns at d) (same ∙ was) ∙ get_or_from_slice_get nodes at leading.node d leading.found

  inside : IfSome (slice_get seen at) (λ node. rest < length node.items) → rest < length leading.node.items
  inside within =
      subst (λ o. IfSome o (λ node. rest < length node.items)) leading.found
      (subst (λ ns. IfSome (slice_get ns at) (λ node. rest < length node.items)) old within)

  pub lent_set : (x : T) → IfSome (slice_get seen at) (λ node. rest < length node.items)
      → AreKeptIn is_clone (get_or lent at d).items (λ xs. slice_set xs rest x) new.items
      → AreKeptIn is_clone (items_of nodes) (λ xs. slice_set xs index x) (items_of left)
  lent_set x within k =
      subst (λ ns. AreKeptIn is_clone (items_of nodes) (λ xs. slice_set xs index x) (items_of ns)) (sym became_so)
      (set_below is_clone nodes index at rest leading x new (inside within)
      (subst (λ (n : Grown T). AreKeptIn is_clone n.items (λ xs. slice_set xs rest x) new.items) was_node k))

  pub lent_insert : (x : T) → AreKeptIn is_clone (get_or lent at d).items (λ xs. insert xs rest x) new.items
      → AreKeptIn is_clone (items_of nodes) (λ xs. insert xs index x) (items_of left)
  lent_insert x k =
      subst (λ ns. AreKeptIn is_clone (items_of nodes) (λ xs. insert xs index x) (items_of ns)) (sym became_so)
      (insert_below is_clone nodes index at rest leading x new
      (subst (λ (n : Grown T). AreKeptIn is_clone n.items (λ xs. insert xs rest x) new.items) was_node k))

  pub lent_update : {F R : Type 0} (g : Once F (MutBor T × Unit {0}) (R × (MutBor T × Unit {0}))) (f : F) (answer : R)
      → IfSome (slice_get seen at) (λ node. rest < length node.items)
      → SomeKept is_clone (get_or lent at d).items (λ xs. UpdatesAt g f rest xs new.items answer)
      → SomeKept is_clone (items_of nodes) (λ xs. UpdatesAt g f index xs (items_of left) answer)
  lent_update g f answer within k =
      subst (λ ns. SomeKept is_clone (items_of nodes) (λ xs. UpdatesAt g f index xs (items_of ns) answer)) (sym became_so)
      (update_below is_clone nodes index at rest leading g f answer new (inside within)
      (subst (λ (n : Grown T). SomeKept is_clone n.items (λ xs. UpdatesAt g f rest xs new.items answer)) was_node k))

-- the node that is lent, to which an index leads
module _ {T : Type 0} (nodes seen block lent : List (Grown T)) (index at rest : ℕ) (d : Grown T) (old : seen ≡ nodes) (leads : LeadsTo seen index at rest)
    (same : lent ≡ block) (was : block ≡ nodes) where
  to : LeadsTo nodes index at rest
  to = subst (λ ns. LeadsTo ns index at rest) old leads

  is_to : get_or lent at d ≡ to.node
  is_to = ap (λ ns. get_or ns at d) (same ∙ was) ∙ get_or_from_slice_get nodes at to.node d to.found

  pub lent_bound : at < length nodes
  lent_bound = within_by nodes at to.node to.found

  pub lent_within : IfSome (slice_get seen at) (λ node. rest < length node.items) → rest < length (get_or lent at d).items
  lent_within within =
      subst (λ (n : Grown T). rest < length n.items) (sym is_to)
      (subst (λ o. IfSome o (λ node. rest < length node.items)) to.found
      (subst (λ ns. IfSome (slice_get ns at) (λ node. rest < length node.items)) old within))

  -- its element is one of all elements
  pub lent_read : (x : T) → slice_get (get_or lent at d).items rest ≡ Some x → slice_get (items_of nodes) index ≡ Some x
  lent_read x got = read nodes index at rest x to (ap (λ n. slice_get n.items rest) (sym is_to) ∙ got)

spared_weight : {T : Type 0} (d new : Grown T) → new.height ≡ d.height → CanSpare d → 2 ≤ length d.items → length new.items + 1 ≡ length d.items
    → 4 ^ new.height ≤ length new.items
spared_weight d new same (inl leaf) several one =
    let power : 4 ^ new.height ≡ 1 = ap (λ n. 4 ^ n) (same ∙ leaf) in
    omega (arith, power, several, one)
spared_weight d new same (inr more) several one =
    let power : 4 ^ new.height ≡ 4 ^ d.height = ap (λ n. 4 ^ n) same in
    omega (arith, power, more, one)

-- the node at a place of a block that was lent is changed
module _ {T : Type 0} (nodes block lent left : List (Grown T)) (at : ℕ) (d new : Grown T) (bound : at < length nodes)
    (is : left ≡ refill (length block) block (slice_set lent at new)) (same : lent ≡ block) (was : block ≡ nodes) where
  found : slice_get nodes at ≡ Some (get_or lent at d)
  found = slice_get-get_or nodes at d bound ∙ ap Some (ap (λ ns. get_or ns at d) (sym (same ∙ was)))

  put : left ≡ slice_set nodes at new
  put = written nodes block lent left at new is same was

  pub placed_fit : (h : ℕ) → AllFit h nodes → new.height ≡ (get_or lent at d).height → length (get_or lent at d).items ≤ length new.items → AllFit h left
  placed_fit h all height long =
      let was_fit = fit_at h nodes at (get_or lent at d) all found in
      let power : 4 ^ new.height ≡ 4 ^ (get_or lent at d).height = ap (λ n. 4 ^ n) height in
      subst (AllFit h) (sym put)
      (fit_set h nodes at new all
      (record { height = omega (arith, height, was_fit.height); weight = omega (arith, power, was_fit.weight, long) }))

  pub placed_length : length left ≡ length nodes
  placed_length = ap length put ∙ length-set nodes at new

  pub placed_tallest : new.height ≡ (get_or lent at d).height → tallest left ≤ tallest nodes
  placed_tallest height =
      omega (arith, ap (λ ns. tallest ns) put, height, tallest_set nodes at new, tallest_at nodes at (get_or lent at d) found)

  pub placed_kept : new.items ≡ (get_or lent at d).items → items_of left ≡ items_of nodes
  placed_kept kept = ap (λ ns. items_of ns) put ∙ kept_below nodes at (get_or lent at d) new found kept

  pub placed_spare : (h : ℕ) → AllFit h nodes → new.height ≡ (get_or lent at d).height → CanSpare (get_or lent at d) → 2 ≤ length (get_or lent at d).items
      → length new.items + 1 ≡ length (get_or lent at d).items → AllFit h left
  placed_spare h all height spare several one =
      let was_fit = fit_at h nodes at (get_or lent at d) all found in
      subst (AllFit h) (sym put)
      (fit_set h nodes at new all
      (record { height = omega (arith, height, was_fit.height); weight = spared_weight (get_or lent at d) new height spare several one }))

  pub placed_removed : (is_clone : T → T → Type 0) (all index : ℕ) (x : T) → LeadsTo nodes all at index → index < length (get_or lent at d).items
      → Removes is_clone (get_or lent at d).items index x new.items → Removes is_clone (items_of nodes) all x (items_of left)
  placed_removed is_clone all index x l within k =
      let same_node : get_or lent at d ≡ l.node = same_Some (get_or lent at d) l.node (sym found ∙ l.found) in
      subst (λ ys. Removes is_clone (items_of nodes) all x ys) (sym (parted_set nodes at l.node new l.found) ∙ ap (λ ns. items_of ns) (sym put))
      (remove_below is_clone nodes all at index l x new.items (subst (λ (n : Grown T). index < length n.items) same_node within)
      (subst (λ (n : Grown T). Removes is_clone n.items index x new.items) same_node k))
