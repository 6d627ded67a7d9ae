-- What becomes of all elements where one node changes.
use Rattle.std.proofs.Common.{◌≡◌, ◌<◌, ◌≤◌, ◌+◌, ◌-◌, ℕ, zero, suc, List, [], ◌∷◌, ◌++◌, Some, length, take, drop, slice_get, slice_set, get_or, max, refl, ap, subst, sym, ◌∙◌, arith, append_assoc, length-append}
use Rattle.std.specs.List.{insert, remove, refill}
use Rattle.ecow_list.proofs.Views.{refilled}
use lib.ListN.{length-set}
use Rattle.std.proofs.lemmas.Option.{none-some, same_Some, get_or_from_slice_get, slice_get-get_or}
use Rattle.std.proofs.lemmas.List.{set-append_left, set-append_right}
use Rattle.std.proofs.lemmas.List.Edits.{insert-append_left, insert-append_right, remove-append_left, remove-append_right}
use Rattle.std.specs.Prelude.{IfSome}
use Rattle.std.proofs.lemmas.List.Folds.{length-flat_map-take}
use denote.Param.Weighed.{most-append}
use Rattle.std.proofs.lemmas.List.Concat.{flat_map-append}
use Rattle.ecow_tree.specs.Grown.{Grown}
use Rattle.ecow_tree.specs.Nodes.{items_of, tallest, LeadsTo}

-- a change in the middle of three lists
module _ {T : Type 0} (before middle behind : List T) (index rest : ℕ) (at : length before + rest ≡ index) where
  there : index - length before ≡ rest
  there = omega (arith, at)

  pub set_middle : (x : T) → rest < length middle
      → slice_set (before ++ (middle ++ behind)) index x ≡ before ++ (slice_set middle rest x ++ behind)
  set_middle x within =
      set-append_right before (middle ++ behind) (length before) index x refl (omega (arith, at))
      ∙ ap (λ i. before ++ slice_set (middle ++ behind) i x) there
      ∙ ap (λ ys. before ++ ys) (set-append_left middle behind rest x within)

  pub insert_middle : (x : T) → rest ≤ length middle
      → insert (before ++ (middle ++ behind)) index x ≡ before ++ (insert middle rest x ++ behind)
  insert_middle x within =
      insert-append_right before (middle ++ behind) (length before) index x refl (omega (arith, at))
      ∙ ap (λ i. before ++ insert (middle ++ behind) i x) there
      ∙ ap (λ ys. before ++ ys) (insert-append_left middle behind rest x within)

  pub remove_middle : rest < length middle
      → remove (before ++ (middle ++ behind)) index ≡ before ++ (remove middle rest ++ behind)
  remove_middle within =
      remove-append_right before (middle ++ behind) (length before) index refl (omega (arith, at))
      ∙ ap (λ i. before ++ remove (middle ++ behind) i) there
      ∙ ap (λ ys. before ++ ys) (remove-append_left middle behind rest within)

module _ {T : Type 0} where
  pub get_front : (xs ys : List T) (i : ℕ) (x : T) → slice_get xs i ≡ Some x → slice_get (xs ++ ys) i ≡ Some x
  get_front [] ys i x is = absurd (none-some x is)
  get_front (z ∷ zs) ys zero x is = is
  get_front (z ∷ zs) ys (suc i) x is = get_front zs ys i x is

  pub get_behind : (xs ys : List T) (i j : ℕ) (x : T) → length xs + j ≡ i → slice_get ys j ≡ Some x → slice_get (xs ++ ys) i ≡ Some x
  get_behind [] ys i j x at is = let e : i ≡ j = omega (arith, at) in ap (λ k. slice_get ys k) e ∙ is
  get_behind (z ∷ zs) ys zero j x at is = absurd (omega (arith, at))
  get_behind (z ∷ zs) ys (suc i) j x at is = get_behind zs ys i j x (omega (arith, at)) is

module _ {T : Type 0} where
  -- all elements, parted at a node
  pub parted : (nodes : List (Grown T)) (at : ℕ) (node : Grown T) → slice_get nodes at ≡ Some node
      → items_of nodes ≡ items_of (take at nodes) ++ (node.items ++ items_of (drop (suc at) nodes))
  parted [] at node found = absurd (none-some node found)
  parted (x ∷ xs) zero node found = ap (λ n. n.items ++ items_of xs) (same_Some x node found)
  parted (x ∷ xs) (suc at) node found =
      ap (λ ys. x.items ++ ys) (parted xs at node found)
      ∙ sym (append_assoc x.items (items_of (take at xs)) (node.items ++ items_of (drop (suc at) xs)))

  pub parted_set : (nodes : List (Grown T)) (at : ℕ) (node new : Grown T) → slice_get nodes at ≡ Some node
      → items_of (slice_set nodes at new) ≡ items_of (take at nodes) ++ (new.items ++ items_of (drop (suc at) nodes))
  parted_set [] at node new found = absurd (none-some node found)
  parted_set (x ∷ xs) zero node new found = refl
  parted_set (x ∷ xs) (suc at) node new found =
      ap (λ ys. x.items ++ ys) (parted_set xs at node new found)
      ∙ sym (append_assoc x.items (items_of (take at xs)) (new.items ++ items_of (drop (suc at) xs)))

  pub parted_pair : (nodes : List (Grown T)) (at : ℕ) (node new next : Grown T) → slice_get nodes at ≡ Some node
      → items_of (insert (slice_set nodes at new) (suc at) next)
      ≡ items_of (take at nodes) ++ (new.items ++ (next.items ++ items_of (drop (suc at) nodes)))
  parted_pair [] at node new next found = absurd (none-some node found)
  parted_pair (x ∷ xs) zero node new next found = refl
  parted_pair (x ∷ xs) (suc at) node new next found =
      ap (λ ys. x.items ++ ys) (parted_pair xs at node new next found)
      ∙ sym (append_assoc x.items (items_of (take at xs)) (new.items ++ (next.items ++ items_of (drop (suc at) xs))))

  -- two nodes stand in place of one that has their elements
  pub halved : (nodes : List (Grown T)) (at : ℕ) (node left right : Grown T) → slice_get nodes at ≡ Some node
      → left.items ++ right.items ≡ node.items
      → items_of (insert (slice_set nodes at left) (at + 1) right) ≡ items_of nodes
  halved nodes at node left right found same =
      let behind = items_of (drop (suc at) nodes) in
      let next : at + 1 ≡ suc at = omega arith in
      ap (λ i. items_of (insert (slice_set nodes at left) i right)) next
      ∙ parted_pair nodes at node left right found
      ∙ ap (λ ys. items_of (take at nodes) ++ ys) (sym (append_assoc left.items right.items behind) ∙ ap (λ ys. ys ++ behind) same)
      ∙ sym (parted nodes at node found)

  counted_next : (nodes : List (Grown T)) (at : ℕ) (node : Grown T) → slice_get nodes at ≡ Some node
      → length (items_of (take (suc at) nodes)) ≡ length (items_of (take at nodes)) + length node.items
  counted_next [] at node found = absurd (none-some node found)
  counted_next (x ∷ xs) zero node found =
      let e = ap (λ n. length n.items) (same_Some x node found) in
      omega (arith, length-append x.items [], e)
  counted_next (x ∷ xs) (suc at) node found =
      omega (
        arith,
        length-append x.items (items_of (take (suc at) xs)),
        length-append x.items (items_of (take at xs)),
        counted_next xs at node found,
      )

  pub counted : (nodes : List (Grown T)) (at : ℕ) (node : Grown T) → slice_get nodes at ≡ Some node
      → length (items_of (take (at + 1) nodes)) ≡ length (items_of (take at nodes)) + length node.items
  counted nodes at node found =
      let next : at + 1 ≡ suc at = omega arith in
      ap (λ i. length (items_of (take i nodes))) next ∙ counted_next nodes at node found

  -- an element of all is one of the node's
  pub read : (nodes : List (Grown T)) (index at rest : ℕ) (x : T) (l : LeadsTo nodes index at rest)
      → slice_get l.node.items rest ≡ Some x → slice_get (items_of nodes) index ≡ Some x
  read nodes index at rest x l is =
      ap (λ ys. slice_get ys index) (parted nodes at l.node l.found)
      ∙ get_behind (items_of (take at nodes)) (l.node.items ++ items_of (drop (suc at) nodes)) index rest x l.before
      (get_front l.node.items (items_of (drop (suc at) nodes)) rest x is)

  pub set_below : (nodes : List (Grown T)) (index at rest : ℕ) (x : T) (new : Grown T) (l : LeadsTo nodes index at rest)
      → rest < length l.node.items → new.items ≡ slice_set l.node.items rest x
      → items_of (slice_set nodes at new) ≡ slice_set (items_of nodes) index x
  set_below nodes index at rest x new l within is =
      let before = items_of (take at nodes) in
      let behind = items_of (drop (suc at) nodes) in
      parted_set nodes at l.node new l.found
      ∙ ap (λ ys. before ++ (ys ++ behind)) is
      ∙ sym (set_middle before l.node.items behind index rest l.before x within)
      ∙ ap (λ ys. slice_set ys index x) (sym (parted nodes at l.node l.found))

  pub inserted_below : (nodes : List (Grown T)) (index at rest : ℕ) (x : T) (new : Grown T) (l : LeadsTo nodes index at rest)
      → new.items ≡ insert l.node.items rest x
      → items_of (slice_set nodes at new) ≡ insert (items_of nodes) index x
  inserted_below nodes index at rest x new l is =
      let before = items_of (take at nodes) in
      let behind = items_of (drop (suc at) nodes) in
      parted_set nodes at l.node new l.found
      ∙ ap (λ ys. before ++ (ys ++ behind)) is
      ∙ sym (insert_middle before l.node.items behind index rest l.before x l.inside)
      ∙ ap (λ ys. insert ys index x) (sym (parted nodes at l.node l.found))

  pub removed_below : (nodes : List (Grown T)) (index at rest : ℕ) (new : Grown T) (l : LeadsTo nodes index at rest)
      → rest < length l.node.items → new.items ≡ remove l.node.items rest
      → items_of (slice_set nodes at new) ≡ remove (items_of nodes) index
  removed_below nodes index at rest new l within is =
      let before = items_of (take at nodes) in
      let behind = items_of (drop (suc at) nodes) in
      parted_set nodes at l.node new l.found
      ∙ ap (λ ys. before ++ (ys ++ behind)) is
      ∙ sym (remove_middle before l.node.items behind index rest l.before within)
      ∙ ap (λ ys. remove ys index) (sym (parted nodes at l.node l.found))

  -- a node that stays as it is
  pub kept_below : (nodes : List (Grown T)) (at : ℕ) (node new : Grown T) → slice_get nodes at ≡ Some node
      → new.items ≡ node.items → items_of (slice_set nodes at new) ≡ items_of nodes
  kept_below nodes at node new found is =
      parted_set nodes at node new found
      ∙ ap (λ ys. items_of (take at nodes) ++ (ys ++ items_of (drop (suc at) nodes))) is
      ∙ sym (parted nodes at node found)

  pub tallest_at : (nodes : List (Grown T)) (at : ℕ) (node : Grown T) → slice_get nodes at ≡ Some node → node.height < tallest nodes
  tallest_at [] at node found = absurd (none-some node found)
  tallest_at (x ∷ xs) zero node found = let e = ap (λ n. n.height) (same_Some x node found) in omega (arith, e)
  tallest_at (x ∷ xs) (suc at) node found = omega (arith, tallest_at xs at node found)

  pub tallest_set : (nodes : List (Grown T)) (at : ℕ) (new : Grown T) → tallest (slice_set nodes at new) ≤ max (tallest nodes) (new.height + 1)
  tallest_set [] at new = omega arith
  tallest_set (x ∷ xs) zero new = omega arith
  tallest_set (x ∷ xs) (suc at) new = omega (arith, tallest_set xs at new)

  -- the node of an index that code reads
  pub node_is : (nodes : List (Grown T)) (index at rest : ℕ) (node : Grown T) (l : LeadsTo nodes index at rest)
      → node ≡ get_or nodes at node → node ≡ l.node
  node_is nodes index at rest node l is = is ∙ get_or_from_slice_get nodes at l.node node l.found

  pub read_through : (own : List T) (nodes : List (Grown T)) (index at rest : ℕ) (x : T) (node : Grown T)
      → LeadsTo nodes (index - length own) at rest → length own ≤ index → node ≡ get_or nodes at node
      → slice_get node.items rest ≡ Some x → slice_get (own ++ items_of nodes) index ≡ Some x
  read_through own nodes index at rest x node l behind is found =
      get_behind own (items_of nodes) index (index - length own) x (omega (arith, behind))
      (read nodes (index - length own) at rest x l (ap (λ n. slice_get n.items rest) (sym (node_is nodes (index - length own) at rest node l is)) ∙ found))

module _ {T : Type 0} (own behind all : List T) (whole : own ++ behind ≡ all) (index : ℕ) where
  -- a change of the elements that a node has itself, and of those below it
  pub set_own : (new : List T) (x : T) → index < length own → new ≡ slice_set own index x → new ++ behind ≡ slice_set all index x
  set_own new x within is =
      ap (λ ys. ys ++ behind) is ∙ sym (set-append_left own behind index x within) ∙ ap (λ ys. slice_set ys index x) whole

  pub set_after : (new : List T) (x : T) → length own ≤ index → new ≡ slice_set behind (index - length own) x → own ++ new ≡ slice_set all index x
  set_after new x past is =
      ap (λ ys. own ++ ys) is ∙ sym (set-append_right own behind (length own) index x refl past) ∙ ap (λ ys. slice_set ys index x) whole

  pub insert_own : (new : List T) (x : T) → index ≤ length own → new ≡ insert own index x → new ++ behind ≡ insert all index x
  insert_own new x within is =
      ap (λ ys. ys ++ behind) is ∙ sym (insert-append_left own behind index x within) ∙ ap (λ ys. insert ys index x) whole

  pub insert_after : (new : List T) (x : T) → length own ≤ index → new ≡ insert behind (index - length own) x → own ++ new ≡ insert all index x
  insert_after new x past is =
      ap (λ ys. own ++ ys) is ∙ sym (insert-append_right own behind (length own) index x refl past) ∙ ap (λ ys. insert ys index x) whole

  pub remove_own : (new : List T) → index < length own → new ≡ remove own index → new ++ behind ≡ remove all index
  remove_own new within is =
      ap (λ ys. ys ++ behind) is ∙ sym (remove-append_left own behind index within) ∙ ap (λ ys. remove ys index) whole

  pub remove_after : (new : List T) → length own ≤ index → new ≡ remove behind (index - length own) → own ++ new ≡ remove all index
  remove_after new past is =
      ap (λ ys. own ++ ys) is ∙ sym (remove-append_right own behind (length own) index refl past) ∙ ap (λ ys. remove ys index) whole

-- what a block that was lent is left with, once one of its elements was written
pub written : {X : Type 0} (xs block lent left : List X) (i : ℕ) (y : X)
    → left ≡ refill (length block) block (slice_set lent i y)
    → lent ≡ block → block ≡ xs → left ≡ slice_set xs i y
written xs block lent left i y is same was =
    is
    ∙ refilled (length block) block (slice_set lent i y) (omega (arith, length-set lent i y, ap length same))
    ∙ ap (λ l. slice_set l i y) (same ∙ was)

pub lent_at : {X : Type 0} (xs lent : List X) (i : ℕ) (d : X) → d ≡ get_or lent i d → lent ≡ xs → d ≡ get_or xs i d
lent_at xs lent i d is same = is ∙ ap (λ l. get_or l i d) same

-- one node of a block that was lent is changed: `seen` is what was searched, and `left` what stays
module _ {T : Type 0} (nodes seen block lent left : List (Grown T)) (index at rest : ℕ) (d new : Grown T) (old : seen ≡ nodes)
    (leads : LeadsTo seen index at rest) (is : left ≡ refill (length block) block (slice_set lent at new)) (same : lent ≡ block)
    (was : block ≡ nodes) where
  lead : LeadsTo nodes index at rest
  lead = subst (λ ns. LeadsTo ns index at rest) old leads

  became : left ≡ slice_set nodes at new
  became = written nodes block lent left at new is same was

  node_was : get_or lent at d ≡ lead.node
  node_was = ap (λ ns. get_or ns at d) (same ∙ was) ∙ get_or_from_slice_get nodes at lead.node d lead.found

  inside : IfSome (slice_get seen at) (λ node. rest < length node.items) → rest < length lead.node.items
  inside within =
      subst (λ o. IfSome o (λ node. rest < length node.items)) lead.found
      (subst (λ ns. IfSome (slice_get ns at) (λ node. rest < length node.items)) old within)

  pub lent_tallest : new.height ≡ (get_or lent at d).height → tallest left ≤ tallest nodes
  lent_tallest height =
      let e = ap (λ ns. tallest ns) became in
      let h = height ∙ ap (λ n. n.height) node_was in
      omega (arith, e, h, tallest_set nodes at new, tallest_at nodes at lead.node lead.found)

  pub lent_kept : new.items ≡ (get_or lent at d).items → items_of left ≡ items_of nodes
  lent_kept kept =
      ap (λ ns. items_of ns) became ∙ kept_below nodes at lead.node new lead.found (kept ∙ ap (λ n. n.items) node_was)

  pub lent_set : (x : T) → IfSome (slice_get seen at) (λ node. rest < length node.items)
      → new.items ≡ slice_set (get_or lent at d).items rest x → items_of left ≡ slice_set (items_of nodes) index x
  lent_set x within set =
      ap (λ ns. items_of ns) became
      ∙ set_below nodes index at rest x new lead (inside within) (set ∙ ap (λ n. slice_set n.items rest x) node_was)

  pub lent_insert : (x : T) → new.items ≡ insert (get_or lent at d).items rest x → items_of left ≡ insert (items_of nodes) index x
  lent_insert x set =
      ap (λ ns. items_of ns) became
      ∙ inserted_below nodes index at rest x new lead (set ∙ ap (λ n. insert n.items rest x) node_was)

  pub lent_remove : IfSome (slice_get seen at) (λ node. rest < length node.items)
      → new.items ≡ remove (get_or lent at d).items rest → items_of left ≡ remove (items_of nodes) index
  lent_remove within set =
      ap (λ ns. items_of ns) became
      ∙ removed_below nodes index at rest new lead (inside within) (set ∙ ap (λ n. remove n.items rest) node_was)

  pub lent_read : (x : T) → slice_get (get_or lent at d).items rest ≡ Some x → slice_get (items_of nodes) index ≡ Some x
  lent_read x found = read nodes index at rest x lead (ap (λ n. slice_get n.items rest) (sym node_was) ∙ found)

module _ {T : Type 0} where
  pub taken_within : (nodes : List (Grown T)) (at : ℕ) (node : Grown T) → node ≡ get_or nodes at node → at < length nodes
      → length (items_of (take at nodes)) + length node.items ≤ length (items_of nodes)
  taken_within nodes at node is within =
      omega (arith, length-flat_map-take (λ (n : Grown T). n.items) nodes at node within, ap (λ n. length n.items) is)

  pub tallest_take : (nodes : List (Grown T)) (n : ℕ) → tallest (take n nodes) ≤ tallest nodes
  tallest_take [] zero = omega arith
  tallest_take [] (suc n) = omega arith
  tallest_take (x ∷ xs) zero = omega arith
  tallest_take (x ∷ xs) (suc n) = omega (arith, tallest_take xs n)

  pub tallest_drop : (nodes : List (Grown T)) (n : ℕ) → tallest (drop n nodes) ≤ tallest nodes
  tallest_drop [] zero = omega arith
  tallest_drop [] (suc n) = omega arith
  tallest_drop (x ∷ xs) zero = omega arith
  tallest_drop (x ∷ xs) (suc n) = omega (arith, tallest_drop xs n)

  pub tallest_insert : (nodes : List (Grown T)) (i : ℕ) (x : Grown T) → tallest (insert nodes i x) ≤ max (tallest nodes) (x.height + 1)
  tallest_insert nodes i x =
      omega (
        arith,
        most-append (λ (n : Grown T). n.height + 1) (take i nodes) (x ∷ drop i nodes),
        tallest_take nodes i,
        tallest_drop nodes i,
      )

  -- what stays of some nodes, before and behind a place
  pub low_front : (nodes front : List (Grown T)) (n h : ℕ) → front ≡ take n nodes → tallest nodes ≤ h → tallest front ≤ h
  low_front nodes front n h is low = omega (arith, ap (λ ns. tallest ns) is, tallest_take nodes n)

  pub low_back : (nodes back : List (Grown T)) (n h : ℕ) → back ≡ drop n nodes → tallest nodes ≤ h → tallest back ≤ h
  low_back nodes back n h is low = omega (arith, ap (λ ns. tallest ns) is, tallest_drop nodes n)

  both : (nodes : List (Grown T)) (n : ℕ) → items_of (take n nodes) ++ items_of (drop n nodes) ≡ items_of nodes
  both [] zero = refl
  both [] (suc n) = refl
  both (x ∷ xs) zero = refl
  both (x ∷ xs) (suc n) =
      append_assoc x.items (items_of (take n xs)) (items_of (drop n xs)) ∙ ap (λ ys. x.items ++ ys) (both xs n)

  pub rejoined : (nodes front back : List (Grown T)) (n : ℕ) → front ≡ take n nodes → back ≡ drop n nodes
      → items_of front ++ items_of back ≡ items_of nodes
  rejoined nodes front back n f b = ap (λ ns. items_of ns ++ items_of back) f ∙ ap (λ ns. items_of (take n nodes) ++ items_of ns) b ∙ both nodes n

  pub rejoined_length : (nodes front back : List (Grown T)) (n : ℕ) → front ≡ take n nodes → back ≡ drop n nodes
      → length (items_of front) + length (items_of back) ≡ length (items_of nodes)
  rejoined_length nodes front back n f b = sym (length-append (items_of front) (items_of back)) ∙ ap length (rejoined nodes front back n f b)

-- a node is put in place of another, and one more behind it
module _ {T : Type 0} (nodes seen read block full : List (Grown T)) (index at rest : ℕ) (d left right : Grown T) (old : seen ≡ nodes)
    (leads : LeadsTo seen index at rest) (again : read ≡ nodes) (is : d ≡ get_or read at d) (was : block ≡ nodes)
    (put : full ≡ insert (slice_set block at left) (at + 1) right) where
  place_of : LeadsTo nodes index at rest
  place_of = subst (λ ns. LeadsTo ns index at rest) old leads

  node_read : d ≡ place_of.node
  node_read = is ∙ ap (λ ns. get_or ns at d) again ∙ get_or_from_slice_get nodes at place_of.node d place_of.found

  full_is : full ≡ insert (slice_set nodes at left) (at + 1) right
  full_is = put ∙ ap (λ ns. insert (slice_set ns at left) (at + 1) right) was

  pub halved_items : left.items ++ right.items ≡ d.items → items_of full ≡ items_of nodes
  halved_items same =
      ap (λ ns. items_of ns) full_is ∙ halved nodes at place_of.node left right place_of.found (same ∙ ap (λ n. n.items) node_read)

  pub halved_tallest : left.height ≡ d.height → right.height ≡ d.height → tallest full ≤ tallest nodes
  halved_tallest l r =
      omega (
        arith,
        ap (λ ns. tallest ns) full_is,
        ap (λ n. n.height) node_read,
        tallest_insert (slice_set nodes at left) (at + 1) right,
        tallest_set nodes at left,
        tallest_at nodes at place_of.node place_of.found,
      )

pub length_0 : {T : Type 0} (xs : List T) → length xs ≡ 0 → xs ≡ []
length_0 [] none = refl
length_0 (x ∷ xs) none = absurd (omega (arith, none))

module _ {T : Type 0} where
  pub parted_remove : (nodes : List (Grown T)) (at : ℕ) → items_of (remove nodes at) ≡ items_of (take at nodes) ++ items_of (drop (suc at) nodes)
  parted_remove nodes at = flat_map-append (λ (n : Grown T). n.items) (take at nodes) (drop (suc at) nodes)

  -- a node of no element goes
  pub emptied : (nodes new : List (Grown T)) (at : ℕ) (d : Grown T) → new ≡ remove nodes at → d ≡ get_or nodes at d → at < length nodes
      → length d.items ≡ 0 → items_of new ≡ items_of nodes
  emptied nodes new at d is there within none =
      let found = slice_get-get_or nodes at d within in
      let nothing : (get_or nodes at d).items ≡ [] = length_0 _ (ap (λ n. length n.items) (sym there) ∙ none) in
      ap (λ ns. items_of ns) is ∙ parted_remove nodes at
      ∙ ap (λ ys. items_of (take at nodes) ++ (ys ++ items_of (drop (suc at) nodes))) (sym nothing)
      ∙ sym (parted nodes at (get_or nodes at d) found)

  pub tallest_remove : (nodes new : List (Grown T)) (at : ℕ) → new ≡ remove nodes at → tallest new ≤ tallest nodes
  tallest_remove nodes new at is =
      omega (
        arith,
        ap (λ ns. tallest ns) is,
        most-append (λ (n : Grown T). n.height + 1) (take at nodes) (drop (suc at) nodes),
        tallest_take nodes at,
        tallest_drop nodes (suc at),
      )

  pub pair_joined : (nodes : List (Grown T)) (at : ℕ) (left right both : Grown T) → slice_get nodes at ≡ Some left → slice_get nodes (suc at) ≡ Some right
      → both.items ≡ left.items ++ right.items → items_of (remove (slice_set nodes at both) (suc at)) ≡ items_of nodes
  pair_joined [] at left right both l r is = absurd (none-some left l)
  pair_joined (x ∷ []) zero left right both l r is = absurd (none-some right r)
  pair_joined (x ∷ (y ∷ ys)) zero left right both l r is =
      ap (λ zs. zs ++ items_of ys) is
      ∙ append_assoc left.items right.items (items_of ys)
      ∙ ap (λ n. n.items ++ (right.items ++ items_of ys)) (sym (same_Some x left l))
      ∙ ap (λ n. x.items ++ (n.items ++ items_of ys)) (sym (same_Some y right r))
  pair_joined (x ∷ xs) (suc at) left right both l r is = ap (λ ys. x.items ++ ys) (pair_joined xs at left right both l r is)
