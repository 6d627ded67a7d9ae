-- A list of nodes that is cut in two at an index.
use Rattle.std.proofs.Common.{◌≡◌, ◌<◌, ◌≤◌, ◌+◌, ◌-◌, ℕ, zero, suc, List, [], ◌∷◌, ◌++◌, Some, length, take, drop, get_or, slice_get, slice_set, refl, ap, subst, sym, ◌∙◌, arith, append-nil, append_assoc, length-append, length-drop}
use Rattle.std.proofs.Math.Seq.{take-append-add, take-append_seam}
use Rattle.std.proofs.lemmas.Option.{get_or_from_slice_get, slice_get-get_or}
use Rattle.std.proofs.lemmas.List.{take-append-drop}
use Rattle.std.specs.List.{insert, refill}
use Rattle.ecow_base.specs.Clones.{ClonesAreEqual}
use Rattle.ecow_list.specs.Vectors.{IsKept}
use Rattle.ecow_tree.specs.Kept.{AreKept, SomeKept}
use Rattle.ecow_tree.proofs.Kept.{joined, from_vec, all_kept, same, long, unchanged}
use Rattle.ecow_tree.specs.Grown.{Grown}
use Rattle.ecow_tree.specs.Nodes.{items_of, LeadsTo}
use Rattle.ecow_tree.proofs.More.{all_taken, length_taken, none_behind}
use Rattle.ecow_tree.proofs.Parts.{parted, parted_set, parted_pair, written}

module _ {X : Type 0} where
  take_front : (xs ys : List X) (n : ℕ) → n ≤ length xs → take n (xs ++ ys) ≡ take n xs
  take_front [] ys zero within = refl
  take_front [] ys (suc n) within = absurd (omega (arith, within))
  take_front (x ∷ xs) ys zero within = refl
  take_front (x ∷ xs) ys (suc n) within = ap (λ l. x ∷ l) (take_front xs ys n (omega (arith, within)))

  drop_front : (xs ys : List X) (n : ℕ) → n ≤ length xs → drop n (xs ++ ys) ≡ drop n xs ++ ys
  drop_front [] ys zero within = refl
  drop_front [] ys (suc n) within = absurd (omega (arith, within))
  drop_front (x ∷ xs) ys zero within = refl
  drop_front (x ∷ xs) ys (suc n) within = drop_front xs ys n (omega (arith, within))

  drop_behind : (xs ys : List X) (n : ℕ) → drop (length xs + n) (xs ++ ys) ≡ drop n ys
  drop_behind [] ys n = let none : 0 + n ≡ n = omega arith in ap (λ m. drop m ys) none
  drop_behind (x ∷ xs) ys n =
      let next : suc (length xs) + n ≡ suc (length xs + n) = omega arith in
      ap (λ m. drop m (x ∷ (xs ++ ys))) next ∙ drop_behind xs ys n

module _ {T : Type 0} (nodes : List (Grown T)) (at there rest : ℕ) (l : LeadsTo nodes at there rest) where
  abbrev before : List T
  before = items_of (take there nodes)

  abbrev behind : List T
  behind = items_of (drop (suc there) nodes)

  pub cut_front : take at (items_of nodes) ≡ before ++ take rest l.node.items
  cut_front =
      ap (take at) (parted nodes there l.node l.found)
      ∙ ap (λ n. take n (before ++ (l.node.items ++ behind))) (sym l.before)
      ∙ take-append-add before (l.node.items ++ behind) rest
      ∙ ap (λ ys. before ++ ys) (take_front l.node.items behind rest l.inside)

  pub cut_back : drop at (items_of nodes) ≡ drop rest l.node.items ++ behind
  cut_back =
      ap (drop at) (parted nodes there l.node l.found)
      ∙ ap (λ n. drop n (before ++ (l.node.items ++ behind))) (sym l.before)
      ∙ drop_behind before (l.node.items ++ behind) rest
      ∙ drop_front l.node.items behind rest l.inside

-- the nodes from an index on, as a slice
pub slice_from : {X : Type 0} (xs : List X) (n : ℕ) → take (length xs - n) (drop n xs) ≡ drop n xs
slice_from xs n = all_taken (drop n xs) (length xs - n) (omega (arith, length-drop n xs))

-- the node at which code looks for the cut
module _ {T : Type 0} (nodes seen : List (Grown T)) (all : List T) (at there rest : ℕ) (d : Grown T) (old : seen ≡ nodes) (whole : items_of nodes ≡ all)
    (l : LeadsTo seen at there rest) (is : d ≡ get_or seen there d) where
  node_is : d ≡ l.node
  node_is = is ∙ get_or_from_slice_get seen there l.node d l.found

  behind_is : items_of (take (length seen - (there + 1)) (drop (there + 1) seen)) ≡ items_of (drop (suc there) seen)
  behind_is =
      let next : there + 1 ≡ suc there = omega arith in
      ap (λ ns. items_of ns) (slice_from seen (there + 1)) ∙ ap (λ n. items_of (drop n seen)) next

  all_is : items_of seen ≡ all
  all_is = ap (λ ns. items_of ns) old ∙ whole

  total : length (items_of (take there seen)) + (length l.node.items + length (items_of (drop (suc there) seen))) ≡ length all
  total =
      omega (
        arith,
        ap length (sym all_is ∙ parted seen there l.node l.found),
        length-append (items_of (take there seen)) (l.node.items ++ items_of (drop (suc there) seen)),
        length-append l.node.items (items_of (drop (suc there) seen)),
      )

  pub before_within : length (items_of (take there seen)) + length (take rest d.items) ≤ length all
  before_within =
      omega (arith, total, ap (λ n. length n.items) node_is, length_taken rest d.items (omega (arith, ap (λ n. length n.items) node_is, l.inside)), l.inside)

  pub behind_within : length (drop rest d.items) + length (items_of (take (length seen - (there + 1)) (drop (there + 1) seen))) ≤ length all
  behind_within = omega (arith, total, ap length behind_is, ap (λ n. length n.items) node_is, length-drop rest d.items)

  pub front_half : (before front half : List T) → before ≡ items_of (take there seen) → front ≡ take rest d.items → half ≡ before ++ front → half ≡ take at all
  front_half before front half b f is-half =
      is-half ∙ ap (λ ys. ys ++ front) b
      ∙ ap (λ ys. items_of (take there seen) ++ ys) (f ∙ ap (λ n. take rest n.items) node_is)
      ∙ sym (cut_front seen at there rest l) ∙ ap (take at) all_is

  pub back_half : (back behind half : List T) → back ≡ drop rest d.items
      → behind ≡ items_of (take (length seen - (there + 1)) (drop (there + 1) seen)) → half ≡ back ++ behind → half ≡ drop at all
  back_half back behind half b h is-half =
      is-half ∙ ap (λ ys. ys ++ behind) (b ∙ ap (λ n. drop rest n.items) node_is)
      ∙ ap (λ ys. drop rest l.node.items ++ ys) (h ∙ behind_is)
      ∙ sym (cut_back seen at there rest l) ∙ ap (drop at) all_is

plus_none : (n : ℕ) → n ≡ n + 0
plus_none n = omega arith

-- a leaf whose elements were split
module _ {T : Type 0} (is_clone : T → T → Type 0) (own all new rest : List T) (nodes : List (Grown T)) (at : ℕ) (none : nodes ≡ [])
    (whole : own ≡ all) (k : IsKept is_clone (take at own) new) (r : IsKept is_clone (drop at own) rest) (len : length new ≡ at) where
  pub split_kept : (leaf : List T) → leaf ≡ rest → SomeKept is_clone all (λ xs. (new ++ items_of nodes ≡ take at xs) × (leaf ≡ drop at xs))
  split_kept leaf is = (
    new ++ rest,
    subst (λ ys. AreKept is_clone ys (new ++ rest)) (take-append-drop at own ∙ whole)
        (joined is_clone (take at own) (drop at own) new rest (from_vec is_clone (take at own) new k) (from_vec is_clone (drop at own) rest r)),
    (
      ap (λ ns. new ++ items_of ns) none ∙ append-nil new ∙ sym (ap (λ n. take n (new ++ rest)) (sym len) ∙ take-append_seam new rest),
      is ∙ sym (ap (λ n. drop n (new ++ rest)) (sym len ∙ plus_none (length new)) ∙ drop_behind new rest 0),
    ),
  )

-- two leaves stand in place of the one that was split
pub cut_kept : {T : Type 0} (is_clone : T → T → Type 0) (nodes left : List (Grown T)) (there at : ℕ) (d first second : Grown T)
    → slice_get nodes there ≡ Some d → left ≡ insert (slice_set nodes there first) (there + 1) second
    → SomeKept is_clone d.items (λ xs. (first.items ≡ take at xs) × (second.items ≡ drop at xs))
    → AreKept is_clone (items_of nodes) (items_of left)
cut_kept is_clone nodes left there at d first second found put (k, is, parts) =
    let next : there + 1 ≡ suc there = omega arith in
    let before = items_of (take there nodes) in
    let behind = items_of (drop (suc there) nodes) in
    let whole : first.items ++ (second.items ++ behind) ≡ k ++ behind =
    sym (append_assoc first.items second.items behind)
    ∙ ap (λ ys. ys ++ behind) (ap (λ ys. ys ++ second.items) parts.0 ∙ ap (λ ys. take at k ++ ys) parts.1 ∙ take-append-drop at k) in
    subst (AreKept is_clone (items_of nodes))
    (sym (ap (λ ns. items_of ns) put ∙ ap (λ i. items_of (insert (slice_set nodes there first) i second)) next
    ∙ parted_pair nodes there d first second found ∙ ap (λ ys. before ++ ys) whole))
    (all_kept is_clone nodes there d found k is)

-- a node of a block that was lent keeps its elements, or clones of them
pub placed_are_kept : {T : Type 0} (is_clone : T → T → Type 0) (nodes block lent left : List (Grown T)) (at : ℕ) (d new : Grown T) → at < length nodes
    → left ≡ refill (length block) block (slice_set lent at new) → lent ≡ block → block ≡ nodes
    → AreKept is_clone (get_or lent at d).items new.items → AreKept is_clone (items_of nodes) (items_of left)
placed_are_kept is_clone nodes block lent left at d new bound is same was k =
    let found = slice_get-get_or nodes at d bound ∙ ap Some (ap (λ ns. get_or ns at d) (sym (same ∙ was))) in
    subst (AreKept is_clone (items_of nodes))
    (sym (ap (λ ns. items_of ns) (written nodes block lent left at new is same was) ∙ parted_set nodes at (get_or lent at d) new found))
    (all_kept is_clone nodes at (get_or lent at d) found new.items k)

-- what a call says of the old elements, where clones equal their sources, and how many are left
module _ {T : Type 0} (is_clone : T → T → Type 0) (old front back : List T) (at : ℕ) where
  pub halves_exact : ClonesAreEqual is_clone → SomeKept is_clone old (λ xs. (front ≡ take at xs) × (back ≡ drop at xs))
      → (front ≡ take at old) × (back ≡ drop at old)
  halves_exact equal (k, is, parts) = subst (λ xs. (front ≡ take at xs) × (back ≡ drop at xs)) (unchanged is_clone equal old k is) parts

  pub halves_len : at ≤ length old → SomeKept is_clone old (λ xs. (front ≡ take at xs) × (back ≡ drop at xs))
      → (length front ≡ at) × (length back ≡ length old - at)
  halves_len within (k, is, parts) =
      let count : length k ≡ length old = long is_clone old k is in (
        ap length parts.0 ∙ length_taken at k (omega (arith, within, count)),
        omega (arith, ap length parts.1, length-drop at k, count),
      )

  pub halves_whole : at ≡ length old → front ≡ old → back ≡ [] → SomeKept is_clone old (λ xs. (front ≡ take at xs) × (back ≡ drop at xs))
  halves_whole all f b = (
    old,
    same is_clone old,
    (f ∙ sym (all_taken old at (omega (arith, all))), b ∙ sym (none_behind old at (omega (arith, all)))),
  )

  pub halves_none : at ≡ 0 → front ≡ [] → back ≡ old → SomeKept is_clone old (λ xs. (front ≡ take at xs) × (back ≡ drop at xs))
  halves_none none f b = (old, same is_clone old, (f ∙ ap (λ n. take n old) (sym none), b ∙ ap (λ n. drop n old) (sym none)))

module _ {T : Type 0} (is_clone : T → T → Type 0) where
  kept_take : (n : ℕ) (xs ks : List T) → AreKept is_clone xs ks → AreKept is_clone (take n xs) (take n ks)
  kept_take zero xs ks each = tt
  kept_take (suc n) [] [] each = tt
  kept_take (suc n) [] (k ∷ ks) each = absurd each
  kept_take (suc n) (x ∷ xs) [] each = absurd each
  kept_take (suc n) (x ∷ xs) (k ∷ ks) each = (each.0, kept_take n xs ks each.1)

  -- what is left of a tree that is shortened
  pub shortened : (old front back : List T) (n : ℕ) → SomeKept is_clone old (λ xs. (front ≡ take n xs) × (back ≡ drop n xs))
      → AreKept is_clone (take n old) front
  shortened old front back n (k, is, parts) = subst (AreKept is_clone (take n old)) (sym parts.0) (kept_take n old k is)

  pub not_shortened : (old : List T) (n : ℕ) → length old ≤ n → AreKept is_clone (take n old) old
  not_shortened old n past = subst (λ xs. AreKept is_clone xs old) (sym (all_taken old n past)) (same is_clone old)
