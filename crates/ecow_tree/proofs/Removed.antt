-- Nodes that are joined, and one that goes with its element.
use Rattle.std.proofs.Common.{◌≡◌, ◌<◌, ◌≤◌, ◌+◌, ◌*◌, ◌^◌, ℕ, zero, suc, List, [], ◌∷◌, ◌++◌, Some, length, take, drop, get_or, slice_get, ap, subst, sym, ◌∙◌, arith, inl, inr, length-append, append-nil}
use Rattle.std.proofs.Math.Nat.{pow-succ'}
use Rattle.std.specs.List.{remove}
use Rattle.std.proofs.lemmas.List.Concat.{flat_map-append}
use Rattle.std.proofs.lemmas.Option.{same_Some, slice_get-get_or}
use Rattle.ecow_tree.specs.Grown.{Grown}
use Rattle.ecow_tree.specs.Kept.{Removes}
use Rattle.ecow_tree.specs.Nodes.{items_of, CanSpare, LeadsTo}
use Rattle.ecow_tree.proofs.Fits.{four_pos}
use Rattle.ecow_tree.proofs.Kept.{kept_removed, remove_below}
use Rattle.ecow_tree.proofs.Parts.{counted, length_0, parted_remove, taken_within}

module _ {T : Type 0} where
  pub some_nodes : (nodes : List (Grown T)) → 0 < length (items_of nodes) → 0 < length nodes
  some_nodes [] some = absurd (omega (arith, some))
  some_nodes (x ∷ xs) some = omega arith

  pub pair_within : (nodes : List (Grown T)) (at : ℕ) (l r : Grown T) → l ≡ get_or nodes at l → r ≡ get_or nodes (at + 1) r → at + 1 < length nodes
      → length l.items + length r.items ≤ length (items_of nodes)
  pair_within nodes at l r is_l is_r within =
      omega (
        arith,
        taken_within nodes (at + 1) r is_r within,
        counted nodes at l (slice_get-get_or nodes at l (omega (arith, within)) ∙ ap Some (sym is_l)),
      )

  pub joined_len : (xs ys : List (Grown T)) (n m : ℕ) → n ≡ length (items_of xs) → m ≡ length (items_of ys) → n + m ≡ length (items_of (xs ++ ys))
  joined_len xs ys n m left right =
      omega (
        arith,
        left,
        right,
        ap length (flat_map-append (λ (n : Grown T). n.items) xs ys),
        length-append (items_of xs) (items_of ys),
      )

  pub joined_items : (xs ys : List (Grown T)) → items_of (xs ++ ys) ≡ items_of xs ++ items_of ys
  joined_items xs ys = flat_map-append (λ (n : Grown T). n.items) xs ys

  -- a node of one element that can spare it is a leaf
  pub spare_leaf : (d : Grown T) → CanSpare d → length d.items ≡ 1 → d.height ≡ 0
  spare_leaf d (inl leaf) one = leaf
  spare_leaf d (inr more) one = absurd (omega (arith, four_pos d.height, more, one))

  -- a node that goes with its only element
  pub removed_node : (is_clone : T → T → Type 0) (nodes left : List (Grown T)) (at all : ℕ) (d : Grown T) (x : T) (after : List T) → LeadsTo nodes all at 0
      → slice_get nodes at ≡ Some d → left ≡ remove nodes at → length d.items ≡ 1 → Removes is_clone d.items 0 x after
      → Removes is_clone (items_of nodes) all x (items_of left)
  removed_node is_clone nodes left at all d x after l found is one k =
      let same_node : d ≡ l.node = same_Some d l.node (sym found ∙ l.found) in
      let gone : after ≡ [] = length_0 after (omega (arith, kept_removed is_clone d.items after 0 x (omega (arith, one)) k, one)) in
      subst (λ ys. Removes is_clone (items_of nodes) all x ys)
      (ap (λ ys. items_of (take at nodes) ++ (ys ++ items_of (drop (suc at) nodes))) gone ∙ sym (parted_remove nodes at) ∙ ap (λ ns. items_of ns) (sym is))
      (remove_below is_clone nodes all at 0 l x after (subst (λ (n : Grown T). 0 < length n.items) same_node (omega (arith, one)))
      (subst (λ (n : Grown T). Removes is_clone n.items 0 x after) same_node k))

  -- the element of a root, and those of the one node below
  pub lone_items : (nodes : List (Grown T)) (d : Grown T) → length nodes ≡ 1 → d ≡ get_or nodes 0 d → d.items ≡ items_of nodes
  lone_items [] d one is = absurd (omega (arith, one))
  lone_items (x ∷ []) d one is = ap (λ n. n.items) is ∙ sym (append-nil x.items)
  lone_items (x ∷ (y ∷ ys)) d one is = absurd (omega (arith, one))

pub two_some : (h n : ℕ) → 0 < h → 4 ^ h < 4 * n → 2 ≤ n
two_some zero n low more = absurd (omega (arith, low))
two_some (suc h) n low more = omega (arith, pow-succ' 4 h, four_pos h, more)
