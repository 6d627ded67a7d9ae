-- The elements of two nodes in one.
use Rattle.std.proofs.Common.{◌≡◌, ◌≢◌, ◌<◌, ◌≤◌, ◌+◌, ◌^◌, ℕ, zero, suc, Bool, true, false, List, [], ◌∷◌, ◌++◌, Some, length, take, drop, get_or, slice_get, slice_set, inl, inr, refl, ap, subst, sym, ◌∙◌, arith, append-nil, append_assoc, length-append}
use Rattle.std.specs.Prelude.{◌⊎◌, IsTrue, IsFalse}
use Rattle.std.proofs.lemmas.List.Concat.{flat_map-append}
use Rattle.ecow_tree.specs.Grown.{Grown}
use Rattle.ecow_tree.specs.Nodes.{items_of, Fits, AllFit, CanStand, IsNode}
use Rattle.ecow_tree.proofs.Fits.{fit_append, fit_at, fit_set}
use Rattle.ecow_tree.proofs.Inside.{inner_all}
use Rattle.ecow_tree.proofs.More.{none_behind}
use Rattle.ecow_tree.proofs.Parts.{parted, parted_set}

module _ {T : Type 0} where
  -- a node that stands in another with the nodes below it, or itself
  pub below_high : (h : ℕ) (node : Grown T) → CanStand h node → node.height ≡ h → 0 < h
  below_high h node (inl (some, same)) is = some
  below_high h node (inr fits) is = absurd (omega (arith, fits.height, is))

  pub fits_below : (h : ℕ) (node : Grown T) → CanStand h node → node.height ≢ h → Fits h node
  fits_below h node (inl (some, same)) other = absurd (other same)
  fits_below h node (inr fits) other = fits

  pub alone_items : (nodes none : List (Grown T)) (node copy : Grown T) → nodes ≡ none ++ copy ∷ [] → none ≡ [] → copy ≡ node
      → items_of nodes ≡ node.items
  alone_items nodes none node copy is empty same =
      ap (λ ns. items_of ns) (is ∙ ap (λ ns. ns ++ copy ∷ []) empty ∙ ap (λ n. n ∷ []) same) ∙ append-nil node.items

  pub alone_fits : (h : ℕ) (nodes none : List (Grown T)) (node copy : Grown T) → nodes ≡ none ++ copy ∷ [] → none ≡ [] → copy ≡ node
      → Fits h node → AllFit h nodes
  alone_fits h nodes none node copy is empty same fits =
      subst (AllFit h) (sym (is ∙ ap (λ ns. ns ++ copy ∷ []) empty ∙ ap (λ n. n ∷ []) same)) (fits, tt)

  -- the nodes of two vectors
  pub both_items : (nodes first second : List (Grown T)) (left right : List T) → nodes ≡ first ++ second → items_of first ≡ left
      → items_of second ≡ right → items_of nodes ≡ left ++ right
  both_items nodes first second left right is l r =
      ap (λ ns. items_of ns) is ∙ flat_map-append (λ n. n.items) first second ∙ ap (λ ys. ys ++ items_of second) l ∙ ap (λ ys. left ++ ys) r

  pub both_fit : (h : ℕ) (nodes first second : List (Grown T)) → nodes ≡ first ++ second → AllFit h first → AllFit h second → AllFit h nodes
  both_fit h nodes first second is l r = subst (AllFit h) (sym is) (fit_append h first second l r)

  -- a leaf with an element fits below a node of height 1
  pub leaf_fits : (node : Grown T) → node.height ≡ 0 → 0 < length node.items → Fits 1 node
  leaf_fits node low some = let power : 4 ^ node.height ≡ 1 = ap (λ n. 4 ^ n) low in
      record { height = omega (arith, low); weight = omega (arith, power, some) }

  -- one of the nodes below takes more elements, and they stand at the end of all
  module _ (nodes : List (Grown T)) (at : ℕ) (child new : Grown T) (found : slice_get nodes at ≡ Some child) (more : List T) where
    pub last_more : at + 1 ≡ length nodes → new.items ≡ child.items ++ more → items_of (slice_set nodes at new) ≡ items_of nodes ++ more
    last_more last is =
        let before = items_of (take at nodes) in
        let none : items_of (drop (suc at) nodes) ≡ [] = ap (λ ns. items_of ns) (none_behind nodes (suc at) (omega (arith, last))) in
        parted_set nodes at child new found
        ∙ ap (λ ys. before ++ (new.items ++ ys)) none ∙ ap (λ ys. before ++ ys) (append-nil new.items ∙ is)
        ∙ sym (append_assoc before child.items more)
        ∙ ap (λ ys. (before ++ ys) ++ more) (sym (append-nil child.items))
        ∙ sym (ap (λ ys. (before ++ (child.items ++ ys)) ++ more) none)
        ∙ ap (λ ys. ys ++ more) (sym (parted nodes at child found))

    pub first_more : at ≡ 0 → new.items ≡ more ++ child.items → items_of (slice_set nodes at new) ≡ more ++ items_of nodes
    first_more first is =
        let behind = items_of (drop (suc at) nodes) in
        let none : items_of (take at nodes) ≡ [] = ap (λ n. items_of (take n nodes)) first in
        parted_set nodes at child new found
        ∙ ap (λ ys. ys ++ (new.items ++ behind)) none ∙ ap (λ ys. ys ++ behind) is ∙ append_assoc more child.items behind
        ∙ ap (λ ys. more ++ (ys ++ (child.items ++ behind))) (sym none)
        ∙ ap (λ ys. more ++ ys) (sym (parted nodes at child found))

    pub more_fit : (h : ℕ) → AllFit h nodes → new.height ≡ child.height → length new.items ≡ length child.items + length more
        → AllFit h (slice_set nodes at new)
    more_fit h all height counted =
        let was = fit_at h nodes at child all found in
        let power : 4 ^ new.height ≡ 4 ^ child.height = ap (λ n. 4 ^ n) height in
        fit_set h nodes at new all (record { height = omega (arith, height, was.height); weight = omega (arith, power, was.weight, counted) })

  -- the same at either end
  pub ended_len : (b : Bool) (new child more : List T) → (IsTrue b → new ≡ child ++ more) → (IsFalse b → new ≡ more ++ child)
      → length new ≡ length child + length more
  ended_len true new child more back front = omega (arith, ap length (back refl), length-append child more)
  ended_len false new child more back front = omega (arith, ap length (front refl), length-append more child)

  pub ended_total : (b : Bool) (nodes : List (Grown T)) (at : ℕ) (child new : Grown T) (found : slice_get nodes at ≡ Some child) (more : List T)
      → (IsTrue b → at + 1 ≡ length nodes) → (IsFalse b → at ≡ 0)
      → (IsTrue b → new.items ≡ child.items ++ more) → (IsFalse b → new.items ≡ more ++ child.items)
      → length (items_of (slice_set nodes at new)) ≡ length (items_of nodes) + length more
  ended_total true nodes at child new found more last first back front =
      omega (arith, ap length (last_more nodes at child new found more (last refl) (back refl)), length-append (items_of nodes) more)
  ended_total false nodes at child new found more last first back front =
      omega (arith, ap length (first_more nodes at child new found more (first refl) (front refl)), length-append more (items_of nodes))
