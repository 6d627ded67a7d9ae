-- What the elements of a node are: those of a leaf, or those of the nodes below.
use Rattle.std.proofs.Common.{◌≡◌, ◌≢◌, ◌<◌, ◌*◌, ◌^◌, ℕ, zero, suc, List, [], ◌++◌, length, sym, ap, ◌∙◌, arith, append-nil}
use Rattle.ecow_tree.specs.Grown.{Grown}
use Rattle.ecow_tree.specs.Nodes.{items_of, Fits, AllFit, IsNode}
use Rattle.ecow_tree.proofs.Fits.{fit_none, fit_low, fit_two, four_pos}

module _ {T : Type 0} where
  pub leaf_nodes : (h len : ℕ) (own : List T) (nodes : List (Grown T)) → IsNode h len own nodes → h ≡ 0 → nodes ≡ []
  leaf_nodes h len own nodes node leaf = fit_none h nodes node.fit leaf

  pub leaf_all : (h len : ℕ) (own all : List T) (nodes : List (Grown T)) → IsNode h len own nodes → own ++ items_of nodes ≡ all → h ≡ 0
      → own ≡ all
  leaf_all h len own all nodes node whole leaf =
      sym (append-nil own) ∙ ap (λ ns. own ++ items_of ns) (sym (leaf_nodes h len own nodes node leaf)) ∙ whole

  pub inner_all : (h len : ℕ) (own all : List T) (nodes : List (Grown T)) → IsNode h len own nodes → own ++ items_of nodes ≡ all → 0 < h
      → items_of nodes ≡ all
  inner_all h len own all nodes node whole inner = ap (λ o. o ++ items_of nodes) (sym (node.inner inner).0) ∙ whole

  -- a leaf after a change of its elements
  pub leaf_again : (h len n : ℕ) (own new : List T) (nodes : List (Grown T)) → IsNode h len own nodes → h ≡ 0 → n ≡ length new
      → IsNode h n new nodes
  leaf_again h len n own new nodes node leaf counted = record {
    low = node.low;
    counted = counted ∙ ap length (sym (append-nil new) ∙ ap (λ ns. new ++ items_of ns) (sym (leaf_nodes h len own nodes node leaf)));
    fit = node.fit;
    inner = λ inner. absurd (omega (arith, inner, leaf));
  }

  -- another node after a change below
  pub inner_again : (h len n : ℕ) (own : List T) (nodes new : List (Grown T)) → IsNode h len own nodes → 0 < h
      → AllFit h new → 0 < length new → n ≡ length (items_of new) → IsNode h n own new
  inner_again h len n own nodes new node inner fit some counted =
      let none = (node.inner inner).0 in
      record {
        low = fit_low h new fit;
        counted = counted ∙ ap (λ o. length (o ++ items_of new)) (sym none);
        fit = fit;
        inner = λ _. (none, some);
      }

  -- a node over some nodes
  pub over : (h len : ℕ) (own : List T) (nodes : List (Grown T)) → own ≡ [] → AllFit h nodes → 0 < length nodes
      → len ≡ length (items_of nodes) → IsNode h len own nodes
  over h len own nodes none fit some counted = record {
    low = fit_low h nodes fit;
    counted = counted ∙ ap (λ o. length (o ++ items_of nodes)) (sym none);
    fit = fit;
    inner = λ _. (none, some);
  }

  pub leaf_len : (h len : ℕ) (own : List T) (nodes : List (Grown T)) → IsNode h len own nodes → h ≡ 0 → len ≡ length own
  leaf_len h len own nodes node leaf =
      node.counted ∙ ap (λ ns. length (own ++ items_of ns)) (leaf_nodes h len own nodes node leaf) ∙ ap length (append-nil own)

  pub inner_len : (h len : ℕ) (own : List T) (nodes : List (Grown T)) → IsNode h len own nodes → 0 < h → len ≡ length (items_of nodes)
  inner_len h len own nodes node inner = node.counted ∙ ap (λ o. length (o ++ items_of nodes)) (node.inner inner).0

  -- whether the elements are counted by all, or by those of a leaf
  pub all_len : (h len : ℕ) (own all : List T) (nodes : List (Grown T)) → IsNode h len own nodes → own ++ items_of nodes ≡ all → len ≡ length all
  all_len h len own all nodes node whole = node.counted ∙ ap length whole

  -- where there is not one node alone below, an element may go
  pub spare_several : (h len : ℕ) (own all : List T) (nodes : List (Grown T)) → IsNode h len own nodes → own ++ items_of nodes ≡ all
      → length nodes ≢ 1 → 0 < length all → 4 ^ h < 4 * length all
  spare_several zero len own all nodes node whole several some = omega (arith, some)
  spare_several (suc h) len own all nodes node whole several some =
      omega (
        arith,
        fit_two (suc h) nodes node.fit (omega (arith, several, (node.inner (omega arith)).1)),
        ap length (inner_all (suc h) len own all nodes node whole (omega arith)),
      )

  pub spare_child : (h : ℕ) (child : Grown T) → Fits h child → 4 ^ child.height < 4 * length child.items
  spare_child h child fits = omega (arith, fits.weight, four_pos child.height)
