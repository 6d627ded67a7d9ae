-- The equations of trees, and what a replacement leaves.
use Rattle.std.proofs.Common.{◌≡◌, ℕ, ◌+◌, List, [], ◌∷◌, ◌++◌, map, slice_get, slice_set, Some, sym, ap, ◌∙◌, inl, inr}
use Rattle.std.specs.Prelude.{sum}
use Rattle.std.specs.Option.{option_and_then}
use Rattle.std.proofs.lemmas.Option.{slice_get_within}
use Rattle.ecow_list.proofs.Places.{get_set, get_set_other}
use Rattle.ecow_uses.specs.Trees.{name_of, children_of, size_step, size, spaced, print_step, printed, node_at, IsReplaced, IsApart}
use Rattle.ecow_uses.specs.declared.tree.Node.{Node}
use Rattle.ecow_uses.specs.declared.tree.Node.TheFolds.{fold_out-Node}

pub size_out : (node : Node) → size node ≡ 1 + sum (map size (children_of node))
size_out = fold_out-Node ℕ size_step

pub printed_out : (node : Node) → printed node ≡ 40 ∷ (name_of node ++ (spaced (map printed (children_of node)) ++ 41 ∷ []))
printed_out = fold_out-Node (List ℕ) print_step

pub replaced_there : (path : List ℕ) (node old new : Node) → IsReplaced path node old new → node_at new path ≡ Some node
replaced_there [] node old new is = ap Some is
replaced_there (step ∷ path) node old new (before, after, found, below, name, children) =
    ap (λ kids. option_and_then (λ child. node_at child path) (slice_get kids step)) children
    ∙ ap (option_and_then (λ child. node_at child path)) (get_set (children_of old) step after (slice_get_within (children_of old) step before found))
    ∙ replaced_there path node before after below

pub replaced_elsewhere : (path other : List ℕ) (node old new : Node) → IsReplaced path node old new → IsApart path other → node_at new other ≡ node_at old other
replaced_elsewhere [] other node old new is apart = absurd apart
replaced_elsewhere (step ∷ path) [] node old new is apart = absurd apart
replaced_elsewhere (step ∷ path) (next ∷ others) node old new (before, after, found, below, name, children) (inl apart) =
    ap (λ kids. option_and_then (λ child. node_at child others) (slice_get kids next)) children
    ∙ ap (option_and_then (λ child. node_at child others)) (get_set_other (children_of old) step next after (λ same. apart (sym same)))
replaced_elsewhere (step ∷ path) (next ∷ others) node old new (before, after, found, below, name, children) (inr (same, apart)) =
    ap (λ kids. option_and_then (λ child. node_at child others) (slice_get kids next)) children
    ∙ ap (λ i. option_and_then (λ child. node_at child others) (slice_get (slice_set (children_of old) step after) i)) (sym same)
    ∙ ap (option_and_then (λ child. node_at child others)) (get_set (children_of old) step after (slice_get_within (children_of old) step before found))
    ∙ replaced_elsewhere path others node before after below apart
    ∙ ap (option_and_then (λ child. node_at child others)) (sym found)
    ∙ ap (λ i. option_and_then (λ child. node_at child others) (slice_get (children_of old) i)) same
