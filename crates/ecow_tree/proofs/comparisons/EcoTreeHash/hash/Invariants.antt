use Rattle.std.proofs.Common.{◌≡◌, length}
use Rattle.std.specs.List.{flat_map, fold}
use Rattle.ecow_tree.proofs.comparisons.EcoTreeHash.hash.Given as goal

-- what is still to be fed leads to what all would have led to
abbrev pub invariant-loop-element : goal.invariant-loop-element
invariant-loop-element g l =
    fold g.H.Hasher.write l.state (flat_map g.T.Hash.hash_input l.rest)
    ≡ fold g.H.Hasher.write l.initial.state (flat_map g.T.Hash.hash_input l.initial.rest)

abbrev pub decreases-loop-element : goal.decreases-loop-element
decreases-loop-element g l = length l.rest
