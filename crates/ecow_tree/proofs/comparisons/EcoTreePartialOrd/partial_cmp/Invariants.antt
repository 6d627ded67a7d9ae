use Rattle.std.proofs.Common.{◌≡◌, length}
use Rattle.std.specs.Cmp.Lexicographic.{slice_partial_cmp}
use Rattle.ecow_tree.proofs.comparisons.EcoTreePartialOrd.partial_cmp.Given as goal

abbrev pub invariant-loop-left : goal.invariant-loop-left
invariant-loop-left g l = slice_partial_cmp g.T.PartialOrd.partial_cmp l.ours l.theirs ≡ slice_partial_cmp g.T.PartialOrd.partial_cmp l.initial.ours l.initial.theirs

abbrev pub decreases-loop-left : goal.decreases-loop-left
decreases-loop-left g l = length l.ours
