use Rattle.std.proofs.Common.{◌≡◌, length}
use Rattle.std.specs.Cmp.Lexicographic.{pointwise}
use Rattle.ecow_list.proofs.comparisons.words_equal.Given as goal

abbrev pub invariant-loop-group : goal.invariant-loop-group
invariant-loop-group g l = pointwise g.T.PartialEq.eq l.fn.left l.fn.right ≡ pointwise g.T.PartialEq.eq l.ours l.theirs

abbrev pub decreases-loop-group : goal.decreases-loop-group
decreases-loop-group g l = length l.ours
