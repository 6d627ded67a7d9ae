use Rattle.std.proofs.Common.{◌≡◌, ◌-◌, ◌≤◌, take}
use Rattle.std.specs.Cmp.Lexicographic.{pointwise}
use Rattle.ecow_list.proofs.comparisons.groups_equal.Given as goal

abbrev pub invariant-loop-i : goal.invariant-loop-i
invariant-loop-i g l = (l.i ≤ g.row.G) × (l.equal ≡ pointwise g.T.PartialEq.eq (take l.i l.left) (take l.i l.right))

abbrev pub decreases-loop-i : goal.decreases-loop-i
decreases-loop-i g l = g.row.G - l.i
