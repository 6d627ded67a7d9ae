use Rattle.std.proofs.Common.{◌≡◌, ◌-◌, ◌≤◌, length, drop}
use Rattle.std.specs.Cmp.Lexicographic.{pointwise}
use Rattle.ecow_tree.proofs.comparisons.EcoTreePartialEq.eq.Given as goal

abbrev pub invariant-loop-at : goal.invariant-loop-at
invariant-loop-at g l = record {
  len : l.len ≡ length l.self;
  as_long : length l.other ≡ length l.self;
  within : l.at ≤ length l.self;
  same : pointwise g.T.PartialEq.eq l.self l.other ≡ pointwise g.T.PartialEq.eq (drop l.at l.self) (drop l.at l.other);
}

abbrev pub decreases-loop-at : goal.decreases-loop-at
decreases-loop-at g l = l.len - l.at
