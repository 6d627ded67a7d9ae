use Rattle.std.proofs.Common.{length, ◌<◌}
use Rattle.ecow_bench.proofs.trees.+tree.Given as goal

abbrev pub decreases-tree : goal.decreases-tree
decreases-tree l = length l.kinds.now

abbrev pub invariant-loop : goal.invariant-loop
invariant-loop l = length l.below < length l.kinds
