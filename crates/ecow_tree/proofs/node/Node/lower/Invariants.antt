use Rattle.std.proofs.Common.{◌≡◌}
use Rattle.ecow_tree.proofs.node.Node.lower.Given as goal

abbrev pub invariant-loop-node : goal.invariant-loop-node
invariant-loop-node g l = l.self.items ≡ l.fn.self.items

abbrev pub decreases-loop-node : goal.decreases-loop-node
decreases-loop-node g l = l.self.height
