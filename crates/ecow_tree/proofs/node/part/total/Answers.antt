use Rattle.std.proofs.Common.{arith}
use Rattle.ecow_tree.proofs.Parts.{taken_within}
use Rattle.ecow_tree.proofs.node.part.total.Goals as goal

pub overflow_add-total : goal.overflow_add-total
overflow_add-total g c =
    omega (arith, taken_within c.args.nodes.now c.loop-node.node-index c.node-item.result c.node-item.is (omega arith))
