use Rattle.std.proofs.Common.{◌≡◌, length, take}
use Rattle.ecow_tree.specs.Nodes.{items_of}
use Rattle.ecow_tree.proofs.node.part.total.Given as goal

abbrev pub invariant-loop-node : goal.invariant-loop-node
invariant-loop-node g l = l.total ≡ length (items_of (take l.node-index l.nodes))
