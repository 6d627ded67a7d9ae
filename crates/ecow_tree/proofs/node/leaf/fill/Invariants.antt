use Rattle.std.proofs.Common.{◌≡◌, ◌+◌, ◌++◌, ◌≤◌, length}
use Rattle.ecow_tree.proofs.node.leaf.fill.Given as goal

abbrev pub invariant-loop-item : goal.invariant-loop-item
invariant-loop-item g l = record {
  moved : l.block.items ++ l.rest ≡ l.fn.block.items ++ l.fn.moved;
  room : length l.block.items + length l.rest ≤ l.block.capacity;
  capacity : l.block.capacity ≡ l.fn.block.capacity;
}

abbrev pub decreases-loop-item : goal.decreases-loop-item
decreases-loop-item g l = length l.rest
