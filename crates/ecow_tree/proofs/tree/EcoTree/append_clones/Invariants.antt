use Rattle.std.proofs.Common.{◌≡◌, ◌+◌, ◌-◌, ◌≤◌, length, take}
use Rattle.ecow_block.specs.Clones.{AppendsClones}
use Rattle.ecow_tree.proofs.tree.EcoTree.append_clones.Given as goal

abbrev pub invariant-loop-at : goal.invariant-loop-at
invariant-loop-at g l = record {
  len : l.len ≡ length l.self;
  within : l.at ≤ length l.self;
  counted : length l.block.items ≡ length l.fn.block.items + l.at;
  capacity : l.block.capacity ≡ l.fn.block.capacity;
  clones : AppendsClones g.T.Clone.is_clone l.fn.block.items (take l.at l.self) l.block.items;
}

abbrev pub decreases-loop-at : goal.decreases-loop-at
decreases-loop-at g l = l.len - l.at
