use Rattle.std.proofs.Common.{◌≡◌, ◌-◌, ◌≤◌, length, take}
use Rattle.std.specs.List.{AllZip}
use Rattle.ecow_tree.proofs.tree.EcoTree.from_slice.Given as goal

-- the elements up to `at` have their clones
abbrev pub invariant-loop-at : goal.invariant-loop-at
invariant-loop-at g l = record {
  within : l.at ≤ length l.elements;
  clones : AllZip g.T.Clone.is_clone (take l.at l.elements) l.root.items;
}

abbrev pub decreases-loop-at : goal.decreases-loop-at
decreases-loop-at g l = l.len - l.at
