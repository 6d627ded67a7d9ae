use Rattle.std.proofs.Common.{◌≡◌, ◌-◌, length, replicate, All}
use Rattle.ecow_base.specs.Clones.{ClonesAreEqual}
use Rattle.ecow_block.proofs.block.Block.from_elem.Given as goal

abbrev pub invariant-loop-block : goal.invariant-loop-block
invariant-loop-block g l =
    (l.block.capacity ≡ l.n)
    × (ClonesAreEqual g.T.Clone.is_clone → l.block.items ≡ replicate (length l.block.items) l.value)
    × All (g.T.Clone.is_clone l.value) l.block.items

abbrev pub decreases-loop-block : goal.decreases-loop-block
decreases-loop-block g l = l.n - length l.block.items
