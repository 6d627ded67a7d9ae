use Rattle.std.proofs.Common.{length}
use Rattle.std.specs.Prelude.{⊤}
use Rattle.ecow_block.proofs.rest.Rest.drop.Given as goal

abbrev pub invariant-loop-item : goal.invariant-loop-item
invariant-loop-item g l = ⊤

abbrev pub decreases-loop-item : goal.decreases-loop-item
decreases-loop-item g l = length l.self
