use Rattle.std.proofs.Common.{length}
use Rattle.ecow_nested.proofs.value.Value.+at.Given as goal

abbrev pub decreases-at : goal.decreases-at
decreases-at l = length l.path.now
