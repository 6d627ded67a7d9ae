use Rattle.std.proofs.Common.{sym, subst, arith}
use Rattle.ecow_model.specs.Names.{IsSharing}
use Rattle.ecow_counted.proofs.Bounds.{nothing_shares}
use Rattle.ecow_counted.proofs.counted.Counted.new.Goals as goal

pub invariant_of-result : goal.invariant_of-result
invariant_of-result g c = record { sharing = subst IsSharing (sym c.new.ensures) nothing_shares; copied = omega arith; moved = omega arith }
