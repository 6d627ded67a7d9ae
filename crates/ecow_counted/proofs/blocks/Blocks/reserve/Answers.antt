use Rattle.std.proofs.Common.{ap}
use Rattle.ecow_counted.proofs.Placing.{same_table}
use Rattle.ecow_counted.proofs.blocks.Blocks.reserve.Goals as goal

pub invariant_of-self : goal.invariant_of-self
invariant_of-self g c = same_table c.self.inside.places c.self.inside.table c.reserve.new.self (ap (λ s. s.slots) c.reserve.ensures.rest_kept) c.self.invariant
