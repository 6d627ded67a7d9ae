use Rattle.ecow_model.proofs.Agreement.{capacity_read}
use Rattle.ecow_model.proofs.laws.capacities_are_exact.Goals as goal

pub returns : goal.returns
returns g c = capacity_read
