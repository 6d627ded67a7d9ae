use Rattle.ecow_base.proofs.Boundaries.{boundary_passes, passes_boundary}
use Rattle.ecow_base.proofs.laws.boundaries_are_tested.Goals as goal

pub returns : goal.returns
returns c = record { passes = boundary_passes; is = passes_boundary }
