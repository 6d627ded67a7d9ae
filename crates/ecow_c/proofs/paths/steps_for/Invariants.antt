use Rattle.std.proofs.Common.{◌≡◌, map, take}
use Rattle.ecow_c.proofs.paths.steps_for.Given as goal
use Rattle.ecow_c.specs.Paths.{step_of}

abbrev pub invariant-loop-item : goal.invariant-loop-item
invariant-loop-item l = l.steps.items ≡ map step_of (take l.item-index l.items)
