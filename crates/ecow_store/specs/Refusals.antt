-- Why a call on one value was refused, as a refusal of a command.
use Rattle.ecow_list.specs.declared.error.EcoError.{EcoError}
use Rattle.ecow_list.specs.declared.error.EcoError.TheVariants as eco
use Rattle.ecow_model.specs.declared.command.Refusal.{Refusal}
use Rattle.ecow_model.specs.declared.command.Refusal.TheVariants.{Capacity, Memory}

-- the refusal of a command whose call was refused so
abbrev pub refusal_for : EcoError → Refusal
refusal_for eco.Capacity = Capacity
refusal_for eco.Memory = Memory
