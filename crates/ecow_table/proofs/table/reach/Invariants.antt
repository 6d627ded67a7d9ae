use Rattle.std.proofs.Common.{◌≡◌, ℕ, List, ◌+◌, ◌-◌, length}
use Rattle.ecow_table.specs.Tables.{values_of}
use Rattle.ecow_table.proofs.table.reach.Given as goal

abbrev pub invariant-loop-slots : goal.invariant-loop-slots
invariant-loop-slots g l =
    (others : List (ℕ × _)) → values_of l.slots.items others ≡ values_of l.fn.slots.items others

abbrev pub decreases-loop-slots : goal.decreases-loop-slots
decreases-loop-slots g l = (l.place + 1) - length l.slots.items
