-- The statuses that C gets for the library's errors.
use Rattle.std.specs.Prelude.{ℕ}
use Rattle.ecow_c.specs.declared.status.TheConstants.{MEMORY, CAPACITY, INDEX, KIND, DEPTH}
use Rattle.ecow_nested.specs.declared.refusal.Refusal.{Refusal}
use Rattle.ecow_nested.specs.declared.refusal.Refusal.TheVariants as refused
use Rattle.ecow_list.specs.declared.error.EcoError.{EcoError}
use Rattle.ecow_list.specs.declared.error.EcoError.TheVariants as error

abbrev pub status_of_error : EcoError → ℕ
status_of_error error.Memory = MEMORY
status_of_error error.Capacity = CAPACITY

abbrev pub status_of_refusal : Refusal → ℕ
status_of_refusal refused.Kind = KIND
status_of_refusal refused.Index = INDEX
status_of_refusal refused.Depth = DEPTH
status_of_refusal refused.Capacity = CAPACITY
status_of_refusal refused.Memory = MEMORY
