use Rattle.std.proofs.Common.{refl}
use Rattle.ecow_examples.proofs.MemoryFacts as facts
use Rattle.ecow_examples.proofs.Tables.{table_rules}
use Rattle.ecow_examples.proofs.blocks.free_of_memory.Goals as goal

pub returns : goal.returns
returns c = record {
  a_push_within_the_capacity = facts.a_push_within_the_capacity_never_lacks_memory;
  a_clear_of_a_shared_name = facts.a_clear_of_a_shared_name_never_lacks_memory;
  a_reserve_within_the_capacity = simp table_rules refl;
  a_write_by_a_sole_name = simp table_rules refl;
  a_retain_by_a_sole_name = simp table_rules refl;
  a_pop_by_a_sole_name = simp table_rules refl;
  no_pop_by_a_shared_name = simp table_rules refl;
}
