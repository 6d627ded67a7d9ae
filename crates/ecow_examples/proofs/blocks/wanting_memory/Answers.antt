use Rattle.ecow_examples.proofs.MemoryFacts as facts
use Rattle.ecow_examples.proofs.blocks.wanting_memory.Goals as goal

pub returns : goal.returns
returns c = record {
  a_push_into_a_full_block_may_lack_memory = facts.a_push_into_a_full_block_may_lack_memory;
  it_then_changes_nothing = facts.a_push_into_a_full_block_then_changes_nothing;
  an_extend_past_the_capacity_may_lack_memory = facts.an_extend_past_the_capacity_may_lack_memory;
  a_truncate_by_a_shared_name_may_lack_memory = facts.a_truncate_by_a_shared_name_may_lack_memory;
  a_push_by_a_shared_name_may_lack_memory = facts.a_push_by_a_shared_name_may_lack_memory;
}
