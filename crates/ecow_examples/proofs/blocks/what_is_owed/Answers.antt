use Rattle.ecow_examples.proofs.BlockFacts as facts
use Rattle.ecow_examples.proofs.blocks.what_is_owed.Goals as goal

pub returns : goal.returns
returns c =
    record {
      each_written_clone_is_copied_once = facts.each_written_clone_is_copied_once;
      unwritten_clones_are_owed =
          facts.unwritten_clones_are_owed;
      dropped_clones_cost_nothing =
          facts.dropped_clones_cost_nothing;
      pushes_after_a_pop_are_paid = facts.pushes_after_a_pop_are_paid;
    }
