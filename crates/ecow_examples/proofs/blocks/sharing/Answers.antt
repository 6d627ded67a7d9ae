use Rattle.ecow_examples.proofs.BlockFacts as facts
use Rattle.ecow_examples.proofs.blocks.sharing.Goals as goal

pub returns : goal.returns
returns c =
    record {
      three_names_end_in_three_blocks = facts.three_names_end_in_three_blocks;
      an_empty_block_is_shared = facts.an_empty_block_is_shared;
      blocks_go_with_their_last_name = facts.blocks_go_with_their_last_name;
    }
