-- The answers and the totals of scripts on shared blocks, computed.
use Rattle.std.proofs.Common.{refl}
use Rattle.ecow_examples.specs.BlockScripts.{ThreeNamesEndInThreeBlocks, BlocksGoWithTheirLastName, AnEmptyBlockIsShared, EachWrittenCloneIsCopiedOnce, UnwrittenClonesAreOwed, DroppedClonesCostNothing, PushesAfterAPopArePaid}
use Rattle.ecow_examples.proofs.Tables.{table_rules}

pub three_names_end_in_three_blocks : ThreeNamesEndInThreeBlocks
three_names_end_in_three_blocks = simp table_rules refl

pub an_empty_block_is_shared : AnEmptyBlockIsShared
an_empty_block_is_shared = simp table_rules refl

pub blocks_go_with_their_last_name : BlocksGoWithTheirLastName
blocks_go_with_their_last_name = simp table_rules refl

pub pushes_after_a_pop_are_paid : PushesAfterAPopArePaid
pushes_after_a_pop_are_paid = simp table_rules refl

pub each_written_clone_is_copied_once : EachWrittenCloneIsCopiedOnce
each_written_clone_is_copied_once = simp table_rules refl

pub unwritten_clones_are_owed : UnwrittenClonesAreOwed
unwritten_clones_are_owed = simp table_rules refl

pub dropped_clones_cost_nothing : DroppedClonesCostNothing
dropped_clones_cost_nothing = simp table_rules refl
