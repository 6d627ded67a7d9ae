-- What an owner ends as, once a borrow of its block has ended.
use Rattle.std.specs.Borrow.{Fml, RattleType, MutBor, LendsIf}
use Rattle.core.specs.declared.option.Option.{Option}
use Rattle.ecow_block.specs.Contents.{Contents}
use Rattle.ecow_block.specs.contracts.block.Block.{the_row as block_row}
use Rattle.ecow_atomic.specs.contracts.shared.Shared.{the_row as owner_row}

module _ (R : RattleType) where
  -- the owner ends with the block that was written last through r; at `None` it is unchanged
  abbrev pub lends_block : MutBor (Contents R.Denot) → Option (MutBor (Contents R.Denot)) → Fml
  lends_block s r = LendsIf (owner_row R) (block_row R) s r (λ b. b) s.now
