-- What the owners of a block own and share, at elements of the row R. The record i has the block's
-- parts.
use Rattle.std.specs.Prelude.{◌+◌, ℕ, Bool}
use base.Fml.{Lft, Fml, fex}
use denote.RattleType.{RattleType}
use denote.RawPtr.{block_of, count_of}
use denote.Sharing.{some}
use Rattle.core.specs.Thread.Scope.{refcount_invariant}
use Rattle.std_alloc.specs.Arc.Ownership.{owner_owns as part_owns, owner_shares as part_lends}
use Rattle.std_alloc.specs.Owners.{sole_or_counted}
use Rattle.ecow_block.specs.Heads.{unless_null, lent_unless_null}
use Rattle.ecow_block.specs.Kept.{head_at, kept, seen, sole_owns}
use Rattle.ecow_block.specs.declared.block.Block.TheInside.{Inside as BlockParts}

module _ (R : RattleType) (i : BlockParts R.Denot) where
  -- where the count of owners is
  abbrev pub count_block : ℕ
  count_block = block_of (head_at R i)

  abbrev pub count_offset : ℕ
  count_offset = count_of (head_at R i) + 0

  -- what holds of the count between any two steps, for the owners of the lifetime a
  abbrev pub count_kept : ℕ → Fml
  count_kept = refcount_invariant (kept R i) count_block count_offset

  -- what one of several owners has: a part of the count, which keeps the block alive
  abbrev pub counted_owns : Fml
  counted_owns = fex ℕ (λ a. part_owns (kept R i) count_block count_offset a (seen R i))

  -- what an owner of a block with a head has
  abbrev pub shared_owns : Fml
  shared_owns = fex Bool (sole_or_counted (sole_owns R i) counted_owns)

  -- what a `&` to it holds
  abbrev pub shared_lends : Lft → Fml
  shared_lends = some ℕ (λ a. part_lends (kept R i) count_block count_offset a (seen R i))

  -- what an owner of a block owns: nothing, where there is no head
  abbrev pub owner_owns : Fml
  owner_owns = unless_null (head_at R i) shared_owns

  -- what a `&` to it holds
  abbrev pub owner_lends : Lft → Fml
  owner_lends = lent_unless_null (head_at R i) shared_lends
