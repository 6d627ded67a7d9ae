-- What the owners of a block own and share, at elements of the row R. The record i has the block's
-- parts.
use Rattle.std.specs.Prelude.{ℕ, Bool}
use base.Fml.{Lft, Key, Fml, ftrue, fex, flt}
use denote.RattleType.{RattleType}
use denote.RawPtr.{block_of, count_of}
use denote.RcWeak.{rc_cell_owns, rc_lends}
use Rattle.std_alloc.specs.Owners.{sole_or_counted}
use Rattle.std_alloc.specs.Rc.Ownership.{counter_at}
use Rattle.ecow_block.specs.Heads.{unless_null, lent_unless_null}
use Rattle.ecow_block.specs.Kept.{head_at, kept, seen, sole_owns}
use Rattle.ecow_block.specs.declared.block.Block.TheInside.{Inside as BlockParts}

-- there are no weak owners: the one weak part that all owners hold together stays one
abbrev pub one_weak : ℕ → Fml
one_weak m = flt m 2

module _ (R : RattleType) (i : BlockParts R.Denot) where
  abbrev pub key : Key
  key = (block_of (head_at R i), count_of (head_at R i))

  -- the count of n owners
  abbrev pub counts : ℕ → Fml
  counts = counter_at (head_at R i) 0

  -- what one of several owners has: a part of the count, which keeps the block alive
  abbrev pub counted_owns : Fml
  counted_owns = rc_cell_owns 64 key counts one_weak (kept R i) ftrue ftrue (seen R i)

  -- what an owner of a block with a head has
  abbrev pub shared_owns : Fml
  shared_owns = fex Bool (sole_or_counted (sole_owns R i) counted_owns)

  -- what a `&` to it holds
  abbrev pub shared_lends : Lft → Fml
  shared_lends = rc_lends 64 key counts one_weak (kept R i) ftrue ftrue (seen R i)

  -- what an owner of a block owns: nothing, where there is no head
  abbrev pub owner_owns : Fml
  owner_owns = unless_null (head_at R i) shared_owns

  -- what a `&` to it holds
  abbrev pub owner_lends : Lft → Fml
  owner_lends = lent_unless_null (head_at R i) shared_lends
