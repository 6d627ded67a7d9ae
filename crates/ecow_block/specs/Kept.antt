-- What the owners of a block keep alive and see, however they are counted, at elements of the row
-- R. The record i has the block's parts.
use Rattle.std.specs.Prelude.{◌≡◌}
use base.Fml.{Lft, Fml, fsep}
use denote.RattleType.{RattleType}
use denote.RawPtr.{Ptr}
use denote.Sharing.{beside}
use Rattle.std.specs.declared.alloc.Global.{Global}
use Rattle.std.specs.contracts.impls.GlobalAllocator.TheImpl.{ghosts}
use Rattle.std_alloc.specs.Rc.Ownership.{counter_at}
use Rattle.ecow_block.specs.Fields.{IsBlock}
use Rattle.ecow_block.specs.Heads.{head_rest, title_shares}
use Rattle.ecow_block.specs.Ownership.{room_owns, room_shares, deed_owns}
use Rattle.ecow_block.specs.declared.block.Block.TheInside.{Inside}
use Rattle.ecow_block.specs.declared.room.Top.{Top}

module _ {X : Type 0} where
  -- an owner at top, with alloc, is one of the block of these parts
  pub record IsOwner (top : Top X) (alloc : Global) (i : Inside X) : Type 0 where
    pub top_is : i.top.ptr ≡ top.ptr
    pub alloc_is : i.alloc ≡ alloc
    pub is_block : IsBlock i

module _ (R : RattleType) (i : Inside R.Denot) where
  -- where the head is
  abbrev pub head_at : Ptr
  head_at = i.top.ptr

  -- what an owner keeps alive: all that a block owns but the count
  abbrev pub kept : Fml
  kept =
      fsep
      (fsep (head_rest (ghosts.dealloc_token i.title.alloc) R head_at i.title.fields i.title.places)
      (room_owns R i.room.at i.room.start i.room.capacity i.room.items))
      (deed_owns (ghosts.dealloc_token i.deed.alloc) R i.deed.at i.deed.capacity)

  -- what every owner sees: the fields of the head, and the elements
  abbrev pub seen : Lft → Fml
  seen =
      beside (title_shares R head_at i.title.fields)
      (room_shares R i.room.at i.room.start i.room.capacity i.room.items)

  -- what a sole owner has: the count, which is 1, and all that it keeps alive
  abbrev pub sole_owns : Fml
  sole_owns = fsep (counter_at head_at 0 1) kept
