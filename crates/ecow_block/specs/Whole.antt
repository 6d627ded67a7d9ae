-- How the parts of a block belong together.
use Rattle.std.specs.Prelude.{◌≡◌}
use denote.RawPtr.{InBlock, ◌+ₚ◌}
use Rattle.ecow_block.specs.declared.room.Top.{Top}
use Rattle.ecow_block.specs.declared.room.Room.{Room}
use Rattle.ecow_block.specs.declared.room.Title.{Title}

module _ {X A : Type 0} where
  -- the title is that of the head at top, of alloc
  pub record IsTopOf (top : Top X) (title : Title X A) (alloc : A) : Type 0 where
    pub within : InBlock top.ptr
    pub at : title.at ≡ top.ptr
    pub alloc_same : title.alloc ≡ alloc

  -- the room is the places right behind that head
  pub record IsBehind (room : Room X) (title : Title X A) : Type 0 where
    pub at : room.at ≡ title.at +ₚ 32
    pub start : room.start ≡ 0
    pub capacity : room.capacity ≡ title.places
