-- What holds of the fields of the rest of a block.
use Rattle.std.specs.Prelude.{◌≡◌, ◌+◌, ◌^◌, ◌<◌, [], length}
use Rattle.ecow_block.specs.Parts.{IsHead, IsBacked}
use Rattle.ecow_block.specs.Rooms.{Follows}
use Rattle.ecow_block.specs.declared.rest.Rest.TheInside.{Inside as Rest}

module _ {X : Type 0} where
  -- what always holds of the fields of a rest
  pub record IsRest (r : Rest X) : Type 0 where
    pub head : IsHead r.top r.title r.alloc r.base.ptr (r.room.start + r.room.capacity)
    pub backed : IsBacked r.base.ptr (r.room.start + r.room.capacity) r.title r.deed r.alloc
    pub at : r.taken.at ≡ r.base.ptr
    pub begins : r.taken.start ≡ 0
    pub taken : r.taken.items ≡ []
    pub follows : Follows r.taken r.room
    pub start : r.start ≡ r.room.start
    pub len : r.len ≡ length r.room.items
    pub small : r.len < 2 ^ 63
