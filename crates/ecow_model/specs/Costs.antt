-- What each accepted change of a list in a shared block costs, and the capacity after it.
-- `n` is the length of the name's list and `capacity` that of its block, 0 without one. `shared`
-- says whether another name holds the block.
use Rattle.std.specs.Prelude.{ℕ, ◌+◌, ◌-◌, Bool, true, false, not, ◌&&◌, ◌||◌, ◌==◌, length, nat_lt, nat_le, if◌then◌else◌}
use Rattle.ecow_base.specs.Capacity.{fresh, room}
use Rattle.std.specs.declared.ops.Bound.{Bound}
use Rattle.ecow_base.specs.Range.{items_in_range}
use Rattle.ecow_model.specs.Names.{Holding, is_shared}
use Rattle.ecow_model.specs.declared.vecs.VecMake.{VecMake}
use Rattle.ecow_model.specs.declared.vecs.VecMake.TheVariants.{New, WithCapacity, FromList, FromElem}
use Rattle.ecow_model.specs.declared.vecs.VecEdit.{VecEdit}
use Rattle.ecow_model.specs.declared.vecs.VecEdit.TheVariants.{Push, Pop, Insert, Remove, Truncate, Clear, Retain, Splice, Extend, Reserve, Write}

-- how many of n elements stay where those of a range are taken out
abbrev pub staying : Bound ℕ × Bound ℕ → ℕ → ℕ
staying bounds n = n - items_in_range bounds n

-- how many elements move where a block that has n gets `more`: none where there is room
abbrev pub moved_for : ℕ → ℕ → ℕ → ℕ
moved_for n more capacity = if nat_le (n + more) capacity then 0 else n

-- a name that holds h alone has room for `more` elements
abbrev pub has_room_for : {T : Type 0} → Holding T → ℕ → Bool
has_room_for h more = not (is_shared h) && nat_le (length h.items + more) h.capacity

module _ {T : Type 0} where
  -- the capacity of a list that is made
  abbrev pub make_capacity : VecMake T → ℕ
  make_capacity New = 0
  make_capacity (WithCapacity asked) = asked
  make_capacity (FromList items) = fresh (length items)
  make_capacity (FromElem value count) = count

  -- whether a name that shares its block leaves it
  abbrev pub unshares : VecEdit T → ℕ → Bool
  unshares Pop n = nat_lt 0 n
  unshares (Truncate target) n = nat_lt target n
  unshares Clear n = nat_lt 0 n
  unshares (Extend items) n = nat_lt 0 (length items)
  unshares _ n = true

  -- how many elements a name copies that leaves its block
  abbrev pub copies : VecEdit T → ℕ → ℕ
  copies (Truncate target) n = target
  copies Clear n = 0
  copies _ n = n

  -- the capacity after the change
  abbrev pub capacity_after : VecEdit T → Bool → ℕ → ℕ → ℕ
  capacity_after (Push value) shared n capacity = room n 1 capacity
  capacity_after (Insert index value) shared n capacity = room n 1 capacity
  capacity_after (Extend items) shared n capacity = room n (length items) capacity
  capacity_after (Reserve additional) shared n capacity = room n additional capacity
  capacity_after (Splice bounds items) shared n capacity =
      room (staying bounds n) (length items) (if shared then fresh n else capacity)
  capacity_after (Truncate target) shared n capacity = if shared then fresh target else capacity
  capacity_after Clear shared n capacity = if shared then 0 else capacity
  capacity_after _ shared n capacity = if shared then fresh n else capacity

  -- how many elements move because a sole name's block grows
  abbrev pub moves : VecEdit T → ℕ → ℕ → ℕ
  moves (Push value) n capacity = moved_for n 1 capacity
  moves (Insert index value) n capacity = moved_for n 1 capacity
  moves (Extend items) n capacity = moved_for n (length items) capacity
  moves (Reserve additional) n capacity = moved_for n additional capacity
  moves (Splice bounds items) n capacity = moved_for (staying bounds n) (length items) capacity
  moves _ n capacity = 0

  -- how many items are brought, or room is asked for
  abbrev pub make_input : VecMake T → ℕ
  make_input (FromList items) = length items
  make_input (FromElem value count) = count
  make_input _ = 0

  -- how many items a change brings, or asks room for
  abbrev pub edit_input : VecEdit T → ℕ
  edit_input (Push value) = 1
  edit_input (Insert index value) = 1
  edit_input (Extend items) = length items
  edit_input (Splice bounds items) = length items
  edit_input (Reserve additional) = additional
  edit_input _ = 0

  -- the copied and the moved elements of a change by a name that holds h
  abbrev pub copied_by : VecEdit T → Holding T → ℕ
  copied_by edit h =
      if is_shared h && unshares edit (length h.items) then copies edit (length h.items) else 0

  -- the moved elements of a change by a name that holds h
  abbrev pub moved_by : VecEdit T → Holding T → ℕ
  moved_by edit h = if is_shared h then 0 else moves edit (length h.items) h.capacity

  -- a change that takes no memory by a name that holds h
  abbrev pub holding_is_free : VecEdit T → Holding T → Bool
  holding_is_free Clear h = true
  holding_is_free Pop h = not (is_shared h) || length h.items == 0
  holding_is_free (Remove index) h = not (is_shared h)
  holding_is_free (Retain marks) h = not (is_shared h)
  holding_is_free (Write index value) h = not (is_shared h)
  holding_is_free (Push value) h = has_room_for h 1
  holding_is_free (Insert index value) h = has_room_for h 1
  holding_is_free (Reserve additional) h = has_room_for h additional
  holding_is_free (Truncate target) h = copied_by (Truncate target) h == 0
  holding_is_free (Extend items) h = length items == 0
  holding_is_free _ h = false
