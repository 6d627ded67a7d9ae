-- What the changes of a list in a block take, by the length of the list.
use Rattle.std.specs.Prelude.{ℕ, ◌+◌, ◌-◌, Bool, true, false, nat_lt, max, List, [], length, None}
use Rattle.ecow_base.specs.Range.{items_in_range}
use Rattle.ecow_model.specs.declared.vecs.VecEdit.{VecEdit}
use Rattle.ecow_model.specs.declared.vecs.VecEdit.TheVariants.{Push, Pop, Insert, Drain, Splice, Extend, Reserve}
use Rattle.ecow_model.specs.declared.command.Outcome.{Outcome}
use Rattle.ecow_model.specs.declared.command.Outcome.TheVariants.{Done, Popped}

module _ {T : Type 0} where
  -- how many elements stay where the list is moved to a greater block
  abbrev pub staying : VecEdit T → ℕ → ℕ
  staying (Splice bounds items) n = n - items_in_range bounds n
  staying _ n = n

  -- how long the list is after the change, before anything is taken out but by Splice
  abbrev pub length_after : VecEdit T → ℕ → ℕ
  length_after (Push value) n = n + 1
  length_after (Insert index value) n = n + 1
  length_after (Splice bounds items) n = n - items_in_range bounds n + length items
  length_after (Extend items) n = n + length items
  length_after _ n = n

  -- the length for which room is asked
  abbrev pub asked_length : VecEdit T → ℕ → ℕ
  asked_length (Reserve additional) n = n + additional
  asked_length edit n = length_after edit n

  -- the items that are cloned for the change
  abbrev pub new_items : VecEdit T → List T
  new_items (Extend items) = items
  new_items _ = []

  -- how many elements are answered
  abbrev pub taken_out : VecEdit T → ℕ → ℕ
  taken_out (Drain bounds) n = items_in_range bounds n
  taken_out (Splice bounds items) n = items_in_range bounds n
  taken_out _ n = 0

  -- how many elements the block beside has room for: those that are brought, or what changes places
  abbrev pub spare_room : VecEdit T → ℕ → ℕ
  spare_room (Drain bounds) n = items_in_range bounds n
  spare_room (Splice bounds items) n = max (items_in_range bounds n) (length items)
  spare_room (Extend items) n = length items
  spare_room _ n = 0

  -- whether memory is taken beside the block of the name
  abbrev pub takes_spare : VecEdit T → Bool
  takes_spare (Drain bounds) = true
  takes_spare (Splice bounds items) = true
  takes_spare (Extend items) = nat_lt 0 (length items)
  takes_spare _ = false

  -- what a change answers that leaves a shared block where it is
  abbrev pub unchanged : VecEdit T → Outcome T
  unchanged Pop = Popped None
  unchanged _ = Done
