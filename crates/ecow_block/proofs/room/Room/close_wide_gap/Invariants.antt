use Rattle.std.proofs.Common.{◌-◌, ◌≡◌, ◌+◌, ◌++◌, length, ◌≤◌}
use Rattle.ecow_block.proofs.room.Room.close_wide_gap.Given as goal

abbrev pub invariant-loop-moved : goal.invariant-loop-moved
invariant-loop-moved g l =
    (l.moved ≤ l.len) × (l.self.items ++ l.rest.items ≡ l.fn.rest.items)
    × (length l.self.items ≡ l.moved)
    × ((l.self.at ≡ l.fn.self.at) × (l.self.start ≡ l.fn.self.start)
    × (l.self.capacity ≡ l.fn.self.capacity + l.moved))
    × ((l.rest.at ≡ l.fn.self.at) × (l.rest.start ≡ l.self.start + l.self.capacity)
    × (l.rest.capacity + l.moved ≡ l.fn.rest.capacity) × (length l.rest.items + l.moved ≡ l.len))

abbrev pub decreases-loop-moved : goal.decreases-loop-moved
decreases-loop-moved g l = l.len - l.moved
