use Rattle.std.proofs.Common.{◌≡◌, ◌+◌, ◌++◌, length, ◌≤◌}
use Rattle.ecow_block.specs.Rooms.{Follows}
use Rattle.ecow_block.proofs.room.Room.open_gap.Given as goal

abbrev pub invariant-loop-left : goal.invariant-loop-left
invariant-loop-left g l =
    (l.left ≤ l.len) × (l.self.items ++ l.moved.items ≡ l.fn.self.items)
    × (length l.self.items ≡ l.left)
    × ((l.self.at ≡ l.fn.self.at) × (l.self.start ≡ l.fn.self.start)
    × (l.self.capacity ≡ l.left + l.gap))
    × Follows l.self l.moved × (l.self.capacity + l.moved.capacity ≡ l.fn.self.capacity)

abbrev pub decreases-loop-left : goal.decreases-loop-left
decreases-loop-left g l = l.left
