use Rattle.std.proofs.Common.{◌≡◌, ◌+◌, [], ◌++◌, vec_len}
use Rattle.ecow_block.specs.Rooms.{Follows}
use Rattle.ecow_block.proofs.room.Room.fill.Given as goal

abbrev pub invariant-loop-item : goal.invariant-loop-item
invariant-loop-item g l =
    (l.elements.items ++ l.moved.items ≡ l.fn.elements.items) × (l.self.items ≡ [])
    × (l.self.at ≡ l.fn.self.at)
    × (l.self.start ≡ l.fn.self.start) × (l.self.capacity ≡ vec_len l.elements)
    × Follows l.self l.moved × (l.self.capacity + l.moved.capacity ≡ l.fn.self.capacity)

abbrev pub decreases-loop-item : goal.decreases-loop-item
decreases-loop-item g l = vec_len l.elements
