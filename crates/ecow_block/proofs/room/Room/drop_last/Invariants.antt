use Rattle.std.proofs.Common.{◌≡◌, ◌+◌, ◌-◌, ◌≤◌, length, take}
use Rattle.ecow_block.specs.Rooms.{SamePlaces}
use Rattle.ecow_block.proofs.room.Room.drop_last.Given as goal

abbrev pub invariant-loop-left : goal.invariant-loop-left
invariant-loop-left g l = let left_over = length l.fn.self.items - l.count in
    (l.left ≤ l.count) × SamePlaces l.fn.self l.self × (length l.self.items ≡ left_over + l.left)
    × (take left_over l.self.items ≡ take left_over l.fn.self.items)

abbrev pub decreases-loop-left : goal.decreases-loop-left
decreases-loop-left g l = l.left
