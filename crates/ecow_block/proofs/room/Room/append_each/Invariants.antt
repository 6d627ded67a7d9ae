use Rattle.std.proofs.Common.{length, ◌-◌, ◌≡◌, ◌+◌, ◌≤◌, take}
use Rattle.ecow_block.specs.Clones.{AppendsClones}
use Rattle.ecow_block.specs.Rooms.{SamePlaces}
use Rattle.ecow_block.proofs.room.Room.append_each.Given as goal

abbrev pub invariant-loop-count : goal.invariant-loop-count
invariant-loop-count g l =
    (l.count ≤ length l.elements) × SamePlaces l.fn.self l.self
    × (length l.self.items ≡ length l.fn.self.items + l.count)
    × (take (length l.fn.self.items) l.self.items ≡ l.fn.self.items)
    × AppendsClones g.T.Clone.is_clone l.fn.self.items (take l.count l.elements) l.self.items

abbrev pub decreases-loop-count : goal.decreases-loop-count
decreases-loop-count g l = length l.elements - l.count
