use Rattle.std.proofs.Common.{◌≡◌, ◌+◌, ◌-◌, ◌≤◌, length}
use Rattle.std.specs.Iterator.{IsFinite, Yields}
use Rattle.ecow_block.specs.Rooms.{SamePlaces}
use Rattle.ecow_block.proofs.room.Room.append_items.Given as goal

abbrev pub invariant-loop-count : goal.invariant-loop-count
invariant-loop-count g l =
    (l.count ≤ l.most) × (length l.self.items ≡ length l.fn.self.items + l.count)
    × SamePlaces l.fn.self l.self
    × g.I.Iterator.can_next l.iter × IsFinite (g.I.Iterator.remaining l.iter)
    × ((first : g.row.I.Denot) → Yields g.I.Iterator.next_gives first l.fn.self.items l.fn.iter
    → Yields g.I.Iterator.next_gives first l.self.items l.iter)

abbrev pub decreases-loop-count : goal.decreases-loop-count
decreases-loop-count g l = l.most - l.count
