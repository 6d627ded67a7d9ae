use Rattle.std.proofs.Common.{◌-◌, ◌≡◌, ◌+◌, [], length, ◌≤◌}
use Rattle.ecow_block.proofs.room.Room.drop_all.Given as goal

abbrev pub invariant-loop-gone : goal.invariant-loop-gone
invariant-loop-gone g l = (l.gone ≤ l.len) × (l.self.items ≡ [])
    × ((l.self.at ≡ l.fn.self.at) × (l.self.start ≡ l.fn.self.start) × (l.self.capacity ≡ l.gone))
    × ((l.rest.at ≡ l.fn.self.at) × (l.rest.start ≡ l.self.start + l.gone)
    × (l.rest.capacity + l.gone ≡ l.fn.self.capacity)
    × (length l.rest.items + l.gone ≡ l.len))

abbrev pub decreases-loop-gone : goal.decreases-loop-gone
decreases-loop-gone g l = l.len - l.gone
