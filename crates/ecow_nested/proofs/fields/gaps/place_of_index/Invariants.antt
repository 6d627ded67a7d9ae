use Rattle.std.proofs.Common.{◌≤◌, ◌+◌, ◌-◌, length}
use Rattle.ecow_nested.specs.Index.{past}
use Rattle.ecow_nested.proofs.fields.gaps.place_of_index.Given as goal

-- the place is reached by so many gaps at least, and by so many at most
abbrev pub invariant-loop-low : goal.invariant-loop-low
invariant-loop-low g l = (l.fn.index + l.low ≤ past l.gaps l.fn.index) × (past l.gaps l.fn.index ≤ l.fn.index + l.high)
    × (l.high ≤ length l.gaps)

abbrev pub decreases-loop-low : goal.decreases-loop-low
decreases-loop-low g l = l.high - l.low
