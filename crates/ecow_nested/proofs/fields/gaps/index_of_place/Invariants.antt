use Rattle.std.proofs.Common.{◌≤◌, ◌+◌, ◌-◌, length}
use Rattle.ecow_nested.specs.Index.{fields_before}
use Rattle.ecow_nested.proofs.fields.gaps.index_of_place.Given as goal

-- so many gaps at least are before the place, and so many at most
abbrev pub invariant-loop-low : goal.invariant-loop-low
invariant-loop-low g l = (l.low + fields_before l.fn.entries l.fn.place ≤ l.fn.place)
    × (l.fn.place ≤ l.high + fields_before l.fn.entries l.fn.place) × (l.high ≤ length l.gaps)

abbrev pub decreases-loop-low : goal.decreases-loop-low
decreases-loop-low g l = l.high - l.low
