use Rattle.std.proofs.Common.{◌-◌, ◌≤◌, length}
use Rattle.std.specs.Iterator.{IsFinite, Yields}
use Rattle.ecow_list.proofs.vec.collect.collect.Given as goal

abbrev pub invariant-loop-iter : goal.invariant-loop-iter
invariant-loop-iter g l = Yields g.I.Iterator.next_gives l.fn.iter l.items.items l.iter
    × (length l.items.items ≤ l.most) × (l.least ≤ l.items.capacity) × g.I.Iterator.can_next l.iter × IsFinite (g.I.Iterator.remaining l.iter)

abbrev pub decreases-loop-iter : goal.decreases-loop-iter
decreases-loop-iter g l = l.most - length l.items.items
