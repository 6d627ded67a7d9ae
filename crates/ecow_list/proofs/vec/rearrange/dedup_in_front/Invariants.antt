use Rattle.std.proofs.Common.{◌≡◌, ◌<◌, ◌≤◌, length}
use Rattle.ecow_list.proofs.Deduped.{Left}
use Rattle.ecow_list.proofs.vec.rearrange.dedup_in_front.Given as goal

-- the first `count` items are kept, and those from the index on were not looked at
abbrev pub invariant-loop-index : goal.invariant-loop-index
invariant-loop-index g l = (0 < l.count) × (l.count ≤ l.index) × (l.index ≤ length l.items)
    × (length l.items ≡ length l.fn.items) × Left g.T.PartialEq.eq l.fn.items l.items l.count l.index
