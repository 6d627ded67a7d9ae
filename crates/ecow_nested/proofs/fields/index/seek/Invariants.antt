use Rattle.std.proofs.Common.{◌≡◌, ◌≤◌, ◌<◌, ◌-◌, length}
use Rattle.ecow_nested.specs.Index.{end_of, nodes_in, way}
use Rattle.ecow_nested.proofs.fields.index.seek.Given as goal

-- what is left of the way comes to what the whole one does
abbrev pub invariant-loop-bytes : goal.invariant-loop-bytes
invariant-loop-bytes g l = (l.depth ≤ l.at) × (l.at < length l.fn.entries)
    × (end_of (nodes_in l.fn.entries) l.fn.name ≡ way (nodes_in l.fn.entries) l.fn.name (length (nodes_in l.fn.entries) - l.depth) l.depth l.at)

abbrev pub decreases-loop-bytes : goal.decreases-loop-bytes
decreases-loop-bytes g l = length l.fn.entries - l.at
