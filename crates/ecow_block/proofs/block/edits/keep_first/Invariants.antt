use Rattle.std.proofs.Common.{◌≡◌, ◌≤◌, ◌-◌, length, take, drop}
use denote.Param.Always.{always_mut}
use Rattle.std.specs.Fn.{CalledAtMut}
use Rattle.ecow_block.proofs.Retained.{Done}
use Rattle.ecow_block.proofs.block.edits.keep_first.Given as goal

abbrev pub invariant-loop-index : goal.invariant-loop-index
invariant-loop-index g l =
    always_mut g.F.FnMut l.f
    × (l.count ≤ l.index) × (l.index ≤ length l.initial.items) × (length l.items ≡ length l.initial.items)
    × Done (CalledAtMut g.F.FnMut) l.initial.f l.initial.items l.f (drop l.index l.items) (take l.count l.items)

abbrev pub decreases-loop-index : goal.decreases-loop-index
decreases-loop-index g l = length l.initial.items - l.index
