use Rattle.std.proofs.Common.{◌≡◌, ◌≤◌, map, take}
use Rattle.ecow_nested.specs.Depths.{largest}
use Rattle.ecow_nested.proofs.nested.deepest.Given as goal

abbrev pub invariant-loop-part : goal.invariant-loop-part
invariant-loop-part g l = (l.found ≤ l.most)
    × (l.found ≡ largest (map g.T.Part.depth_in (take l.part-index l.parts)))
