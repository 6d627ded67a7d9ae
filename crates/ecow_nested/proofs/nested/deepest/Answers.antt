use Rattle.std.proofs.Common.{rules, ◌+◌, ◌<◌, length}
use Rattle.ecow_nested.proofs.Depths.{taken_less, taken_next}
use Rattle.ecow_nested.proofs.nested.deepest.Goals as goal

pub returns-then-found-most : goal.returns-then-found-most
returns-then-found-most g c =
    let within : c.loop-part.part-index < length c.args.parts.now = search rules in
    let next = taken_next g.T.Part.depth_in c.args.parts.now c.loop-part.part-index c.part-item.result within in
    let front = taken_less g.T.Part.depth_in c.args.parts.now (c.loop-part.part-index + 1) in
    search (rules, next, front)

pub loop-part-preserved : goal.loop-part-preserved
loop-part-preserved g c =
    let within : c.loop-part.part-index < length c.args.parts.now = search rules in
    let next = taken_next g.T.Part.depth_in c.args.parts.now c.loop-part.part-index c.part-item.result within in
    search (rules, next)
