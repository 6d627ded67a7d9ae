use Rattle.ecow_nested.proofs.Index.{index_there, position_found, position_missing}
use Rattle.ecow_nested.proofs.fields.index.find_place.Goals as goal

pub returns-in-Ok : goal.returns-in-Ok
returns-in-Ok g c =
    let indexed = index_there c.args.entries.now c.lacks_index.result c.lacks_index.ensures c.if-lacks_index.false c.requires in
    position_found c.args.entries.now c.args.name.now indexed c.in-Ok.at (rw c.in-Ok.is at c.seek.ensures.end)

pub returns-in-Err : goal.returns-in-Err
returns-in-Err g c =
    let indexed = index_there c.args.entries.now c.lacks_index.result c.lacks_index.ensures c.if-lacks_index.false c.requires in
    position_missing c.args.entries.now c.args.name.now indexed c.in-Err.field-0 (rw c.in-Err.is at c.seek.ensures.end)
