use Rattle.std.proofs.Common.{◌∙◌, sym, arith, take, drop}
use Rattle.ecow_bytes.proofs.Groups.{chunk_len, same_by_mask}
use Rattle.ecow_bytes.proofs.compare.same_at.Goals as goal

pub returns : goal.returns
returns g c =
    let m = g.row.M in
    let at = c.args.at in
    let xs = c.args.left.now in
    let ys = c.args.right.now in
    let long = chunk_len m at xs c.requires.in_bounds.0 in
    same_by_mask (take m (drop at xs)) (take m (drop at ys)) (long ∙ sym (chunk_len m at ys c.requires.in_bounds.1)) (omega (arith, long, c.requires.lanes))
