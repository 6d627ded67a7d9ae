use Rattle.std.proofs.Common.{◌∙◌}
use Rattle.std.proofs.lemmas.List.{take_rest}
use Rattle.ecow_bytes.proofs.Groups.{order_past}
use Rattle.ecow_bytes.proofs.compare.order_past.Goals as goal

pub returns : goal.returns
returns c =
    let xs = c.args.left.now in
    let ys = c.args.right.now in
    let n = c.args.same in
    c.cmp.ensures ∙ rw (take_rest xs n, take_rest ys n) (order_past n xs ys c.requires.same)
