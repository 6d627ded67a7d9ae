use Rattle.std.proofs.Common.{◌∙◌, length}
use Rattle.ecow_bytes.proofs.Groups.{order_by_lengths, shortest}
use Rattle.ecow_bytes.proofs.compare.order_many.Goals as goal

pub returns-then-same-len : goal.returns-then-same-len
returns-then-same-len c =
    let xs = c.args.left.now in
    let ys = c.args.right.now in
    c.cmp.ensures ∙ order_by_lengths c.same_front-same.result xs ys c.same_front-same.ensures.same
    (shortest (length xs) (length ys) c.same_front-same.result (c.if-same-len.true ∙ c.requires.shorter))
