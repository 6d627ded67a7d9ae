use Rattle.ecow_bytes.proofs.Groups.{order_of_same}
use Rattle.ecow_bytes.proofs.compare.order.Goals as goal

pub returns-then-few_same : goal.returns-then-few_same
returns-then-few_same c = order_of_same c.args.left.now c.args.right.now (c.few_same.ensures.0 c.if-few_same.true)
