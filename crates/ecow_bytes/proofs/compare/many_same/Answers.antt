use Rattle.ecow_bytes.proofs.Groups.{equal_by_front}
use Rattle.ecow_bytes.proofs.compare.many_same.Goals as goal

pub returns : goal.returns
returns c =
    let front = c.same_front.ensures in
    equal_by_front c.args.left.now c.args.right.now c.same_front.result c.requires.as_many front.bounded front.same front.differ
