use Rattle.std.proofs.Common.{rules}
use Rattle.ecow_tree.proofs.Inside.{over}
use Rattle.ecow_tree.proofs.node.Node.over.Goals as goal

pub invariant_of-result : goal.invariant_of-result
invariant_of-result g c = over _ _ _ _ (search rules) c.requires.fit c.requires.some c.requires.len
