use Rattle.std.proofs.Common.{rules}
use Rattle.ecow_tree.proofs.Fits.{lifted}
use Rattle.ecow_tree.proofs.node.Node.raise.Goals as goal

pub over-requires-clause-fit : goal.over-requires-clause-fit
over-requires-clause-fit g c =
    lifted _ _ _ c.args.self.now c.in_ok-clone.field-0 (c.in_ok-push.ensures.change.ok (λ x y same. same)) c.new-nodes.ensures (search rules) (search rules) (search rules)
