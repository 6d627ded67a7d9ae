use Rattle.std.proofs.Common.{arith}
use Rattle.ecow_tree.proofs.More.{leads_last}
use Rattle.ecow_tree.proofs.node.seek.place.Goals as goal

pub returns-then-index-len-clause-leads : goal.returns-then-index-len-clause-leads
returns-then-index-len-clause-leads g c =
    leads_last c.args.nodes.now _ c.args.index _ c.index-nodes-last.result (omega (arith, c.requires.some)) c.index-nodes-last.is c.len.ensures
    (omega (arith, c.requires.len))
