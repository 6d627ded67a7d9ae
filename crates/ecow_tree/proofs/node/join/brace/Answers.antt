use Rattle.ecow_tree.proofs.node.join.brace.Goals as goal

pub returns-clause-fit : goal.returns-clause-fit
returns-clause-fit g c h all = c.part.ensures.fit h (c.join.ensures.fit h all)
