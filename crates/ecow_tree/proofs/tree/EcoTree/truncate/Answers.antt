use Rattle.std.proofs.Common.{rules, arith}
use Rattle.ecow_tree.proofs.Cuts.{shortened, not_shortened}
use Rattle.ecow_tree.proofs.tree.EcoTree.truncate.Goals as goal

pub returns-then-len-clause-kept : goal.returns-then-len-clause-kept
returns-then-len-clause-kept g c = not_shortened g.T.Clone.is_clone c.args.self.now c.args.len (search rules)

pub returns-clause-kept : goal.returns-clause-kept
returns-clause-kept g c = shortened g.T.Clone.is_clone c.args.self.now c.split_off.new.self _ c.args.len c.in_ok-_rest.ensures.kept
