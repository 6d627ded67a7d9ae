use Rattle.std.proofs.Common.{arith, ◌≡◌, ◌-◌, length, take, slice_get, ap}
use Rattle.ecow_list.proofs.Popped.{taken}
use Rattle.ecow_tree.proofs.Kept.{changes_by, popped}
use Rattle.ecow_tree.proofs.tree.EcoTree.pop.Goals as goal

pub returns-clause-change : goal.returns-clause-change
returns-clause-change g c =
    changes_by g.T.Clone.is_clone c.args.self.now _ (λ xs last ys. (last ≡ slice_get xs (length xs - 1)) × (ys ≡ take (length xs - 1) xs)) _
    (popped g.T.Clone.is_clone _ _ _ _ (omega (arith, c.len-len.ensures, ap length c.self.view_is)) (omega (arith, c.if-len-eq0.false)) c.in_ok-last.ensures.change.kept)

pub returns-clause-taken : goal.returns-clause-taken
returns-clause-taken g c equal =
    let change = returns-clause-change g c in taken _ _ _ (change.ok equal).0 (change.ok equal).1
