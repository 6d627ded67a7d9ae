use Rattle.std.proofs.Common.{rules, [], ◌∷◌, subst}
use Rattle.ecow_model.specs.declared.vecs.VecCommand.{VecCommand}
use Rattle.ecow_counted.specs.State.{IsValid}
use Rattle.ecow_counted.proofs.Filling.{paid, runs_one}
use Rattle.ecow_counted.proofs.counted.Counted.share.Goals as goal

pub returns-clause-totals : goal.returns-clause-totals
returns-clause-totals g c =
    let valid = subst IsValid c.self.view_is c.self.invariant in
    let clone = VecCommand.Clone c.args.from c.args.to in
    (paid c.args.self.now (clone ∷ []) (c.join.result ∷ []) _ valid.sharing
    (runs_one c.args.self.now clone c.join.result _ (search rules) (search rules) (search rules))).totals
