use Rattle.std.proofs.Common.{rules, [], ◌∷◌, subst}
use Rattle.ecow_counted.specs.State.{IsValid}
use Rattle.ecow_counted.proofs.Filling.{paid, runs_one}
use Rattle.ecow_counted.proofs.counted.Counted.step.Goals as goal

pub returns-clause-totals : goal.returns-clause-totals
returns-clause-totals g c = λ clones.
    let valid = subst IsValid c.self.view_is c.self.invariant in
    let outcome = c.carry_out-outcome.result.outcome in
    (paid c.args.self.now (c.args.command ∷ []) (outcome ∷ []) _ valid.sharing
    (runs_one c.args.self.now c.args.command outcome _ (search rules) (search rules) (search rules))).totals
