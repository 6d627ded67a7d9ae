use Rattle.ecow_model.proofs.CallerLemmas.{other_lists_stay}
use Rattle.ecow_model.specs.declared.vecs.VecCommand.TheVariants.{Write}
use Rattle.ecow_uses.proofs.settings.set.Goals as goal

pub returns-clause-others : goal.returns-clause-others
returns-clause-others c other differ =
    other_lists_stay c.args.settings.now.names c.step.new.self.names c.step.result
    (Write c.args.version c.args.setting c.args.value) other (c.step.ensures.step (λ x y same. same)) differ
