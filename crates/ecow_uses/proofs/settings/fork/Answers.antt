use Rattle.ecow_model.proofs.CallerLemmas.{other_lists_stay}
use Rattle.ecow_model.specs.declared.vecs.VecCommand.TheVariants.{Clone}
use Rattle.ecow_uses.proofs.settings.fork.Goals as goal

pub returns-clause-others : goal.returns-clause-others
returns-clause-others c version differ =
    other_lists_stay c.args.settings.now.names c.share.new.self.names c.share.result (Clone c.args.from c.args.to) version c.share.ensures.step differ
