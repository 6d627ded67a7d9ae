use Rattle.std.proofs.Common.{ℤ, subst}
use Rattle.std.proofs.lemmas.Result.{IfOk-weaker}
use Rattle.ecow_model.specs.Run.{Run}
use Rattle.ecow_model.specs.State.{State}
use Rattle.ecow_script.proofs.store.answers_to.Goals as goal

pub returns-clause-answers : goal.returns-clause-answers
returns-clause-answers c =
    IfOk-weaker c.answers_of.result _ _
    (λ answers h. (
      h.0,
      h.1,
      c.answers_of.new.store,
      h.2,
      subst (λ (s : State ℤ). Run 15 s h.0 h.1 c.answers_of.new.store) c.new-store.ensures h.3,
      h.4,
    ))
    c.answers_of.ensures.answers
