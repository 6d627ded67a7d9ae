use Rattle.std.proofs.Common.{rules, ap, inl, ◌∙◌}
use Rattle.std.specs.FinMap.{remove}
use Rattle.ecow_model.specs.Values.{Named}
use Rattle.ecow_model.specs.declared.command.Outcome.TheVariants.{Done}
use Rattle.ecow_model.proofs.Uses.{edit_lifts, edit_verdict_lifts, answer_lifts, answer_verdict_lifts, refused_lifts, put_wrap, on_refused}
use Rattle.ecow_store.proofs.kinds.carry_out.Goals as goal

pub returns-in-Ok-payload-clause-step : goal.returns-in-Ok-payload-clause-step
returns-in-Ok-payload-clause-step g c =
    λ clones. rw c.in-Edit.is (edit_lifts g.K.ValueKind.rules g.met.K.ValueKind.wraps
    c.args.values.now c.in-Edit.name c.in-Ok-payload.payload.now c.in-Ok-payload.ensures.value
    c.in-Edit.edit c.edit.result c.edit.new.payload (c.edit.ensures.step clones))

pub returns-in-Ok-payload-clause-verdict : goal.returns-in-Ok-payload-clause-verdict
returns-in-Ok-payload-clause-verdict g c =
    rw c.in-Edit.is (edit_verdict_lifts g.K.ValueKind.rules g.met.K.ValueKind.wraps
    c.args.values.now c.in-Edit.name c.in-Ok-payload.payload.now c.in-Ok-payload.ensures.value
    c.in-Edit.edit c.edit.result c.edit.ensures.verdict)

pub returns-in-Ok-payload-clause-unchanged : goal.returns-in-Ok-payload-clause-unchanged
returns-in-Ok-payload-clause-unchanged g c =
    refused_lifts g.K.ValueKind.rules g.met.K.ValueKind.wraps c.args.values.now c.in-Edit.name
    c.in-Ok-payload.payload.now c.in-Ok-payload.ensures.value c.edit.new.payload c.edit.result
    c.edit.ensures.unchanged

pub returns-in-Ok-payload-2-clause-step : goal.returns-in-Ok-payload-2-clause-step
returns-in-Ok-payload-2-clause-step g c =
    λ clones. rw (
      c.in-Ask.is,
      put_wrap g.K.ValueKind.rules g.met.K.ValueKind.wraps c.args.values.now c.in-Ask.name
          c.in-Ok-payload-2.payload.now c.in-Ok-payload-2.ensures.value c.ask.new.payload
          c.ask.ensures.unchanged,
    )
    (answer_lifts g.K.ValueKind.rules g.met.K.ValueKind.wraps c.args.values.now c.in-Ask.name
    c.in-Ok-payload-2.payload.now c.in-Ok-payload-2.ensures.value c.in-Ask.question c.ask.result
    (c.ask.ensures.answer clones))

pub returns-in-Ok-payload-2-clause-verdict : goal.returns-in-Ok-payload-2-clause-verdict
returns-in-Ok-payload-2-clause-verdict g c =
    rw c.in-Ask.is (answer_verdict_lifts g.K.ValueKind.rules g.met.K.ValueKind.wraps
    c.args.values.now c.in-Ask.name c.in-Ok-payload-2.payload.now c.in-Ok-payload-2.ensures.value
    c.in-Ask.question c.ask.result c.ask.ensures.verdict)

pub returns-in-Ok-payload-2-clause-unchanged : goal.returns-in-Ok-payload-2-clause-unchanged
returns-in-Ok-payload-2-clause-unchanged g c =
    on_refused c.ask.result (put_wrap g.K.ValueKind.rules g.met.K.ValueKind.wraps
    c.args.values.now c.in-Ask.name c.in-Ok-payload-2.payload.now c.in-Ok-payload-2.ensures.value
    c.ask.new.payload c.ask.ensures.unchanged)

pub returns-in_default-payload-clause-step : goal.returns-in_default-payload-clause-step
returns-in_default-payload-clause-step g c =
    λ clones. rw (c.in-Drop.is, c.in_default-payload.ensures.value)
    (inl (ap (λ values. (Done, values))
    (c.remove.ensures.removed ∙ ap (λ (values : Named g.row.V.Denot). remove values c.in-Drop.name)
    (put_wrap g.K.ValueKind.rules g.met.K.ValueKind.wraps c.args.values.now c.in-Drop.name
    c.in_default-payload.field-0.now c.in_default-payload.ensures.value _ (search rules)))))
