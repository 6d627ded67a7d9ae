use Rattle.std.proofs.Common.{◌≡◌, ◌∙◌, List, ℕ, subst, sym}
use Rattle.std.specs.Str.{IsUtf8}
use Rattle.ecow_script.specs.Commands.{counted_form}
use Rattle.ecow_script.specs.Scripts.{script_commands, IsFaultOf}
use Rattle.ecow_script.specs.Runs.{CountedAnswers}
use Rattle.ecow_tool.proofs.Endings.{ends_without_text, ends_with_fault, ends_written}
use Rattle.ecow_tool.specs.Programs.{IsScript}
use Rattle.ecow_tool.proofs.program.run_counted.Goals as goal

pub returns-in_default : goal.returns-in_default
returns-in_default g c =
    ends_without_text counted_form CountedAnswers (g.R.Read.remaining c.args.reader.now)
    (g.W.Write.contents c.args.writer.now) c.in-Ok.script.items c.in-Ok.ensures.script
    c.in-Ok.ensures.fits
    (subst (λ
    (bytes : List ℕ). IsUtf8 bytes → ⊥) c.as_slice.ensures.value c.in_default.ensures.cases.0)

pub returns-in-Ok-counted_answers_to : goal.returns-in-Ok-counted_answers_to
returns-in-Ok-counted_answers_to g c =
    let is : c.in-Ok-from_utf8.text.now ≡ c.in-Ok.script.items =
    c.in-Ok-from_utf8.ensures.cases.0 ∙ c.as_slice.ensures.value in
    let text : IsScript c.in-Ok.script.items = (
      c.in-Ok.ensures.fits,
      subst IsUtf8 c.as_slice.ensures.value
          c.in-Ok-from_utf8.ensures.cases.1,
    ) in
    let wrote = c.write_out.ensures in
    ends_written counted_form CountedAnswers (g.R.Read.remaining c.args.reader.now)
    (g.W.Write.contents c.args.writer.now)
    (g.W.Write.contents c.write_out.new.writer) c.in-Ok.script.items
    c.as_bytes.result.now wrote.0 c.write_out.result c.in-Ok.ensures.script text
    (subst (λ (answers : List ℕ). CountedAnswers c.in-Ok.script.items answers)
    (sym c.as_bytes.ensures.value)
    (subst (λ (script : List ℕ). CountedAnswers script
    c.in-Ok-counted_answers_to.answers.bytes.items) is
    c.in-Ok-counted_answers_to.ensures.answers))
    wrote.1 wrote.2

pub returns : goal.returns
returns g c =
    let is : c.in-Ok-from_utf8.text.now ≡ c.in-Ok.script.items =
    c.in-Ok-from_utf8.ensures.cases.0 ∙ c.as_slice.ensures.value in
    let text : IsScript c.in-Ok.script.items = (
      c.in-Ok.ensures.fits,
      subst IsUtf8 c.as_slice.ensures.value
          c.in-Ok-from_utf8.ensures.cases.1,
    ) in
    let fault = c.in-Err-counted_answers_to.fault in
    ends_with_fault counted_form CountedAnswers (g.R.Read.remaining c.args.reader.now)
    (g.W.Write.contents c.args.writer.now) c.in-Ok.script.items fault c.from.result c.from.ensures
    c.in-Ok.ensures.script text
    (subst (λ (script : List ℕ). IsFaultOf fault
    (script_commands counted_form script)) is c.in-Err-counted_answers_to.ensures.fault)
