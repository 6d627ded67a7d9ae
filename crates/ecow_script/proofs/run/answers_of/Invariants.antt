use Rattle.std.proofs.Common.{◌≡◌, ℤ, List, length, true, string_bytes}
use Rattle.ecow_script.specs.Scripts.{script_commands, commands_ahead, with_front}
use Rattle.ecow_script.specs.Answers.{answer_lines}
use Rattle.ecow_model.specs.declared.command.Outcome.{Outcome}
use Rattle.ecow_script.proofs.run.answers_of.Given as goal

-- the commands that were read, and, where all were carried out, their outcomes
abbrev pub invariant-pieces : goal.invariant-pieces
invariant-pieces g l =
    (done : List g.row.C.Denot) ×
    (script_commands g.C.Scripted.form l.fn.script
    ≡ with_front done (commands_ahead g.C.Scripted.form l.rest))
    × (l.ran ≡ true →
    (outcomes : List (Outcome ℤ)) × g.K.NamedStore.runs l.fn.store done outcomes l.store ×
    (string_bytes l.answers ≡ answer_lines outcomes))

abbrev pub decreases-pieces : goal.decreases-pieces
decreases-pieces g l = length l.rest.text
