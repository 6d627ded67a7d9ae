-- What a script's commands answer, from its text to the text of its answers.
use Rattle.std.specs.Prelude.{◌≡◌, ℕ, ℤ, List, ◌++◌, Ok, codes, decimal}
use Rattle.std.specs.FinMap as finite
use Rattle.ecow_model.specs.Names.{blocks}
use Rattle.ecow_model.specs.Run.{Run}
use Rattle.ecow_model.specs.State.{State}
use Rattle.ecow_model.specs.declared.command.Command.{Command}
use Rattle.ecow_model.specs.declared.command.Outcome.{Outcome}
use Rattle.ecow_model.specs.declared.vecs.VecCommand.{VecCommand}
use Rattle.ecow_counted.specs.Filling.{IsRunOf}
use Rattle.ecow_counted.specs.State.{CountedState}
use Rattle.ecow_script.specs.Scripts.{script_commands}
use Rattle.ecow_script.specs.Commands.{store_form, counted_form}
use Rattle.ecow_script.specs.Answers.{answer_lines}

-- the answers of a new store to the commands of a script
abbrev pub Answers : List ℕ → List ℕ → Type 0
Answers script answers =
    (commands : List (Command ℤ)) × (outcomes : List (Outcome ℤ)) × (last : State ℤ)
    × (script_commands store_form script ≡ Ok commands)
    × Run 15 finite.empty commands outcomes last
    × (answers ≡ answer_lines outcomes)

-- a table without names, by which nothing was copied or moved
abbrev pub new_table : CountedState ℤ
new_table = record { names = finite.empty; copied = 0; moved = 0 }

-- the line of what a table holds and did
abbrev pub totals_line : CountedState ℤ → List ℕ
totals_line table =
    codes "blocks " ++ decimal (blocks table.names) ++ codes " copied " ++ decimal table.copied
    ++ codes " moved " ++ decimal table.moved ++ codes "\n"

-- the answers of a new table to the commands of a script, and the line of its totals
abbrev pub CountedAnswers : List ℕ → List ℕ → Type 0
CountedAnswers script answers =
    (commands : List (VecCommand ℤ)) × (outcomes : List (Outcome ℤ)) × (last : CountedState ℤ)
    × (script_commands counted_form script ≡ Ok commands)
    × IsRunOf new_table commands outcomes last
    × (answers ≡ answer_lines outcomes ++ totals_line last)
