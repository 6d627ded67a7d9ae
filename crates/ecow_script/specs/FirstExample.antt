-- The script in examples/first.eco, what it commands, and what is answered.
use Rattle.std.specs.Prelude.{◌≡◌, ℕ, ℤ, pos, map, List, [], ◌∷◌, ◌++◌, codes}
use Rattle.ecow_model.specs.declared.command.Command.{Command}
use Rattle.ecow_model.specs.declared.command.Command.TheVariants.{Vec}
use Rattle.ecow_model.specs.declared.command.Outcome.{Outcome}
use Rattle.ecow_model.specs.declared.command.Outcome.TheVariants.{Refused}
use Rattle.ecow_model.specs.declared.command.Refusal.TheVariants.{Memory}
use Rattle.ecow_model.specs.declared.vecs.VecCommand.{VecCommand}
use Rattle.ecow_model.specs.declared.vecs.VecCommand.TheVariants.{FromList, Clone, Push, Truncate, Clear, Contents}

-- the characters of the file, a line of it on each line
abbrev pub first_script : List ℕ
first_script =
    codes "# Three names of one list, each changed. The answers are hand-worked.\n"
    ++ codes "vec from_list a [1,2,3]\n"
    ++ codes "#> ok\n"
    ++ codes "vec clone a b\n"
    ++ codes "#> ok\n"
    ++ codes "vec push b 4\n"
    ++ codes "#> ok\n"
    ++ codes "vec clone a c\n"
    ++ codes "#> ok\n"
    ++ codes "vec truncate c 1\n"
    ++ codes "#> ok\n"
    ++ codes "vec clear a\n"
    ++ codes "#> ok\n"
    ++ codes "vec contents a\n"
    ++ codes "#> []\n"
    ++ codes "vec contents b\n"
    ++ codes "#> [1,2,3,4]\n"
    ++ codes "vec contents c\n"
    ++ codes "#> [1]\n"

-- the commands on a, b and c, which are numbered 0, 1 and 2
abbrev pub first_vec_commands : List (VecCommand ℤ)
first_vec_commands =
    FromList 0 (pos 1 ∷ pos 2 ∷ pos 3 ∷ [])
    ∷ Clone 0 1
    ∷ Push 1 (pos 4)
    ∷ Clone 0 2
    ∷ Truncate 2 1
    ∷ Clear 0
    ∷ Contents 0
    ∷ Contents 1
    ∷ Contents 2
    ∷ []

-- these for a store
abbrev pub first_commands : List (Command ℤ)
first_commands = map Vec first_vec_commands

-- the nine lines
abbrev pub first_answers : List ℕ
first_answers =
    codes "ok\nok\nok\nok\nok\nok\n"
    ++ codes "[]\n"
    ++ codes "[1,2,3,4]\n"
    ++ codes "[1]\n"

-- the line of the totals, with `--counted`
abbrev pub first_totals : List ℕ
first_totals = codes "blocks 3 copied 4 moved 0\n"

-- no outcome is a want of memory
abbrev pub LackNothing : {T : Type 0} → List (Outcome T) → Type 0
LackNothing [] = Unit {0}
LackNothing (outcome ∷ outcomes) = (outcome ≡ Refused Memory → ⊥) × LackNothing outcomes
