-- The commands of a script, behind the word for their kind.
use Rattle.std.specs.Prelude.{ℕ, ℤ, List, codes, if◌then◌else◌}
use Rattle.ecow_script.specs.Words.{Reading, expected, same}
use Rattle.ecow_script.specs.Forms.{one}
use Rattle.ecow_script.specs.VecCommands.{vec_command}
use Rattle.ecow_script.specs.BytesCommands.{bytes_command}
use Rattle.ecow_script.specs.TextCommands.{text_command}
use Rattle.ecow_script.specs.declared.reason.Reason.TheVariants as reason
use Rattle.ecow_model.specs.declared.vecs.VecCommand.{VecCommand}
use Rattle.ecow_model.specs.declared.command.Command.{Command}
use Rattle.ecow_model.specs.declared.command.Command.TheVariants.{Vec, Bytes, Text}

-- a command of the counted store, which has lists alone
abbrev pub counted_form : List ℕ → Reading (VecCommand ℤ)
counted_form kind = if same kind (codes "vec") then vec_command else expected reason.Kind

-- a command of the store
abbrev pub store_form : List ℕ → Reading (Command ℤ)
store_form kind =
    if same kind (codes "vec") then one Vec vec_command
    else if same kind (codes "bytes") then one Bytes bytes_command
    else if same kind (codes "text") then one Text text_command
    else expected reason.Kind
