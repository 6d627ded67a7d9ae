-- What a reason says.
use Rattle.std.specs.Prelude.{ℕ, List, codes}
use Rattle.ecow_script.specs.declared.reason.Reason.{Reason}
use Rattle.ecow_script.specs.declared.reason.Reason.TheVariants as reason

-- what was expected where a line doesn't fit
abbrev pub reason_text : Reason → List ℕ
reason_text reason.Kind = codes "kind"
reason_text reason.Command = codes "command"
reason_text reason.Name = codes "name"
reason_text reason.Number = codes "number"
reason_text reason.List = codes "list"
reason_text reason.Marks = codes "marks"
reason_text reason.Bounds = codes "bounds"
reason_text reason.Text = codes "text"
reason_text reason.Arguments = codes "arguments"
