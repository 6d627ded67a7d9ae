use Rattle.std.proofs.Common.{refl}
use Rattle.ecow_tool.proofs.examples.unreadable_lines.Goals as goal

pub returns-clause-kind : goal.returns-clause-kind
unfolding Rattle.std.specs.Fmt.digits
returns-clause-kind c = refl

pub returns-clause-command : goal.returns-clause-command
unfolding Rattle.std.specs.Fmt.digits
returns-clause-command c = refl

pub returns-clause-name : goal.returns-clause-name
unfolding Rattle.std.specs.Fmt.digits
returns-clause-name c = refl

pub returns-clause-number : goal.returns-clause-number
unfolding Rattle.std.specs.Fmt.digits
returns-clause-number c = refl

pub returns-clause-list : goal.returns-clause-list
unfolding Rattle.std.specs.Fmt.digits
returns-clause-list c = refl

pub returns-clause-marks : goal.returns-clause-marks
unfolding Rattle.std.specs.Fmt.digits
returns-clause-marks c = refl

pub returns-clause-bounds : goal.returns-clause-bounds
unfolding Rattle.std.specs.Fmt.digits
returns-clause-bounds c = refl

pub returns-clause-text : goal.returns-clause-text
unfolding Rattle.std.specs.Fmt.digits
returns-clause-text c = refl

pub returns-clause-arguments : goal.returns-clause-arguments
unfolding Rattle.std.specs.Fmt.digits
returns-clause-arguments c = refl
