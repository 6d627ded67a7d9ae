use Rattle.std.proofs.Common.{◌∙◌, ap, length}
use Rattle.std.specs.Prelude.{◌==◌}
use Rattle.ecow_base.specs.declared.plain.PlainText.{PlainText}
use Rattle.ecow_string.proofs.Texts.{empty_together}
use Rattle.ecow_string.proofs.string.SmallText.is_empty.Goals as goal

pub returns : goal.returns
returns g c = c.is_empty.ensures ∙ empty_together _ c.self.invariant ∙ ap (λ (t : PlainText). length t.chars == 0) c.self.view_is
