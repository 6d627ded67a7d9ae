use Rattle.ecow_string.proofs.Printed.{text_after_writes}
use Rattle.ecow_string.proofs.string.SmallText.format.Goals as goal

pub returns-clause-text : goal.returns-clause-text
returns-clause-text g c =
    rw c.shrink_to_fit.ensures.chars
    (rw c.new-target.ensures.chars at (text_after_writes c.new-target.result _ (g.T.Display.output c.args.value) c.in_ok-write.ensures.writes))
