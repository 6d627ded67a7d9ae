use Rattle.std.proofs.Common.{◌∙◌}
use Rattle.std.specs.Str.{chars}
use Rattle.ecow_uses.proofs.Holes.{no_hole}
use Rattle.ecow_uses.proofs.template.fill.Goals as goal

pub returns-in_ok-render-in-Some-clause-no_hole : goal.returns-in_ok-render-in-Some-clause-no_hole
returns-in_ok-render-in-Some-clause-no_hole c lacks =
    c.in_ok-render-in-Some.ensures
    ∙ no_hole c.args.values.now c.in-Some.pieces (chars c.args.template.now) (rw c.in-Some.is at c.in_ok-pieces.ensures.pieces) lacks
