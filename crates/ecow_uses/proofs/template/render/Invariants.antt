use Rattle.std.proofs.Common.{◌≡◌, map}
use Rattle.std.specs.List.{flat_map}
use Rattle.ecow_uses.specs.Template.{filled}
use Rattle.ecow_uses.proofs.template.render.Given as goal

abbrev pub invariant-loop-piece : goal.invariant-loop-piece
invariant-loop-piece l = l.text.chars ≡ flat_map (filled l.values) (map (λ piece. piece.now) l.yielded)
