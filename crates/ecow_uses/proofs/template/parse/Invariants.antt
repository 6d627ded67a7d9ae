use Rattle.ecow_uses.proofs.Pieces.{SoFar}
use Rattle.ecow_uses.proofs.template.parse.Given as goal

abbrev pub invariant-loop-c : goal.invariant-loop-c
invariant-loop-c l = SoFar l.pieces l.in_hole l.part.chars l.yielded
