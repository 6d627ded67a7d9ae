use Rattle.std.proofs.Common.{◌∷◌, ◌++◌, []}
use Rattle.ecow_list.specs.Vectors.{Appends}
use Rattle.ecow_list.proofs.vec.conversions.append.Given as goal

abbrev pub invariant-loop-item : goal.invariant-loop-item
invariant-loop-item g l =
    Appends (l.fn.block.items ++ l.fn.first ∷ []) l.yielded l.block.items
    × (goal.iterator-loop-item g).can_next l.iter × (goal.iterator-loop-item g).is_finite l.iter
