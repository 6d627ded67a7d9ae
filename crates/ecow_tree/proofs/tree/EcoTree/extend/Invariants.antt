use Rattle.std.proofs.Common.{List}
use Rattle.std.specs.Iterator.{Yields}
use Rattle.ecow_tree.specs.Recopied.{AppendsCopies}
use Rattle.ecow_tree.proofs.tree.EcoTree.extend.Given as goal

-- the items that came so far were appended
abbrev pub invariant-loop-item : goal.invariant-loop-item
invariant-loop-item g l =
    ((xs : List g.row.T.Denot)
    × Yields (goal.iterator-loop-item g).next_gives l.initial.items xs l.items
    × AppendsCopies g.T.Clone.is_clone l.initial.self xs l.self)
    × (goal.iterator-loop-item g).can_next l.items × (goal.iterator-loop-item g).is_finite l.items
