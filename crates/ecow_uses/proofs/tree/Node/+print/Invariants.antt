use Rattle.std.proofs.Common.{◌≡◌, [], ◌∷◌, ◌++◌, drop, map}
use Rattle.ecow_uses.specs.Trees.{spaced, printed}
use Rattle.ecow_uses.proofs.tree.Node.+print.Given as goal

-- the text, the children that are still to come and the last bracket are what the tree is printed as
abbrev pub invariant-loop-child : goal.invariant-loop-child
invariant-loop-child l = l.text.chars ++ (spaced (map printed (drop l.child-index l.child-items)) ++ 41 ∷ []) ≡ l.fn.text.chars ++ printed l.fn.self
