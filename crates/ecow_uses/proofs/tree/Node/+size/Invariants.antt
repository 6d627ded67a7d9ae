use Rattle.std.proofs.Common.{◌≡◌, ◌+◌, drop, map}
use Rattle.std.specs.Prelude.{sum}
use Rattle.ecow_uses.specs.Trees.{size}
use Rattle.ecow_uses.proofs.tree.Node.+size.Given as goal

-- the nodes that were counted and those below the children that are still to come are all
abbrev pub invariant-loop-child : goal.invariant-loop-child
invariant-loop-child l = l.size + sum (map size (drop l.child-index l.child-items)) ≡ size l.fn.self
