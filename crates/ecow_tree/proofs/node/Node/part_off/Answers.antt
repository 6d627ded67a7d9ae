use Rattle.std.proofs.Common.{arith, length, ap, ◌∙◌}
use Rattle.ecow_tree.proofs.Inside.{leaf_all, leaf_nodes, leaf_len, leaf_again}
use Rattle.ecow_tree.proofs.Moved.{off_leaf, off_len}
use Rattle.ecow_tree.proofs.node.Node.part_off.Goals as goal

pub move_with-requires-clause-in_bounds : goal.move_with-requires-clause-in_bounds
move_with-requires-clause-in_bounds g c =
    let leaf = ap (λ v. v.height) c.self.view_is ∙ c.requires.leaf in
    omega (arith, ap length (leaf_all _ _ _ _ _ c.self.invariant (ap (λ v. v.items) c.self.view_is) leaf), c.requires.in_bounds)

pub invariant_of-self-2 : goal.invariant_of-self-2
invariant_of-self-2 g c =
    let leaf = ap (λ v. v.height) c.self.view_is ∙ c.requires.leaf in
    let whole = leaf_all _ _ _ _ _ c.self.invariant (ap (λ v. v.items) c.self.view_is) leaf in
    let count = leaf_len _ _ _ _ c.self.invariant leaf in
    leaf_again _ _ _ _ _ _ c.self.invariant leaf
    (off_len g.T.Clone.is_clone _ _ _ _ _ (leaf_nodes _ _ _ _ c.self.invariant leaf) whole _ _ _ _ _ c.in_ok-moved.ensures.moved count
    (omega (arith, c.requires.start, c.requires.end)) (omega (arith, count, ap length whole, c.requires.in_bounds)))

pub returns-clause-moved : goal.returns-clause-moved
returns-clause-moved g c =
    let leaf = ap (λ v. v.height) c.self.view_is ∙ c.requires.leaf in
    let whole = leaf_all _ _ _ _ _ c.self.invariant (ap (λ v. v.items) c.self.view_is) leaf in
    off_leaf g.T.Clone.is_clone _ _ _ _ _ (leaf_nodes _ _ _ _ c.self.invariant leaf) whole _ _ _ _ _ c.in_ok-moved.ensures.moved c.leaf.ensures.items
