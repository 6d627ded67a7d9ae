use Rattle.std.proofs.Common.{arith, length, ap, ◌∙◌}
use Rattle.ecow_tree.proofs.Inside.{leaf_all, leaf_nodes, leaf_len, leaf_again}
use Rattle.ecow_tree.proofs.Kept.{out_of_leaf}
use Rattle.ecow_tree.proofs.node.Node.remove_own.Goals as goal

pub remove-requires : goal.remove-requires
remove-requires g c =
    let leaf = ap (λ v. v.height) c.self.view_is ∙ c.requires.leaf in
    omega (arith, ap length (leaf_all _ _ _ _ _ c.self.invariant (ap (λ v. v.items) c.self.view_is) leaf), c.requires.within)

pub invariant_of-self-2 : goal.invariant_of-self-2
invariant_of-self-2 g c =
    let leaf = ap (λ v. v.height) c.self.view_is ∙ c.requires.leaf in
    leaf_again _ _ _ _ _ _ c.self.invariant leaf
    (omega (
      arith,
      leaf_len _ _ _ _ c.self.invariant leaf,
      ap length (leaf_all _ _ _ _ _ c.self.invariant (ap (λ v. v.items) c.self.view_is) leaf),
      c.len-len.ensures,
      c.in_ok-value.ensures.len,
    ))

pub returns-clause-removed : goal.returns-clause-removed
returns-clause-removed g c =
    let leaf = ap (λ v. v.height) c.self.view_is ∙ c.requires.leaf in
    out_of_leaf g.T.Clone.is_clone _ _ _ _ _ _ (leaf_nodes _ _ _ _ c.self.invariant leaf) (ap (λ v. v.items) c.self.view_is) c.in_ok-value.ensures.change.kept
