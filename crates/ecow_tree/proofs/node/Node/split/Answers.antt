use Rattle.std.proofs.Common.{arith, ◌≡◌, ◌++◌, length, ap, sym, ◌∙◌, append-nil}
use Rattle.ecow_tree.specs.Nodes.{items_of}
use Rattle.ecow_tree.proofs.Cuts.{split_kept}
use Rattle.ecow_tree.proofs.Inside.{leaf_all, leaf_again, leaf_nodes}
use Rattle.ecow_tree.proofs.node.Node.split.Goals as goal

pub split_off-requires : goal.split_off-requires
split_off-requires g c =
    omega (
      arith,
      c.requires.within,
      ap length (leaf_all _ _ _ _ _ c.self.invariant (ap (λ v. v.items) c.self.view_is) (ap (λ v. v.height) c.self.view_is ∙ c.requires.leaf)),
    )

pub invariant_of-self-2 : goal.invariant_of-self-2
invariant_of-self-2 g c =
    leaf_again _ _ _ _ _ _ c.self.invariant (ap (λ v. v.height) c.self.view_is ∙ c.requires.leaf) (sym c.in_ok-rest.ensures.len.0)

pub returns-clause-kept : goal.returns-clause-kept
returns-clause-kept g c =
    let low = ap (λ v. v.height) c.self.view_is ∙ c.requires.leaf in
    split_kept g.T.Clone.is_clone c.self.inside.items c.args.self.now.items c.split_off.new.self c.in_ok-rest.rest c.self.inside.nodes c.args.at
    (leaf_nodes _ _ _ _ c.self.invariant low) (leaf_all _ _ _ _ _ c.self.invariant (ap (λ v. v.items) c.self.view_is) low)
    c.in_ok-rest.ensures.kept.0 c.in_ok-rest.ensures.kept.1 c.in_ok-rest.ensures.len.0 c.leaf.result.items c.leaf.ensures.items

pub returns-clause-len : goal.returns-clause-len
returns-clause-len g c =
    let low = ap (λ v. v.height) c.self.view_is ∙ c.requires.leaf in (
      ap (λ ns. length (c.split_off.new.self ++ items_of ns)) (leaf_nodes _ _ _ _ c.self.invariant low)
          ∙ ap length (append-nil c.split_off.new.self) ∙ c.in_ok-rest.ensures.len.0,
      omega (
        arith,
        ap length c.leaf.ensures.items,
        c.in_ok-rest.ensures.len.1,
        ap length (leaf_all _ _ _ _ _ c.self.invariant (ap (λ v. v.items) c.self.view_is) low),
        c.requires.within,
      ),
    )
