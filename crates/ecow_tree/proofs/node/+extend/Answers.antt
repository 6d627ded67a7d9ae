use Rattle.std.proofs.Common.{rules, arith, ◌≡◌, ◌+◌, ◌<◌, length, ap, ◌∙◌}
use Rattle.ecow_tree.specs.Nodes.{items_of}
use Rattle.ecow_tree.proofs.Extended.{extends_len, extends_longer, leaf_extends, last_extends}
use Rattle.ecow_tree.proofs.Inside.{all_len, inner_len, inner_again, leaf_all, leaf_nodes}
use Rattle.ecow_tree.proofs.Lent.{placed_fit, placed_length, placed_tallest}
use Rattle.ecow_tree.proofs.node.+extend.Goals as goal

pub Node::extend-returns-then-self-eq0-clause-appends : goal.Node::extend-returns-then-self-eq0-clause-appends
Node::extend-returns-then-self-eq0-clause-appends g t c =
    leaf_extends g.T.Clone.is_clone c.args.elements.now c.self.inside.items c.extend_from_slice.new.self c.args.self.now.items c.self.inside.nodes
    (leaf_nodes _ _ _ _ c.self.invariant (omega arith)) (leaf_all _ _ _ _ _ c.self.invariant (ap (λ v. v.items) c.self.view_is) (omega arith))
    c.in-Ok.ensures.kept

pub Node::extend-invariant_of-self-in_err-extend_last : goal.Node::extend-invariant_of-self-in_err-extend_last
Node::extend-invariant_of-self-in_err-extend_last g t c =
    inner_again _ _ _ _ _ _ c.self.invariant (omega arith) (c.extend_last.ensures.fit _ c.self.invariant.fit)
    (omega (arith, c.extend_last.ensures.some, (c.self.invariant.inner (omega arith)).1))
    (omega (arith, inner_len _ _ _ _ c.self.invariant (omega arith), ap length c.in_err-extend_last.ensures.refused.unchanged))

pub Node::extend-invariant_of-self-2 : goal.Node::extend-invariant_of-self-2
Node::extend-invariant_of-self-2 g t c =
    inner_again _ _ _ _ _ _ c.self.invariant (omega arith) (c.extend_last.ensures.fit _ c.self.invariant.fit)
    (omega (arith, c.extend_last.ensures.some, (c.self.invariant.inner (omega arith)).1))
    (omega (
      arith,
      inner_len _ _ _ _ c.self.invariant (omega arith),
      extends_len g.T.Clone.is_clone c.args.elements.now _ _ c.in_ok-extend_last.ensures.appends,
    ))

pub extend::extend_last-returns-clause-appends : goal.extend::extend_last-returns-clause-appends
extend::extend_last-returns-clause-appends g t c =
    last_extends g.T.Clone.is_clone c.args.elements.now _ c.args.nodes.now _ _ _ _ c.index-as_mut_slice-last.result c.extend.new.self (omega (arith, c.len-last.ensures.len, c.requires.some))
    (c.own_mut.follows.holds _ (search rules)) c.as_mut_slice.ensures.value (c.in-Ok.ensures.value (λ x y same. same)) c.extend.ensures.appends

pub extend::extend_last-returns-clause-fit : goal.extend::extend_last-returns-clause-fit
extend::extend_last-returns-clause-fit g t c h all =
    placed_fit c.args.nodes.now _ _ _ _ c.index-as_mut_slice-last.result c.extend.new.self (omega (arith, c.len-last.ensures.len, c.requires.some))
    (c.own_mut.follows.holds _ (search rules)) c.as_mut_slice.ensures.value (c.in-Ok.ensures.value (λ x y same. same)) h all c.extend.ensures.height
    (extends_longer g.T.Clone.is_clone c.args.elements.now _ _ _ c.extend.ensures.appends c.extend.ensures.refused.unchanged)

pub extend::extend_last-returns-clause-some : goal.extend::extend_last-returns-clause-some
extend::extend_last-returns-clause-some g t c =
    placed_length c.args.nodes.now _ _ _ _ c.index-as_mut_slice-last.result c.extend.new.self (omega (arith, c.len-last.ensures.len, c.requires.some))
    (c.own_mut.follows.holds _ (search rules)) c.as_mut_slice.ensures.value (c.in-Ok.ensures.value (λ x y same. same))

pub extend::extend_last-returns-clause-tallest : goal.extend::extend_last-returns-clause-tallest
extend::extend_last-returns-clause-tallest g t c =
    placed_tallest c.args.nodes.now _ _ _ _ c.index-as_mut_slice-last.result c.extend.new.self (omega (arith, c.len-last.ensures.len, c.requires.some))
    (c.own_mut.follows.holds _ (search rules)) c.as_mut_slice.ensures.value (c.in-Ok.ensures.value (λ x y same. same)) c.extend.ensures.height
