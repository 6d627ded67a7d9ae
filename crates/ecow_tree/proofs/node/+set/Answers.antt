use Rattle.std.proofs.Common.{rules, arith, length, ap}
use Rattle.ecow_tree.proofs.Inside.{leaf_all, leaf_nodes, leaf_len, leaf_again, inner_len, inner_again}
use Rattle.ecow_tree.proofs.Kept.{in_leaf}
use Rattle.ecow_tree.proofs.Parts.{lent_tallest}
use Rattle.ecow_tree.proofs.Lent.{lent_set, lent_same_length}
use Rattle.ecow_tree.proofs.node.+set.Goals as goal

pub Node::set-set-requires : goal.Node::set-set-requires
Node::set-set-requires g t c =
    omega (arith, ap length (leaf_all _ _ _ _ _ c.self.invariant (ap (λ v. v.items) c.self.view_is) (omega arith)))

pub Node::set-invariant_of-self-then-self-eq0 : goal.Node::set-invariant_of-self-then-self-eq0
Node::set-invariant_of-self-then-self-eq0 g t c =
    leaf_again _ _ _ _ _ _ c.self.invariant (omega arith) (omega (arith, leaf_len _ _ _ _ c.self.invariant (omega arith), c.in_ok-set.ensures.len))

pub Node::set-returns-then-self-eq0-clause-kept : goal.Node::set-returns-then-self-eq0-clause-kept
Node::set-returns-then-self-eq0-clause-kept g t c =
    in_leaf g.T.Clone.is_clone _ _ _ _ _ (leaf_nodes _ _ _ _ c.self.invariant (omega arith)) (ap (λ v. v.items) c.self.view_is) c.in_ok-set.ensures.change.kept

pub Node::set-invariant_of-self-in_err-set_below : goal.Node::set-invariant_of-self-in_err-set_below
Node::set-invariant_of-self-in_err-set_below g t c =
    inner_again _ _ _ _ _ _ c.self.invariant (omega arith) (c.set_below.ensures.fit _ c.self.invariant.fit)
    (omega (arith, c.set_below.ensures.some, (c.self.invariant.inner (omega arith)).1))
    (omega (arith, c.set_below.ensures.len, inner_len _ _ _ _ c.self.invariant (omega arith)))

pub Node::set-invariant_of-self-2 : goal.Node::set-invariant_of-self-2
Node::set-invariant_of-self-2 g t c =
    inner_again _ _ _ _ _ _ c.self.invariant (omega arith) (c.set_below.ensures.fit _ c.self.invariant.fit)
    (omega (arith, c.set_below.ensures.some, (c.self.invariant.inner (omega arith)).1))
    (omega (arith, c.set_below.ensures.len, inner_len _ _ _ _ c.self.invariant (omega arith)))

pub set::set_below-returns-clause-kept : goal.set::set_below-returns-clause-kept
set::set_below-returns-clause-kept g t c =
    lent_set g.T.Clone.is_clone c.args.nodes.now c.as_slice.result.now c.in-Ok.block.now.items c.as_mut_slice.result.now _ c.args.index c.seek-at.result.0 c.seek-at.result.1
    c.index-as_mut_slice-at.result c.set.new.self
    c.as_slice.ensures c.seek-at.ensures.leads (c.own_mut.follows.holds _ (search rules)) c.as_mut_slice.ensures.value
    (c.in-Ok.ensures.value (λ x y same. same)) c.args.value c.seek-at.ensures.within c.in_ok-set.ensures.kept

pub set::set_below-returns-clause-tallest : goal.set::set_below-returns-clause-tallest
set::set_below-returns-clause-tallest g t c =
    lent_tallest c.args.nodes.now _ _ _ _ c.args.index c.seek-at.result.0 c.seek-at.result.1 c.index-as_mut_slice-at.result c.set.new.self
    c.as_slice.ensures c.seek-at.ensures.leads (c.own_mut.follows.holds _ (search rules)) c.as_mut_slice.ensures.value
    (c.in-Ok.ensures.value (λ x y same. same)) c.set.ensures.height

pub set::set_below-returns-clause-len : goal.set::set_below-returns-clause-len
set::set_below-returns-clause-len g t c =
    lent_same_length c.args.nodes.now _ _ _ _ c.args.index c.seek-at.result.0 c.seek-at.result.1 c.index-as_mut_slice-at.result c.set.new.self
    c.as_slice.ensures c.seek-at.ensures.leads (c.own_mut.follows.holds _ (search rules)) c.as_mut_slice.ensures.value
    (c.in-Ok.ensures.value (λ x y same. same)) c.set.ensures.len
