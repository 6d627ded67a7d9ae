use Rattle.std.proofs.Common.{rules, arith, ◌<◌, ◌≤◌, length, get_or, ap, sym, subst}
use mathlib.Core.Former.{this}
use denote.Param.Weighed.{most, w_this}
use Rattle.ecow_tree.specs.declared.node.Node.{Node}
use Rattle.ecow_tree.specs.declared.node.Node.TheDeep.{size-Node}
use Rattle.ecow_tree.proofs.More.{is_there, leads_there, part_inside, part_leaf, lent_inside, lent_bounded, lent_most}
use Rattle.ecow_block.specs.Updates.{TakesKeptAt}
use Rattle.ecow_tree.specs.Nodes.{items_of}
use Rattle.ecow_tree.proofs.Inside.{leaf_all, leaf_nodes, leaf_len, leaf_again, inner_all, inner_len, inner_again}
use Rattle.ecow_tree.proofs.Kept.{update_leaf}
use Rattle.ecow_tree.proofs.Parts.{lent_tallest}
use Rattle.ecow_tree.proofs.More.{lent_most}
use Rattle.ecow_tree.proofs.Lent.{lent_bound, lent_within, lent_read, lent_update, lent_same_length}
use Rattle.ecow_tree.proofs.node.Node.+update.Goals as goal

pub update-update-requires-clause-in_bounds : goal.update-update-requires-clause-in_bounds
update-update-requires-clause-in_bounds g t c =
    omega (arith, ap length (leaf_all _ _ _ _ _ c.self.invariant (ap (λ v. v.items) c.self.view_is) (omega arith)))

pub update-update-requires-clause-callable : goal.update-update-requires-clause-callable
update-update-requires-clause-callable g t c =
    subst (λ xs. TakesKeptAt g.F.FnOnce c.args.f g.T.Clone.is_clone xs c.args.index)
    (sym (leaf_all _ _ _ _ _ c.self.invariant (ap (λ v. v.items) c.self.view_is) (omega arith))) c.requires.callable

pub update-returns-then-self-eq0-clause-kept : goal.update-returns-then-self-eq0-clause-kept
update-returns-then-self-eq0-clause-kept g t c =
    update_leaf g.T.Clone.is_clone g.F.FnOnce c.args.f _ _ _ _ _ _ (leaf_nodes _ _ _ _ c.self.invariant (omega arith)) (ap (λ v. v.items) c.self.view_is)
    c.in_ok-answer.ensures.change.kept

pub update-update_below-requires : goal.update-update_below-requires
update-update_below-requires g t c κs within =
    let all = inner_all _ _ _ _ _ c.self.invariant (ap (λ v. v.items) c.self.view_is) (omega arith) in
    let low : c.args.index < length (items_of c.self.inside.nodes) = omega (arith, ap length all, c.requires.within) in
    let callable = subst (λ xs. TakesKeptAt g.F.FnOnce c.args.f g.T.Clone.is_clone xs c.args.index) (sym all) c.requires.callable in
    search (rules, low, callable)

pub update-invariant_of-self-in_err-answer-2 : goal.update-invariant_of-self-in_err-answer-2
update-invariant_of-self-in_err-answer-2 g t c =
    inner_again _ _ _ _ _ _ c.self.invariant (omega arith) (c.update_below.ensures.fit _ c.self.invariant.fit)
    (omega (arith, c.update_below.ensures.some, (c.self.invariant.inner (omega arith)).1))
    (omega (arith, c.update_below.ensures.len, inner_len _ _ _ _ c.self.invariant (omega arith)))

pub update-invariant_of-self-2 : goal.update-invariant_of-self-2
update-invariant_of-self-2 g t c =
    inner_again _ _ _ _ _ _ c.self.invariant (omega arith) (c.update_below.ensures.fit _ c.self.invariant.fit)
    (omega (arith, c.update_below.ensures.some, (c.self.invariant.inner (omega arith)).1))
    (omega (arith, c.update_below.ensures.len, inner_len _ _ _ _ c.self.invariant (omega arith)))

pub update_below-update-requires : goal.update_below-update-requires
update_below-update-requires g t c κs within =
    let was = c.in-Ok.ensures.value (λ x y same. same) in
    let bound = lent_bound c.args.nodes.now c.as_slice.result.now c.in-Ok.block.now.items c.as_mut_slice.result.now c.args.index c.seek-at.result.0 c.seek-at.result.1 c.index-as_mut_slice-at.result c.as_slice.ensures c.seek-at.ensures.leads c.as_mut_slice.ensures.value was in
    let inside = lent_within c.args.nodes.now c.as_slice.result.now c.in-Ok.block.now.items c.as_mut_slice.result.now c.args.index c.seek-at.result.0 c.seek-at.result.1 c.index-as_mut_slice-at.result c.as_slice.ensures c.seek-at.ensures.leads c.as_mut_slice.ensures.value was c.seek-at.ensures.within in
    let callable : TakesKeptAt g.F.FnOnce c.args.f g.T.Clone.is_clone (get_or c.as_mut_slice.result.now c.seek-at.result.0 c.index-as_mut_slice-at.result).items c.seek-at.result.1 =
    λ x y got. c.requires.callable x y (lent_read c.args.nodes.now c.as_slice.result.now c.in-Ok.block.now.items c.as_mut_slice.result.now c.args.index c.seek-at.result.0 c.seek-at.result.1 c.index-as_mut_slice-at.result c.as_slice.ensures c.seek-at.ensures.leads c.as_mut_slice.ensures.value was x got) in
    let least : size-Node g.row.T.Denot (get_or c.as_mut_slice.result.now c.seek-at.result.0 c.index-as_mut_slice-at.result)
    ≤ most {X = (this {0}).Of (Node g.row.T.Denot)} (λ x. w_this.weight (Node g.row.T.Denot) (size-Node g.row.T.Denot) x) c.args.nodes.now =
    lent_most c.args.nodes.now c.in-Ok.block.now.items c.as_mut_slice.result.now c.seek-at.result.0 c.seek-at.result.1 c.index-as_mut_slice-at.result c.as_mut_slice.ensures.value was bound (size-Node g.row.T.Denot) in
    (omega (arith, least, c.decreases), (search (rules, inside, callable)))

pub update_below-returns-clause-kept : goal.update_below-returns-clause-kept
update_below-returns-clause-kept g t c =
    lent_update g.T.Clone.is_clone c.args.nodes.now c.as_slice.result.now c.in-Ok.block.now.items c.as_mut_slice.result.now _ c.args.index c.seek-at.result.0 c.seek-at.result.1
    c.index-as_mut_slice-at.result c.update.new.self
    c.as_slice.ensures c.seek-at.ensures.leads (c.own_mut.follows.holds _ (search rules)) c.as_mut_slice.ensures.value
    (c.in-Ok.ensures.value (λ x y same. same)) g.F.FnOnce c.args.f c.in_ok-answer.answer c.seek-at.ensures.within c.in_ok-answer.ensures.kept

pub update_below-returns-clause-tallest : goal.update_below-returns-clause-tallest
update_below-returns-clause-tallest g t c =
    lent_tallest c.args.nodes.now _ _ _ _ c.args.index c.seek-at.result.0 c.seek-at.result.1 c.index-as_mut_slice-at.result c.update.new.self
    c.as_slice.ensures c.seek-at.ensures.leads (c.own_mut.follows.holds _ (search rules)) c.as_mut_slice.ensures.value
    (c.in-Ok.ensures.value (λ x y same. same)) c.update.ensures.height

pub update_below-returns-clause-len : goal.update_below-returns-clause-len
update_below-returns-clause-len g t c =
    lent_same_length c.args.nodes.now _ _ _ _ c.args.index c.seek-at.result.0 c.seek-at.result.1 c.index-as_mut_slice-at.result c.update.new.self
    c.as_slice.ensures c.seek-at.ensures.leads (c.own_mut.follows.holds _ (search rules)) c.as_mut_slice.ensures.value
    (c.in-Ok.ensures.value (λ x y same. same)) c.update.ensures.len
