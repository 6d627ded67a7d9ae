use Rattle.std.proofs.Common.{rules, arith, ◌≡◌, ◌≤◌, ◌<◌, length, sym, ap, subst}
use Rattle.std.specs.Prelude.{IfOk, IfSome}
use Rattle.ecow_tree.specs.Kept.{Removes}
use Rattle.ecow_tree.specs.Nodes.{items_of, CanSpare, LeadsTo}
use Rattle.ecow_tree.specs.Grown.{Grown}
use Rattle.ecow_tree.proofs.Inside.{inner_all, inner_len, inner_again}
use Rattle.ecow_tree.proofs.Kept.{kept_removed}
use Rattle.ecow_tree.proofs.Lent.{placed_spare, placed_removed, placed_tallest}
use Rattle.ecow_tree.proofs.More.{lent_there}
use Rattle.ecow_tree.proofs.Places.{read_place}
use Rattle.ecow_tree.proofs.Removed.{some_nodes, spare_leaf}
use Rattle.ecow_tree.proofs.node.+remove.Goals as goal

pub Node::remove-invariant_of-self : goal.Node::remove-invariant_of-self
Node::remove-invariant_of-self g t c =
    let same = ap length c.in_err-value.ensures.refused.unchanged in
    let count = inner_len _ _ _ _ c.self.invariant (omega arith) in
    let all = ap length (inner_all _ _ _ _ _ c.self.invariant (ap (λ v. v.items) c.self.view_is) (omega arith)) in
    inner_again _ _ _ _ _ _ c.self.invariant (omega arith) (c.remove_below.ensures.fit _ c.self.invariant.fit)
    (some_nodes _ (omega (arith, same, all, c.requires.within))) (omega (arith, count, same))

pub Node::remove-invariant_of-self-2 : goal.Node::remove-invariant_of-self-2
Node::remove-invariant_of-self-2 g t c =
    let count = inner_len _ _ _ _ c.self.invariant (omega arith) in
    let all = ap length (inner_all _ _ _ _ _ c.self.invariant (ap (λ v. v.items) c.self.view_is) (omega arith)) in
    let one = kept_removed g.T.Clone.is_clone _ _ _ _ (omega (arith, all, c.requires.within)) c.in_ok-value.ensures.removed in
    inner_again _ _ _ _ _ _ c.self.invariant (omega arith) (c.remove_below.ensures.fit _ c.self.invariant.fit)
    (some_nodes _ (omega (arith, one, all, c.requires.several (omega (arith, ap (λ v. v.height) c.self.view_is))))) (omega (arith, count, all, one, c.len-len.ensures))

pub remove::remove_below-remove_node-requires-clause-found : goal.remove::remove_below-remove_node-requires-clause-found
remove::remove_below-remove_node-requires-clause-found g t c =
    let there = read_place c.spared.new.nodes c.as_slice.result.now c.in_ok-at.at c.index-as_slice-at.result c.as_slice.ensures c.index-as_slice-at.is c.in_ok-at.ensures.in_bounds in
    let spare = subst (λ o. IfSome o (λ (node : Grown g.row.T.Denot). CanSpare node × (c.in_ok-at.rest < length node.items))) there c.in_ok-at.ensures.spare in
    let one : length c.index-as_slice-at.result.items ≡ 1 = omega (arith, c.len.ensures, c.if-len-eq1.true) in
    subst (λ o. IfSome o (λ (node : Grown g.row.T.Denot). (node.height ≡ 0) × (length node.items ≡ 1))) (sym there)
    (spare_leaf c.index-as_slice-at.result spare.0 one, one)

pub remove::remove_below-returns-then-len-eq1-clause-removed : goal.remove::remove_below-returns-then-len-eq1-clause-removed
remove::remove_below-returns-then-len-eq1-clause-removed g t c =
    let there = read_place c.spared.new.nodes c.as_slice.result.now c.in_ok-at.at c.index-as_slice-at.result c.as_slice.ensures c.index-as_slice-at.is c.in_ok-at.ensures.in_bounds in
    let spare = subst (λ o. IfSome o (λ (node : Grown g.row.T.Denot). CanSpare node × (c.in_ok-at.rest < length node.items))) there c.in_ok-at.ensures.spare in
    let first : c.in_ok-at.rest ≡ 0 = omega (arith, c.len.ensures, c.if-len-eq1.true, spare.1) in
    subst (λ old. IfOk c.remove_node.result (λ value. Removes g.T.Clone.is_clone old c.args.index value (items_of c.remove_node.new.nodes))) c.spared.ensures.items
    (c.remove_node.ensures.removed c.args.index (subst (λ r. LeadsTo c.spared.new.nodes c.args.index c.in_ok-at.at r) first c.in_ok-at.ensures.leads))

pub remove::remove_below-returns-then-len-eq1-clause-fit : goal.remove::remove_below-returns-then-len-eq1-clause-fit
remove::remove_below-returns-then-len-eq1-clause-fit g t c h all = c.remove_node.ensures.fit h (c.spared.ensures.fit h all)

pub remove::remove_below-remove_there-requires : goal.remove::remove_below-remove_there-requires
remove::remove_below-remove_there-requires g t c κs within =
    let there = read_place c.spared.new.nodes c.as_slice.result.now c.in_ok-at.at c.index-as_slice-at.result c.as_slice.ensures c.index-as_slice-at.is c.in_ok-at.ensures.in_bounds in
    let spare = subst (λ o. IfSome o (λ (node : Grown g.row.T.Denot). CanSpare node × (c.in_ok-at.rest < length node.items))) there c.in_ok-at.ensures.spare in
    let found = subst (λ o. IfSome o (λ (node : Grown g.row.T.Denot). CanSpare node × (2 ≤ length node.items) × (c.in_ok-at.rest < length node.items))) (sym there)
    (spare.0, omega (arith, c.len.ensures, c.if-len-eq1.false, spare.1), spare.1) in
    let bounds = c.in_ok-at.ensures.in_bounds in
    let low = c.spared.ensures.tallest in
    search (rules, bounds, found, low)

pub remove::remove_below-returns-clause-fit : goal.remove::remove_below-returns-clause-fit
remove::remove_below-returns-clause-fit g t c h all = c.remove_there.ensures.fit h (c.spared.ensures.fit h all)

pub remove::remove_there-returns-clause-removed : goal.remove::remove_there-returns-clause-removed
remove::remove_there-returns-clause-removed g t c all l =
    let was = c.in-Ok.ensures.value (λ x y same. same) in
    let there = lent_there c.args.nodes.now c.in-Ok.block.now.items c.as_mut_slice.result.now c.args.at c.args.index c.index-as_mut_slice-at.result c.as_mut_slice.ensures.value was c.requires.in_bounds in
    let fine = subst (λ o. IfSome o (λ (node : Grown g.row.T.Denot). CanSpare node × (2 ≤ length node.items) × (c.args.index < length node.items))) there c.requires.found in
    placed_removed c.args.nodes.now _ _ _ c.args.at c.index-as_mut_slice-at.result c.remove.new.self c.requires.in_bounds
    (c.own_mut.follows.holds _ (search rules)) c.as_mut_slice.ensures.value was g.T.Clone.is_clone all c.args.index _ l fine.2
    c.in_ok-value.ensures.removed

pub remove::remove_there-returns-clause-tallest : goal.remove::remove_there-returns-clause-tallest
remove::remove_there-returns-clause-tallest g t c =
    placed_tallest c.args.nodes.now _ _ _ c.args.at c.index-as_mut_slice-at.result c.remove.new.self c.requires.in_bounds
    (c.own_mut.follows.holds _ (search rules)) c.as_mut_slice.ensures.value (c.in-Ok.ensures.value (λ x y same. same)) c.remove.ensures.height

pub remove::remove_there-returns-clause-fit : goal.remove::remove_there-returns-clause-fit
remove::remove_there-returns-clause-fit g t c h all =
    let was = c.in-Ok.ensures.value (λ x y same. same) in
    let there = lent_there c.args.nodes.now c.in-Ok.block.now.items c.as_mut_slice.result.now c.args.at c.args.index c.index-as_mut_slice-at.result c.as_mut_slice.ensures.value was c.requires.in_bounds in
    let fine = subst (λ o. IfSome o (λ (node : Grown g.row.T.Denot). CanSpare node × (2 ≤ length node.items) × (c.args.index < length node.items))) there c.requires.found in
    placed_spare c.args.nodes.now _ _ _ c.args.at c.index-as_mut_slice-at.result c.remove.new.self c.requires.in_bounds
    (c.own_mut.follows.holds _ (search rules)) c.as_mut_slice.ensures.value was h all c.remove.ensures.height fine.0 fine.1
    (kept_removed g.T.Clone.is_clone _ _ _ _ fine.2 c.in_ok-value.ensures.removed)
