use Rattle.std.proofs.Common.{rules, arith, refl, ◌≤◌, length, get_or, sym, ap, subst}
use Rattle.std.specs.List.{insert}
use Rattle.ecow_tree.specs.Nodes.{items_of}
use Rattle.ecow_tree.specs.Kept.{AreKeptIn}
use mathlib.Core.Former.{this}
use denote.Param.Weighed.{most, w_this}
use Rattle.ecow_tree.specs.declared.node.Node.{Node}
use Rattle.ecow_tree.specs.declared.node.Node.TheDeep.{size-Node}
use Rattle.ecow_tree.proofs.Inside.{leaf_all, leaf_nodes, leaf_len, leaf_again, inner_len, inner_again, all_len}
use Rattle.ecow_tree.proofs.Kept.{in_leaf, in_nodes, kept_inserted}
use Rattle.ecow_base.specs.declared.capacity.TheConstants.{MAX_LEN}
use Rattle.ecow_tree.proofs.More.{is_there, leads_there, part_inside, part_leaf, lent_inside, lent_bounded, lent_most}
use Rattle.ecow_tree.proofs.Places.{within_by}
use Rattle.ecow_tree.proofs.Lent.{lent_insert, placed_fit, placed_length, placed_tallest}
use Rattle.ecow_tree.proofs.node.+insert.Goals as goal

pub Node::insert-insert-requires : goal.Node::insert-insert-requires
Node::insert-insert-requires g t c =
    omega (arith, ap length (leaf_all _ _ _ _ _ c.self.invariant (ap (λ v. v.items) c.self.view_is) (omega arith)))

pub Node::insert-invariant_of-self-then-self-eq0 : goal.Node::insert-invariant_of-self-then-self-eq0
Node::insert-invariant_of-self-then-self-eq0 g t c =
    leaf_again _ _ _ _ _ _ c.self.invariant (omega arith)
    (omega (arith, leaf_len _ _ _ _ c.self.invariant (omega arith), all_len _ _ _ _ _ c.self.invariant (ap (λ v. v.items) c.self.view_is), c.len-len.ensures, c.in_ok-insert.ensures.len))

pub Node::insert-returns-then-self-eq0-clause-kept : goal.Node::insert-returns-then-self-eq0-clause-kept
Node::insert-returns-then-self-eq0-clause-kept g t c =
    in_leaf g.T.Clone.is_clone _ _ _ _ _ (leaf_nodes _ _ _ _ c.self.invariant (omega arith)) (ap (λ v. v.items) c.self.view_is) c.in_ok-insert.ensures.change.kept

pub Node::insert-invariant_of-self-in_err-insert_below : goal.Node::insert-invariant_of-self-in_err-insert_below
Node::insert-invariant_of-self-in_err-insert_below g t c =
    inner_again _ _ _ _ _ _ c.self.invariant (omega arith) (c.insert_below.ensures.fit _ c.self.invariant.fit) c.insert_below.ensures.some
    (omega (arith, inner_len _ _ _ _ c.self.invariant (omega arith), ap length c.in_err-insert_below.ensures.unchanged))

pub Node::insert-invariant_of-self-2 : goal.Node::insert-invariant_of-self-2
Node::insert-invariant_of-self-2 g t c =
    inner_again _ _ _ _ _ _ c.self.invariant (omega arith) (c.insert_below.ensures.fit _ c.self.invariant.fit) c.insert_below.ensures.some
    (omega (
      arith,
      c.len-len.ensures,
      inner_len _ _ _ _ c.self.invariant (omega arith),
      all_len _ _ _ _ _ c.self.invariant (ap (λ v. v.items) c.self.view_is),
      kept_inserted g.T.Clone.is_clone _ _ _ _ c.in_ok-insert_below.ensures.kept,
    ))

pub Node::insert-returns-clause-kept : goal.Node::insert-returns-clause-kept
Node::insert-returns-clause-kept g t c =
    in_nodes g.T.Clone.is_clone _ _ _ _ _ (c.self.invariant.inner (omega arith)).0 (ap (λ v. v.items) c.self.view_is) c.in_ok-insert_below.ensures.kept

pub insert::insert_there-returns-clause-kept : goal.insert::insert_there-returns-clause-kept
insert::insert_there-returns-clause-kept g t c all l =
    lent_insert g.T.Clone.is_clone c.args.nodes.now c.args.nodes.now _ _ _ all c.args.at c.args.index c.index-as_mut_slice-at.result c.insert.new.self
    refl l (c.own_mut.follows.holds _ (search rules)) c.as_mut_slice.ensures.value (c.in-Ok.ensures.value (λ x y same. same)) c.args.value
    c.in_ok-insert.ensures.kept

pub insert::insert_there-returns-clause-tallest : goal.insert::insert_there-returns-clause-tallest
insert::insert_there-returns-clause-tallest g t c =
    placed_tallest c.args.nodes.now _ _ _ c.args.at c.index-as_mut_slice-at.result c.insert.new.self c.requires.in_bounds
    (c.own_mut.follows.holds _ (search rules)) c.as_mut_slice.ensures.value (c.in-Ok.ensures.value (λ x y same. same)) c.insert.ensures.height

pub insert::insert_there-returns-clause-fit : goal.insert::insert_there-returns-clause-fit
insert::insert_there-returns-clause-fit g t c h all =
    placed_fit c.args.nodes.now _ _ _ c.args.at c.index-as_mut_slice-at.result c.insert.new.self c.requires.in_bounds
    (c.own_mut.follows.holds _ (search rules)) c.as_mut_slice.ensures.value (c.in-Ok.ensures.value (λ x y same. same)) h all c.insert.ensures.height
    (omega (arith, kept_inserted g.T.Clone.is_clone _ _ _ _ c.in_ok-insert.ensures.kept))

pub insert::insert_there-returns-clause-some : goal.insert::insert_there-returns-clause-some
insert::insert_there-returns-clause-some g t c =
    placed_length c.args.nodes.now _ _ _ c.args.at c.index-as_mut_slice-at.result c.insert.new.self c.requires.in_bounds
    (c.own_mut.follows.holds _ (search rules)) c.as_mut_slice.ensures.value (c.in-Ok.ensures.value (λ x y same. same))

pub insert::insert_below-returns-clause-fit : goal.insert::insert_below-returns-clause-fit
insert::insert_below-returns-clause-fit g t c h all = c.part.ensures.fit h (c.insert_there.ensures.fit h all)

pub insert::insert_below-insert_parting-requires-clause-in_bounds : goal.insert::insert_below-insert_parting-requires-clause-in_bounds
insert::insert_below-insert_parting-requires-clause-in_bounds g t c =
    within_by c.args.nodes.now c.place-at.result.0 c.index-as_slice-at.result
    (is_there c.args.nodes.now c.as_slice.result.now c.as_slice-2.result.now c.args.index c.place-at.result.0 c.place-at.result.1 c.index-as_slice-at.result c.as_slice.ensures c.as_slice-2.ensures c.index-as_slice-at.is c.place-at.ensures.leads)

pub insert::insert_below-insert_parting-requires-clause-found : goal.insert::insert_below-insert_parting-requires-clause-found
insert::insert_below-insert_parting-requires-clause-found g t c =
    let there = is_there c.args.nodes.now c.as_slice.result.now c.as_slice-2.result.now c.args.index c.place-at.result.0 c.place-at.result.1 c.index-as_slice-at.result c.as_slice.ensures c.as_slice-2.ensures c.index-as_slice-at.is c.place-at.ensures.leads in
    part_leaf c.args.nodes.now c.as_slice.result.now c.as_slice-2.result.now c.args.index c.place-at.result.0 c.place-at.result.1 c.index-as_slice-at.result c.as_slice.ensures c.as_slice-2.ensures c.index-as_slice-at.is c.place-at.ensures.leads
    MAX_LEN (within_by c.args.nodes.now c.place-at.result.0 c.index-as_slice-at.result there) (c.if-is_full_leaf.ensures refl) c.requires.bounded

pub insert::insert_below-insert_there-requires : goal.insert::insert_below-insert_there-requires
insert::insert_below-insert_there-requires g t c κs within =
    let there = is_there c.args.nodes.now c.as_slice.result.now c.as_slice-2.result.now c.args.index c.place-at.result.0 c.place-at.result.1 c.index-as_slice-at.result c.as_slice.ensures c.as_slice-2.ensures c.index-as_slice-at.is c.place-at.ensures.leads in
    let bounds = within_by c.args.nodes.now c.place-at.result.0 c.index-as_slice-at.result there in
    let inside = part_inside c.args.nodes.now c.as_slice.result.now c.as_slice-2.result.now c.args.index c.place-at.result.0 c.place-at.result.1 c.index-as_slice-at.result c.as_slice.ensures c.as_slice-2.ensures c.index-as_slice-at.is c.place-at.ensures.leads in
    search (rules, bounds, inside)

pub insert::insert_below-part-requires : goal.insert::insert_below-part-requires
insert::insert_below-part-requires g t c =
    let there = is_there c.args.nodes.now c.as_slice.result.now c.as_slice-2.result.now c.args.index c.place-at.result.0 c.place-at.result.1 c.index-as_slice-at.result c.as_slice.ensures c.as_slice-2.ensures c.index-as_slice-at.is c.place-at.ensures.leads in
    omega (arith, c.in_ok-insert_there.ensures.some, within_by c.args.nodes.now c.place-at.result.0 c.index-as_slice-at.result there)

pub insert::insert_below-returns-clause-kept : goal.insert::insert_below-returns-clause-kept
insert::insert_below-returns-clause-kept g t c =
    subst (λ ys. AreKeptIn g.T.Clone.is_clone (items_of c.args.nodes.now) (λ xs. insert xs c.args.index c.args.value) ys) (sym c.part.ensures.items)
    (c.in_ok-insert_there.ensures.kept c.args.index (leads_there c.args.nodes.now c.as_slice.result.now c.as_slice-2.result.now c.args.index c.place-at.result.0 c.place-at.result.1 c.index-as_slice-at.result c.as_slice.ensures c.as_slice-2.ensures c.index-as_slice-at.is c.place-at.ensures.leads))

pub insert::insert_there-insert-requires : goal.insert::insert_there-insert-requires
insert::insert_there-insert-requires g t c κs within =
    let was = c.in-Ok.ensures.value (λ x y same. same) in
    let inside = lent_inside c.args.nodes.now c.in-Ok.block.now.items c.as_mut_slice.result.now c.args.at c.args.index c.index-as_mut_slice-at.result c.as_mut_slice.ensures.value was c.requires.in_bounds c.requires.found in
    let few = lent_bounded c.args.nodes.now c.in-Ok.block.now.items c.as_mut_slice.result.now c.args.at c.args.index c.index-as_mut_slice-at.result c.as_mut_slice.ensures.value was c.requires.in_bounds MAX_LEN c.requires.bounded in
    let least : size-Node g.row.T.Denot (get_or c.as_mut_slice.result.now c.args.at c.index-as_mut_slice-at.result)
    ≤ most {X = (this {0}).Of (Node g.row.T.Denot)} (λ x. w_this.weight (Node g.row.T.Denot) (size-Node g.row.T.Denot) x) c.args.nodes.now =
    lent_most c.args.nodes.now c.in-Ok.block.now.items c.as_mut_slice.result.now c.args.at c.args.index c.index-as_mut_slice-at.result c.as_mut_slice.ensures.value was c.requires.in_bounds (size-Node g.row.T.Denot) in
    (omega (arith, least, c.decreases), (search rules, (inside, few)))
