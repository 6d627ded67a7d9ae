use Rattle.std.proofs.Common.{rules, arith, refl, ◌≡◌, ◌<◌, ◌≤◌, length, get_or, slice_get, sym, ap, subst, ◌∙◌}
use Rattle.std.specs.Prelude.{IfSome}
use Rattle.ecow_list.proofs.Kept.{kept_equal}
use mathlib.Core.Former.{this}
use denote.Param.Weighed.{most, w_this}
use Rattle.ecow_tree.specs.Grown.{Grown}
use Rattle.ecow_tree.specs.Kept.{AreKept}
use Rattle.ecow_tree.specs.Nodes.{items_of, tallest, AllFit}
use Rattle.ecow_tree.specs.declared.node.Node.{Node}
use Rattle.ecow_tree.specs.declared.node.Node.TheDeep.{size-Node}
use Rattle.ecow_tree.proofs.Cuts.{placed_are_kept}
use Rattle.ecow_tree.proofs.Inside.{inner_len, inner_again}
use Rattle.ecow_tree.proofs.Kept.{same, long}
use Rattle.ecow_tree.proofs.Lent.{placed_fit, placed_length, placed_tallest}
use Rattle.ecow_tree.proofs.More.{is_there, lent_there, lent_most, part_inside}
use Rattle.ecow_tree.proofs.Places.{at_most, within_by}
use Rattle.ecow_tree.proofs.node.+cut.Goals as goal

pub Node::cut-invariant_of-self : goal.Node::cut-invariant_of-self
Node::cut-invariant_of-self g t c =
    let inner : 0 < c.self.inside.height = omega (arith, c.requires.inner, ap (λ v. v.height) c.self.view_is) in
    inner_again _ _ _ _ _ _ c.self.invariant inner (c.cut_below.ensures.fit _ c.self.invariant.fit) c.cut_below.ensures.some
    (omega (arith, inner_len _ _ _ _ c.self.invariant inner, long g.T.Clone.is_clone _ _ c.cut_below.ensures.kept))

pub halves::cut_below-returns-then-rest-eq0-clause-kept : goal.halves::cut_below-returns-then-rest-eq0-clause-kept
halves::cut_below-returns-then-rest-eq0-clause-kept g t c = same g.T.Clone.is_clone (items_of c.args.nodes.now)

pub halves::cut_below-cut_leaf-requires-clause-found : goal.halves::cut_below-cut_leaf-requires-clause-found
halves::cut_below-cut_leaf-requires-clause-found g t c =
    let rest = c.place-there.result.1 in
    let there = is_there c.args.nodes.now c.as_slice.result.now c.as_slice-2.result.now c.args.at c.place-there.result.0 rest c.index-as_slice-there.result c.as_slice.ensures c.as_slice-2.ensures c.index-as_slice-there.is c.place-there.ensures.leads in
    let inside = subst (λ o. IfSome o (λ (node : Grown g.row.T.Denot). rest ≤ length node.items)) there
    (part_inside c.args.nodes.now c.as_slice.result.now c.as_slice-2.result.now c.args.at c.place-there.result.0 rest c.index-as_slice-there.result c.as_slice.ensures c.as_slice-2.ensures c.index-as_slice-there.is c.place-there.ensures.leads) in
    subst (λ o. IfSome o (λ (node : Grown g.row.T.Denot). (node.height ≡ 0) × (0 < rest) × (rest < length node.items))) (sym there)
    (sym c.height.ensures.height ∙ c.if-height-eq0.true, omega (arith, c.if-rest-eq0.false), omega (arith, inside, c.len.ensures, c.if-rest-len.false))

pub halves::cut_below-cut_there-requires : goal.halves::cut_below-cut_there-requires
halves::cut_below-cut_there-requires g t c κs within =
    let rest = c.place-there.result.1 in
    let there = is_there c.args.nodes.now c.as_slice.result.now c.as_slice-2.result.now c.args.at c.place-there.result.0 rest c.index-as_slice-there.result c.as_slice.ensures c.as_slice-2.ensures c.index-as_slice-there.is c.place-there.ensures.leads in
    let inside = subst (λ o. IfSome o (λ (node : Grown g.row.T.Denot). rest ≤ length node.items)) there
    (part_inside c.args.nodes.now c.as_slice.result.now c.as_slice-2.result.now c.args.at c.place-there.result.0 rest c.index-as_slice-there.result c.as_slice.ensures c.as_slice-2.ensures c.index-as_slice-there.is c.place-there.ensures.leads) in
    let high : 0 < c.index-as_slice-there.result.height = omega (arith, c.height.ensures.height, c.if-height-eq0.false) in
    let found = subst (λ o. IfSome o (λ (node : Grown g.row.T.Denot). (0 < node.height) × (rest ≤ length node.items))) (sym there) (high, inside) in
    let bound = within_by c.args.nodes.now c.place-there.result.0 c.index-as_slice-there.result there in
    search (rules, bound, found)

pub halves::cut_below-returns-clause-fit : goal.halves::cut_below-returns-clause-fit
halves::cut_below-returns-clause-fit g t c h all = c.part.ensures.fit h (c.cut_there.ensures.fit h all)

pub halves::cut_there-returns-in_default-clause-kept : goal.halves::cut_there-returns-in_default-clause-kept
halves::cut_there-returns-in_default-clause-kept g t c =
    subst (λ ns. AreKept g.T.Clone.is_clone (items_of c.args.nodes.now) (items_of ns))
    (sym (kept_equal _ (λ x y same. same) _ _ (rw c.in_default.is at c.own_mut.follows.holds-at-none)))
    (same g.T.Clone.is_clone (items_of c.args.nodes.now))

pub halves::cut_there-returns-in_default-clause-refused : goal.halves::cut_there-returns-in_default-clause-refused
halves::cut_there-returns-in_default-clause-refused g t c = record {
  unchanged = ap (λ ns. items_of ns) (kept_equal _ (λ x y same. same) _ _ (rw c.in_default.is at c.own_mut.follows.holds-at-none));
  memory = refl;
}

pub halves::cut_there-returns-in_default-clause-tallest : goal.halves::cut_there-returns-in_default-clause-tallest
halves::cut_there-returns-in_default-clause-tallest g t c =
    at_most _ _ (ap (λ ns. tallest ns) (kept_equal _ (λ x y same. same) _ _ (rw c.in_default.is at c.own_mut.follows.holds-at-none)))

pub halves::cut_there-returns-in_default-clause-fit : goal.halves::cut_there-returns-in_default-clause-fit
halves::cut_there-returns-in_default-clause-fit g t c h all =
    subst (AllFit h) (sym (kept_equal _ (λ x y same. same) _ _ (rw c.in_default.is at c.own_mut.follows.holds-at-none))) all

pub halves::cut_there-returns-in_default-clause-some : goal.halves::cut_there-returns-in_default-clause-some
halves::cut_there-returns-in_default-clause-some g t c =
    ap length (kept_equal _ (λ x y same. same) _ _ (rw c.in_default.is at c.own_mut.follows.holds-at-none))

pub halves::cut_there-cut-requires : goal.halves::cut_there-cut-requires
halves::cut_there-cut-requires g t c κs within =
    let was = c.in-Ok.ensures.value (λ x y same. same) in
    let there = lent_there c.args.nodes.now c.in-Ok.block.now.items c.as_mut_slice.result.now c.args.there c.args.at c.index-as_mut_slice-there.result c.as_mut_slice.ensures.value was c.requires.in_bounds in
    let found = subst (λ o. IfSome o (λ (node : Grown g.row.T.Denot). (0 < node.height) × (c.args.at ≤ length node.items))) there c.requires.found in
    let least : size-Node g.row.T.Denot (get_or c.as_mut_slice.result.now c.args.there c.index-as_mut_slice-there.result)
    ≤ most {X = (this {0}).Of (Node g.row.T.Denot)} (λ x. w_this.weight (Node g.row.T.Denot) (size-Node g.row.T.Denot) x) c.args.nodes.now =
    lent_most c.args.nodes.now c.in-Ok.block.now.items c.as_mut_slice.result.now c.args.there c.args.at c.index-as_mut_slice-there.result c.as_mut_slice.ensures.value was c.requires.in_bounds (size-Node g.row.T.Denot) in
    (omega (arith, least, c.decreases), (search (rules, found.0, found.1)))

pub halves::cut_there-returns-clause-kept : goal.halves::cut_there-returns-clause-kept
halves::cut_there-returns-clause-kept g t c =
    placed_are_kept g.T.Clone.is_clone c.args.nodes.now _ _ _ c.args.there c.index-as_mut_slice-there.result c.cut.new.self c.requires.in_bounds
    (c.own_mut.follows.holds _ (search rules)) c.as_mut_slice.ensures.value (c.in-Ok.ensures.value (λ x y same. same)) c.cut.ensures.kept

pub halves::cut_there-returns-clause-tallest : goal.halves::cut_there-returns-clause-tallest
halves::cut_there-returns-clause-tallest g t c =
    placed_tallest c.args.nodes.now _ _ _ c.args.there c.index-as_mut_slice-there.result c.cut.new.self c.requires.in_bounds
    (c.own_mut.follows.holds _ (search rules)) c.as_mut_slice.ensures.value (c.in-Ok.ensures.value (λ x y same. same)) c.cut.ensures.height

pub halves::cut_there-returns-clause-fit : goal.halves::cut_there-returns-clause-fit
halves::cut_there-returns-clause-fit g t c h all =
    placed_fit c.args.nodes.now _ _ _ c.args.there c.index-as_mut_slice-there.result c.cut.new.self c.requires.in_bounds
    (c.own_mut.follows.holds _ (search rules)) c.as_mut_slice.ensures.value (c.in-Ok.ensures.value (λ x y same. same)) h all c.cut.ensures.height
    (omega (arith, long g.T.Clone.is_clone _ _ c.cut.ensures.kept))
