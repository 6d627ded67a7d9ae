use Rattle.std.proofs.Common.{rules, arith, refl, ◌≡◌, ◌<◌, ◌^◌, length, sym, ap, subst, ◌∙◌}
use Rattle.std.specs.Prelude.{IfSome}
use Rattle.ecow_list.proofs.Kept.{kept_equal}
use Rattle.ecow_tree.specs.Grown.{Grown}
use Rattle.ecow_tree.specs.Kept.{AreKept}
use Rattle.ecow_tree.specs.Nodes.{items_of, tallest, AllFit}
use Rattle.ecow_tree.proofs.Cuts.{cut_kept}
use Rattle.ecow_tree.proofs.Kept.{same}
use Rattle.ecow_tree.proofs.Lent.{placed_kept}
use Rattle.ecow_tree.proofs.More.{lent_there}
use Rattle.ecow_tree.proofs.Places.{placed_behind, two_tallest, two_fit, at_most}
use Rattle.ecow_tree.proofs.node.halves.cut_leaf.Goals as goal

pub returns-in_default-clause-kept : goal.returns-in_default-clause-kept
returns-in_default-clause-kept g c =
    subst (λ ns. AreKept g.T.Clone.is_clone (items_of c.args.nodes.now) (items_of ns))
    (sym (kept_equal _ (λ x y same. same) _ _ (rw c.in_default.is at c.own_with_room.follows.holds-at-none)))
    (same g.T.Clone.is_clone (items_of c.args.nodes.now))

pub returns-in_default-clause-refused : goal.returns-in_default-clause-refused
returns-in_default-clause-refused g c = record {
  unchanged = ap (λ ns. items_of ns) (kept_equal _ (λ x y same. same) _ _ (rw c.in_default.is at c.own_with_room.follows.holds-at-none));
  memory = refl;
}

pub returns-in_default-clause-tallest : goal.returns-in_default-clause-tallest
returns-in_default-clause-tallest g c =
    at_most _ _ (ap (λ ns. tallest ns) (kept_equal _ (λ x y same. same) _ _ (rw c.in_default.is at c.own_with_room.follows.holds-at-none)))

pub returns-in_default-clause-fit : goal.returns-in_default-clause-fit
returns-in_default-clause-fit g c h all =
    subst (AllFit h) (sym (kept_equal _ (λ x y same. same) _ _ (rw c.in_default.is at c.own_with_room.follows.holds-at-none))) all

pub returns-in_default-clause-some : goal.returns-in_default-clause-some
returns-in_default-clause-some g c =
    omega (arith, ap length (kept_equal _ (λ x y same. same) _ _ (rw c.in_default.is at c.own_with_room.follows.holds-at-none)), c.requires.in_bounds)

pub split-requires : goal.split-requires
split-requires g c =
    let was = c.in-Ok.ensures.value (λ x y same. same) in
    let found = lent_there c.args.nodes.now c.in-Ok.block.now.items c.as_mut_slice.result.now c.args.there c.args.at c.index-as_mut_slice-there.result c.as_mut_slice.ensures.value was c.requires.in_bounds in
    let leaf = subst (λ o. IfSome o (λ (node : Grown g.row.T.Denot). (node.height ≡ 0) × (0 < c.args.at) × (c.args.at < length node.items))) found c.requires.found in
    record { leaf = leaf.0; within = omega (arith, leaf.2) }

pub returns-in_err-next-clause-kept : goal.returns-in_err-next-clause-kept
returns-in_err-next-clause-kept g c =
    let was = c.in-Ok.ensures.value (λ x y same. same) in
    subst (AreKept g.T.Clone.is_clone (items_of c.args.nodes.now))
    (sym (placed_kept c.args.nodes.now _ _ _ c.args.there c.index-as_mut_slice-there.result c.split.new.self c.requires.in_bounds
    (c.own_with_room.follows.holds _ (search rules)) c.as_mut_slice.ensures.value was c.in_err-next.ensures.refused.unchanged))
    (same g.T.Clone.is_clone (items_of c.args.nodes.now))

pub returns-clause-kept : goal.returns-clause-kept
returns-clause-kept g c =
    let was = c.in-Ok.ensures.value (λ x y same. same) in
    let found = lent_there c.args.nodes.now c.in-Ok.block.now.items c.as_mut_slice.result.now c.args.there c.args.at c.index-as_mut_slice-there.result c.as_mut_slice.ensures.value was c.requires.in_bounds in
    cut_kept g.T.Clone.is_clone c.args.nodes.now _ c.args.there c.args.at _ c.split.new.self c.in_ok-next.next found
    (placed_behind c.args.nodes.now c.in-Ok.block.now.items c.as_mut_slice.result.now _ c.args.there c.as_mut_slice.ensures.value was c.split.new.self c.in_ok-next.next
    (c.own_with_room.follows.holds _ (search rules) ∙ ap (λ b. b.items) c.insert_within_capacity.ensures))
    c.in_ok-next.ensures.kept

pub returns-clause-tallest : goal.returns-clause-tallest
returns-clause-tallest g c =
    let was = c.in-Ok.ensures.value (λ x y same. same) in
    let found = lent_there c.args.nodes.now c.in-Ok.block.now.items c.as_mut_slice.result.now c.args.there c.args.at c.index-as_mut_slice-there.result c.as_mut_slice.ensures.value was c.requires.in_bounds in
    let leaf = subst (λ o. IfSome o (λ (node : Grown g.row.T.Denot). (node.height ≡ 0) × (0 < c.args.at) × (c.args.at < length node.items))) found c.requires.found in
    two_tallest c.args.nodes.now _ c.args.there _ c.split.new.self c.in_ok-next.next found
    (placed_behind c.args.nodes.now c.in-Ok.block.now.items c.as_mut_slice.result.now _ c.args.there c.as_mut_slice.ensures.value was c.split.new.self c.in_ok-next.next
    (c.own_with_room.follows.holds _ (search rules) ∙ ap (λ b. b.items) c.insert_within_capacity.ensures))
    c.split.ensures.height (c.in_ok-next.ensures.next ∙ sym leaf.0)

pub returns-clause-fit : goal.returns-clause-fit
returns-clause-fit g c h all =
    let was = c.in-Ok.ensures.value (λ x y same. same) in
    let found = lent_there c.args.nodes.now c.in-Ok.block.now.items c.as_mut_slice.result.now c.args.there c.args.at c.index-as_mut_slice-there.result c.as_mut_slice.ensures.value was c.requires.in_bounds in
    let leaf = subst (λ o. IfSome o (λ (node : Grown g.row.T.Denot). (node.height ≡ 0) × (0 < c.args.at) × (c.args.at < length node.items))) found c.requires.found in
    let one = ap (λ n. 4 ^ n) leaf.0 in
    two_fit c.args.nodes.now _ c.args.there _ c.split.new.self c.in_ok-next.next found
    (placed_behind c.args.nodes.now c.in-Ok.block.now.items c.as_mut_slice.result.now _ c.args.there c.as_mut_slice.ensures.value was c.split.new.self c.in_ok-next.next
    (c.own_with_room.follows.holds _ (search rules) ∙ ap (λ b. b.items) c.insert_within_capacity.ensures))
    h all c.split.ensures.height (c.in_ok-next.ensures.next ∙ sym leaf.0)
    (omega (arith, one, c.in_ok-next.ensures.len.0, leaf.1)) (omega (arith, one, c.in_ok-next.ensures.len.1, leaf.2))
