use Rattle.std.proofs.Common.{rules, arith, ◌+◌, length, subst, sym, ap, ◌∙◌}
use Rattle.std.specs.List.{insert, slice_set}
use Rattle.ecow_list.proofs.Kept.{kept_equal}
use Rattle.ecow_tree.specs.Nodes.{items_of, tallest, AllFit}
use Rattle.ecow_tree.proofs.Places.{read_place, two_items, two_tallest, two_fit, at_most}
use Rattle.ecow_tree.proofs.node.part.part.Goals as goal

pub returns-in_default-own_with_room-clause-items : goal.returns-in_default-own_with_room-clause-items
returns-in_default-own_with_room-clause-items g c =
    ap (λ ns. items_of ns) (kept_equal _ (λ x y same. same) _ _ (rw c.in_default-own_with_room.is at c.own_with_room.follows.holds-at-none))

pub returns-in_default-own_with_room-clause-tallest : goal.returns-in_default-own_with_room-clause-tallest
returns-in_default-own_with_room-clause-tallest g c =
    at_most _ _ (ap (λ ns. tallest ns) (kept_equal _ (λ x y same. same) _ _ (rw c.in_default-own_with_room.is at c.own_with_room.follows.holds-at-none)))

pub returns-in_default-own_with_room-clause-fit : goal.returns-in_default-own_with_room-clause-fit
returns-in_default-own_with_room-clause-fit g c h all =
    subst (AllFit h) (sym (kept_equal _ (λ x y same. same) _ _ (rw c.in_default-own_with_room.is at c.own_with_room.follows.holds-at-none))) all

pub returns-in_default-own_with_room-clause-some : goal.returns-in_default-own_with_room-clause-some
returns-in_default-own_with_room-clause-some g c =
    omega (arith, ap length (kept_equal _ (λ x y same. same) _ _ (rw c.in_default-own_with_room.is at c.own_with_room.follows.holds-at-none)), c.requires)

pub returns-clause-items : goal.returns-clause-items
returns-clause-items g c =
    two_items c.args.nodes.now _ c.args.at c.index-as_slice-at.result c.in-Some.left c.in-Some.right
    (read_place c.args.nodes.now _ c.args.at c.index-as_slice-at.result c.as_slice.ensures c.index-as_slice-at.is c.requires)
    (c.own_with_room.follows.holds _ (search rules) ∙ ap (λ b. b.items) c.insert_within_capacity.ensures
    ∙ ap (λ b. insert b.items (c.args.at + 1) c.in-Some.right) c.set.ensures
    ∙ ap (λ ns. insert (slice_set ns c.args.at c.in-Some.left) (c.args.at + 1) c.in-Some.right) (c.in-Ok.ensures.value (λ x y same. same)))
    c.in-Some.ensures.items

pub returns-clause-tallest : goal.returns-clause-tallest
returns-clause-tallest g c =
    two_tallest c.args.nodes.now _ c.args.at c.index-as_slice-at.result c.in-Some.left c.in-Some.right
    (read_place c.args.nodes.now _ c.args.at c.index-as_slice-at.result c.as_slice.ensures c.index-as_slice-at.is c.requires)
    (c.own_with_room.follows.holds _ (search rules) ∙ ap (λ b. b.items) c.insert_within_capacity.ensures
    ∙ ap (λ b. insert b.items (c.args.at + 1) c.in-Some.right) c.set.ensures
    ∙ ap (λ ns. insert (slice_set ns c.args.at c.in-Some.left) (c.args.at + 1) c.in-Some.right) (c.in-Ok.ensures.value (λ x y same. same)))
    c.in-Some.ensures.height.0 c.in-Some.ensures.height.1

pub returns-clause-fit : goal.returns-clause-fit
returns-clause-fit g c h all =
    two_fit c.args.nodes.now _ c.args.at c.index-as_slice-at.result c.in-Some.left c.in-Some.right
    (read_place c.args.nodes.now _ c.args.at c.index-as_slice-at.result c.as_slice.ensures c.index-as_slice-at.is c.requires)
    (c.own_with_room.follows.holds _ (search rules) ∙ ap (λ b. b.items) c.insert_within_capacity.ensures
    ∙ ap (λ b. insert b.items (c.args.at + 1) c.in-Some.right) c.set.ensures
    ∙ ap (λ ns. insert (slice_set ns c.args.at c.in-Some.left) (c.args.at + 1) c.in-Some.right) (c.in-Ok.ensures.value (λ x y same. same)))
    h all c.in-Some.ensures.height.0 c.in-Some.ensures.height.1 c.in-Some.ensures.weight.0 c.in-Some.ensures.weight.1
