use Rattle.std.proofs.Common.{rules, arith, ◌+◌, length, get_or, subst, sym, ap, ◌∙◌}
use Rattle.std.specs.List.{remove, slice_set}
use Rattle.ecow_list.proofs.Kept.{kept_equal}
use Rattle.ecow_tree.specs.Nodes.{items_of, tallest, AllFit}
use Rattle.ecow_tree.proofs.Places.{read_place, one_items, one_tallest, one_fit, at_most}
use Rattle.ecow_tree.proofs.Removed.{pair_within}
use Rattle.ecow_tree.proofs.node.join.join.Goals as goal

pub returns-in_default-own_mut-clause-items : goal.returns-in_default-own_mut-clause-items
returns-in_default-own_mut-clause-items g c =
    ap (λ ns. items_of ns) (kept_equal _ (λ x y same. same) _ _ (rw c.in_default-own_mut.is at c.own_mut.follows.holds-at-none))

pub returns-in_default-own_mut-clause-tallest : goal.returns-in_default-own_mut-clause-tallest
returns-in_default-own_mut-clause-tallest g c =
    at_most _ _ (ap (λ ns. tallest ns) (kept_equal _ (λ x y same. same) _ _ (rw c.in_default-own_mut.is at c.own_mut.follows.holds-at-none)))

pub returns-in_default-own_mut-clause-fit : goal.returns-in_default-own_mut-clause-fit
returns-in_default-own_mut-clause-fit g c h all =
    subst (AllFit h) (sym (kept_equal _ (λ x y same. same) _ _ (rw c.in_default-own_mut.is at c.own_mut.follows.holds-at-none))) all

pub returns-in_default-own_mut-clause-some : goal.returns-in_default-own_mut-clause-some
returns-in_default-own_mut-clause-some g c =
    omega (arith, ap length (kept_equal _ (λ x y same. same) _ _ (rw c.in_default-own_mut.is at c.own_mut.follows.holds-at-none)), c.requires.in_bounds)

pub joined-requires : goal.joined-requires
joined-requires g c =
    omega (
      arith,
      pair_within c.args.nodes.now c.args.at c.index-as_slice-at.result c.index-as_slice-at-2.result
          (c.index-as_slice-at.is ∙ ap (λ ns. get_or ns c.args.at c.index-as_slice-at.result) c.as_slice.ensures)
          (c.index-as_slice-at-2.is ∙ ap (λ ns. get_or ns (c.args.at + 1) c.index-as_slice-at-2.result) c.as_slice-2.ensures) c.requires.in_bounds,
      c.requires.bounded,
    )

pub returns-clause-items : goal.returns-clause-items
returns-clause-items g c =
    one_items c.args.nodes.now _ c.args.at c.index-as_slice-at.result c.index-as_slice-at-2.result c.in-Some.both
    (read_place c.args.nodes.now _ c.args.at c.index-as_slice-at.result c.as_slice.ensures c.index-as_slice-at.is (omega (arith, c.requires.in_bounds)))
    (read_place c.args.nodes.now _ (c.args.at + 1) c.index-as_slice-at-2.result c.as_slice-2.ensures c.index-as_slice-at-2.is c.requires.in_bounds)
    (c.own_mut.follows.holds _ (search rules) ∙ ap (λ b. b.items) c.remove-gone.ensures.block
    ∙ ap (λ b. remove b.items (c.args.at + 1)) c.set.ensures
    ∙ ap (λ ns. remove (slice_set ns c.args.at c.in-Some.both) (c.args.at + 1)) (c.in-Ok.ensures.value (λ x y same. same)))
    c.in-Some.ensures.items

pub returns-clause-tallest : goal.returns-clause-tallest
returns-clause-tallest g c =
    one_tallest c.args.nodes.now _ c.args.at c.index-as_slice-at.result c.index-as_slice-at-2.result c.in-Some.both
    (read_place c.args.nodes.now _ c.args.at c.index-as_slice-at.result c.as_slice.ensures c.index-as_slice-at.is (omega (arith, c.requires.in_bounds)))
    (read_place c.args.nodes.now _ (c.args.at + 1) c.index-as_slice-at-2.result c.as_slice-2.ensures c.index-as_slice-at-2.is c.requires.in_bounds)
    (c.own_mut.follows.holds _ (search rules) ∙ ap (λ b. b.items) c.remove-gone.ensures.block
    ∙ ap (λ b. remove b.items (c.args.at + 1)) c.set.ensures
    ∙ ap (λ ns. remove (slice_set ns c.args.at c.in-Some.both) (c.args.at + 1)) (c.in-Ok.ensures.value (λ x y same. same)))
    c.in-Some.ensures.height

pub returns-clause-fit : goal.returns-clause-fit
returns-clause-fit g c h all =
    one_fit c.args.nodes.now _ c.args.at c.index-as_slice-at.result c.index-as_slice-at-2.result c.in-Some.both
    (read_place c.args.nodes.now _ c.args.at c.index-as_slice-at.result c.as_slice.ensures c.index-as_slice-at.is (omega (arith, c.requires.in_bounds)))
    (read_place c.args.nodes.now _ (c.args.at + 1) c.index-as_slice-at-2.result c.as_slice-2.ensures c.index-as_slice-at-2.is c.requires.in_bounds)
    (c.own_mut.follows.holds _ (search rules) ∙ ap (λ b. b.items) c.remove-gone.ensures.block
    ∙ ap (λ b. remove b.items (c.args.at + 1)) c.set.ensures
    ∙ ap (λ ns. remove (slice_set ns c.args.at c.in-Some.both) (c.args.at + 1)) (c.in-Ok.ensures.value (λ x y same. same)))
    h all c.in-Some.ensures.items c.in-Some.ensures.height
