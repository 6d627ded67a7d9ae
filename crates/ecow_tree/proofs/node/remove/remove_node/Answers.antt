use Rattle.std.proofs.Common.{rules, arith, ◌≡◌, length, sym, ap, subst, ◌∙◌}
use Rattle.std.specs.Prelude.{IfSome}
use Rattle.ecow_tree.specs.Grown.{Grown}
use Rattle.ecow_tree.specs.Nodes.{AllFit}
use Rattle.ecow_tree.proofs.Fits.{fit_remove}
use Rattle.ecow_tree.proofs.More.{lent_there}
use Rattle.ecow_tree.proofs.Parts.{tallest_remove}
use Rattle.ecow_tree.proofs.Places.{placed_gone}
use Rattle.ecow_tree.proofs.Removed.{removed_node}
use Rattle.ecow_tree.proofs.node.remove.remove_node.Goals as goal

pub returns-clause-removed : goal.returns-clause-removed
returns-clause-removed g c all l =
    let was = c.in-Ok.ensures.value (λ x y same. same) in
    let found = lent_there c.args.nodes.now c.in-Ok.block.now.items c.as_mut_slice.result.now c.args.at 0 c.index-as_mut_slice-at.result c.as_mut_slice.ensures.value was c.requires.in_bounds in
    removed_node g.T.Clone.is_clone c.args.nodes.now _ c.args.at all _ c.in_ok-value.value c.remove_own.new.self.items l found
    (placed_gone c.args.nodes.now c.in-Ok.block.now.items c.as_mut_slice.result.now _ c.args.at c.as_mut_slice.ensures.value was c.remove_own.new.self
    (c.own_with_room.follows.holds _ (search rules) ∙ ap (λ b. b.items) c.remove-empty.ensures.block))
    (subst (λ o. IfSome o (λ (node : Grown g.row.T.Denot). (node.height ≡ 0) × (length node.items ≡ 1))) found c.requires.found).1
    c.in_ok-value.ensures.removed

pub returns-clause-tallest : goal.returns-clause-tallest
returns-clause-tallest g c =
    tallest_remove c.args.nodes.now _ c.args.at
    (placed_gone c.args.nodes.now c.in-Ok.block.now.items c.as_mut_slice.result.now _ c.args.at c.as_mut_slice.ensures.value (c.in-Ok.ensures.value (λ x y same. same)) c.remove_own.new.self
    (c.own_with_room.follows.holds _ (search rules) ∙ ap (λ b. b.items) c.remove-empty.ensures.block))

pub returns-clause-fit : goal.returns-clause-fit
returns-clause-fit g c h all =
    subst (AllFit h)
    (sym (placed_gone c.args.nodes.now c.in-Ok.block.now.items c.as_mut_slice.result.now _ c.args.at c.as_mut_slice.ensures.value (c.in-Ok.ensures.value (λ x y same. same)) c.remove_own.new.self
    (c.own_with_room.follows.holds _ (search rules) ∙ ap (λ b. b.items) c.remove-empty.ensures.block)))
    (fit_remove h c.args.nodes.now c.args.at all)
