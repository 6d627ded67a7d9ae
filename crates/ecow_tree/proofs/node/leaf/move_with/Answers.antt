use Rattle.std.proofs.Common.{rules, arith, ◌-◌, ◌++◌, [], ◌∷◌, ap, ◌∙◌}
use Rattle.std.specs.List.{insert}
use Rattle.ecow_list.proofs.Kept.{none_kept}
use Rattle.ecow_tree.proofs.Moved.{moved_alone, moved_some}
use Rattle.ecow_tree.proofs.node.leaf.move_with.Goals as goal

pub returns-then-start-end-clause-moved : goal.returns-then-start-end-clause-moved
returns-then-start-end-clause-moved g c =
    moved_alone g.T.Clone.is_clone c.args.items.now c.args.start c.args.end c.args.index c.args.value _ c.if-start-end.true c.requires.start c.requires.end
    (c.own_with_room.follows.holds _ (search rules) ∙ ap (λ b. b.items) c.push_within_capacity.ensures
    ∙ ap (λ ys. ys ++ c.args.value ∷ []) (none_kept g.T.Clone.is_clone _ _ c.new-fresh.ensures c.in-Ok.ensures.kept))

pub returns-clause-moved : goal.returns-clause-moved
returns-clause-moved g c =
    moved_some g.T.Clone.is_clone c.args.items.now c.args.start c.args.end c.args.index c.args.value c.drain.new.self c.in-Ok-drain.moved
    c.in-Ok.block.now.items _ (omega (arith, c.requires.start, c.requires.end)) c.requires.in_bounds c.in-Ok-drain.ensures.change.kept
    (none_kept g.T.Clone.is_clone _ _ c.new-fresh.ensures c.in-Ok.ensures.kept)
    (c.own_with_room.follows.holds _ (search rules) ∙ ap (λ b. b.items) c.insert_within_capacity.ensures
    ∙ ap (λ b. insert b.items (c.args.index - c.args.start) c.args.value) c.fill.ensures)
