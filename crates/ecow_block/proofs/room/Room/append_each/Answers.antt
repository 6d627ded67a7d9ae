use Rattle.std.proofs.Common.{rules, arith, ◌≡◌, ◌+◌, ◌++◌, ◌∷◌, [], take}
use Rattle.std.proofs.lemmas.Grind.{common_steps}
use Rattle.ecow_block.proofs.Cloned.{one_more}
use Rattle.ecow_block.proofs.room.Room.append_each.Goals as goal

pub loop-count-preserved : goal.loop-count-preserved
loop-count-preserved g c =
    let xs = c.args.elements.now in let old = c.args.self.now.items in let count = c.loop-count.count in let x = c.index-elements-count.result in
    let next : take (count + 1) xs ≡ take count xs ++ x ∷ [] = grind (arith, common_steps) in
    let grown =
    one_more g.T.Clone.is_clone old (take count xs)
    (take (count + 1) xs) _ _ x _ c.loop-count.invariant.4 next c.in-Ok.ensures.cases c.put.ensures.items in
    (grind (arith, common_steps), search rules, grind (arith, common_steps), grind (arith, common_steps), grown)
