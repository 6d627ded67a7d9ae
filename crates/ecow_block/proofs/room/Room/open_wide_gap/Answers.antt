use Rattle.std.proofs.Common.{◌≡◌, ◌-◌, ◌++◌, take, drop, ap, sym, ◌∙◌, arith, append_assoc, take-append-drop}
use Rattle.std.proofs.lemmas.Grind.{common_steps}
use Rattle.ecow_block.proofs.room.Room.open_wide_gap.Goals as goal

-- what was moved up comes before what was moved before it
pub loop-left-preserved : goal.loop-left-preserved
loop-left-preserved g c =
    let xs = c.loop-left.self.items in let k = c.loop-left.left - c.min-count.result in let moved = c.loop-left.moved.items in
    let kept : c.move_up-places.new.self.items ≡ take k xs = c.move_up-places.ensures.left.3 in
    let put : c.append.new.self.items ≡ drop k xs ++ moved =
    c.append.ensures.items ∙ ap (λ r. r.items ++ c.replace-behind.result.items) c.replace-behind.ensures.after
    ∙ ap (λ l. l ++ c.replace-behind.result.items) c.move_up-places.ensures.items
    ∙ ap (λ r. drop k xs ++ r.items) c.replace-behind.ensures.value in
    let whole : take k xs ++ (drop k xs ++ moved) ≡ c.args.self.now.items =
    sym (append_assoc (take k xs) (drop k xs) moved) ∙ ap (λ l. l ++ moved) (take-append-drop k xs) ∙ c.loop-left.invariant.1 in (
      omega arith,
      ap (λ l. l ++ c.append.new.self.items) kept ∙ ap (λ l. take k xs ++ l) put
          ∙ whole,
      grind (arith, common_steps),
      (grind (arith, common_steps), grind (arith, common_steps), grind (arith, common_steps)),
      grind (arith, common_steps),
      grind (arith, common_steps),
    )
