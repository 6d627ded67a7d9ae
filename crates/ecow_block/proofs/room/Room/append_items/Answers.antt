use Rattle.std.proofs.Common.{◌≡◌, ◌+◌, [], ◌∷◌, List, length, ap, sym, subst, ◌∙◌, arith, length-append}
use Rattle.std.specs.Iterator.{Yields}
use Rattle.std.proofs.iter.Next.{Yields-more}
use Rattle.ecow_block.proofs.room.Room.append_items.Goals as goal

pub loop-count-preserved : goal.loop-count-preserved
loop-count-preserved g c =
    let steps = g.I.Iterator.next_gives in
    let kept = c.loop-count.invariant in
    let below = c.loop-count-test.true in
    let x = c.in-Some.item in
    let goes = c.in-Some.ensures.goes.on kept.4 in
    let places = c.put.ensures.places in
    let one : length c.put.new.self.items ≡ length c.loop-count.self.items + 1 = ap length c.put.ensures.items ∙ length-append c.loop-count.self.items (x ∷ []) in
    let before = kept.1 in (
      omega arith,
      omega arith,
      record { at = places.at ∙ kept.2.at; start = places.start ∙ kept.2.start; capacity = places.capacity ∙ kept.2.capacity },
      goes.0,
      goes.1,
      (λ first led. subst (λ (xs : List g.row.T.Denot). Yields steps first xs c.next.new.self) (sym c.put.ensures.items)
          (Yields-more steps first c.loop-count.self.items c.loop-count.iter x c.next.new.self (kept.5 first led) c.in-Some.ensures.steps)),
    )
