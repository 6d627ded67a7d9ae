use Rattle.std.proofs.Common.{arith, refl, ap, length, [], ◌∷◌, ◌++◌, ◌∙◌, length-append}
use Rattle.std.proofs.iter.Next.{Yields-more}
use Rattle.ecow_tree.proofs.Recopied.{appended_len, appended_none, copies_exact, none_copied_behind, pushed}
use Rattle.ecow_tree.proofs.tree.EcoTree.extend.Goals as goal

pub loop-item-init : goal.loop-item-init
loop-item-init g c =
    let goes = c.requires c.into_iter-items.result c.into_iter-items.ensures.into_iter_gives in
    (([], refl, none_copied_behind g.T.Clone.is_clone c.args.self.now), goes.0, goes.1)

pub returns-in-Err-clause-ok : goal.returns-in-Err-clause-ok
returns-in-Err-clause-ok g c = λ equal.
    let so_far = c.loop-item.invariant.0 in (
      c.into_iter-items.result,
      so_far.0,
      c.into_iter-items.ensures.into_iter_gives,
      c.in-Err.ensures.refused.unchanged ∙ copies_exact g.T.Clone.is_clone equal (length so_far.0) (c.args.self.now ++ so_far.0) c.loop-item.self so_far.2,
      (c.loop-item.items, so_far.1),
    )

pub returns-in-Err-clause-len : goal.returns-in-Err-clause-len
returns-in-Err-clause-len g c =
    let so_far = c.loop-item.invariant.0 in
    let stays = c.in-Err.ensures.refused.unchanged in (
      c.into_iter-items.result,
      so_far.0,
      c.into_iter-items.ensures.into_iter_gives,
      (
        ap length stays ∙ appended_len g.T.Clone.is_clone c.args.self.now so_far.0 c.loop-item.self so_far.2,
        λ none. stays ∙ appended_none g.T.Clone.is_clone c.args.self.now so_far.0 c.loop-item.self so_far.2 none,
      ),
      (c.loop-item.items, so_far.1),
    )

pub returns-in-Err-clause-refused : goal.returns-in-Err-clause-refused
returns-in-Err-clause-refused g c =
    let so_far = c.loop-item.invariant.0 in (
      so_far.0 ++ c.in-Some.item ∷ [],
      (
        c.into_iter-items.result,
        c.next.new.self,
        c.into_iter-items.ensures.into_iter_gives,
        Yields-more g.I.IntoIter.Iterator.next_gives c.into_iter-items.result so_far.0 c.loop-item.items c.in-Some.item c.next.new.self so_far.1 c.in-Some.ensures.steps,
      ),
      omega (
        arith,
        ap length c.in-Err.ensures.refused.unchanged,
        appended_len g.T.Clone.is_clone c.args.self.now so_far.0 c.loop-item.self so_far.2,
        length-append so_far.0 (c.in-Some.item ∷ []),
      ),
    )

pub loop-item-preserved : goal.loop-item-preserved
loop-item-preserved g c =
    let so_far = c.loop-item.invariant.0 in
    let goes = c.in-Some.ensures.goes.on c.loop-item.invariant.2 in (
      (
        so_far.0 ++ c.in-Some.item ∷ [],
        Yields-more g.I.IntoIter.Iterator.next_gives c.into_iter-items.result so_far.0 c.loop-item.items c.in-Some.item c.next.new.self so_far.1 c.in-Some.ensures.steps,
        pushed g.T.Clone.is_clone c.args.self.now so_far.0 c.loop-item.self c.push.new.self c.in-Some.item so_far.2 c.in_default-push.ensures.change.kept,
      ),
      goes.0,
      goes.1,
    )

pub returns-clause-ok : goal.returns-clause-ok
returns-clause-ok g c = λ equal.
    let so_far = c.loop-item.invariant.0 in (
      c.into_iter-items.result,
      so_far.0,
      c.into_iter-items.ensures.into_iter_gives,
      copies_exact g.T.Clone.is_clone equal (length so_far.0) (c.args.self.now ++ so_far.0) c.loop-item.self so_far.2,
      (c.next.new.self, (c.loop-item.items, so_far.1, c.in_default.ensures.steps)),
    )

pub returns-clause-len : goal.returns-clause-len
returns-clause-len g c =
    let so_far = c.loop-item.invariant.0 in (
      c.into_iter-items.result,
      so_far.0,
      c.into_iter-items.ensures.into_iter_gives,
      (
        appended_len g.T.Clone.is_clone c.args.self.now so_far.0 c.loop-item.self so_far.2,
        λ none. appended_none g.T.Clone.is_clone c.args.self.now so_far.0 c.loop-item.self so_far.2 none,
      ),
      (c.next.new.self, (c.loop-item.items, so_far.1, c.in_default.ensures.steps)),
    )
