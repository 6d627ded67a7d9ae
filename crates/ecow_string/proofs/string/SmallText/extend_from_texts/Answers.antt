use Rattle.std.proofs.Common.{◌≡◌, ◌+◌, length, ◌∷◌, ◌++◌, [], refl, sym, ap, ◌∙◌}
use Rattle.std.proofs.lemmas.Result.{err_from_is_err_and}
use Rattle.ecow_base.specs.Utf8.{utf8_len}
use Rattle.std.proofs.iter.Next.{Yields-more}
use Rattle.ecow_list.proofs.Fronts.{on_err}
use Rattle.ecow_string.specs.Appends.{joined_by}
use Rattle.ecow_string.proofs.Joined.{joined_by_more}
use Rattle.ecow_string.proofs.Limits.{stays}
use Rattle.ecow_string.proofs.string.SmallText.extend_from_texts.Goals as goal

pub returns-in_err-push_next-clause-refused : goal.returns-in_err-push_next-clause-refused
returns-in_err-push_next-clause-refused g c =
    let old = c.args.self.now in
    let now = c.loop-text.self in
    let xs = c.loop-text.yielded in
    let x = c.in-Some.text in
    let given = c.in_err-push_next.ensures in
    let whole : utf8_len (old.chars ++ joined_by g.T.Joined.text_of (xs ++ x ∷ [])) ≡ utf8_len now.chars + length c.text.result.now =
    ap utf8_len (sym (joined_by_more g.T.Joined.text_of old.chars xs x now.chars c.loop-text.invariant.0))
    ∙ ap (λ l. utf8_len (now.chars ++ l)) (sym c.text.ensures) ∙ given.len in
    let p = err_from_is_err_and c.from_residual.result c.from_residual.ensures.1 in
    on_err c.from_residual.result (
      xs ++ x ∷ [],
      Yields-more g.I.Iterator.next_gives c.args.iter.now xs c.loop-text.iter x c.next.new.self c.loop-text.yielded_by c.in-Some.ensures.steps,
      sym (stays g.row.N old.inline now.inline (utf8_len now.chars) (length c.text.result.now) _ c.loop-text.invariant.1 whole) ∙ given.mode.free,
      rw (p.1, p.2, whole) given.refused.capacity,
      (xs, x, refl, ap (λ t. t.chars) given.refused.unchanged ∙ c.loop-text.invariant.0),
    )
