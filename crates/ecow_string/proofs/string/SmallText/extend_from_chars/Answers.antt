use Rattle.std.proofs.Common.{◌≡◌, ◌+◌, length, ◌∷◌, ◌++◌, [], sym, ap, ◌∙◌, arith, append_assoc, length-append}
use Rattle.std.specs.Char.{len_utf8}
use Rattle.std.proofs.lemmas.Result.{err_from_is_err_and}
use Rattle.ecow_base.specs.Utf8.{utf8_len}
use Rattle.std.proofs.iter.Next.{Yields-more}
use Rattle.ecow_list.proofs.Fronts.{on_err}
use Rattle.ecow_string.proofs.Limits.{stays}
use Rattle.ecow_string.proofs.Steps.{one_char_more}
use Rattle.ecow_string.proofs.string.SmallText.extend_from_chars.Goals as goal

pub loop-c-preserved : goal.loop-c-preserved
loop-c-preserved g c =
    let now = c.loop-c.self in
    let x = c.in-Some.c in
    let given = c.in_ok-push.ensures in
    let goes = c.in-Some.ensures.goes.on c.loop-c.invariant.3 in (
      given.chars ∙ ap (λ l. l ++ x ∷ []) c.loop-c.invariant.0 ∙ append_assoc c.args.self.now.chars c.loop-c.yielded (x ∷ []),
      given.mode.mode ∙ stays g.row.N c.args.self.now.inline now.inline (utf8_len now.chars)
          (len_utf8 x) _ c.loop-c.invariant.1 (ap utf8_len given.chars ∙ one_char_more now.chars x),
      goes.0,
      goes.1,
    )

pub returns-in_err-push-clause-refused : goal.returns-in_err-push-clause-refused
returns-in_err-push-clause-refused g c =
    let old = c.args.self.now in
    let now = c.loop-c.self in
    let xs = c.loop-c.yielded in
    let x = c.in-Some.c in
    let given = c.in_err-push.ensures in
    let kept : length c.push.new.self.chars ≡ length now.chars = ap (λ t. length t.chars) given.refused.unchanged in
    let sum : length now.chars ≡ length old.chars + length xs = ap length c.loop-c.invariant.0 ∙ length-append old.chars xs in
    let count : length (xs ++ x ∷ []) ≡ length xs + 1 = length-append xs (x ∷ []) in
    let whole : utf8_len (old.chars ++ (xs ++ x ∷ [])) ≡ utf8_len now.chars + len_utf8 x =
    ap utf8_len (sym (append_assoc old.chars xs (x ∷ [])) ∙ ap (λ l. l ++ x ∷ []) (sym c.loop-c.invariant.0)) ∙ one_char_more now.chars x in
    let p = err_from_is_err_and c.from_residual.result c.from_residual.ensures.1 in
    on_err c.from_residual.result (
      xs ++ x ∷ [],
      Yields-more g.I.Iterator.next_gives c.args.iter.now xs c.loop-c.iter x c.next.new.self c.loop-c.yielded_by c.in-Some.ensures.steps,
      omega arith,
      sym (stays g.row.N old.inline now.inline (utf8_len now.chars) (len_utf8 x) _ c.loop-c.invariant.1 whole) ∙ given.mode.free,
      rw (p.1, p.2, whole) given.refused.capacity,
    )
