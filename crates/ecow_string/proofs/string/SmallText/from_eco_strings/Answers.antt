use Rattle.std.proofs.lemmas.Result.{err_from_is_err_and}
use Rattle.ecow_list.proofs.Fronts.{on_err}
use Rattle.ecow_string.proofs.Joined.{same_error}
use Rattle.ecow_string.proofs.Limits.{spills}
use Rattle.ecow_string.proofs.string.SmallText.from_eco_strings.Goals as goal

pub returns-in_err-extend_from_texts-clause-refused : goal.returns-in_err-extend_from_texts-clause-refused
returns-in_err-extend_from_texts-clause-refused g c =
    let given = c.in_err-extend_from_texts.ensures.refused in
    let none = c.new-target.ensures.chars in
    let limit = rw none at given.3 in
    let p = err_from_is_err_and c.from_residual.result c.from_residual.ensures.1 in
    on_err c.from_residual.result (
      given.0,
      (c.into_iter.result, c.extend_from_texts.new.iter, c.into_iter.ensures.into_iter_gives, given.1),
      spills g.row.N _ _ c.new-target.ensures.mode (rw none at given.2),
      rw (p.1, p.2) ((λ is. limit.0 (same_error _ _ is)), (λ more. same_error _ _ (limit.1 more))),
    )

pub returns-clause-chars : goal.returns-clause-chars
returns-clause-chars g c =
    let all = c.in_ok-extend_from_texts.ensures.chars in (
      all.0,
      (c.into_iter.result, c.into_iter.ensures.into_iter_gives, (c.extend_from_texts.new.iter, all.2)),
      rw c.new-target.ensures.chars at all.1,
    )
