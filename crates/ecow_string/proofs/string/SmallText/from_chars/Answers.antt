use Rattle.std.proofs.lemmas.Result.{err_from_is_err_and}
use Rattle.ecow_list.proofs.Fronts.{on_err}
use Rattle.ecow_string.proofs.Joined.{same_error}
use Rattle.ecow_string.proofs.Limits.{spills}
use Rattle.ecow_string.proofs.string.SmallText.from_chars.Goals as goal

pub returns-in_err-extend_chars-clause-refused : goal.returns-in_err-extend_chars-clause-refused
returns-in_err-extend_chars-clause-refused g c =
    let given = c.in_err-extend_chars.ensures.refused in
    let none = c.new-target.ensures.chars in
    let limit = rw none at given.4 in
    let p = err_from_is_err_and c.from_residual.result c.from_residual.ensures.1 in
    on_err c.from_residual.result (
      given.0,
      given.1,
      spills g.row.N _ _ c.new-target.ensures.mode (rw none at given.3),
      rw (p.1, p.2) ((λ is. limit.0 (same_error _ _ is)), (λ more. same_error _ _ (limit.1 more))),
    )
