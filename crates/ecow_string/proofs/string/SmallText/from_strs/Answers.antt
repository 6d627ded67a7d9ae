use Rattle.std.proofs.lemmas.Result.{err_from_is_err_and}
use Rattle.ecow_list.proofs.Fronts.{on_err}
use Rattle.ecow_string.proofs.Joined.{same_error}
use Rattle.ecow_string.proofs.Limits.{spills}
use Rattle.ecow_string.proofs.string.SmallText.from_strs.Goals as goal

pub returns-in_err-extend_strs-clause-refused : goal.returns-in_err-extend_strs-clause-refused
returns-in_err-extend_strs-clause-refused g c =
    let given = c.in_err-extend_strs.ensures.refused in
    let none = c.new-target.ensures.chars in
    let limit = rw none at given.3 in
    let p = err_from_is_err_and c.from_residual.result c.from_residual.ensures.1 in
    on_err c.from_residual.result (
      given.0,
      given.1,
      spills g.row.N _ _ c.new-target.ensures.mode (rw none at given.2),
      rw (p.1, p.2) ((λ is. limit.0 (same_error _ _ is)), (λ more. same_error _ _ (limit.1 more))),
    )

pub returns-clause-chars : goal.returns-clause-chars
returns-clause-chars g c =
    let all = c.in_ok-extend_strs.ensures.chars in
    (all.1, (all.0, all.2, all.4), rw c.new-target.ensures.chars at all.3)
