use Rattle.std.proofs.Common.{refl}
use Rattle.std.proofs.lemmas.Str.{is_utf8-from_IsUtf8}
use Rattle.std.proofs.lemmas.Result.{err_from_is_err_and}
use Rattle.ecow_string.proofs.Texts.{AreUtf8-from, not_utf8}
use Rattle.ecow_string.proofs.string.conversions.SmallTextTryFromSmallBytes.try_from.Goals as goal

pub invariant_of-result : goal.invariant_of-result
invariant_of-result g c = rw c.as_slice.ensures at (AreUtf8-from _ c.in_ok-from_utf8.ensures.cases.1)

pub returns-in_err-from_utf8 : goal.returns-in_err-from_utf8
returns-in_err-from_utf8 g c =
    let p = err_from_is_err_and c.from_residual.result c.from_residual.ensures.1 in
    let said = c.in_err-from_utf8.ensures in
    rw (p.1, p.2) (not_utf8 _ (rw c.as_slice.ensures at said.cases.0), (rw c.as_slice.ensures at said.valid_len, rw c.as_slice.ensures at said.fault))

pub returns : goal.returns
returns g c = (rw c.as_slice.ensures at (is_utf8-from_IsUtf8 _ c.in_ok-from_utf8.ensures.cases.1), refl)
