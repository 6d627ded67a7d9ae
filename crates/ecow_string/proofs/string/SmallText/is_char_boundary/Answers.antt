use Rattle.ecow_base.proofs.Boundaries.{boundary_passes, passes_boundary}
use Rattle.ecow_string.proofs.Texts.{front_of_boundary, boundary_of_front, same_test}
use Rattle.ecow_string.proofs.string.SmallText.is_char_boundary.Goals as goal

pub returns : goal.returns
returns g c =
    let test = rw c.as_str.ensures.bytes at c.is_char_boundary.ensures.test in
    let valid = c.as_str.ensures.valid in
    same_test _ _
    (λ yes. boundary_passes _ c.args.index (front_of_boundary _ c.args.index valid (test.0 yes)))
    (λ at. test.1 (boundary_of_front _ c.args.index valid (passes_boundary _ c.args.index at)))
