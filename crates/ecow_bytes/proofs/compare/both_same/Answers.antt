use Rattle.ecow_bytes.proofs.Groups.{and_both, both}
use Rattle.ecow_bytes.proofs.compare.both_same.Goals as goal

pub returns : goal.returns
returns c =
    let one = c.same_at.ensures in
    let other = c.same_at-2.ensures in (
      λ t. let h = both c.same_at.result c.same_at-2.result t in (one.0 h.0, other.0 h.1),
      λ e. and_both c.same_at.result c.same_at-2.result (one.1 e.0) (other.1 e.1),
    )
