use Rattle.std.proofs.Common.{ap, drop, take, length, ◌-◌}
use Rattle.ecow_bytes.proofs.Groups.{same_by_ends, both, and_both}
use Rattle.ecow_bytes.proofs.compare.same_ends.Goals as goal

pub returns : goal.returns
returns g c =
    let m = g.row.M in
    let xs = c.args.left.now in
    let ys = c.args.right.now in
    let front = c.same_at.ensures in
    let back = c.same_at-2.ensures in (
      λ t. let h =
          both c.same_at.result c.same_at-2.result t in
          same_by_ends m xs ys c.requires.as_many c.requires.covered.0 c.requires.covered.1 (front.0 h.0) (back.0 h.1),
      λ e. and_both c.same_at.result c.same_at-2.result (front.1 (ap (λ zs. take m (drop 0 zs)) e)) (back.1 (ap (λ zs. take m (drop (length xs - m) zs)) e)),
    )
