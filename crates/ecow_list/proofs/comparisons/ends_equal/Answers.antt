use Rattle.std.proofs.Common.{◌≡◌, ◌-◌, length, take, drop, ap, ap₂, sym, ◌∙◌, arith}
use mathlib.Core.Bool.{◌&&◌}
use Rattle.std.specs.Cmp.Lexicographic.{pointwise}
use Rattle.ecow_list.proofs.Ends.{ends}
use Rattle.ecow_list.proofs.comparisons.ends_equal.Goals as goal

pub returns : goal.returns
returns g c =
    let xs = c.args.left.now in
    let ys = c.args.right.now in
    let n = g.row.G in
    let eq = g.T.PartialEq.eq in
    let e = ap₂ (pointwise eq) c.in-Some.ensures.cases.same c.in-Some-first_chunk.ensures.cases.same in
    let b = ap₂ (pointwise eq) c.in-Some-last_chunk.ensures.cases.1.same
    (c.in-Some-last_chunk-2.ensures.cases.1.same ∙ ap (λ k. drop (k - n) ys) (sym c.requires.as_many)) in
    ap₂ (λ p q. p && q) (c.groups_equal.ensures ∙ e) (c.groups_equal-2.ensures ∙ b)
    ∙ sym (ends eq (length xs - n) n xs ys (omega (arith, c.requires.covered)))
