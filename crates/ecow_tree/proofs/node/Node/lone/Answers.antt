use Rattle.std.proofs.Common.{arith, ◌<◌, length, ap}
use Rattle.ecow_tree.proofs.Fits.{fit_two}
use Rattle.ecow_tree.proofs.Inside.{inner_all}
use Rattle.ecow_tree.proofs.Removed.{two_some}
use Rattle.ecow_tree.proofs.node.Node.lone.Goals as goal

pub returns-then-len-ne1-clause-lone : goal.returns-then-len-ne1-clause-lone
returns-then-len-ne1-clause-lone g c inner =
    let high : 0 < c.self.inside.height = omega (arith, inner, ap (λ v. v.height) c.self.view_is) in
    two_some c.self.inside.height _ high
    (omega (
      arith,
      fit_two _ _ c.self.invariant.fit (omega (arith, (c.self.invariant.inner high).1, c.len.ensures.len)),
      ap length (inner_all _ _ _ _ _ c.self.invariant (ap (λ v. v.items) c.self.view_is) high),
    ))
