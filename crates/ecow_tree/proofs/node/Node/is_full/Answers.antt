use Rattle.std.proofs.Common.{arith, ◌^◌, length, ap}
use Rattle.ecow_tree.proofs.Fits.{fit_four, fit_some}
use Rattle.ecow_tree.proofs.Inside.{inner_all}
use Rattle.ecow_tree.proofs.node.Node.is_full.Goals as goal

pub returns : goal.returns
returns g c _ =
    omega (
      arith,
      fit_four _ _ c.self.invariant.fit (omega (arith, c.len.ensures.len)),
      ap length (inner_all _ _ _ _ _ c.self.invariant (ap (λ v. v.items) c.self.view_is) (fit_some _ _ c.self.invariant.fit (omega (arith, c.len.ensures.len)))),
      ap (λ v. 4 ^ v.height) c.self.view_is,
    )
