use Rattle.std.proofs.Common.{arith, ◌^◌, length, ap, inr}
use Rattle.ecow_tree.proofs.Fits.{fit_five}
use Rattle.ecow_tree.proofs.Inside.{inner_all}
use Rattle.ecow_tree.proofs.node.Node.can_spare.Goals as goal

pub returns : goal.returns
returns g c _ =
    inr (omega (
      arith,
      fit_five _ _ c.self.invariant.fit (omega (arith, c.len.ensures.len)),
      ap length (inner_all _ _ _ _ _ c.self.invariant (ap (λ v. v.items) c.self.view_is) (omega arith)),
      ap (λ v. 4 ^ v.height) c.self.view_is,
    ))
