use Rattle.std.proofs.Common.{arith, length, ap}
use Rattle.ecow_tree.proofs.Fits.{fit_one}
use Rattle.ecow_tree.proofs.Inside.{inner_all}
use Rattle.ecow_tree.proofs.node.Node.height.Goals as goal

pub returns-clause-bounded : goal.returns-clause-bounded
returns-clause-bounded g c inner =
    omega (
      arith,
      fit_one _ _ c.self.invariant.fit (c.self.invariant.inner inner).1,
      ap length (inner_all _ _ _ _ _ c.self.invariant (ap (λ v. v.items) c.self.view_is) inner),
    )
