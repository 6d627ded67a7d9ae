use Rattle.std.proofs.Common.{arith, ◌^◌, ap}
use Rattle.ecow_tree.proofs.Halves.{halves_items, left_within, right_within, left_weight, right_weight}
use Rattle.ecow_tree.proofs.node.Node.parted.Goals as goal

pub over_some-requires-clause-bounded : goal.over_some-requires-clause-bounded
over_some-requires-clause-bounded g c =
    omega (
      arith,
      left_within _ _ _ _ _ _ c.self.invariant (ap (λ v. v.items) c.self.view_is) c.as_slice-all.ensures c.cut-cut.result c.cut-cut.ensures.front c.cut-cut.ensures.back,
      c.len-len.ensures,
    )

pub over_some-requires-2-clause-bounded : goal.over_some-requires-2-clause-bounded
over_some-requires-2-clause-bounded g c =
    omega (
      arith,
      right_within _ _ _ _ _ _ c.self.invariant (ap (λ v. v.items) c.self.view_is) c.as_slice-all.ensures c.cut-cut.result c.cut-cut.ensures.front c.cut-cut.ensures.back,
      c.len-len.ensures,
    )

pub returns-clause-items : goal.returns-clause-items
returns-clause-items g c =
    halves_items _ _ _ _ _ _ c.self.invariant (ap (λ v. v.items) c.self.view_is) c.as_slice-all.ensures c.cut-cut.result c.cut-cut.ensures.front c.cut-cut.ensures.back
    _ _ c.in-Ok.ensures.items c.in-Ok-over_some.ensures.items

pub returns-clause-weight : goal.returns-clause-weight
returns-clause-weight g c =
    let height = ap (λ v. 4 ^ v.height) c.self.view_is in (
      omega (
        arith,
        height,
        left_weight _ _ _ _ _ _ c.self.invariant (ap (λ v. v.items) c.self.view_is) c.as_slice-all.ensures c.cut-cut.result c.cut-cut.ensures.front c.cut-cut.ensures.back
            _ c.in-Ok.ensures.items,
      ),
      omega (
        arith,
        height,
        right_weight _ _ _ _ _ _ c.self.invariant (ap (λ v. v.items) c.self.view_is) c.as_slice-all.ensures c.cut-cut.result c.cut-cut.ensures.front c.cut-cut.ensures.back
            _ c.in-Ok-over_some.ensures.items,
      ),
    )
