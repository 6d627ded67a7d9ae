use Rattle.std.proofs.Common.{rules, arith, length, ap}
use Rattle.ecow_tree.proofs.Inside.{leaf_all, inner_all}
use Rattle.ecow_tree.proofs.More.{inside_of, lower_at, rest_below, rest_of_slice, slice_some}
use Rattle.ecow_tree.proofs.node.Node.+rest_at.Goals as goal

pub offset_bounds-as_slice-index : goal.offset_bounds-as_slice-index
offset_bounds-as_slice-index g t c =
    omega (arith, ap length (leaf_all _ _ _ _ _ c.self.invariant (ap (λ v. v.items) c.self.view_is) (omega arith)), ap length c.as_slice.ensures)

pub slice_bounds-rest-count : goal.slice_bounds-rest-count
slice_bounds-rest-count g t c =
    omega (arith, ap length (leaf_all _ _ _ _ _ c.self.invariant (ap (λ v. v.items) c.self.view_is) (omega arith)), ap length c.as_slice.ensures)

pub slice_bounds-rest-start : goal.slice_bounds-rest-start
slice_bounds-rest-start g t c =
    omega (arith, ap length (leaf_all _ _ _ _ _ c.self.invariant (ap (λ v. v.items) c.self.view_is) (omega arith)), ap length c.as_slice.ensures)

pub returns-then-self-eq0-clause-some : goal.returns-then-self-eq0-clause-some
returns-then-self-eq0-clause-some g t c =
    slice_some c.as_slice.result.now c.args.index
    (omega (arith, ap length (leaf_all _ _ _ _ _ c.self.invariant (ap (λ v. v.items) c.self.view_is) (omega arith)), ap length c.as_slice.ensures))

pub returns-then-self-eq0-clause-part : goal.returns-then-self-eq0-clause-part
returns-then-self-eq0-clause-part g t c =
    let whole = leaf_all _ _ _ _ _ c.self.invariant (ap (λ v. v.items) c.self.view_is) (omega arith) in
    (_, rest_of_slice _ _ _ c.args.index c.as_slice.ensures whole (omega (arith, ap length whole)))

pub rest_at-requires : goal.rest_at-requires
rest_at-requires g t c κs within =
    let inside = inside_of _ _ _ _ _ _ _ c.as_slice-2.ensures c.as_slice-3.ensures c.index-as_slice-at.is c.seek-at.ensures.leads c.seek-at.ensures.within in
    let lower = lower_at _ _ _ _ _ _ _ c.as_slice-2.ensures c.as_slice-3.ensures c.index-as_slice-at.is c.seek-at.ensures.leads c.self.inside.height c.self.invariant.low in
    let same = ap (λ v. v.height) c.self.view_is in
    search (rules, inside, lower, same)

pub returns-clause-part : goal.returns-clause-part
returns-clause-part g t c =
    let part = c.rest_at.ensures.part in (
      _,
      rest_below _ _ _ _ _ _ _ c.as_slice-2.ensures c.as_slice-3.ensures c.index-as_slice-at.is c.seek-at.ensures.leads _ _ part.0
          (inner_all _ _ _ _ _ c.self.invariant (ap (λ v. v.items) c.self.view_is) (omega arith)) part.1,
    )
