use Rattle.std.proofs.Common.{rules, arith, Some, length, slice_get, sym, ap, ◌∙◌}
use Rattle.std.proofs.lemmas.Option.{slice_get-get_or}
use Rattle.ecow_tree.proofs.Inside.{leaf_all, inner_all}
use Rattle.ecow_tree.proofs.More.{inside_of, lower_at, read_at}
use Rattle.ecow_tree.proofs.node.Node.+at.Goals as goal

pub offset_bounds-as_slice-index : goal.offset_bounds-as_slice-index
offset_bounds-as_slice-index g t c =
    omega (arith, ap length (leaf_all _ _ _ _ _ c.self.invariant (ap (λ v. v.items) c.self.view_is) (omega arith)), ap length c.as_slice.ensures)

pub bounds-as_slice-index : goal.bounds-as_slice-index
bounds-as_slice-index g t c =
    omega (arith, ap length (leaf_all _ _ _ _ _ c.self.invariant (ap (λ v. v.items) c.self.view_is) (omega arith)), ap length c.as_slice.ensures)

pub returns-then-self-eq0 : goal.returns-then-self-eq0
returns-then-self-eq0 g t c =
    let whole = leaf_all _ _ _ _ _ c.self.invariant (ap (λ v. v.items) c.self.view_is) (omega arith) in
    ap (λ ys. slice_get ys c.args.index) (sym (c.as_slice.ensures ∙ whole))
    ∙ slice_get-get_or c.as_slice.result.now c.args.index c.index-as_slice-index.result (omega (arith, ap length whole, ap length c.as_slice.ensures))
    ∙ ap Some (sym c.index-as_slice-index.is)

pub at-requires : goal.at-requires
at-requires g t c κs within =
    let inside = inside_of _ _ _ _ _ _ _ c.as_slice-2.ensures c.as_slice-3.ensures c.index-as_slice-at.is c.seek-at.ensures.leads c.seek-at.ensures.within in
    let lower = lower_at _ _ _ _ _ _ _ c.as_slice-2.ensures c.as_slice-3.ensures c.index-as_slice-at.is c.seek-at.ensures.leads c.self.inside.height c.self.invariant.low in
    let same = ap (λ v. v.height) c.self.view_is in
    search (rules, inside, lower, same)

pub returns : goal.returns
returns g t c =
    read_at _ _ _ _ _ _ _ c.as_slice-2.ensures c.as_slice-3.ensures c.index-as_slice-at.is c.seek-at.ensures.leads _ _
    (inner_all _ _ _ _ _ c.self.invariant (ap (λ v. v.items) c.self.view_is) (omega arith)) c.at.ensures
