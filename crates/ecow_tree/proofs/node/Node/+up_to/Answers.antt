use Rattle.std.proofs.Common.{rules, arith, ◌≡◌, ◌≤◌, ◌<◌, ◌+◌, ◌-◌, [], length, take, ap, sym, ◌∙◌}
use Rattle.ecow_tree.specs.Nodes.{items_of}
use Rattle.ecow_tree.proofs.Inside.{leaf_all, inner_all}
use Rattle.ecow_tree.proofs.More.{inside_of, length_taken, lower_at, first_below}
use Rattle.ecow_tree.proofs.node.Node.+up_to.Goals as goal

pub slice_bounds-part-end : goal.slice_bounds-part-end
slice_bounds-part-end g t c =
    let all = ap length (leaf_all _ _ _ _ _ c.self.invariant (ap (λ v. v.items) c.self.view_is) (omega arith)) in
    let low : c.args.end ≤ length c.as_slice.result.now = omega (arith, all, ap length c.as_slice.ensures, c.requires.within) in
    omega (arith, low, length_taken c.args.end c.as_slice.result.now low)

pub returns-then-self-eq0-clause-some : goal.returns-then-self-eq0-clause-some
returns-then-self-eq0-clause-some g t c =
    let all = ap length (leaf_all _ _ _ _ _ c.self.invariant (ap (λ v. v.items) c.self.view_is) (omega arith)) in
    let low : c.args.end ≤ length c.as_slice.result.now = omega (arith, all, ap length c.as_slice.ensures, c.requires.within) in
    omega (arith, c.requires.some, length_taken c.args.end c.as_slice.result.now low)

pub returns-then-self-eq0-clause-part : goal.returns-then-self-eq0-clause-part
returns-then-self-eq0-clause-part g t c =
    let whole = leaf_all _ _ _ _ _ c.self.invariant (ap (λ v. v.items) c.self.view_is) (omega arith) in
    ([], ap (take c.args.end) (sym (c.as_slice.ensures ∙ whole)))

pub up_to-requires : goal.up_to-requires
up_to-requires g t c κs within =
    let inside = inside_of _ _ _ _ _ _ _ c.as_slice-2.ensures c.as_slice-3.ensures c.index-as_slice-at.is c.seek-at.ensures.leads c.seek-at.ensures.within in
    let lower = lower_at _ _ _ _ _ _ _ c.as_slice-2.ensures c.as_slice-3.ensures c.index-as_slice-at.is c.seek-at.ensures.leads c.self.inside.height c.self.invariant.low in
    let same = ap (λ v. v.height) c.self.view_is in
    search (rules, inside, lower, same)

pub returns-clause-part : goal.returns-clause-part
returns-clause-part g t c =
    let part = c.up_to.ensures.part in
    let end : c.args.end ≡ c.args.end - 1 + 1 = omega (arith, c.requires.some) in (
      _,
      first_below _ _ _ _ _ _ _ c.as_slice-2.ensures c.as_slice-3.ensures c.index-as_slice-at.is c.seek-at.ensures.leads _ part.0 _ c.args.end
          (inner_all _ _ _ _ _ c.self.invariant (ap (λ v. v.items) c.self.view_is) (omega arith)) end
          (inside_of _ _ _ _ _ _ _ c.as_slice-2.ensures c.as_slice-3.ensures c.index-as_slice-at.is c.seek-at.ensures.leads c.seek-at.ensures.within) part.1,
    )
