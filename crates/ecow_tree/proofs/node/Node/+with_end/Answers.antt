use Rattle.std.proofs.Common.{rules, arith, ◌≡◌, ◌+◌, ◌<◌, ◌++◌, Some, length, slice_get, slice_set, ap, sym, subst, refl, ◌∙◌}
use Rattle.ecow_tree.specs.Nodes.{items_of, AllFit}
use Rattle.ecow_tree.proofs.Concat.{last_more, first_more, more_fit, ended_len, ended_total}
use Rattle.ecow_tree.proofs.Inside.{inner_all, inner_len}
use Rattle.ecow_tree.proofs.Places.{read_place}
use Rattle.ecow_tree.proofs.node.Node.+with_end.Goals as goal

pub over-requires-clause-fit : goal.over-requires-clause-fit
over-requires-clause-fit g t c =
    let same : c.in_ok-nodes.nodes ≡ c.self.inside.nodes = search rules in
    let set = c.in_ok-set.ensures.change.ok (λ x y same. same) in
    let found = read_place c.self.inside.nodes c.as_slice.result.now c.end-at.result c.index-as_slice-at.result c.as_slice.ensures c.index-as_slice-at.is
    (omega (arith, c.end-at.ensures.within, c.len.ensures.len)) in
    c.part.ensures.fit _
    (subst (AllFit c.self.inside.height) (sym (set ∙ ap (λ ns. slice_set ns c.end-at.result c.in_ok-child.child) same))
    (more_fit c.self.inside.nodes c.end-at.result c.index-as_slice-at.result c.in_ok-child.child found c.args.other.now.items
    c.self.inside.height c.self.invariant.fit c.in_ok-child.ensures.height
    (ended_len c.args.at_back _ _ c.args.other.now.items c.in_ok-child.ensures.back c.in_ok-child.ensures.front)))

pub over-requires-clause-len : goal.over-requires-clause-len
over-requires-clause-len g t c =
    let same : c.in_ok-nodes.nodes ≡ c.self.inside.nodes = search rules in
    let set = c.in_ok-set.ensures.change.ok (λ x y same. same) in
    let found = read_place c.self.inside.nodes c.as_slice.result.now c.end-at.result c.index-as_slice-at.result c.as_slice.ensures c.index-as_slice-at.is
    (omega (arith, c.end-at.ensures.within, c.len.ensures.len)) in
    omega (
      arith,
      ap (λ ns. length ns) c.part.ensures.items,
      ap (λ ns. length (items_of ns)) (set ∙ ap (λ ns. slice_set ns c.end-at.result c.in_ok-child.child) same),
      ended_total c.args.at_back c.self.inside.nodes c.end-at.result c.index-as_slice-at.result c.in_ok-child.child found c.args.other.now.items
          (λ back. c.end-at.ensures.back back ∙ c.len.ensures.len) c.end-at.ensures.front c.in_ok-child.ensures.back c.in_ok-child.ensures.front,
      inner_len _ _ _ _ c.self.invariant (omega (arith, c.requires.inner, ap (λ v. v.height) c.self.view_is)),
      c.other.invariant.counted,
      ap (λ v. length v.items) c.other.view_is,
    )

pub returns-clause-back : goal.returns-clause-back
returns-clause-back g t c back =
    let same : c.in_ok-nodes.nodes ≡ c.self.inside.nodes = search rules in
    let set = c.in_ok-set.ensures.change.ok (λ x y same. same) in
    let found = read_place c.self.inside.nodes c.as_slice.result.now c.end-at.result c.index-as_slice-at.result c.as_slice.ensures c.index-as_slice-at.is
    (omega (arith, c.end-at.ensures.within, c.len.ensures.len)) in
    c.over.ensures.items ∙ c.part.ensures.items
    ∙ ap (λ ns. items_of ns) (set ∙ ap (λ ns. slice_set ns c.end-at.result c.in_ok-child.child) same)
    ∙ last_more c.self.inside.nodes c.end-at.result c.index-as_slice-at.result c.in_ok-child.child found c.args.other.now.items
    (c.end-at.ensures.back back ∙ c.len.ensures.len) (c.in_ok-child.ensures.back back)
    ∙ ap (λ ys. ys ++ c.args.other.now.items)
    (inner_all _ _ _ _ _ c.self.invariant (ap (λ v. v.items) c.self.view_is) (omega (arith, c.requires.inner, ap (λ v. v.height) c.self.view_is)))

pub returns-clause-front : goal.returns-clause-front
returns-clause-front g t c front =
    let same : c.in_ok-nodes.nodes ≡ c.self.inside.nodes = search rules in
    let set = c.in_ok-set.ensures.change.ok (λ x y same. same) in
    let found = read_place c.self.inside.nodes c.as_slice.result.now c.end-at.result c.index-as_slice-at.result c.as_slice.ensures c.index-as_slice-at.is
    (omega (arith, c.end-at.ensures.within, c.len.ensures.len)) in
    c.over.ensures.items ∙ c.part.ensures.items
    ∙ ap (λ ns. items_of ns) (set ∙ ap (λ ns. slice_set ns c.end-at.result c.in_ok-child.child) same)
    ∙ first_more c.self.inside.nodes c.end-at.result c.index-as_slice-at.result c.in_ok-child.child found c.args.other.now.items
    (c.end-at.ensures.front front) (c.in_ok-child.ensures.front front)
    ∙ ap (λ ys. c.args.other.now.items ++ ys)
    (inner_all _ _ _ _ _ c.self.invariant (ap (λ v. v.items) c.self.view_is) (omega (arith, c.requires.inner, ap (λ v. v.height) c.self.view_is)))
