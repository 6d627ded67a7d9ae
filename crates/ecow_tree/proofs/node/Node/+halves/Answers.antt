use Rattle.std.proofs.Common.{rules, arith, ◌≡◌, ◌+◌, ◌<◌, length, ap, sym, ◌∙◌}
use Rattle.ecow_tree.proofs.Cuts.{before_within, behind_within, front_half, back_half}
use Rattle.ecow_tree.proofs.Inside.{inner_all}
use Rattle.ecow_tree.proofs.node.Node.+halves.Goals as goal

pub with_all-requires-2-clause-bounded : goal.with_all-requires-2-clause-bounded
with_all-requires-2-clause-bounded g t c =
    omega (
      arith,
      behind_within _ c.as_slice-nodes.result.now c.args.self.now.items c.args.at c.place-there.result.0 c.place-there.result.1 c.index-nodes-there.result
          c.as_slice-nodes.ensures (inner_all _ _ _ _ _ c.self.invariant (ap (λ v. v.items) c.self.view_is) (omega arith))
          c.place-there.ensures.leads c.index-nodes-there.is,
      c.self.invariant.counted,
      ap (λ v. length v.items) c.self.view_is,
    )

pub concat-requires-2 : goal.concat-requires-2
concat-requires-2 g t c =
    omega (
      arith,
      behind_within _ c.as_slice-nodes.result.now c.args.self.now.items c.args.at c.place-there.result.0 c.place-there.result.1 c.index-nodes-there.result
          c.as_slice-nodes.ensures (inner_all _ _ _ _ _ c.self.invariant (ap (λ v. v.items) c.self.view_is) (omega arith))
          c.place-there.ensures.leads c.index-nodes-there.is,
      ap length c.in_ok-front.ensures.back,
      ap length c.in_ok-behind.ensures.items,
      c.self.invariant.counted,
      ap (λ v. length v.items) c.self.view_is,
    )

pub returns-clause-front : goal.returns-clause-front
returns-clause-front g t c =
    front_half _ c.as_slice-nodes.result.now c.args.self.now.items c.args.at c.place-there.result.0 c.place-there.result.1 c.index-nodes-there.result
    c.as_slice-nodes.ensures (inner_all _ _ _ _ _ c.self.invariant (ap (λ v. v.items) c.self.view_is) (omega arith))
    c.place-there.ensures.leads c.index-nodes-there.is _ _ _ c.in_ok-before.ensures.items c.in_ok-front.ensures.front c.in_ok-front-2.ensures.items

pub returns-clause-back : goal.returns-clause-back
returns-clause-back g t c =
    back_half _ c.as_slice-nodes.result.now c.args.self.now.items c.args.at c.place-there.result.0 c.place-there.result.1 c.index-nodes-there.result
    c.as_slice-nodes.ensures (inner_all _ _ _ _ _ c.self.invariant (ap (λ v. v.items) c.self.view_is) (omega arith))
    c.place-there.ensures.leads c.index-nodes-there.is _ _ _ c.in_ok-front.ensures.back c.in_ok-behind.ensures.items c.in_ok-back.ensures.items
