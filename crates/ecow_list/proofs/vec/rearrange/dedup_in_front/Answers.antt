use Rattle.std.proofs.Common.{arith}
use Rattle.ecow_list.proofs.Deduped.{all_left}
use Rattle.ecow_list.proofs.vec.rearrange.dedup_in_front.Goals as goal

pub returns-clause-kept : goal.returns-clause-kept
returns-clause-kept g c =
    let i = c.loop-index.invariant in
    all_left g.T.PartialEq.eq c.args.items.now c.loop-index.items c.loop-index.count c.loop-index.index i.4 i.0
    (omega (arith, i.1, i.2)) (omega (arith, i.3, c.loop-index-test.false))
