use Rattle.std.proofs.Common.{rules, arith, ◌+◌, ◌-◌}
use Rattle.ecow_tree.proofs.Extended.{next_clones, all_clones, clones_len, clones_equal}
use Rattle.ecow_tree.proofs.tree.EcoTree.from_slice.Goals as goal

pub loop-at-preserved : goal.loop-at-preserved
loop-at-preserved g c =
    let i = c.loop-at.invariant in record {
      within = omega (arith, i.within, c.min.ensures, c.loop-at-test.true);
      clones = next_clones g.T.Clone.is_clone c.args.elements.now c.loop-at.root.items c.in-Ok.items c.in_ok-root.root.items c.loop-at.at
          (c.loop-at.at + c.min.result - c.loop-at.at) (c.loop-at.at + c.min.result) i.within i.clones c.in-Ok.ensures.clones
          (omega (arith, c.min.ensures, i.within, c.loop-at-test.true)) (search rules) (omega arith);
    }

pub returns-clause-ok : goal.returns-clause-ok
returns-clause-ok g c equal =
    clones_equal g.T.Clone.is_clone equal _ _
    (all_clones g.T.Clone.is_clone c.args.elements.now _ c.loop-at.at (omega (arith, c.loop-at-test.false)) c.loop-at.invariant.clones)

pub returns-clause-len : goal.returns-clause-len
returns-clause-len g c =
    clones_len g.T.Clone.is_clone _ _
    (all_clones g.T.Clone.is_clone c.args.elements.now _ c.loop-at.at (omega (arith, c.loop-at-test.false)) c.loop-at.invariant.clones)
