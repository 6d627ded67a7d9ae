use Rattle.std.proofs.Common.{arith, take, sym, subst, ◌∙◌}
use Rattle.ecow_block.specs.Clones.{AppendsClones}
use Rattle.ecow_block.proofs.Cloned.{some_more}
use Rattle.ecow_tree.proofs.More.{next_run, run_within}
use Rattle.ecow_tree.proofs.tree.EcoTree.append_clones.Goals as goal

pub extend_within_capacity-requires : goal.extend_within_capacity-requires
extend_within_capacity-requires g c =
    let run = c.chunk_at-chunk.ensures.part in
    omega (
      arith,
      run_within c.args.self.now c.chunk_at-chunk.result.now run.0 c.loop-at.at c.loop-at.invariant.within run.1,
      c.requires,
      c.loop-at.invariant.counted,
      c.loop-at.invariant.capacity,
    )

pub overflow_add-at : goal.overflow_add-at
overflow_add-at g c =
    let run = c.chunk_at-chunk.ensures.part in
    omega (
      arith,
      run_within c.args.self.now c.chunk_at-chunk.result.now run.0 c.loop-at.at c.loop-at.invariant.within run.1,
      c.loop-at.invariant.len,
      c.len-len.type_inv,
    )

pub loop-at-preserved : goal.loop-at-preserved
loop-at-preserved g c =
    let run = c.chunk_at-chunk.ensures.part in record {
      len = c.loop-at.invariant.len;
      within = run_within c.args.self.now c.chunk_at-chunk.result.now run.0 c.loop-at.at c.loop-at.invariant.within run.1;
      counted = omega (arith, c.in_ok-extend_within_capacity.ensures.len, c.loop-at.invariant.counted);
      capacity = c.extend_within_capacity.ensures.capacity ∙ c.loop-at.invariant.capacity;
      clones = subst (λ xs. AppendsClones g.T.Clone.is_clone c.args.block.now.items xs c.extend_within_capacity.new.self.items)
          (sym (next_run c.args.self.now c.chunk_at-chunk.result.now run.0 c.loop-at.at c.loop-at.invariant.within run.1))
          (some_more g.T.Clone.is_clone c.args.block.now.items (take c.loop-at.at c.args.self.now) c.chunk_at-chunk.result.now c.loop-at.block.items
          c.extend_within_capacity.new.self.items c.loop-at.invariant.clones c.in_ok-extend_within_capacity.ensures.clones);
    }
