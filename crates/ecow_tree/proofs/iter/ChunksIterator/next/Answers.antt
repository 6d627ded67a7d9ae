use Rattle.std.proofs.Common.{arith, ◌≡◌, ◌≤◌, ◌+◌, ◌-◌, ◌++◌, length, take, drop, ap, sym, ◌∙◌}
use Rattle.ecow_tree.proofs.More.{length_taken}
use Rattle.ecow_tree.proofs.Runs.{run_first}
use Rattle.ecow_tree.proofs.iter.ChunksIterator.next.Goals as goal

pub returns-clause-steps : goal.returns-clause-steps
returns-clause-steps g c =
    let run = c.chunk_at-chunk.ensures.part in
    let n : length (take c.min.result c.chunk_at-chunk.result.now) ≡ c.min.result = length_taken c.min.result c.chunk_at-chunk.result.now (omega (arith, c.min.ensures)) in (
      omega (arith, n, c.min.ensures, c.chunk_at-chunk.ensures.some, c.if-left-eq0.false),
      sym c.self.view_is
          ∙ run_first c.self.inside.tree.now c.chunk_at-chunk.result.now run.0 c.self.inside.at c.self.inside.end c.min.result run.1
          (omega (arith, c.min.ensures, c.if-left-eq0.false)) (omega (arith, c.min.ensures))
          ∙ ap (λ k. take c.min.result c.chunk_at-chunk.result.now ++ take (c.self.inside.end - (c.self.inside.at + k)) (drop (c.self.inside.at + k) c.self.inside.tree.now)) (sym n),
    )
