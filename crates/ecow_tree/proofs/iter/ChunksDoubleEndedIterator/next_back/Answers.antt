use Rattle.std.proofs.Common.{arith, ◌≡◌, ◌≤◌, ◌+◌, ◌-◌, ◌++◌, length, take, drop, ap, sym, ◌∙◌, length-drop}
use Rattle.ecow_tree.proofs.More.{all_taken}
use Rattle.ecow_tree.proofs.Runs.{run_last}
use Rattle.ecow_tree.proofs.iter.ChunksDoubleEndedIterator.next_back.Goals as goal

pub returns-clause-steps : goal.returns-clause-steps
returns-clause-steps g c =
    let chunk = c.chunk_before-chunk.result.now in
    let run = c.chunk_before-chunk.ensures.part in
    let last = drop (length chunk - c.min.result) chunk in
    let whole : take (length chunk - (length chunk - c.min.result)) last ≡ last =
    all_taken last (length chunk - (length chunk - c.min.result)) (omega (arith, length-drop (length chunk - c.min.result) chunk)) in
    let n : length (take (length chunk - (length chunk - c.min.result)) last) ≡ c.min.result =
    omega (arith, ap length whole, length-drop (length chunk - c.min.result) chunk, c.min.ensures) in (
      omega (arith, n, c.min.ensures, c.chunk_before-chunk.ensures.some, c.if-left-eq0.false),
      sym c.self.view_is
          ∙ run_last c.self.inside.tree.now run.0 chunk c.self.inside.at c.self.inside.end c.min.result (omega arith) run.1
          (omega (arith, c.min.ensures, c.if-left-eq0.false)) (omega (arith, c.min.ensures))
          ∙ ap (λ ys. take (c.self.inside.end - c.min.result - c.self.inside.at) (drop c.self.inside.at c.self.inside.tree.now) ++ ys) (sym whole)
          ∙ ap (λ k. take (c.self.inside.end - k - c.self.inside.at) (drop c.self.inside.at c.self.inside.tree.now) ++ take (length chunk - (length chunk - c.min.result)) last) (sym n),
    )
