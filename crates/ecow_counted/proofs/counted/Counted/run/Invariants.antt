use Rattle.std.proofs.Common.{◌≡◌, ◌+◌, ◌≤◌, List, ◌++◌, vec_len, vec_capacity}
use Rattle.std.specs.Vec.Iter.{into_iter_items, into_iter_len}
use Rattle.ecow_base.specs.Clones.{ClonesAreEqual}
use Rattle.ecow_model.specs.CountedRun.{CountedStep, CountedVerdict, saturating, copied_in_run, moved_in_run}
use Rattle.ecow_model.specs.declared.command.Outcome.{Outcome}
use Rattle.ecow_model.proofs.Runs.{GoesOn}
use Rattle.ecow_counted.specs.State.{IsValid}
use Rattle.ecow_counted.proofs.counted.Counted.run.Given as goal

-- there is room for what is left, and each run of what is left goes on the run so far, with its totals
abbrev pub invariant-loop-command : goal.invariant-loop-command
invariant-loop-command g l = record {
  room : vec_len l.outcomes + into_iter_len l.rest ≤ vec_capacity l.outcomes;
  valid : IsValid l.self;
  steps : ClonesAreEqual g.T.Clone.is_clone → GoesOn CountedStep l.fn.self.names l.fn.commands.items l.outcomes.items (into_iter_items l.rest) l.self.names;
  verdicts : GoesOn CountedVerdict l.fn.self.names l.fn.commands.items l.outcomes.items (into_iter_items l.rest) l.self.names;
  copied : ClonesAreEqual g.T.Clone.is_clone → (more : List (Outcome g.row.T.Denot))
      → saturating l.self.copied (copied_in_run l.self.names (into_iter_items l.rest) more) ≡ saturating l.fn.self.copied
      (copied_in_run l.fn.self.names l.fn.commands.items (l.outcomes.items ++ more));
  moved : ClonesAreEqual g.T.Clone.is_clone → (more : List (Outcome g.row.T.Denot))
      → saturating l.self.moved (moved_in_run l.self.names (into_iter_items l.rest) more) ≡ saturating l.fn.self.moved
      (moved_in_run l.fn.self.names l.fn.commands.items (l.outcomes.items ++ more));
}

abbrev pub decreases-loop-command : goal.decreases-loop-command
decreases-loop-command g l = into_iter_len l.rest
