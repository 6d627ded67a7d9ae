use Rattle.std.proofs.Common.{◌+◌, ◌≤◌, vec_len, vec_capacity}
use Rattle.std.specs.Vec.Iter.{into_iter_items, into_iter_len}
use Rattle.ecow_base.specs.Clones.{ClonesAreEqual}
use Rattle.ecow_model.specs.Run.{Step, StepVerdict, StepWhere}
use Rattle.ecow_model.proofs.Runs.{GoesOn}
use Rattle.ecow_store.proofs.store.NamedValues+Stored+T+N.run.Given as goal

-- there is room for what is left, and each run of what is left goes on the run so far
abbrev pub invariant-loop-command : goal.invariant-loop-command
invariant-loop-command g l = record {
  room : vec_len l.outcomes + into_iter_len l.rest ≤ vec_capacity l.outcomes;
  steps : ClonesAreEqual g.T.Clone.is_clone → GoesOn (Step g.row.N) l.fn.self l.fn.commands.items l.outcomes.items (into_iter_items l.rest) l.self;
  bytes_and_texts : GoesOn (StepWhere g.row.N (ClonesAreEqual g.T.Clone.is_clone)) l.fn.self
      l.fn.commands.items l.outcomes.items (into_iter_items l.rest) l.self;
  verdicts : GoesOn (StepVerdict g.row.N) l.fn.self l.fn.commands.items l.outcomes.items (into_iter_items l.rest) l.self;
}

abbrev pub decreases-loop-command : goal.decreases-loop-command
decreases-loop-command g l = into_iter_len l.rest
