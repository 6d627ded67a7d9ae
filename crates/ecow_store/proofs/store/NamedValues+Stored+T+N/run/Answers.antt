use Rattle.std.proofs.Common.{◌≡◌, [], arith}
use Rattle.std.specs.Vec.Iter.{into_iter_items}
use Rattle.std.proofs.lemmas.List.{nil_from_length}
use Rattle.ecow_base.specs.Clones.{ClonesAreEqual}
use Rattle.ecow_model.specs.Run.{Step, StepVerdict, StepWhere}
use Rattle.ecow_model.proofs.Runs.{goes_further, gone_through}
use Rattle.ecow_store.proofs.store.NamedValues+Stored+T+N.run.Goals as goal

pub loop-command-preserved : goal.loop-command-preserved
loop-command-preserved g c =
    let so_far = c.loop-command.invariant in
    record {
      room = omega (arith, c.in-Some.ensures.len, c.push_reserved.ensures.len, c.push_reserved.ensures.capacity, so_far.room);
      steps = λ clones. rw c.push_reserved.ensures.items
          (goes_further (Step g.row.N) _ _ _ _ _ _ _ _ (rw c.in-Some.ensures.items at so_far.steps clones) (c.step-outcome.ensures.step clones));
      bytes_and_texts =
          rw c.push_reserved.ensures.items (goes_further (StepWhere g.row.N (ClonesAreEqual g.T.Clone.is_clone)) _ _ _ _ _ _ _ _
          (rw c.in-Some.ensures.items at so_far.bytes_and_texts) c.step-outcome.ensures.bytes_and_texts);
      verdicts =
          rw c.push_reserved.ensures.items (goes_further (StepVerdict g.row.N) _ _ _ _ _ _ _ _
          (rw c.in-Some.ensures.items at so_far.verdicts) c.step-outcome.ensures.verdict);
    }

pub returns-clause-run : goal.returns-clause-run
returns-clause-run g c = λ clones.
    let rest = c.loop-command.rest in
    let ended : into_iter_items rest ≡ [] = nil_from_length (into_iter_items rest) (omega (arith, rest.rest.ok.0, c.in_default-next.ensures.cases.0)) in
    gone_through (Step g.row.N) _ _ _ _ (rw ended at c.loop-command.invariant.steps clones)

pub returns-clause-bytes_and_texts : goal.returns-clause-bytes_and_texts
returns-clause-bytes_and_texts g c =
    let rest = c.loop-command.rest in
    let ended : into_iter_items rest ≡ [] = nil_from_length (into_iter_items rest) (omega (arith, rest.rest.ok.0, c.in_default-next.ensures.cases.0)) in
    gone_through (StepWhere g.row.N (ClonesAreEqual g.T.Clone.is_clone)) _ _ _ _ (rw ended at c.loop-command.invariant.bytes_and_texts)

pub returns-clause-verdicts : goal.returns-clause-verdicts
returns-clause-verdicts g c =
    let rest = c.loop-command.rest in
    let ended : into_iter_items rest ≡ [] = nil_from_length (into_iter_items rest) (omega (arith, rest.rest.ok.0, c.in_default-next.ensures.cases.0)) in
    gone_through (StepVerdict g.row.N) _ _ _ _ (rw ended at c.loop-command.invariant.verdicts)
