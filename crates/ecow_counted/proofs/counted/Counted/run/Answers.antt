use Rattle.std.proofs.Common.{◌≡◌, [], ◌∷◌, sym, ◌∙◌, ap, arith, append_assoc, append-nil, subst}
use Rattle.std.specs.Vec.Iter.{into_iter_items}
use Rattle.std.proofs.lemmas.List.{nil_from_length}
use Rattle.ecow_model.specs.CountedRun.{CountedStep, CountedVerdict, saturating, copied_in, moved_in, copied_in_run, moved_in_run}
use Rattle.ecow_model.proofs.Contents.{run_of_contents}
use Rattle.ecow_model.proofs.Runs.{goes_further, gone_through}
use Rattle.ecow_counted.specs.State.{IsValid}
use Rattle.ecow_counted.proofs.Totals.{total_goes_on, saturating_none, saturating_small, totals_are_paid}
use Rattle.ecow_counted.proofs.counted.Counted.run.Goals as goal

pub loop-command-preserved : goal.loop-command-preserved
loop-command-preserved g c =
    let so_far = c.loop-command.invariant in
    let old = c.loop-command.self in
    let command = c.in-Some.command in
    let is = c.step-outcome.ensures in
    let mid = c.step-outcome.new.self.names in
    let outcome = c.step-outcome.result in
    record {
      room = omega (arith, c.in-Some.ensures.len, c.push_reserved.ensures.len, c.push_reserved.ensures.capacity, so_far.room);
      valid = record { sharing = is.sharing; copied = rw is.copied (saturating_small _ _); moved = rw is.moved (saturating_small _ _) };
      steps = λ clones. rw c.push_reserved.ensures.items
          (goes_further CountedStep _ _ _ _ _ _ _ _ (rw c.in-Some.ensures.items at so_far.steps clones) (is.step clones));
      verdicts = rw c.push_reserved.ensures.items (goes_further CountedVerdict _ _ _ _ _ _ _ _ (rw c.in-Some.ensures.items at so_far.verdicts) is.verdict);
      copied = λ clones more. rw (c.push_reserved.ensures.items, append_assoc)
          (total_goes_on copied_in old.copied command old.names so_far.valid.sharing outcome mid (is.step clones) _ is.copied _ more
          ∙ ap (λ cs. saturating old.copied (copied_in_run old.names cs (outcome ∷ more))) (sym c.in-Some.ensures.items)
          ∙ so_far.copied clones (outcome ∷ more));
      moved = λ clones more. rw (c.push_reserved.ensures.items, append_assoc)
          (total_goes_on moved_in old.moved command old.names so_far.valid.sharing outcome mid (is.step clones) _ is.moved _ more
          ∙ ap (λ cs. saturating old.moved (moved_in_run old.names cs (outcome ∷ more))) (sym c.in-Some.ensures.items)
          ∙ so_far.moved clones (outcome ∷ more));
    }

pub returns-clause-run : goal.returns-clause-run
returns-clause-run g c = λ clones.
    let rest = c.loop-command.rest in
    let ended : into_iter_items rest ≡ [] = nil_from_length (into_iter_items rest) (omega (arith, rest.rest.ok.0, c.in_default-next.ensures.cases.0)) in
    gone_through CountedStep _ _ _ _ (rw ended at c.loop-command.invariant.steps clones)

pub returns-clause-verdicts : goal.returns-clause-verdicts
returns-clause-verdicts g c =
    let rest = c.loop-command.rest in
    let ended : into_iter_items rest ≡ [] = nil_from_length (into_iter_items rest) (omega (arith, rest.rest.ok.0, c.in_default-next.ensures.cases.0)) in
    gone_through CountedVerdict _ _ _ _ (rw ended at c.loop-command.invariant.verdicts)

pub returns-clause-contents : goal.returns-clause-contents
returns-clause-contents g c =
    λ clones. run_of_contents c.args.commands.items c.loop-command.outcomes.items c.args.self.now.names c.loop-command.self.names
    (returns-clause-run g c clones)

-- what the whole run adds to the totals, and what pays for it
pub returns-clause-totals : goal.returns-clause-totals
returns-clause-totals g c = λ clones.
    let old = c.args.self.now in
    let new = c.loop-command.self in
    let commands = c.args.commands.items in
    let outcomes = c.loop-command.outcomes.items in
    let so_far = c.loop-command.invariant in
    let rest = c.loop-command.rest in
    let ended : into_iter_items rest ≡ [] = nil_from_length (into_iter_items rest) (omega (arith, rest.rest.ok.0, c.in_default-next.ensures.cases.0)) in
    let ran = returns-clause-run g c clones in
    let valid = subst IsValid c.self.view_is c.self.invariant in
    let copied =
    saturating_none new.copied so_far.valid.copied ∙ ap (λ cs. saturating new.copied (copied_in_run new.names cs [])) (sym ended) ∙ so_far.copied clones []
    ∙ ap (λ all. saturating old.copied (copied_in_run old.names commands all)) (append-nil outcomes) in
    let moved =
    saturating_none new.moved so_far.valid.moved ∙ ap (λ cs. saturating new.moved (moved_in_run new.names cs [])) (sym ended) ∙ so_far.moved clones []
    ∙ ap (λ all. saturating old.moved (moved_in_run old.names commands all)) (append-nil outcomes) in
    totals_are_paid old commands outcomes new valid.sharing ran copied moved
