use Rattle.std.proofs.Common.{◌≡◌, ◌++◌, ◌∙◌, ℕ, ℤ, List, ap, subst, arith}
use Rattle.ecow_counted.specs.State.{CountedState, IsValid}
use Rattle.ecow_counted.proofs.Bounds.{nothing_shares}
use Rattle.ecow_script.specs.RunLaws.{CountedRuns}
use Rattle.ecow_script.specs.Runs.{new_table, totals_line}
use Rattle.ecow_script.proofs.counted.counted_answers_to.Goals as goal

new_is_valid : IsValid new_table
new_is_valid = record { sharing = nothing_shares; copied = omega arith; moved = omega arith }

pub returns-clause-answers : goal.returns-clause-answers
returns-clause-answers c =
    let read = c.in_ok-answers.ensures.answers in
    let last : CountedState ℤ = c.answers_of.new.store in
    let new = c.new-counted.ensures in
    let is_new : c.new-counted.result ≡ new_table =
    λ i. record { names = new.names i; copied = new.copied i; moved = new.moved i } in (
      read.0,
      read.1,
      last,
      read.2,
      subst (λ (table : CountedState ℤ). CountedRuns table read.0 read.1 last) is_new read.3
          new_is_valid,
      c.in_ok-write_totals.ensures ∙ ap (λ (bytes : List ℕ). bytes ++ totals_line last) read.4,
    )
