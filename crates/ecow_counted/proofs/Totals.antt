-- The totals over a run.
use Rattle.std.proofs.Common.{◌≡◌, ℕ, ◌+◌, ◌*◌, ◌^◌, ◌<◌, ◌≤◌, List, ◌∷◌, sym, ◌∙◌, ap, subst, arith}
use Rattle.std.specs.FinMap as finite
use Rattle.ecow_model.specs.CountedRun.{CountedStep, CountedRun, saturating, if_accepted, sum_in_run, copied_in_run, moved_in_run, eager_in_run, input_in_run}
use Rattle.ecow_model.specs.Vecs.{VecUsage, vec_usage}
use Rattle.ecow_model.specs.Names.{Names, IsSharing, debt, strain}
use Rattle.ecow_model.specs.declared.command.Outcome.{Outcome}
use Rattle.ecow_model.specs.declared.vecs.VecCommand.{VecCommand}
use Rattle.ecow_counted.proofs.Bounds.{step_paid, copies_at_most_eagerly, moves_are_paid, copies_from_nothing, moves_from_nothing}
use Rattle.ecow_counted.specs.State.{CountedState}
use Rattle.ecow_counted.specs.Totals.{CopiedIsSum, MovedIsSum, CopiedIsPaid, MovedIsPaid, CopiesFromNew, MovesFromNew, TotalsArePaid}

pub saturating_twice : (n a b : ℕ) → saturating (saturating n a) b ≡ saturating n (a + b)
saturating_twice n a b = omega arith

pub saturating_none : (n : ℕ) → n < 2 ^ 64 → n ≡ saturating n 0
saturating_none n h = omega arith

pub saturating_small : (n a : ℕ) → saturating n a < 2 ^ 64
saturating_small n a = omega arith

module _ {T : Type 0} (cost : VecUsage T → Names T → ℕ) (before : ℕ) (c : VecCommand T) (old : Names T)
    (groups : IsSharing old) (outcome : Outcome T) (mid : Names T) (step : CountedStep old c outcome mid) where
  -- the first command's share of a total, and that of the others
  pub total_goes_on : (after : ℕ) → after ≡ saturating before (if_accepted outcome (cost (vec_usage c) old))
      → (cs : List (VecCommand T)) (outcomes : List (Outcome T))
      → saturating after (sum_in_run cost mid cs outcomes) ≡ saturating before (sum_in_run cost old (c ∷ cs) (outcome ∷ outcomes))
  total_goes_on after rises cs outcomes =
      ap (λ n. saturating n (sum_in_run cost mid cs outcomes)) rises
      ∙ saturating_twice before (if_accepted outcome (cost (vec_usage c) old)) (sum_in_run cost mid cs outcomes)
      ∙ ap (λ names. saturating before (if_accepted outcome (cost (vec_usage c) old) + sum_in_run cost names cs outcomes))
      (sym (step_paid (vec_usage c) old groups outcome mid step).after)

module _ {T : Type 0} (old : CountedState T) (cs : List (VecCommand T)) (outcomes : List (Outcome T)) (new : CountedState T)
    (groups : IsSharing old.names) (run : CountedRun old.names cs outcomes new.names)
    (copies : CopiedIsSum old cs outcomes new) (moves : MovedIsSum old cs outcomes new) where
  copies_paid : CopiedIsPaid old cs outcomes new
  copies_paid =
      let paid : copied_in_run old.names cs outcomes + debt new.names ≤ debt old.names + eager_in_run old.names cs outcomes =
      copies_at_most_eagerly cs outcomes old.names new.names groups run in
      omega (arith, paid, copies)

  moves_paid : MovedIsPaid old cs outcomes new
  moves_paid fits =
      let paid : moved_in_run old.names cs outcomes + strain new.names ≤ strain old.names + copied_in_run old.names cs outcomes
      + 2 * input_in_run old.names cs outcomes = moves_are_paid cs outcomes old.names new.names groups run in
      omega (arith, paid, copies, moves, fits)

  copies_from_new : CopiesFromNew old cs outcomes new
  copies_from_new is =
      let ours : CountedRun finite.empty cs outcomes new.names = subst (λ names. CountedRun names cs outcomes new.names) is.0 run in
      let sum : new.copied ≡ saturating 0 (copied_in_run finite.empty cs outcomes) = rw (is.1, is.0) at copies in
      let most : copied_in_run finite.empty cs outcomes ≤ eager_in_run finite.empty cs outcomes = copies_from_nothing cs outcomes new.names ours in
      rw is.0 (omega (arith, sum, most))

  moves_from_new : MovesFromNew old cs outcomes new
  moves_from_new is =
      let ours : CountedRun finite.empty cs outcomes new.names = subst (λ names. CountedRun names cs outcomes new.names) is.0 run in
      let copied : new.copied ≡ saturating 0 (copied_in_run finite.empty cs outcomes) = rw (is.1, is.0) at copies in
      let moved : new.moved ≡ saturating 0 (moved_in_run finite.empty cs outcomes) = rw (is.2, is.0) at moves in
      let most : moved_in_run finite.empty cs outcomes ≤ copied_in_run finite.empty cs outcomes + 2 * input_in_run finite.empty cs outcomes =
      moves_from_nothing cs outcomes new.names ours in
      rw is.0 (omega (arith, copied, moved, most))

  -- what a run adds to the totals, and what pays for it
  pub totals_are_paid : TotalsArePaid old cs outcomes new
  totals_are_paid = record {
    copied = copies;
    moved = moves;
    copies_paid = copies_paid;
    moves_paid = moves_paid;
    copies_from_new = copies_from_new;
    moves_from_new = moves_from_new;
  }
