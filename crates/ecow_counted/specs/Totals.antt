-- What a run adds to the totals, and what pays for it.
use Rattle.std.specs.Prelude.{◌≡◌, ◌+◌, ◌-◌, ◌*◌, ◌<◌, ◌≤◌, ◌^◌, List}
use Rattle.std.specs.FinMap as finite
use Rattle.ecow_model.specs.CountedRun.{saturating, copied_in_run, moved_in_run, eager_in_run, input_in_run}
use Rattle.ecow_model.specs.Names.{debt, strain}
use Rattle.ecow_model.specs.declared.command.Outcome.{Outcome}
use Rattle.ecow_model.specs.declared.vecs.VecCommand.{VecCommand}
use Rattle.ecow_counted.specs.State.{CountedState}

module _ {T : Type 0} (old : CountedState T) (cs : List (VecCommand T))
    (outcomes : List (Outcome T)) (new : CountedState T) where
  -- the totals rise by the sums over the accepted commands, and stop at the greatest u64
  abbrev pub CopiedIsSum : Type 0
  CopiedIsSum = new.copied ≡ saturating old.copied (copied_in_run old.names cs outcomes)

  -- the total of moves grew by what the run moved, and stops at the greatest u64
  abbrev pub MovedIsSum : Type 0
  MovedIsSum = new.moved ≡ saturating old.moved (moved_in_run old.names cs outcomes)

  -- with the debt counted in, no more is copied than copying at each clone would
  abbrev pub CopiedIsPaid : Type 0
  CopiedIsPaid =
      new.copied + debt new.names ≤ old.copied + debt old.names + eager_in_run old.names cs outcomes

  -- with the strain counted in, what is moved is paid by what is copied and twice the input, unless
  -- the total of copies stops
  abbrev pub MovedIsPaid : Type 0
  MovedIsPaid =
      old.copied + copied_in_run old.names cs outcomes < 2 ^ 64
      → new.moved + strain new.names
      ≤ old.moved + strain old.names + (new.copied - old.copied)
      + 2 * input_in_run old.names cs outcomes

  -- the table is as it is made
  abbrev pub IsNew : Type 0
  IsNew = (old.names ≡ finite.empty) × (old.copied ≡ 0) × (old.moved ≡ 0)

  -- from a new table, no more is copied than copying at each clone would
  abbrev pub CopiesFromNew : Type 0
  CopiesFromNew = IsNew → new.copied ≤ eager_in_run old.names cs outcomes

  -- from a new table, no more is moved than what is copied and twice what is put in
  abbrev pub MovesFromNew : Type 0
  MovesFromNew = IsNew → new.moved ≤ new.copied + 2 * input_in_run old.names cs outcomes

  -- what a run adds to the totals, and what pays for it
  pub record TotalsArePaid : Type 0 where
    pub copied : CopiedIsSum
    pub moved : MovedIsSum
    pub copies_paid : CopiedIsPaid
    pub moves_paid : MovedIsPaid
    pub copies_from_new : CopiesFromNew
    pub moves_from_new : MovesFromNew
