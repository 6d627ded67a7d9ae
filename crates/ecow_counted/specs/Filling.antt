-- A new list, filled item by item.
use Rattle.std.specs.Prelude.{◌≡◌, ℕ, ◌+◌, ◌<◌, ◌⊎◌, List, [], ◌∷◌, ◌++◌, map, take, length, replicate, Option, Some, None}
use Rattle.ecow_model.specs.CountedRun.{CountedRun}
use Rattle.ecow_model.specs.declared.command.Outcome.{Outcome}
use Rattle.ecow_model.specs.declared.command.Outcome.TheVariants.{Done, Refused}
use Rattle.ecow_model.specs.declared.command.Refusal.{Refusal}
use Rattle.ecow_model.specs.declared.vecs.VecCommand.{VecCommand}
use Rattle.ecow_model.specs.declared.vecs.VecCommand.TheVariants.{New, Push}
use Rattle.ecow_counted.specs.declared.fill.Filled.{Filled}
use Rattle.ecow_counted.specs.State.{CountedState}
use Rattle.ecow_counted.specs.Totals.{CopiedIsSum, MovedIsSum, TotalsArePaid}

module _ {T : Type 0} where
  -- the commands have these outcomes, and the totals rise by their sums
  pub record IsRunOf (old : CountedState T) (cs : List (VecCommand T))
      (outcomes : List (Outcome T)) (new : CountedState T) : Type 0 where
    pub run : CountedRun old.names cs outcomes new.names
    pub copied : CopiedIsSum old cs outcomes new
    pub moved : MovedIsSum old cs outcomes new

  -- the commands have these outcomes, and what the totals rise by is paid
  pub record IsPaidRun (old : CountedState T) (cs : List (VecCommand T))
      (outcomes : List (Outcome T)) (new : CountedState T) : Type 0 where
    pub run : CountedRun old.names cs outcomes new.names
    pub totals : TotalsArePaid old cs outcomes new

  -- New, and a Push of each item
  abbrev pub filling : ℕ → List T → List (VecCommand T)
  filling name items = New name ∷ map (λ item. Push name item) items

  -- New and so many pushes were accepted
  abbrev pub accepted : ℕ → List (Outcome T)
  accepted n = Done ∷ replicate n Done

  -- all items went in; or New was refused; or so many went in, and the push of the next was refused
  abbrev pub IsFilledUntil : Option Refusal → CountedState T → ℕ → List T → ℕ → CountedState T
      → Type 0
  IsFilledUntil None old name items n new =
      (n ≡ length items) × IsPaidRun old (filling name items) (accepted n) new
  IsFilledUntil (Some refusal) old name items n new =
      ((n ≡ 0) × IsPaidRun old (New name ∷ []) (Refused refusal ∷ []) new)
      ⊎ ((n < length items)
      × IsPaidRun old (filling name (take (n + 1) items))
      (accepted n ++ Refused refusal ∷ []) new)

  -- what `fill` answers and leaves, by whether an item was refused
  abbrev pub IsFilled : CountedState T → ℕ → List T → Filled → CountedState T → Type 0
  IsFilled old name items filled new =
      IsFilledUntil filled.refusal old name items filled.accepted new
