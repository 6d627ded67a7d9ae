-- Runs, one behind another.
use Rattle.std.specs.Prelude.{ℕ, ℤ, ◌+◌, ◌≡◌, List, [], ◌∷◌, ◌++◌}
use Rattle.std.proofs.Common.{subst, ap, arith, refl}
use Rattle.ecow_model.specs.State.{State}
use Rattle.ecow_model.specs.Run.{Run, RunBy, Step}
use Rattle.ecow_model.specs.CountedRun.{CountedRun, CountedStep, copied_in, moved_in, sum_in_run}
use Rattle.ecow_model.specs.Vecs.{VecUsage, vec_usage}
use Rattle.ecow_model.specs.Names.{Names, IsSharing}
use Rattle.ecow_model.specs.declared.command.Command.{Command}
use Rattle.ecow_model.specs.declared.command.Outcome.{Outcome}
use Rattle.ecow_model.specs.declared.vecs.VecCommand.{VecCommand}
use Rattle.ecow_counted.specs.Filling.{IsRunOf}
use Rattle.ecow_counted.specs.State.{CountedState, IsValid}
use Rattle.ecow_counted.proofs.Bounds.{run_shares, step_paid}
use Rattle.ecow_counted.proofs.Totals.{saturating_none, saturating_small}

module _ {C S : Type 0} {T : Type 0} (step : S → C → Outcome T → S → Type 0) where
  -- a run behind a run
  pub by_on : (a b d : S) (cs ds : List C) (os ps : List (Outcome T)) → RunBy step a cs os b
      → RunBy step b ds ps d → RunBy step a (cs ++ ds) (os ++ ps) d
  by_on a b d [] ds [] ps h k = subst (λ s. RunBy step s ds ps d) h k
  by_on a b d [] ds (o ∷ os) ps h k = absurd h
  by_on a b d (c ∷ cs) ds [] ps h k = absurd h
  by_on a b d (c ∷ cs) ds (o ∷ os) ps h k = (h.0, h.1, by_on h.0 b d cs ds os ps h.2 k)

-- a run of the store behind a run
pub run_on : (a b d : State ℤ) (cs ds : List (Command ℤ)) (os ps : List (Outcome ℤ))
    → Run 15 a cs os b → Run 15 b ds ps d → Run 15 a (cs ++ ds) (os ++ ps) d
run_on a b d cs ds os ps h k = by_on (Step 15) a b d cs ds os ps h k

module _ {T : Type 0} where
  -- what a run costs behind a run
  sum_on : (cost : VecUsage T → Names T → ℕ) (a b : Names T) (cs ds : List (VecCommand T))
      (os ps : List (Outcome T)) → IsSharing a → CountedRun a cs os b
      → sum_in_run cost a (cs ++ ds) (os ++ ps)
      ≡ sum_in_run cost a cs os + sum_in_run cost b ds ps
  sum_on cost a b [] ds [] ps groups h =
      let same : sum_in_run cost b ds ps ≡ sum_in_run cost a ds ps =
      ap (λ names. sum_in_run cost names ds ps) h in
      omega (arith, same)
  sum_on cost a b [] ds (o ∷ os) ps groups h = absurd h
  sum_on cost a b (c ∷ cs) ds [] ps groups h = absurd h
  sum_on cost a b (c ∷ cs) ds (o ∷ os) ps groups h =
      let step = step_paid (vec_usage c) a groups o h.0 h.1 in
      let later : sum_in_run cost h.0 (cs ++ ds) (os ++ ps)
      ≡ sum_in_run cost h.0 cs os + sum_in_run cost b ds ps =
      sum_on cost h.0 b cs ds os ps step.sharing h.2 in
      rw step.after (omega (arith, later))

  -- commands carried out on a table whose groups and totals are valid, and what they cost
  abbrev pub CountedRuns : CountedState T → List (VecCommand T) → List (Outcome T)
      → CountedState T → Type 0
  CountedRuns a cs os b = IsValid a → IsRunOf a cs os b

  -- no commands
  pub no_counted_run : (a : CountedState T) → CountedRuns a [] [] a
  no_counted_run a valid = record {
    run = refl;
    copied = saturating_none a.copied valid.copied;
    moved = saturating_none a.moved valid.moved;
  }

  valid_after : (a b : CountedState T) (cs : List (VecCommand T)) (os : List (Outcome T))
      → IsValid a → IsRunOf a cs os b → IsValid b
  valid_after a b cs os valid h = record {
    sharing = run_shares cs os a.names b.names valid.sharing h.run;
    copied = rw h.copied (saturating_small _ _);
    moved = rw h.moved (saturating_small _ _);
  }

  -- a run of the table behind a run
  pub counted_run_on : (a b d : CountedState T) (cs ds : List (VecCommand T))
      (os ps : List (Outcome T)) → CountedRuns a cs os b → CountedRuns b ds ps d
      → CountedRuns a (cs ++ ds) (os ++ ps) d
  counted_run_on a b d cs ds os ps h k valid =
      let first = h valid in
      let second = k (valid_after a b cs os valid first) in
      record {
        run = by_on CountedStep a.names b.names d.names cs ds os ps first.run second.run;
        copied = omega (
          arith,
          first.copied,
          second.copied,
          sum_on copied_in a.names b.names cs ds os ps valid.sharing first.run,
        );
        moved = omega (
          arith,
          first.moved,
          second.moved,
          sum_on moved_in a.names b.names cs ds os ps valid.sharing first.run,
        );
      }
