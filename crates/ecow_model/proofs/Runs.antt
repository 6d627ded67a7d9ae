-- A run of commands in order, as far as it has come.
use Rattle.std.proofs.Common.{List, [], ◌∷◌, ◌++◌, refl, append_assoc, append-nil, subst}
use Rattle.ecow_model.specs.Run.{RunBy}
use Rattle.ecow_model.specs.declared.command.Outcome.{Outcome}

module _ {C T S : Type 0} (step : S → C → Outcome T → S → Type 0) where
  -- each run of what is left goes on the run of all commands, whose outcomes so far are these
  abbrev pub GoesOn : S → List C → List (Outcome T) → List C → S → Type 0
  GoesOn old commands outcomes rest current =
      (more : List (Outcome T)) (new : S) → RunBy step current rest more new → RunBy step old commands (outcomes ++ more) new

  -- and so it does behind one more step
  pub goes_further : (old : S) (commands : List C) (outcomes : List (Outcome T)) (command : C) (rest : List C) (current : S) (outcome : Outcome T) (next : S) →
      GoesOn old commands outcomes (command ∷ rest) current → step current command outcome next → GoesOn old commands (outcomes ++ outcome ∷ []) rest next
  goes_further old commands outcomes command rest current outcome next so_far one more new run = rw append_assoc (so_far (outcome ∷ more) new (next, one, run))

  -- where nothing is left, all commands were run
  pub gone_through : (old : S) (commands : List C) (outcomes : List (Outcome T)) (new : S)
      → GoesOn old commands outcomes [] new → RunBy step old commands outcomes new
  gone_through old commands outcomes new so_far = subst (λ all. RunBy step old commands all new) (append-nil outcomes) (so_far [] new refl)
