-- Runs of plain lists and of lists in shared blocks over the same commands agree.
use Rattle.std.proofs.Common.{◌≡◌, ℕ, Bool, List, [], ◌∷◌, map, max, length, Some, Result, Ok, Err, refl, sym, ◌∙◌, ap, subst, arith, inl, inr}
use Rattle.std.specs.FinMap as finite
use Rattle.ecow_model.specs.State.{State}
use Rattle.ecow_model.specs.Refusing.{◌>>=◌}
use Rattle.ecow_model.specs.Uses.{Observation, Gives, carry_out, use_is_free, value_at, observation_in}
use Rattle.ecow_model.specs.Vecs.{VecUsage, vec_rules, ask_vec, vec_usage}
use Rattle.ecow_model.specs.Run.{IsVecStep, Run, RunBy}
use Rattle.ecow_model.specs.Names.{Names, Holding, IsSharing, contents}
use Rattle.ecow_model.specs.CountedRun.{CountedRun, ContentsStep, counted_carry_out, counted_is_free, observation_at}
use Rattle.ecow_model.specs.Agreement.{plain_answer, SameAnswers, LacksNoMemory}
use Rattle.ecow_model.specs.declared.usage.Usage.TheVariants.{Make, Derive, Drop, Edit, Ask}
use Rattle.ecow_model.specs.declared.vecs.VecAsk.{VecAsk}
use Rattle.ecow_model.specs.declared.vecs.VecAsk.TheVariants.{Read, Len, Contents, Capacity, Unique}
use Rattle.ecow_model.specs.declared.command.Command.TheVariants.{Vec}
use Rattle.ecow_model.specs.declared.vecs.VecCommand.{VecCommand}
use Rattle.ecow_model.specs.declared.command.Outcome.{Outcome}
use Rattle.ecow_model.specs.declared.command.Outcome.TheVariants.{Count, Refused}
use Rattle.ecow_model.specs.declared.command.Refusal.{Refusal}
use Rattle.ecow_model.specs.declared.command.Refusal.TheVariants.{Memory}
use Rattle.ecow_model.proofs.Contents.{run_of_contents}

module _ {T : Type 0} where
  -- the same refusal, or the same values and answers but for what is read
  abbrev Alike : VecUsage T → Result (Outcome T × State T) Refusal → Result (Outcome T × State T) Refusal → Type 0
  Alike usage (Ok p) (Ok q) = (plain_answer usage p.0 ≡ plain_answer usage q.0) × (p.1 ≡ q.1)
  Alike usage (Err refusal) (Err other) = refusal ≡ other
  Alike usage _ _ = ⊥

  same : (usage : VecUsage T) (r : Result (Outcome T × State T) Refusal) → Alike usage r r
  same usage (Ok p) = (refl, refl)
  same usage (Err refusal) = refl

  module _ (seen other : Observation) (old : State T) where
    asked_alike : (x : ℕ) (question : VecAsk) (xs : List T)
        → Alike (Ask x question) (ask_vec seen question xs >>= (λ answer. Ok (answer, old)))
        (ask_vec other question xs >>= (λ answer. Ok (answer, old)))
    asked_alike x (Read index) xs = same (Ask x (Read index)) (ask_vec seen (Read index) xs >>= (λ answer. Ok (answer, old)))
    asked_alike x Len xs = (refl, refl)
    asked_alike x Contents xs = (refl, refl)
    asked_alike x Capacity xs = (refl, refl)
    asked_alike x Unique xs = (refl, refl)

    reads_alike : (usage : VecUsage T) → Alike usage (carry_out vec_rules seen old usage) (carry_out vec_rules other old usage)
    reads_alike (Make x how) = same (Make x how) (carry_out vec_rules seen old (Make x how))
    reads_alike (Derive x y how) = same (Derive x y how) (carry_out vec_rules seen old (Derive x y how))
    reads_alike (Drop x) = same (Drop x) (carry_out vec_rules seen old (Drop x))
    reads_alike (Edit x edit) = same (Edit x edit) (carry_out vec_rules seen old (Edit x edit))
    reads_alike (Ask x question) =
        elim (value_at vec_rules old x) as (λ r. Alike (Ask x question)
        (r >>= (λ xs. ask_vec seen question xs >>= (λ answer. Ok (answer, old))))
        (r >>= (λ xs. ask_vec other question xs >>= (λ answer. Ok (answer, old))))) [
          | Ok xs ↦ asked_alike x question xs
          | Err refusal ↦ refl
        ]

  one_step : (usage : VecUsage T) (old : State T) (free other_free : Bool) (a b : Outcome T) (mid other : State T)
      (r s : Result (Outcome T × State T) Refusal) → Alike usage r s → Gives r free old a mid → Gives s other_free old b other
      → ¬ (a ≡ Refused Memory) → ¬ (b ≡ Refused Memory) → (plain_answer usage a ≡ plain_answer usage b) × (mid ≡ other)
  one_step usage old free other_free a b mid other (Ok p) (Ok q) k (inl h) (inl g) some more =
      (ap (λ w. plain_answer usage w.0) h ∙ k.0 ∙ sym (ap (λ w. plain_answer usage w.0) g), ap (λ w. w.1) h ∙ k.1 ∙ sym (ap (λ w. w.1) g))
  one_step usage old free other_free a b mid other (Ok p) (Ok q) k (inr h) g some more = absurd (some h.0)
  one_step usage old free other_free a b mid other (Ok p) (Ok q) k (inl h) (inr g) some more = absurd (more g.0)
  one_step usage old free other_free a b mid other (Err refusal) (Err same) k h g some more =
      (ap (plain_answer usage) (h.0 ∙ ap (λ r. Refused r) k ∙ sym g.0), h.1 ∙ sym g.1)
  one_step usage old free other_free a b mid other (Ok p) (Err refusal) k h g some more = absurd k
  one_step usage old free other_free a b mid other (Err refusal) (Ok p) k h g some more = absurd k

  runs_agree : (cs : List (VecCommand T)) (ours theirs : List (Outcome T)) (old new : State T) (names later : Names T)
      → contents names ≡ old → RunBy IsVecStep old cs ours new → RunBy ContentsStep names cs theirs later
      → LacksNoMemory ours → LacksNoMemory theirs → SameAnswers cs ours theirs × (contents later ≡ new)
  runs_agree [] [] [] old new names later at run counted some more = (tt, ap contents counted ∙ at ∙ sym run)
  runs_agree (c ∷ cs) (a ∷ ours) (b ∷ theirs) old new names later at run counted some more =
      let usage = vec_usage c in
      let step = subst (λ values. IsVecStep values c a run.0) (sym at) run.1 in
      let one =
      one_step usage (contents names) (use_is_free vec_rules (contents names) usage) (counted_is_free names usage) a b run.0
      (contents counted.0) _ _
      (reads_alike (observation_in a) (observation_at names usage) (contents names) usage) step counted.1 some.0 more.0 in
      let rest = runs_agree cs ours theirs run.0 new counted.0 later (sym one.1) run.2 counted.2 some.1 more.1 in
      ((one.0, rest.0), rest.1)
  runs_agree [] (a ∷ ours) theirs old new names later at run counted some more = absurd run
  runs_agree (c ∷ cs) [] theirs old new names later at run counted some more = absurd run
  runs_agree [] [] (b ∷ theirs) old new names later at run counted some more = absurd counted
  runs_agree (c ∷ cs) (a ∷ ours) [] old new names later at run counted some more = absurd counted

  pub stores_agree : (cs : List (VecCommand T)) (ours theirs : List (Outcome T)) (old new : State T) (names later : Names T)
      → contents names ≡ old → RunBy IsVecStep old cs ours new → CountedRun names cs theirs later → LacksNoMemory ours
      → LacksNoMemory theirs → SameAnswers cs ours theirs × (contents later ≡ new)
  stores_agree cs ours theirs old new names later at run counted some more =
      runs_agree cs ours theirs old new names later at run (run_of_contents cs theirs names later counted) some more

  -- a run of a store by commands on lists alone
  list_run : (limit : ℕ) (cs : List (VecCommand T)) (outs : List (Outcome T)) (old new : State T)
      → Run limit old (map (λ c. Vec c) cs) outs new → RunBy IsVecStep old cs outs new
  list_run limit [] [] old new run = run
  list_run limit (c ∷ cs) (a ∷ outs) old new run = (run.0, run.1, list_run limit cs outs run.0 new run.2)
  list_run limit [] (a ∷ outs) old new run = absurd run
  list_run limit (c ∷ cs) [] old new run = absurd run

  pub a_store_agrees : (limit : ℕ) (cs : List (VecCommand T)) (ours theirs : List (Outcome T)) (old new : State T) (names later : Names T)
      → contents names ≡ old → Run limit old (map (λ c. Vec c) cs) ours new → CountedRun names cs theirs later
      → LacksNoMemory ours → LacksNoMemory theirs → SameAnswers cs ours theirs × (contents later ≡ new)
  a_store_agrees limit cs ours theirs old new names later at run counted some more =
      stores_agree cs ours theirs old new names later at (list_run limit cs ours old new run) counted some more

  -- a capacity is not below the length, so it is read as it is
  pub capacity_read : (names : Names T) (x : ℕ) (h : Holding T) → IsSharing names → finite.get names x ≡ Some h
      → counted_carry_out names (Ask x Capacity) ≡ Ok (Count h.capacity, names)
  capacity_read names x h groups at =
      let fits = (groups.fits x h at).0 in
      let exact : max h.capacity (length h.items) ≡ h.capacity = omega (arith, fits) in
      rw (at, exact) refl
