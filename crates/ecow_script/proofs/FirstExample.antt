-- The first example, computed.
use Rattle.std.proofs.Common.{◌≡◌, ℕ, ℤ, pos, cond, not, map, ◌++◌, List, [], ◌∷◌, Some, None, Result, Ok, Err, false, refl, ap, ◌∙◌, subst, inl, inr}
use Rattle.std.specs.Ordering.{nat_cmp, eq_by_cmp}
use Rattle.std.specs.Cmp.{nat_cmp_total}
use Rattle.std.specs.FinMap.{empty, get, insert, remove, get-insert, get-remove, get-empty}
use Rattle.std.specs.FinMap as finite
use Rattle.std.specs.FinMap.Entries.{find, put, where_key}
use Rattle.std.specs.Prelude.{codes, decimal}
use Rattle.ecow_model.specs.CountedRun.{CountedRun, counted_carry_out, counted_is_free, copied_in_run, moved_in_run, saturating}
use Rattle.ecow_model.specs.Names.{Names, Holding, blocks, map_values}
use Rattle.ecow_model.proofs.Entries.{entries-empty, entries-remove, entries-insert, get-entries, entries-map_values}
use Rattle.ecow_counted.specs.Filling.{IsRunOf}
use Rattle.ecow_counted.specs.State.{CountedState}
use Rattle.ecow_script.specs.Runs.{new_table, totals_line}
use Rattle.ecow_model.specs.State.{State, Plain}
use Rattle.ecow_model.specs.Uses.{Observation, Gives, carry_out, use_is_free, observation_in}
use Rattle.ecow_model.specs.Vecs.{vec_rules, vec_usage}
use Rattle.ecow_model.specs.Run.{Run, outcomes, outcome_then}
use Rattle.ecow_model.specs.declared.command.Command.{Command}
use Rattle.ecow_model.specs.declared.command.Command.TheVariants.{Vec, Bytes, Text}
use Rattle.ecow_model.specs.declared.command.Outcome.{Outcome}
use Rattle.ecow_model.specs.declared.command.Outcome.TheVariants.{Done, Elements, Refused}
use Rattle.ecow_model.specs.declared.command.Refusal.{Refusal}
use Rattle.ecow_model.specs.declared.command.Refusal.TheVariants.{Memory}
use Rattle.ecow_model.specs.declared.vecs.VecCommand.{VecCommand}
use Rattle.ecow_model.specs.declared.vecs.VecCommand.TheVariants as vec
use Rattle.ecow_script.specs.Answers.{answer_lines}
use Rattle.ecow_script.specs.Scripts.{script_commands}
use Rattle.ecow_script.specs.Commands.{store_form, counted_form}
use Rattle.ecow_script.specs.FirstExample.{first_script, first_commands, first_vec_commands, first_answers, first_totals, LackNothing, first_totals}

pub first_read : script_commands store_form first_script ≡ Ok first_commands
first_read = refl

-- what Capacity and Unique read in scripts that don't ask for them
abbrev unseen : Observation
unseen = record { capacity = 0; unique = false }

-- commands on lists that ask for neither
abbrev AsksNeither : {T : Type 0} → VecCommand T → Type 0
AsksNeither (vec.Capacity x) = ⊥
AsksNeither (vec.Unique x) = ⊥
AsksNeither _ = Unit {0}

abbrev AskNeither : {T : Type 0} → List (Command T) → Type 0
AskNeither [] = Unit {0}
AskNeither (Vec c ∷ commands) = AsksNeither c × AskNeither commands
AskNeither (Bytes c ∷ commands) = ⊥
AskNeither (Text c ∷ commands) = ⊥

module _ {T : Type 0} where
  as_unseen : (seen : Observation) (old : State T) (c : VecCommand T) → AsksNeither c
      → carry_out vec_rules seen old (vec_usage c) ≡ carry_out vec_rules unseen old (vec_usage c)
  as_unseen seen old (vec.New x) h = refl
  as_unseen seen old (vec.WithCapacity x n) h = refl
  as_unseen seen old (vec.FromList x xs) h = refl
  as_unseen seen old (vec.FromElem x v n) h = refl
  as_unseen seen old (vec.Clone x y) h = refl
  as_unseen seen old (vec.Drop x) h = refl
  as_unseen seen old (vec.Push x v) h = refl
  as_unseen seen old (vec.Pop x) h = refl
  as_unseen seen old (vec.Insert x i v) h = refl
  as_unseen seen old (vec.Remove x i) h = refl
  as_unseen seen old (vec.Write x i v) h = refl
  as_unseen seen old (vec.Truncate x n) h = refl
  as_unseen seen old (vec.Clear x) h = refl
  as_unseen seen old (vec.Retain x marks) h = refl
  as_unseen seen old (vec.Drain x bounds) h = refl
  as_unseen seen old (vec.Splice x bounds xs) h = refl
  as_unseen seen old (vec.Extend x xs) h = refl
  as_unseen seen old (vec.Reserve x n) h = refl
  as_unseen seen old (vec.Read x i) h = refl
  as_unseen seen old (vec.Len x) h = refl
  as_unseen seen old (vec.Contents x) h = refl
  as_unseen seen old (vec.Capacity x) h = absurd h
  as_unseen seen old (vec.Unique x) h = absurd h

  -- a step that lacks nothing gives what the definitions give
  next_given : (given : Result (Outcome T × State T) Refusal) (free : _) (old mid : State T)
      (o : Outcome T) (os : List (Outcome T)) (commands : List (Command T))
      → (o ≡ Refused Memory → ⊥) → Gives given free old o mid → os ≡ outcomes 15 unseen mid commands
      → o ∷ os ≡ outcome_then 15 given old (λ new. outcomes 15 unseen new commands)
  next_given (Ok answer) free old mid o os commands lacks (inl w) e =
      ap (λ more. o ∷ more) e
      ∙ ap (λ (a : Outcome T × State T). a.0 ∷ outcomes 15 unseen a.1 commands) w
  next_given (Ok answer) free old mid o os commands lacks (inr h) e = absurd (lacks h.0)
  next_given (Err refusal) free old mid o os commands lacks h e =
      ap (λ more. o ∷ more) e ∙ ap (λ (state : State T). o ∷ outcomes 15 unseen state commands) h.1
      ∙ ap (λ (first : Outcome T). first ∷ outcomes 15 unseen old commands) h.0

  -- a run that lacks nothing has the outcomes of the definitions
  outcomes_of_run : (commands : List (Command T)) (os : List (Outcome T)) (old new : State T)
      → AskNeither commands → LackNothing os → Run 15 old commands os new
      → os ≡ outcomes 15 unseen old commands
  outcomes_of_run [] [] old new h lacks run = refl
  outcomes_of_run [] (o ∷ os) old new h lacks run = absurd run
  outcomes_of_run (c ∷ commands) [] old new h lacks run = absurd run
  outcomes_of_run (Bytes c ∷ commands) (o ∷ os) old new h lacks run = absurd h
  outcomes_of_run (Text c ∷ commands) (o ∷ os) old new h lacks run = absurd h
  outcomes_of_run (Vec c ∷ commands) (o ∷ os) old new h lacks run =
      next_given (carry_out vec_rules unseen old (vec_usage c))
      (use_is_free vec_rules old (vec_usage c)) old run.0 o os commands lacks.0
      (subst (λ given. Gives given (use_is_free vec_rules old (vec_usage c)) old o run.0)
      (as_unseen (observation_in o) old c h.0) run.1)
      (outcomes_of_run commands os run.0 new h.1 lacks.1 run.2)

get_inserted : (m : State ℤ) (k : ℕ) (v : Plain ℤ) (q : ℕ)
    → get (insert m k v) q ≡ cond (eq_by_cmp nat_cmp q k) (Some v) (get m q)
get_inserted = get-insert nat_cmp_total

get_none : (q : ℕ) → get (empty {X = Plain ℤ} {R = nat_cmp}) q ≡ None
get_none = get-empty nat_cmp

ruleset rules = (get_inserted, get_none)

abbrev nine : List (Outcome ℤ)
nine =
    Done ∷ Done ∷ Done ∷ Done ∷ Done ∷ Done ∷ Elements [] ∷ Elements
    (pos 1 ∷ pos 2 ∷ pos 3 ∷ pos 4 ∷ []) ∷ Elements (pos 1 ∷ [])
    ∷ []

nine_outcomes : outcomes 15 unseen empty first_commands ≡ nine
nine_outcomes = simp rules refl

nine_lines : answer_lines nine ≡ first_answers
unfolding Rattle.std.specs.Fmt.digits
nine_lines = refl

-- every run that lacks nothing answers the nine lines
pub first_answered : (os : List (Outcome ℤ)) (last : State ℤ) → Run 15 empty first_commands os last
    → LackNothing os → answer_lines os ≡ first_answers
first_answered os last run lacks =
    ap answer_lines
    (outcomes_of_run first_commands os empty last
    (tt, (tt, (tt, (tt, (tt, (tt, (tt, (tt, (tt, tt))))))))) lacks run ∙ nine_outcomes) ∙ nine_lines

-- ---- in the counted store

pub first_counted_read : script_commands counted_form first_script ≡ Ok first_vec_commands
first_counted_read = refl

module _ {T : Type 0} where
  -- what follows a command, by the names after it
  abbrev go_on : {X : Type 0} → Result (Outcome T × Names T) Refusal → Names T
      → (Outcome T → Names T → X) → X
  go_on (Ok answer) old rest = rest answer.0 answer.1
  go_on (Err refusal) old rest = rest (Refused refusal) old

  -- the outcomes of these commands where none lacks memory
  abbrev outcomes_of_all : Names T → List (VecCommand T) → List (Outcome T)
  outcomes_of_all names [] = []
  outcomes_of_all names (c ∷ cs) =
      go_on (counted_carry_out names (vec_usage c)) names
      (λ outcome new. outcome ∷ outcomes_of_all new cs)

  -- the names after them
  abbrev names_after_all : Names T → List (VecCommand T) → Names T
  names_after_all names [] = names
  names_after_all names (c ∷ cs) =
      go_on (counted_carry_out names (vec_usage c)) names (λ outcome new. names_after_all new cs)

  step_goes_on : {X : Type 0} (given : Result (Outcome T × Names T) Refusal) (free : _)
      (old mid : Names T) (o : Outcome T) (rest : Outcome T → Names T → X)
      → (o ≡ Refused Memory → ⊥) → Gives given free old o mid → rest o mid ≡ go_on given old rest
  step_goes_on (Ok answer) free old mid o rest lacks (inl w) =
      ap (λ (a : Outcome T × Names T). rest a.0 a.1) w
  step_goes_on (Ok answer) free old mid o rest lacks (inr h) = absurd (lacks h.0)
  step_goes_on (Err refusal) free old mid o rest lacks h =
      ap (λ (first : Outcome T). rest first mid) h.0
      ∙ ap (λ (names : Names T). rest (Refused refusal) names) h.1

  counted_run_is : (cs : List (VecCommand T)) (os : List (Outcome T)) (old new : Names T)
      → LackNothing os → CountedRun old cs os new
      → (os ≡ outcomes_of_all old cs) × (new ≡ names_after_all old cs)
  counted_run_is [] [] old new lacks run = (refl, run)
  counted_run_is [] (o ∷ os) old new lacks run = absurd run
  counted_run_is (c ∷ cs) [] old new lacks run = absurd run
  counted_run_is (c ∷ cs) (o ∷ os) old new lacks run =
      let given = counted_carry_out old (vec_usage c) in
      let free = counted_is_free old (vec_usage c) in
      let more = counted_run_is cs os run.0 new lacks.1 run.2 in (
        ap (λ (rest : List (Outcome T)). o ∷ rest) more.0
            ∙ step_goes_on given free old run.0 o
            (λ outcome names. outcome ∷ outcomes_of_all names cs) lacks.0 run.1,
        more.1 ∙ step_goes_on given free old run.0 o
            (λ outcome names. names_after_all names cs) lacks.0 run.1,
      )

none_entered : finite.entries (finite.empty {X = Holding ℤ} {R = nat_cmp}) ≡ []
none_entered = entries-empty

removed : (m : Names ℤ) (k : ℕ)
    → finite.entries (finite.remove m k)
    ≡ where_key nat_cmp (λ x. not (eq_by_cmp nat_cmp k x)) (finite.entries m)
removed = entries-remove

entered : (m : Names ℤ) (k : ℕ) (v : Holding ℤ)
    → finite.entries (finite.insert m k v) ≡ put nat_cmp k v (finite.entries m)
entered = entries-insert

looked_up : (m : Names ℤ) (q : ℕ) → finite.get m q ≡ find nat_cmp q (finite.entries m)
looked_up = get-entries

mapped : (f : Holding ℤ → Holding ℤ) (m : Names ℤ)
    → finite.entries (map_values f m) ≡ map (λ e. (e.0, f e.1)) (finite.entries m)
mapped = entries-map_values

ruleset table_rules = (none_entered, removed, entered, looked_up, mapped)

nine_counted : outcomes_of_all finite.empty first_vec_commands ≡ nine
nine_counted = simp table_rules refl

three_blocks : blocks (names_after_all finite.empty first_vec_commands) ≡ 3
three_blocks = simp table_rules refl

four_copied : copied_in_run finite.empty first_vec_commands nine ≡ 4
four_copied = simp table_rules refl

none_moved : moved_in_run finite.empty first_vec_commands nine ≡ 0
none_moved = simp table_rules refl

abbrev totals : ℕ → ℕ → ℕ → List ℕ
totals b c m =
    codes "blocks " ++ decimal b ++ codes " copied " ++ decimal c ++ codes " moved " ++ decimal m
    ++ codes "\n"

last_line : totals 3 4 0 ≡ first_totals
unfolding Rattle.std.specs.Fmt.digits
last_line = refl

-- every run in the counted store that lacks nothing answers them, and a tenth
pub first_counted : (os : List (Outcome ℤ)) (last : CountedState ℤ)
    → IsRunOf new_table first_vec_commands os last → LackNothing os
    → answer_lines os ++ totals_line last ≡ first_answers ++ first_totals
first_counted os last run lacks =
    let is = counted_run_is first_vec_commands os finite.empty last.names lacks run.run in
    let outcomes_are : os ≡ nine = is.0 ∙ nine_counted in
    let copied : last.copied ≡ 4 =
    run.copied
    ∙ ap (λ (answers : List (Outcome ℤ)). saturating 0
    (copied_in_run finite.empty first_vec_commands answers)) outcomes_are
    ∙ ap (saturating 0) four_copied in
    let moved : last.moved ≡ 0 =
    run.moved
    ∙ ap (λ (answers : List (Outcome ℤ)). saturating 0
    (moved_in_run finite.empty first_vec_commands answers)) outcomes_are
    ∙ ap (saturating 0) none_moved in
    let held : blocks last.names ≡ 3 = ap (λ (names : Names ℤ). blocks names) is.1 ∙ three_blocks in
    ap (λ (answers : List (Outcome ℤ)). answer_lines answers ++ totals_line last) outcomes_are
    ∙ ap (λ (lines : List ℕ). lines ++ totals_line last) nine_lines
    ∙ ap (λ (b : ℕ). first_answers ++ totals b last.copied last.moved) held
    ∙ ap (λ (c : ℕ). first_answers ++ totals 3 c last.moved) copied
    ∙ ap (λ (m : ℕ). first_answers ++ totals 3 4 m) moved
    ∙ ap (λ (line : List ℕ). first_answers ++ line) last_line
