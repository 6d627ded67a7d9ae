-- What a caller wants to know of a command: what a fork reads, what a write sets, and that all other names stay.
use Rattle.std.proofs.Common.{◌≡◌, ◌≢◌, ℕ, Bool, true, false, cond, if◌then◌else◌, List, [], ◌∷◌, ◌++◌, All, length, take, drop, Option, Some, None, Result, Ok, Err, IfOk, refl, sym, ap, subst, ◌∙◌, arith, inl, inr, slice_get, slice_set}
use Rattle.std.proofs.lemmas.List.Elements.{All-head, All-tail}
use Rattle.std.specs.FinMap.{get, insert, remove, contains_key, get-insert, get-remove, gets}
use Rattle.std.specs.Cmp.{nat_cmp_total}
use Rattle.std.specs.Option.{option_map, ok_or}
use Rattle.std.specs.Ordering.{nat_cmp, eq_by_cmp}
use Rattle.std.specs.Result.{result_ok}
use Rattle.std.proofs.lemmas.Map.Views.{tells_apart}
use Rattle.std.proofs.lemmas.Map.Lookups.{exact_unsigned}
use Rattle.ecow_model.specs.CountedRun.{CountedRun, CountedStep}
use Rattle.ecow_model.specs.Bytes.{bytes_rules, bytes_usage}
use Rattle.ecow_model.specs.Texts.{text_rules, text_usage}
use Rattle.ecow_model.specs.Vecs.{vec_rules, vec_usage}
use Rattle.ecow_model.specs.Names.{Holding, Names, contents, list_of}
use Rattle.ecow_model.specs.Refusing.{◌>>=◌, becomes}
use Rattle.ecow_model.specs.Run.{IsVecStep, Run, RunBy, Step}
use Rattle.ecow_model.specs.State.{State, Plain}
use Rattle.ecow_model.specs.Uses.{Gives, Observation, Rules, put_made, observation_in, carry_out, value_at}
use Rattle.ecow_model.specs.Values.{Named, as_vec, vec_at, there, unused}
use Rattle.ecow_model.specs.declared.command.Outcome.{Outcome}
use Rattle.ecow_model.specs.declared.command.Outcome.TheVariants.{Done}
use Rattle.ecow_model.specs.declared.command.Command.{Command}
use Rattle.ecow_model.specs.declared.command.Command.TheVariants.{Vec, Bytes, Text}
use Rattle.ecow_model.specs.declared.command.Refusal.{Refusal}
use Rattle.ecow_model.specs.declared.command.Refusal.TheVariants.{NoName, Taken, Index}
use Rattle.ecow_model.specs.declared.vecs.VecDerive.TheVariants.{Clone}
use Rattle.ecow_model.specs.declared.vecs.VecEdit.TheVariants.{Write}
use Rattle.ecow_model.specs.declared.vecs.VecCommand.{VecCommand}
use Rattle.ecow_model.specs.declared.vecs.VecCommand.TheVariants as command
use Rattle.ecow_model.specs.declared.usage.NewValue.{NewValue}
use Rattle.ecow_model.specs.declared.usage.NewValue.TheVariants.{Always, Tried}
use Rattle.ecow_model.specs.declared.usage.Usage.{Usage}
use Rattle.ecow_model.specs.declared.usage.Usage.TheVariants.{Make, Derive, Drop, Edit, Ask}
use Rattle.ecow_model.specs.declared.value.Value.TheVariants.{Vec as VecValue, Bytes as BytesValue, Text as TextValue}
use Rattle.ecow_model.proofs.Contents.{get-contents, step_of_contents}
use Rattle.ecow_model.specs.Callers.{Leaves, LeavesName}

abbrev nothing : Unit {0}
nothing = tt

-- a fork and a write read neither capacity nor sharing
abbrev unread : Observation
unread = record { capacity = 0; unique = false }

module _ {V : Type 0} where
  at_insert : (m : Named V) (k : ℕ) (v : V) → get (insert m k v) k ≡ Some v
  at_insert m k v = grind (arith, gets)

  -- a test that x and y are one name fails where they aren't
  apart : (q k : ℕ) → q ≢ k → (b : Bool) → eq_by_cmp nat_cmp q k ≡ b → (x y : Option V) → cond b x y ≡ y
  apart q k differ true e x y = absurd (differ (tells_apart exact_unsigned q k e))
  apart q k differ false e x y = refl

  past_insert : (m : Named V) (k : ℕ) (v : V) (q : ℕ) → q ≢ k → get (insert m k v) q ≡ get m q
  past_insert m k v q differ = get-insert nat_cmp_total m k v q ∙ apart q k differ (eq_by_cmp nat_cmp q k) refl (Some v) (get m q)

  past_remove : (m : Named V) (k q : ℕ) → q ≢ k → get (remove m k) q ≡ get m q
  past_remove m k q differ = get-remove nat_cmp_total m k q ∙ apart q k differ (eq_by_cmp nat_cmp q k) refl None (get m q)

module _ {T V : Type 0} (old : Named V) (q : ℕ) where
  -- what is given leaves what stands under the name
  abbrev Stays : Result (Outcome T × Named V) Refusal → Type 0
  Stays given = IfOk given (λ answer. get answer.1 q ≡ get old q)

  behind : {B : Type 0} (r : Result B Refusal) (after : B → Result (Outcome T × Named V) Refusal) → ((b : B) → Stays (after b)) → Stays (r >>= after)
  behind (Ok b) after stays = stays b
  behind (Err refusal) after stays = tt

  stays_given : (given : Result (Outcome T × Named V) Refusal) (free : Bool) (outcome : Outcome T) (new : Named V)
      → Stays given → Gives given free old outcome new → get new q ≡ get old q
  stays_given (Ok answer) free outcome new stays (inl same) = ap (λ a. get a.1 q) same ∙ stays
  stays_given (Ok answer) free outcome new stays (inr refused) = ap (λ m. get m q) refused.1
  stays_given (Err refusal) free outcome new stays refused = ap (λ m. get m q) refused.1

module _ {T V A M D E Q : Type 0} (rules : Rules T V A M D E Q) (seen : Observation) (old : Named V) (q : ℕ) where
  stays_made : (name : ℕ) (made : NewValue A) → q ≢ name → get (put_made {T = T} rules old name made).1 q ≡ get old q
  stays_made name (Always value) differ = past_insert old name (rules.wrap value) q differ
  stays_made name (Tried (Some value)) differ = past_insert old name (rules.wrap value) q differ
  stays_made name (Tried None) differ = refl

  stays_used : (usage : Usage M D E Q) → LeavesName usage q → Stays {T = T} old q (carry_out rules seen old usage)
  stays_used (Make name how) differ = behind old q (unused old name) _ (λ _. behind old q (rules.make how) _ (λ made. stays_made name made differ))
  stays_used (Derive from to how) differ =
      behind old q (there old from) _
      (λ source. behind old q (unused old to) _
      (λ _. behind old q (rules.derive how source) _ (λ value. past_insert old to (rules.wrap value) q differ)))
  stays_used (Drop name) differ = behind old q (value_at rules old name) _ (λ value. past_remove old name q differ)
  stays_used (Edit name edit) differ =
      behind old q (value_at rules old name) _
      (λ value. behind old q (rules.edit edit value) _ (λ after. past_insert old name (rules.wrap after.1) q differ))
  stays_used (Ask name question) tt = behind old q (value_at rules old name) _ (λ value. behind old q (rules.ask seen question value) _ (λ answer. refl))

  -- what stands under every name that the command doesn't make, change or drop stays
  pub name_stays : (usage : Usage M D E Q) (free : Bool) (outcome : Outcome T) (new : Named V) → LeavesName usage q
      → Gives (carry_out rules seen old usage) free old outcome new → get new q ≡ get old q
  name_stays usage free outcome new differ given = stays_given old q (carry_out rules seen old usage) free outcome new (stays_used usage differ) given

module _ {T S : Type 0} where
  -- what was done is what was given
  done_is : (given : Result (Outcome T × S) Refusal) (free : Bool) (old new : S) → Gives given free old Done new → given ≡ Ok (Done, new)
  done_is (Ok answer) free old new (inl same) = ap Ok (sym same)
  done_is (Ok answer) free old new (inr refused) = cc
  done_is (Err refusal) free old new refused = cc

module _ {T : Type 0} (old new : State T) where
  abbrev left_by : Result (Outcome T × State T) Refusal → State T
  left_by (Ok answer) = answer.1
  left_by (Err refusal) = old

  -- a fork, by what stands under the first name and whether the second is taken
  abbrev fork_to : ℕ → Option (Plain T) → Bool → Result (Outcome T × State T) Refusal
  fork_to to o taken = do
    source ← ok_or o NoName
    _ ← if taken then Err Taken else Ok nothing
    xs ← as_vec source
    Ok (Done, insert old to (VecValue xs))

  forked_from : (to : ℕ) (o : Option (Plain T)) (taken : Bool) → fork_to to o taken ≡ Ok (Done, new) → get new to ≡ o
  forked_from to None taken e = cc
  forked_from to (Some (VecValue xs)) true e = cc
  forked_from to (Some (VecValue xs)) false e = let same : new ≡ insert old to (VecValue xs) = sym (ap left_by e) in rw same (at_insert old to (VecValue xs))
  forked_from to (Some (BytesValue b)) true e = cc
  forked_from to (Some (BytesValue b)) false e = cc
  forked_from to (Some (TextValue t)) true e = cc
  forked_from to (Some (TextValue t)) false e = cc

  fork_given : (free : Bool) (from to : ℕ) → Gives (carry_out vec_rules unread old (Derive from to Clone)) free old Done new → get new to ≡ get old from
  fork_given free from to given =
      forked_from to (get old from) (contains_key old to) (done_is (carry_out vec_rules unread old (Derive from to Clone)) free old new given)

  -- a list of which one element was written
  abbrev set_in : ℕ → T → Option (List T) → Option (List T)
  set_in index value o = option_map (λ xs. slice_set xs index value) o

  -- a write to the list `xs` whose element at the index is `item`, and one by what stands under the name
  abbrev write_in : ℕ → ℕ → T → List T → Option T → Result (Outcome T × State T) Refusal
  write_in name index value xs item = do
    after ← ok_or item Index >>= (λ x. becomes (slice_set xs index value))
    Ok (after.0, insert old name (VecValue after.1))

  abbrev write_to : ℕ → ℕ → T → Option (Plain T) → Result (Outcome T × State T) Refusal
  write_to name index value o = do
    xs ← ok_or o NoName >>= as_vec
    write_in name index value xs (slice_get xs index)

  written_to : (name index : ℕ) (value : T) (xs : List T) (item : Option T) → write_in name index value xs item ≡ Ok (Done, new)
      → get new name ≡ Some (VecValue (slice_set xs index value))
  written_to name index value xs None e = cc
  written_to name index value xs (Some x) e =
      let same : new ≡ insert old name (VecValue (slice_set xs index value)) =
      sym (ap left_by e) in rw same (at_insert old name (VecValue (slice_set xs index value)))

  written_at : (name index : ℕ) (value : T) (o : Option (Plain T)) → write_to name index value o ≡ Ok (Done, new)
      → result_ok (ok_or (get new name) NoName >>= as_vec) ≡ set_in index value (result_ok (ok_or o NoName >>= as_vec))
  written_at name index value None e = cc
  written_at name index value (Some (VecValue xs)) e = rw (written_to name index value xs (slice_get xs index) e) refl
  written_at name index value (Some (BytesValue b)) e = cc
  written_at name index value (Some (TextValue t)) e = cc

  write_given : (free : Bool) (name index : ℕ) (value : T) → Gives (carry_out vec_rules unread old (Edit name (Write index value))) free old Done new
      → result_ok (vec_at new name) ≡ set_in index value (result_ok (vec_at old name))
  write_given free name index value given =
      written_at name index value (get old name) (done_is (carry_out vec_rules unread old (Edit name (Write index value))) free old new given)

module _ {T : Type 0} (old new : State T) (outcome : Outcome T) where
  -- a fork reads as its source does
  pub fork_reads : (from to : ℕ) → IsVecStep old (command.Clone from to) outcome new → outcome ≡ Done → get new to ≡ get old from
  fork_reads from to step e = fork_given old new false from to (subst (λ o. IsVecStep old (command.Clone from to) o new) e step)

  -- a write sets one element
  pub write_sets : (name index : ℕ) (value : T) → IsVecStep old (command.Write name index value) outcome new → outcome ≡ Done
      → result_ok (vec_at new name) ≡ option_map (λ xs. slice_set xs index value) (result_ok (vec_at old name))
  write_sets name index value step e = write_given old new _ name index value (subst (λ o. IsVecStep old (command.Write name index value) o new) e step)

  -- what stands under all other names stays
  pub others_stay : (c : VecCommand T) (q : ℕ) → IsVecStep old c outcome new → LeavesName (vec_usage c) q → get new q ≡ get old q
  others_stay c q step differ = name_stays vec_rules (observation_in outcome) old q (vec_usage c) _ outcome new differ step

module _ {T : Type 0} where
  abbrev plain : Holding T → Plain T
  plain h = VecValue h.items

  abbrev listed : Option (Holding T) → Option (List T)
  listed o = result_ok (ok_or (option_map plain o) NoName >>= as_vec)

  listed-is : (o : Option (Holding T)) → listed o ≡ option_map (λ h. h.items) o
  listed-is None = refl
  listed-is (Some h) = refl

  -- the list of a name is the one of its plain value
  list_of-contents : (names : Names T) (name : ℕ) → result_ok (vec_at (contents names) name) ≡ list_of names name
  list_of-contents names name = rw (get-contents names name) (listed-is (get names name))

module _ {T : Type 0} (old new : Names T) (outcome : Outcome T) where
  same_lists : (x y : ℕ) → get (contents new) x ≡ get (contents old) y → list_of new x ≡ list_of old y
  same_lists x y e = sym (list_of-contents new x) ∙ ap (λ o. result_ok (ok_or o NoName >>= as_vec)) e ∙ list_of-contents old y

  -- in shared blocks: a fork reads as its source does
  pub share_reads : (from to : ℕ) → CountedStep old (command.Clone from to) outcome new → outcome ≡ Done → list_of new to ≡ list_of old from
  share_reads from to step e =
      same_lists to from (fork_given (contents old) (contents new) _ from to
      (step_of_contents (command.Clone from to) old Done new (subst (λ o. CountedStep old (command.Clone from to) o new) e step)))

  -- a write sets one element
  pub shared_write_sets : (name index : ℕ) (value : T) → CountedStep old (command.Write name index value) outcome new
      → outcome ≡ Done → list_of new name ≡ option_map (λ xs. slice_set xs index value) (list_of old name)
  shared_write_sets name index value step e =
      sym (list_of-contents new name)
      ∙ write_given (contents old) (contents new) _ name index value
      (step_of_contents (command.Write name index value) old Done new
      (subst (λ o. CountedStep old (command.Write name index value) o new) e step))
      ∙ ap (option_map (λ xs. slice_set xs index value)) (list_of-contents old name)

  -- the lists of all other names stay, whoever shares their blocks
  pub other_lists_stay : (c : VecCommand T) (q : ℕ) → CountedStep old c outcome new → LeavesName (vec_usage c) q → list_of new q ≡ list_of old q
  other_lists_stay c q step differ =
      same_lists q q (name_stays vec_rules _ (contents old) q (vec_usage c) _ outcome (contents new) differ (step_of_contents c old outcome new step))

module _ {T : Type 0} where
  -- in shared blocks: a name that no command of a run makes, changes or drops keeps its list
  pub shared_run_stays : (commands : List (VecCommand T)) (outcomes : List (Outcome T)) (old new : Names T) (q : ℕ)
      → CountedRun old commands outcomes new → All (λ c. LeavesName (vec_usage c) q) commands → list_of new q ≡ list_of old q
  shared_run_stays [] [] old new q run all = ap (λ names. list_of names q) run
  shared_run_stays [] (o ∷ os) old new q run all = absurd run
  shared_run_stays (c ∷ cs) [] old new q run all = absurd run
  shared_run_stays (c ∷ cs) (o ∷ os) old new q (mid, step, rest) all =
      shared_run_stays cs os mid new q rest (All-tail (λ c. LeavesName (vec_usage c) q) c cs all)
      ∙ other_lists_stay old mid o c q step (All-head (λ c. LeavesName (vec_usage c) q) c cs all)

module _ {T : Type 0} (limit : ℕ) where
  -- what stands under a name that a command leaves stays, whatever its kind
  pub left_alone : (c : Command T) (old new : State T) (outcome : Outcome T) (q : ℕ) → Step limit old c outcome new → Leaves c q → get new q ≡ get old q
  left_alone (Vec c) old new outcome q step differ = others_stay old new outcome c q step differ
  left_alone (Bytes c) old new outcome q step differ = name_stays (bytes_rules limit) (observation_in outcome) old q (bytes_usage c) _ outcome new differ step
  left_alone (Text c) old new outcome q step differ = name_stays (text_rules limit) (observation_in outcome) old q (text_usage c) _ outcome new differ step

  -- a name that no command of a run makes, changes or drops keeps what stands under it
  pub run_stays : (commands : List (Command T)) (outcomes : List (Outcome T)) (old new : State T) (q : ℕ)
      → Run limit old commands outcomes new → All (λ c. Leaves c q) commands → get new q ≡ get old q
  run_stays [] [] old new q run all = ap (λ names. get names q) run
  run_stays [] (o ∷ os) old new q run all = absurd run
  run_stays (c ∷ cs) [] old new q run all = absurd run
  run_stays (c ∷ cs) (o ∷ os) old new q (mid, step, rest) all =
      run_stays cs os mid new q rest (All-tail (λ c. Leaves c q) c cs all) ∙ left_alone c old mid o q step (All-head (λ c. Leaves c q) c cs all)

-- a run is one of its first commands, and then one of the others
pub run_splits : {C T S : Type 0} (step : S → C → Outcome T → S → Type 0) (first rest : List C) (outcomes : List (Outcome T)) (old new : S)
    → RunBy step old (first ++ rest) outcomes new
    → (mid : S) × RunBy step old first (take (length first) outcomes) mid × RunBy step mid rest (drop (length first) outcomes) new
run_splits step [] rest outcomes old new run = (old, refl, run)
run_splits step (c ∷ first) rest [] old new run = absurd run
run_splits step (c ∷ first) rest (o ∷ outcomes) old new (next, one, run) =
    let (mid, front, back) = run_splits step first rest outcomes next new run in
    (mid, (next, one, front), back)
