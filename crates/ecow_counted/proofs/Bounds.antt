-- Over every run, sharing never copies more than copying at each clone, and moves are paid by copies and twice the input.
use Rattle.std.proofs.Common.{◌≡◌, ℕ, ◌+◌, ◌*◌, ◌≤◌, Bool, true, false, cond, not, ◌&&◌, ltb, List, [], ◌∷◌, length, Option, Some, None, Result, Ok, Err, refl, sym, ◌∙◌, ap, subst, arith, ⊎_elim, if◌then◌else◌}
use Rattle.std.specs.Prelude.{is_some}
use Rattle.std.specs.FinMap as finite
use Rattle.std.specs.Option.{unwrap_or}
use Rattle.std.proofs.lemmas.Bool.{cases_Bool, ltb-false, eqb-false}
use Rattle.std.specs.Ordering.{nat_cmp}
use Rattle.std.proofs.lemmas.Option.{none-some}
use Rattle.ecow_base.specs.Capacity.{MAX}
use Rattle.ecow_model.specs.Refusing.{◌>>=◌, OnRefused}
use Rattle.ecow_model.specs.Values.{there, unused}
use Rattle.ecow_model.specs.Uses.{Gives}
use Rattle.ecow_model.specs.Vecs.{VecUsage, make_vec, edit_vec, ask_vec, vec_usage}
use Rattle.ecow_model.specs.Costs.{make_capacity, unshares, copies, capacity_after, moves, make_input, edit_input, copied_by, moved_by}
use Rattle.ecow_model.specs.CountedRun.{nothing, holding_at, observation_of, change, counted_carry_out, counted_is_free, IsCountedUse, CountedRun, if_accepted, names_or, names_after, copied_in, moved_in, eager_in, input_in, copied_in_run, moved_in_run, eager_in_run, input_in_run, CopiesAtMostEagerly, MovesArePaid}
use Rattle.ecow_model.specs.Names.{Names, Holding, IsSharing, is_shared, forget, settle, join, debt, debt_of, strain, strain_of, strain_at}
use Rattle.ecow_model.specs.declared.usage.Usage.TheVariants.{Make, Derive, Drop, Edit, Ask}
use Rattle.ecow_model.specs.declared.vecs.VecMake.{VecMake}
use Rattle.ecow_model.specs.declared.vecs.VecDerive.{VecDerive}
use Rattle.ecow_model.specs.declared.vecs.VecEdit.{VecEdit}
use Rattle.ecow_model.specs.declared.vecs.VecAsk.{VecAsk}
use Rattle.ecow_model.specs.declared.vecs.VecCommand.{VecCommand}
use Rattle.ecow_model.specs.declared.command.Outcome.{Outcome}
use Rattle.ecow_model.specs.declared.command.Outcome.TheVariants.{Refused}
use Rattle.ecow_model.specs.declared.command.Refusal.{Refusal}
use Rattle.ecow_model.specs.declared.command.Refusal.TheVariants.{Taken, Memory}
use Rattle.ecow_model.proofs.PutBack.{found_value}
use Rattle.ecow_counted.proofs.Groups.{is_sole_owner, debt-forget, blocks-forget}
use Rattle.ecow_counted.proofs.Sums.{total-empty}
use Rattle.ecow_counted.proofs.Kept.{sharing-forget, sharing-settle, debt-settle, blocks-settle}
use Rattle.ecow_counted.proofs.Joined.{sharing-join, debt-join, blocks-join}
use Rattle.ecow_counted.proofs.Settled.{forget_absent, empty_of}
use Rattle.ecow_counted.proofs.Lengths.{LengthMade, LengthIs, is_made, is_answer, is_asked}
use Rattle.ecow_counted.proofs.Steps.{IsPaidMade, IsPaidSole, IsPaidShared, paid_made, paid_sole, paid_shared}

settled : (b : Bool) (m : ℕ) → cond b m 0 ≤ m
settled true m = omega arith
settled false m = omega arith

pub bound : {A B : Type 0} (r : Result A Refusal) (next : A → Result B Refusal) (b : B) → (r >>= next) ≡ Ok b → (a : A) × (r ≡ Ok a) × (next a ≡ Ok b)
bound (Ok a) next b e = (a, refl, e)
bound (Err refusal) next b e = cc

pub same_answer : {A : Type 0} (a b : A) → ◌≡◌ {A = Result A Refusal} (Ok a) (Ok b) → a ≡ b
same_answer a b e = cc

absent : {V : Type 0} (o : Option V) (u : Unit {0}) → ◌≡◌ {A = Result (Unit {0}) Refusal} (if is_some o then Err Taken else Ok tt) (Ok u) → o ≡ None
absent None u e = refl
absent (Some v) u e = cc

module _ {T : Type 0} where
  -- an answer keeps what groups are, and pays for what is copied and moved, where so much was brought; `owes` is what copying at once would copy
  pub record IsPaid (copying moving brought owes : ℕ) (old new : Names T) : Type 0 where
    pub sharing : IsSharing new
    pub copies_paid : copying + debt new ≤ debt old + owes
    pub moves_paid : moving + strain new ≤ strain old + copying + 2 * brought

  module _ (names : Names T) (groups : IsSharing names) where
    -- x, which holds h, settles with this list
    module _ (x : ℕ) (h : Holding T) (at : finite.get names x ≡ Some h) (edit : VecEdit T)
        (items : List T) (is : LengthIs edit (length h.items) (length items)) where
      within : length h.items ≤ h.capacity
      within = (groups.fits x h at).0

      small : h.capacity ≤ MAX
      small = (groups.fits x h at).1

      -- the strain of the others, and of the block if x alone holds it
      strain_left : strain names ≡ strain (forget x names) + cond (is_sole_owner h) (strain_at (length h.items) h.capacity) 0
      strain_left = blocks-forget names groups x h at (λ items capacity. strain_at (length items) capacity)

      after_settle : (capacity : ℕ) → length items ≤ capacity → capacity ≤ MAX
          → strain (settle x items capacity names) ≡ strain (forget x names) + cond (ltb 0 capacity) (strain_at (length items) capacity) 0
      after_settle capacity fit top = blocks-settle names x groups items capacity fit top (λ items capacity. strain_at (length items) capacity)

      owed : debt names ≡ debt (forget x names) + cond (is_shared h) (length h.items) 0
      owed = debt-forget names groups x h at

      by_sharing : is_shared h ≡ true → unshares edit (length h.items) ≡ true
          → IsPaid (copied_by edit h) (moved_by edit h) (edit_input edit) 0 names (change edit x h items names)
      by_sharing shared leaves =
          let paid : IsPaidShared edit (length h.items) (length items) h.capacity =
          paid_shared (length h.items) (length items) h.capacity within small edit is leaves in
          let capacity : ℕ = capacity_after edit true (length h.items) h.capacity in
          let goes : change edit x h items names ≡ settle x items capacity names =
          (λ i. cond (shared i && not (leaves i)) names (settle x items (capacity_after edit (shared i) (length h.items) h.capacity) names)) in
          let cost : copied_by edit h ≡ copies edit (length h.items) = (λ i. cond (shared i && leaves i) (copies edit (length h.items)) 0) in
          let growth : moved_by edit h ≡ 0 = ap (λ b. cond b 0 (moves edit (length h.items) h.capacity)) shared in
          let owes : cond (is_shared h) (length h.items) 0 ≡ length h.items = ap (λ b. cond b (length h.items) 0) shared in
          let free : debt (settle x items capacity names) ≡ debt (forget x names) = debt-settle names x groups items capacity paid.fits paid.small in
          let strained : strain (settle x items capacity names) ≡ strain (forget x names)
          + cond (ltb 0 capacity) (strain_at (length items) capacity) 0 = after_settle capacity paid.fits paid.small in
          let bound : cond (ltb 0 capacity) (strain_at (length items) capacity) 0 ≤ strain_at (length items) capacity =
          settled (ltb 0 capacity) (strain_at (length items) capacity) in
          record {
            sharing = subst IsSharing (sym goes) (sharing-settle names x groups items capacity paid.fits paid.small);
            copies_paid = rw goes (omega (arith, cost, owed, owes, free, paid.copied));
            moves_paid = rw goes (omega (arith, cost, growth, strained, bound, strain_left, paid.moved));
          }

      by_staying : is_shared h ≡ true → unshares edit (length h.items) ≡ false
          → IsPaid (copied_by edit h) (moved_by edit h) (edit_input edit) 0 names (change edit x h items names)
      by_staying shared stays =
          let goes : change edit x h items names ≡ names =
          (λ i. cond (shared i && not (stays i)) names (settle x items (capacity_after edit (shared i) (length h.items) h.capacity) names)) in
          let cost : copied_by edit h ≡ 0 = (λ i. cond (shared i && stays i) (copies edit (length h.items)) 0) in
          let growth : moved_by edit h ≡ 0 = ap (λ b. cond b 0 (moves edit (length h.items) h.capacity)) shared in
          record {
            sharing = subst IsSharing (sym goes) groups;
            copies_paid = rw goes (omega (arith, cost));
            moves_paid = rw goes (omega (arith, cost, growth));
          }

      own_strain : is_shared h ≡ false → cond (is_sole_owner h) (strain_at (length h.items) h.capacity) 0 ≡ strain_at (length h.items) h.capacity
      own_strain sole =
          elim (is_sole_owner h) as (λ b. is_sole_owner h ≡ b
          → cond b (strain_at (length h.items) h.capacity) 0 ≡ strain_at (length h.items) h.capacity) [
            | true ↦ λ _. refl
            | false ↦ λ ne.
                let few : length h.group ≤ 1 = ltb-false 1 (length h.group) sole in
                let apart : length h.group ≡ 1 → ⊥ = eqb-false (length h.group) 1 ne in
                let bare : h.capacity ≡ 0 = groups.bare x h at (empty_of h.group (omega (arith, few, apart))) in
                let empty : length h.items ≡ 0 = omega (arith, within, bare) in
                λ i. sym (λ j. strain_at (empty j) (bare j)) i
          ] refl

      by_itself : is_shared h ≡ false → IsPaid (copied_by edit h) (moved_by edit h) (edit_input edit) 0 names (change edit x h items names)
      by_itself sole =
          let paid : IsPaidSole edit (length h.items) (length items) h.capacity = paid_sole (length h.items) (length items) h.capacity within small edit is in
          let capacity : ℕ = capacity_after edit false (length h.items) h.capacity in
          let goes : change edit x h items names ≡ settle x items capacity names =
          ap (λ b. cond (b && not (unshares edit (length h.items))) names
          (settle x items (capacity_after edit b (length h.items) h.capacity) names)) sole in
          let cost : copied_by edit h ≡ 0 = ap (λ b. cond (b && unshares edit (length h.items)) (copies edit (length h.items)) 0) sole in
          let growth : moved_by edit h ≡ moves edit (length h.items) h.capacity = ap (λ b. cond b 0 (moves edit (length h.items) h.capacity)) sole in
          let free : debt (settle x items capacity names) ≡ debt (forget x names) = debt-settle names x groups items capacity paid.fits paid.small in
          let strained : strain (settle x items capacity names) ≡ strain (forget x names)
          + cond (ltb 0 capacity) (strain_at (length items) capacity) 0 = after_settle capacity paid.fits paid.small in
          let bound : cond (ltb 0 capacity) (strain_at (length items) capacity) 0 ≤ strain_at (length items) capacity =
          settled (ltb 0 capacity) (strain_at (length items) capacity) in
          let left : strain names ≡ strain (forget x names) + strain_at (length h.items) h.capacity =
          strain_left ∙ ap (λ n. strain (forget x names) + n) (own_strain sole) in
          record {
            sharing = subst IsSharing (sym goes) (sharing-settle names x groups items capacity paid.fits paid.small);
            copies_paid = rw goes (omega (arith, cost, owed, free));
            moves_paid = rw goes (omega (arith, cost, growth, strained, bound, left, paid.moved));
          }

      change_paid : IsPaid (copied_by edit h) (moved_by edit h) (edit_input edit) 0 names (change edit x h items names)
      change_paid = ⊎_elim
          (λ shared. ⊎_elim (by_sharing shared) (by_staying shared) (cases_Bool (unshares edit (length h.items))))
          by_itself
          (cases_Bool (is_shared h))

    -- a new name
    made_paid : (x : ℕ) → finite.get names x ≡ None → (how : VecMake T) (items : List T) → LengthMade how (length items)
        → IsPaid 0 0 (make_input how) 0 names (settle x items (make_capacity how) names)
    made_paid x none how items is =
        let paid : IsPaidMade how (length items) = paid_made (length items) how is in
        let capacity : ℕ = make_capacity how in
        let same : forget x names ≡ names = forget_absent names x groups none in
        let free : debt (settle x items capacity names) ≡ debt names = debt-settle names x groups items capacity paid.fits paid.small ∙ ap debt same in
        let strained : strain (settle x items capacity names) ≡ strain names + cond (ltb 0 capacity) (strain_at (length items) capacity) 0 =
        blocks-settle names x groups items capacity paid.fits paid.small (λ items capacity. strain_at (length items) capacity)
        ∙ ap (λ n. strain n + cond (ltb 0 capacity) (strain_at (length items) capacity) 0) same in
        let bound : cond (ltb 0 capacity) (strain_at (length items) capacity) 0 ≤ strain_at (length items) capacity =
        settled (ltb 0 capacity) (strain_at (length items) capacity) in
        record {
          sharing = sharing-settle names x groups items capacity paid.fits paid.small;
          copies_paid = omega (arith, free);
          moves_paid = omega (arith, strained, bound, paid.moved);
        }

    joined_paid : (x y : ℕ) (h : Holding T) → finite.get names x ≡ Some h → finite.get names y ≡ None → IsPaid 0 0 0 (length h.items) names (join x y h names)
    joined_paid x y h at none =
        let owed : debt (join x y h names) ≤ debt names + length h.items = debt-join names groups x y h at none in
        let strains : strain (join x y h names) ≡ strain names = blocks-join names groups x y h at none (λ items capacity. strain_at (length items) capacity) in
        record {
          sharing = sharing-join names groups x y h at none;
          copies_paid = omega (arith, owed);
          moves_paid = omega (arith, strains);
        }

    dropped_paid : (x : ℕ) (h : Holding T) → finite.get names x ≡ Some h → IsPaid 0 0 0 0 names (forget x names)
    dropped_paid x h at =
        let left : debt names ≡ debt (forget x names) + cond (is_shared h) (length h.items) 0 = debt-forget names groups x h at in
        let strains : strain names ≡ strain (forget x names) + cond (is_sole_owner h) (strain_at (length h.items) h.capacity) 0 =
        blocks-forget names groups x h at (λ items capacity. strain_at (length items) capacity) in
        record {
          sharing = sharing-forget names x groups;
          copies_paid = omega (arith, left);
          moves_paid = omega (arith, strains);
        }

    asked_paid : IsPaid 0 0 0 0 names names
    asked_paid = record { sharing = groups; copies_paid = omega arith; moves_paid = omega arith }

  held_is : (old : Names T) (x : ℕ) (h : Holding T) → finite.get old x ≡ Some h → holding_at old x ≡ h
  held_is old x h at = ap (λ o. unwrap_or o nothing) at

  -- an accepted command isn't answered by a refusal, and is paid
  abbrev IsPaidAnswer : ℕ → ℕ → ℕ → ℕ → Names T → Outcome T × Names T → Type 0
  IsPaidAnswer copying moving brought owes old answer = OnRefused answer.0 ⊥ × IsPaid copying moving brought owes old answer.1

  module _ (old : Names T) (groups : IsSharing old) (answer : Outcome T × Names T) where
    make_paid : (x : ℕ) (how : VecMake T) → counted_carry_out old (Make x how) ≡ Ok answer → IsPaidAnswer 0 0 (make_input how) 0 old answer
    make_paid x how e =
        let new = bound (unused old x) _ answer e in
        let none : finite.get old x ≡ None = absent (finite.get old x) new.0 new.1 in
        let xs = bound (make_vec how) _ answer new.2 in
        subst (IsPaidAnswer 0 0 (make_input how) 0 old) (same_answer _ answer xs.2)
        (tt, made_paid old groups x none how xs.0 (is_made how xs.0 xs.1))

    clone_paid : (x y : ℕ) (how : VecDerive) → counted_carry_out old (Derive x y how) ≡ Ok answer
        → IsPaidAnswer 0 0 0 (length (holding_at old x).items) old answer
    clone_paid x y how e =
        let is_there = bound (there old x) _ answer e in
        let h : Holding T = is_there.0 in
        let at : finite.get old x ≡ Some h = found_value (finite.get old x) h is_there.1 in
        let new = bound (unused old y) _ answer is_there.2 in
        let none : finite.get old y ≡ None = absent (finite.get old y) new.0 new.1 in
        subst (IsPaidAnswer 0 0 0 (length (holding_at old x).items) old) (same_answer _ answer new.2)
        (tt, subst (λ k. IsPaid 0 0 0 (length k.items) old (join x y h old)) (sym (held_is old x h at)) (joined_paid old groups x y h at none))

    drop_paid : (x : ℕ) → counted_carry_out old (Drop x) ≡ Ok answer → IsPaidAnswer 0 0 0 0 old answer
    drop_paid x e =
        let is_there = bound (there old x) _ answer e in
        let h : Holding T = is_there.0 in
        let at : finite.get old x ≡ Some h = found_value (finite.get old x) h is_there.1 in
        subst (IsPaidAnswer 0 0 0 0 old) (same_answer _ answer is_there.2) (tt, dropped_paid old groups x h at)

    edit_paid : (x : ℕ) (edit : VecEdit T) → counted_carry_out old (Edit x edit) ≡ Ok answer
        → IsPaidAnswer (copied_by edit (holding_at old x)) (moved_by edit (holding_at old x)) (edit_input edit) 0 old answer
    edit_paid x edit e =
        let is_there = bound (there old x) _ answer e in
        let h : Holding T = is_there.0 in
        let at : finite.get old x ≡ Some h = found_value (finite.get old x) h is_there.1 in
        let after = bound (edit_vec edit h.items) _ answer is_there.2 in
        let is = is_answer h.items after.0 edit after.1 in
        subst (IsPaidAnswer (copied_by edit (holding_at old x)) (moved_by edit (holding_at old x)) (edit_input edit) 0 old) (same_answer _ answer after.2) (
          is.0,
          subst (λ k. IsPaid (copied_by edit k) (moved_by edit k) (edit_input edit) 0 old (change edit x h after.0.1 old))
              (sym (held_is old x h at)) (change_paid old groups x h at edit after.0.1 is.1),
        )

    ask_paid : (x : ℕ) (question : VecAsk) → counted_carry_out old (Ask x question) ≡ Ok answer → IsPaidAnswer 0 0 0 0 old answer
    ask_paid x question e =
        let is_there = bound (there old x) _ answer e in
        let h : Holding T = is_there.0 in
        let outcome = bound (ask_vec (observation_of h) question h.items) _ answer is_there.2 in
        subst (IsPaidAnswer 0 0 0 0 old) (same_answer _ answer outcome.2)
        (is_asked (observation_of h) question h.items outcome.0 outcome.1, asked_paid old groups)

    answer_paid : (usage : VecUsage T) → counted_carry_out old usage ≡ Ok answer
        → IsPaidAnswer (copied_in usage old) (moved_in usage old) (input_in usage old) (eager_in usage old) old answer
    answer_paid (Make x how) e = make_paid x how e
    answer_paid (Derive x y how) e = clone_paid x y how e
    answer_paid (Drop x) e = drop_paid x e
    answer_paid (Edit x edit) e = edit_paid x edit e
    answer_paid (Ask x question) e = ask_paid x question e

  -- one command, accepted or refused
  pub record IsPaidStep (usage : VecUsage T) (old : Names T) (outcome : Outcome T) (new : Names T) : Type 0 where
    pub sharing : IsSharing new
    pub after : names_after old usage outcome ≡ new
    pub copies_paid : if_accepted outcome (copied_in usage old) + debt new ≤ debt old + if_accepted outcome (eager_in usage old)
    pub moves_paid : if_accepted outcome (moved_in usage old) + strain new ≤ strain old
        + if_accepted outcome (copied_in usage old) + 2 * if_accepted outcome (input_in usage old)

  module _ (usage : VecUsage T) (old : Names T) (groups : IsSharing old) where
    refused_paid : (refusal : Refusal) → IsPaidStep usage old (Refused refusal) old
    refused_paid refusal = record { sharing = groups; after = refl; copies_paid = omega arith; moves_paid = omega arith }

    refused_as : (refusal : Refusal) (outcome : Outcome T) (new : Names T) → outcome ≡ Refused refusal → new ≡ old → IsPaidStep usage old outcome new
    refused_as refusal outcome new is same =
        subst (λ (a : Outcome T × Names T). IsPaidStep usage old a.0 a.1) (λ i. (sym is i, sym same i)) (refused_paid refusal)

    accepted_paid : (outcome : Outcome T) (new : Names T) → counted_carry_out old usage ≡ Ok (outcome, new)
        → OnRefused outcome ⊥ → IsPaid (copied_in usage old) (moved_in usage old) (input_in usage old) (eager_in usage old) old new
        → IsPaidStep usage old outcome new
    accepted_paid (Refused refusal) new is accepted paid = absurd accepted
    accepted_paid _ new is accepted paid =
        record { sharing = paid.sharing; after = ap (λ r. names_or r old) is; copies_paid = paid.copies_paid; moves_paid = paid.moves_paid }

    -- a step is paid, and the names after it are those that the sums of a run go on from
    pub step_paid : (outcome : Outcome T) (new : Names T) → IsCountedUse old usage outcome new → IsPaidStep usage old outcome new
    step_paid outcome new h =
        elim (counted_carry_out old usage) as (λ r. counted_carry_out old usage ≡ r
        → Gives r (counted_is_free old usage) old outcome new → IsPaidStep usage old outcome new) [
          | Ok answer ↦ λ e h. ⊎_elim
              (λ (w : (outcome, new) ≡ answer).
              let paid = answer_paid old groups answer usage e in
              subst (λ (a : Outcome T × Names T). IsPaidStep usage old a.0 a.1) (sym w) (accepted_paid answer.0 answer.1 e paid.0 paid.1))
              (λ (w : (outcome ≡ Refused Memory) × (new ≡ old) × (counted_is_free old usage ≡ false)). refused_as Memory outcome new w.0 w.1)
              h
          | Err refusal ↦ λ e h. refused_as refusal outcome new h.0 h.1
        ] refl h

  -- a run keeps what groups are
  pub run_shares : (cs : List (VecCommand T)) (outcomes : List (Outcome T)) (old new : Names T) → IsSharing old → CountedRun old cs outcomes new → IsSharing new
  run_shares [] [] old new groups h = subst IsSharing (sym h) groups
  run_shares [] (outcome ∷ outcomes) old new groups h = absurd h
  run_shares (c ∷ cs) [] old new groups h = absurd h
  run_shares (c ∷ cs) (outcome ∷ outcomes) old new groups h = run_shares cs outcomes h.0 new (step_paid (vec_usage c) old groups outcome h.0 h.1).sharing h.2

  pub copies_at_most_eagerly : (cs : List (VecCommand T)) (outcomes : List (Outcome T)) (old new : Names T) → CopiesAtMostEagerly old cs outcomes new
  copies_at_most_eagerly [] [] old new groups h = rw h (omega arith)
  copies_at_most_eagerly [] (outcome ∷ outcomes) old new groups h = absurd h
  copies_at_most_eagerly (c ∷ cs) [] old new groups h = absurd h
  copies_at_most_eagerly (c ∷ cs) (outcome ∷ outcomes) old new groups h =
      let step : IsPaidStep (vec_usage c) old outcome h.0 = step_paid (vec_usage c) old groups outcome h.0 h.1 in
      let rest : copied_in_run h.0 cs outcomes + debt new ≤ debt h.0 + eager_in_run h.0 cs outcomes =
      copies_at_most_eagerly cs outcomes h.0 new step.sharing h.2 in
      rw step.after (omega (arith, step.copies_paid, rest))

  pub moves_are_paid : (cs : List (VecCommand T)) (outcomes : List (Outcome T)) (old new : Names T) → MovesArePaid old cs outcomes new
  moves_are_paid [] [] old new groups h = rw h (omega arith)
  moves_are_paid [] (outcome ∷ outcomes) old new groups h = absurd h
  moves_are_paid (c ∷ cs) [] old new groups h = absurd h
  moves_are_paid (c ∷ cs) (outcome ∷ outcomes) old new groups h =
      let step : IsPaidStep (vec_usage c) old outcome h.0 = step_paid (vec_usage c) old groups outcome h.0 h.1 in
      let rest : moved_in_run h.0 cs outcomes + strain new ≤ strain h.0 + copied_in_run h.0 cs outcomes + 2 * input_in_run h.0 cs outcomes =
      moves_are_paid cs outcomes h.0 new step.sharing h.2 in
      rw step.after (omega (arith, step.moves_paid, rest))

  -- from no names at all
  pub nothing_shares : IsSharing {T = T} finite.empty
  nothing_shares = record {
    common = λ x y h is _. absurd (none-some h (sym (finite.get-empty nat_cmp x) ∙ is));
    itself = λ x h is. absurd (none-some h (sym (finite.get-empty nat_cmp x) ∙ is));
    rising = λ x h is. absurd (none-some h (sym (finite.get-empty nat_cmp x) ∙ is));
    fits = λ x h is. absurd (none-some h (sym (finite.get-empty nat_cmp x) ∙ is));
    bare = λ x h is _. absurd (none-some h (sym (finite.get-empty nat_cmp x) ∙ is));
  }

  pub copies_from_nothing : (cs : List (VecCommand T)) (outcomes : List (Outcome T)) (new : Names T)
      → CountedRun finite.empty cs outcomes new → copied_in_run finite.empty cs outcomes ≤ eager_in_run finite.empty cs outcomes
  copies_from_nothing cs outcomes new h =
      let paid : copied_in_run finite.empty cs outcomes + debt new ≤ debt finite.empty + eager_in_run finite.empty cs outcomes =
      copies_at_most_eagerly cs outcomes finite.empty new nothing_shares h in
      let none : debt {T = T} finite.empty ≡ 0 = total-empty debt_of in
      omega (arith, paid, none)

  pub moves_from_nothing : (cs : List (VecCommand T)) (outcomes : List (Outcome T)) (new : Names T)
      → CountedRun finite.empty cs outcomes new → moved_in_run finite.empty cs outcomes
      ≤ copied_in_run finite.empty cs outcomes + 2 * input_in_run finite.empty cs outcomes
  moves_from_nothing cs outcomes new h =
      let paid : moved_in_run finite.empty cs outcomes + strain new ≤ strain finite.empty + copied_in_run finite.empty cs outcomes
      + 2 * input_in_run finite.empty cs outcomes = moves_are_paid cs outcomes finite.empty new nothing_shares h in
      let none : strain {T = T} finite.empty ≡ 0 = total-empty strain_of in
      omega (arith, paid, none)
