-- A new list that is filled item by item: its run, and what it moves.
use Rattle.std.proofs.Common.{zero, suc, ◌≡◌, ℕ, ◌+◌, ◌*◌, ◌<◌, ◌≤◌, Bool, true, false, cond, not, ◌&&◌, List, [], ◌∷◌, ◌++◌, map, length, take, drop, Option, Some, None, Result, Ok, Err, refl, sym, ◌∙◌, ap, subst, arith, inl, inr, length-append, if◌then◌else◌}
use Rattle.std.specs.Prelude.{nat_lt, replicate, is_some, IsSome}
use Rattle.std.proofs.lemmas.Bool.{true≢false}
use Rattle.std.specs.FinMap as finite
use Rattle.std.specs.Option.{unwrap_or}
use Rattle.ecow_base.specs.Capacity.{MAX}
use Rattle.ecow_model.specs.Refusing.{◌>>=◌, OnRefused, allowed}
use Rattle.ecow_model.specs.Values.{unused}
use Rattle.ecow_model.specs.Uses.{Gives, IsVerdict}
use Rattle.ecow_model.specs.Vecs.{VecUsage, grows, vec_usage}
use Rattle.ecow_model.specs.Costs.{capacity_after, moves, moved_by}
use Rattle.ecow_model.specs.CountedRun.{nothing, holding_at, change, counted_carry_out, counted_is_free, CountedStep, CountedVerdict, CountedRun, saturating, if_accepted, copied_in, moved_in, sum_in_run}
use Rattle.ecow_model.specs.Names.{Names, Holding, IsSharing, is_shared, settle, strain_at}
use Rattle.ecow_model.specs.declared.usage.Usage.TheVariants.{Make, Edit}
use Rattle.ecow_model.specs.declared.vecs.VecMake.TheVariants.{New as Begin}
use Rattle.ecow_model.specs.declared.vecs.VecEdit.TheVariants.{Push as Append}
use Rattle.ecow_model.specs.declared.vecs.VecCommand.{VecCommand}
use Rattle.ecow_model.specs.declared.vecs.VecCommand.TheVariants.{New, Push}
use Rattle.ecow_model.specs.declared.command.Outcome.{Outcome}
use Rattle.ecow_model.specs.declared.command.Outcome.TheVariants.{Done, Refused}
use Rattle.ecow_model.specs.declared.command.Refusal.{Refusal}
use Rattle.ecow_model.specs.declared.command.Refusal.TheVariants.{NoName, Taken}
use Rattle.ecow_counted.proofs.Bounds.{bound, same_answer, step_paid}
use Rattle.ecow_counted.proofs.Lengths.{is_answer}
use Rattle.ecow_counted.proofs.Settled.{get-settle}
use Rattle.ecow_counted.proofs.Steps.{IsPaidSole, paid_sole}
use Rattle.ecow_counted.proofs.Totals.{totals_are_paid}
use Rattle.ecow_counted.specs.Filling.{IsRunOf, IsPaidRun, filling, accepted}
use Rattle.ecow_counted.specs.State.{CountedState}

-- the item at an index and those after it
pub record IsNext {X : Type 0} (k : ℕ) (items : List X) (item : X) (rest : List X) : Type 0 where
  pub taken : take (k + 1) items ≡ take k items ++ item ∷ []
  pub left : drop (k + 1) items ≡ rest
  pub within : k < length items

pub next_of : {X : Type 0} (k : ℕ) (items : List X) (item : X) (rest : List X) → drop k items ≡ item ∷ rest → IsNext k items item rest
next_of zero [] item rest h = cc
next_of zero (x ∷ items) item rest h = record { taken = cc; left = cc; within = omega arith }
next_of (suc k) [] item rest h = cc
next_of (suc k) (x ∷ items) item rest h =
    let later : IsNext k items item rest = next_of k items item rest h in
    let e : suc k + 1 ≡ suc (k + 1) = omega arith in
    record { taken = rw e (ap (λ ys. x ∷ ys) later.taken); left = rw e later.left; within = omega (arith, later.within) }

sole_group : (x capacity : ℕ) → nat_lt 1 (length (cond (nat_lt 0 capacity) (x ∷ []) [])) ≡ false
sole_group x capacity = elim (nat_lt 0 capacity) as (λ b. nat_lt 1 (length (cond b (x ∷ []) [])) ≡ false) [ true ↦ refl | false ↦ refl ]

module _ {T : Type 0} where
  replicate_more : (k : ℕ) (x : Outcome T) → replicate (k + 1) x ≡ replicate k x ++ x ∷ []
  replicate_more zero x = refl
  replicate_more (suc k) x = let e : suc k + 1 ≡ suc (k + 1) = omega arith in rw e (ap (λ ys. x ∷ ys) (replicate_more k x))

  pub accepted_more : (k : ℕ) → accepted {T = T} (k + 1) ≡ accepted k ++ Done ∷ []
  accepted_more k = ap (λ outcomes. Done ∷ outcomes) (replicate_more k Done)

  map_more : (f : T → VecCommand T) (xs : List T) (x : T) → map f (xs ++ x ∷ []) ≡ map f xs ++ f x ∷ []
  map_more f [] x = refl
  map_more f (y ∷ xs) x = ap (λ cs. f y ∷ cs) (map_more f xs x)

  pub filling_more : (name k : ℕ) (items : List T) (item : T) (rest : List T) → IsNext k items item rest
      → filling name (take (k + 1) items) ≡ filling name (take k items) ++ Push name item ∷ []
  filling_more name k items item rest next = ap (filling name) next.taken ∙ ap (λ cs. New name ∷ cs) (map_more (λ item. Push name item) (take k items) item)

  -- one command more
  run_more : (cs : List (VecCommand T)) (outcomes : List (Outcome T)) (old mid new : Names T) (c : VecCommand T) (outcome : Outcome T)
      → CountedRun old cs outcomes mid → CountedStep mid c outcome new → CountedRun old (cs ++ c ∷ []) (outcomes ++ outcome ∷ []) new
  run_more [] [] old mid new c outcome h step = (new, subst (λ names. CountedStep names c outcome new) h step, refl)
  run_more [] (o ∷ outcomes) old mid new c outcome h step = absurd h
  run_more (d ∷ cs) [] old mid new c outcome h step = absurd h
  run_more (d ∷ cs) (o ∷ outcomes) old mid new c outcome h step = (h.0, h.1, run_more cs outcomes h.0 mid new c outcome h.2 step)

  sum_more : (cost : VecUsage T → Names T → ℕ) (cs : List (VecCommand T)) (outcomes : List (Outcome T)) (old mid : Names T)
      (c : VecCommand T) (outcome : Outcome T) → IsSharing old → CountedRun old cs outcomes mid
      → sum_in_run cost old (cs ++ c ∷ []) (outcomes ++ outcome ∷ []) ≡ sum_in_run cost old cs outcomes + if_accepted outcome (cost (vec_usage c) mid)
  sum_more cost [] [] old mid c outcome groups h =
      let same : if_accepted outcome (cost (vec_usage c) mid) ≡ if_accepted outcome (cost (vec_usage c) old) =
      ap (λ names. if_accepted outcome (cost (vec_usage c) names)) h in omega (arith, same)
  sum_more cost [] (o ∷ outcomes) old mid c outcome groups h = absurd h
  sum_more cost (d ∷ cs) [] old mid c outcome groups h = absurd h
  sum_more cost (d ∷ cs) (o ∷ outcomes) old mid c outcome groups h =
      let step = step_paid (vec_usage d) old groups o h.0 h.1 in
      let later : sum_in_run cost h.0 (cs ++ c ∷ []) (outcomes ++ outcome ∷ []) ≡ sum_in_run cost h.0 cs outcomes
      + if_accepted outcome (cost (vec_usage c) mid) = sum_more cost cs outcomes h.0 mid c outcome step.sharing h.2 in
      rw step.after (omega (arith, later))

  -- what a run adds to the totals is paid
  pub paid : (old : CountedState T) (cs : List (VecCommand T)) (outcomes : List (Outcome T)) (new : CountedState T) → IsSharing old.names
      → IsRunOf old cs outcomes new → IsPaidRun old cs outcomes new
  paid old cs outcomes new groups is = record { run = is.run; totals = totals_are_paid old cs outcomes new groups is.run is.copied is.moved }

  pub runs_one : (old : CountedState T) (c : VecCommand T) (outcome : Outcome T) (new : CountedState T)
      → CountedStep old.names c outcome new.names
      → new.copied ≡ saturating old.copied (if_accepted outcome (copied_in (vec_usage c) old.names))
      → new.moved ≡ saturating old.moved (if_accepted outcome (moved_in (vec_usage c) old.names)) → IsRunOf old (c ∷ []) (outcome ∷ []) new
  runs_one old c outcome new step copies moves = record { run = (new.names, step, refl); copied = omega (arith, copies); moved = omega (arith, moves) }

  pub runs_more : (old : CountedState T) (cs : List (VecCommand T)) (outcomes : List (Outcome T)) (mid new : CountedState T)
      (c : VecCommand T) (outcome : Outcome T) → IsSharing old.names → IsRunOf old cs outcomes mid
      → CountedStep mid.names c outcome new.names
      → new.copied ≡ saturating mid.copied (if_accepted outcome (copied_in (vec_usage c) mid.names))
      → new.moved ≡ saturating mid.moved (if_accepted outcome (moved_in (vec_usage c) mid.names))
      → IsRunOf old (cs ++ c ∷ []) (outcomes ++ outcome ∷ []) new
  runs_more old cs outcomes mid new c outcome groups so_far step copies moves = record {
    run = run_more cs outcomes old.names mid.names new.names c outcome so_far.run step;
    copied = omega (arith, copies, so_far.copied, sum_more copied_in cs outcomes old.names mid.names c outcome groups so_far.run);
    moved = omega (arith, moves, so_far.moved, sum_more moved_in cs outcomes old.names mid.names c outcome groups so_far.run);
  }

  accepted_as : (given : Result (Outcome T × Names T) Refusal) (free : Bool) (old : Names T) (outcome : Outcome T) (new : Names T)
      → Gives given free old outcome new → OnRefused outcome ⊥ → given ≡ Ok (outcome, new)
  accepted_as (Ok answer) free old outcome new (inl h) ok = ap (λ a. Ok a) (sym h)
  accepted_as (Ok answer) free old outcome new (inr h) ok = absurd (subst (λ o. OnRefused o ⊥) h.0 ok)
  accepted_as (Err refusal) free old outcome new h ok = absurd (subst (λ o. OnRefused o ⊥) h.0 ok)

  -- a name that no other shares a block with has n items, and what was moved since is paid
  pub record IsFilling (before : ℕ) (name n : ℕ) (now : CountedState T) : Type 0 where
    pub held : Holding T
    pub at : finite.get now.names name ≡ Some held
    pub sole : is_shared held ≡ false
    pub count : length held.items ≡ n
    pub paid : now.moved + strain_at n held.capacity ≤ before + 2 * n

  pub moves_at_most : (before name n : ℕ) (now : CountedState T) → IsFilling before name n now → now.moved ≤ before + 2 * n
  moves_at_most before name n now filling = omega (arith, filling.paid)

  module _ (old new : CountedState T) (name : ℕ) (outcome : Outcome T) (ok : OnRefused outcome ⊥) where
    -- New was accepted
    begun : CountedStep old.names (New name) outcome new.names → (outcome ≡ Done) × (new.names ≡ settle name [] 0 old.names)
    begun step =
        let answer : Outcome T × Names T = (outcome, new.names) in
        let is_new =
        bound (unused old.names name) _ answer (accepted_as (counted_carry_out old.names (Make name Begin))
        (counted_is_free old.names (Make name Begin)) old.names outcome new.names step ok) in
        let same : ◌≡◌ {A = Outcome T × Names T} (Done, settle name [] 0 old.names) answer = same_answer _ answer is_new.2 in
        (sym (ap (λ a. a.0) same), sym (ap (λ a. a.1) same))

    pub begins : CountedStep old.names (New name) outcome new.names → new.moved ≡ saturating old.moved (if_accepted outcome 0)
        → (outcome ≡ Done) × IsFilling old.moved name 0 new
    begins step moves =
        let is = begun step in
        let count : if_accepted outcome 0 ≡ 0 = ap (λ o. if_accepted o 0) is.0 in (
          is.0,
          record {
            held = record { items = []; group = []; capacity = 0 };
            at = ap (λ names. finite.get names name) is.1 ∙ get-settle old.names name [] 0;
            sole = refl;
            count = refl;
            paid = omega (arith, moves, count);
          },
        )

    -- a push was accepted
    module _ (value : T) (before n : ℕ) (groups : IsSharing old.names) (so_far : IsFilling before name n old) where
      abbrev after : List T
      after = so_far.held.items ++ value ∷ []

      abbrev capacity : ℕ
      capacity = capacity_after (Append value) false (length so_far.held.items) so_far.held.capacity

      given_at : counted_carry_out old.names (Edit name (Append value))
          ≡ (grows after >>= (λ a. Ok (a.0, change (Append value) name so_far.held a.1 old.names)))
      given_at = rw so_far.at refl

      grown_is : (answer : Outcome T × List T) → grows after ≡ Ok answer → ◌≡◌ {A = Outcome T × List T} (Done, after) answer
      grown_is answer e = same_answer _ answer (bound (allowed (length after)) _ answer e).2

      pushed : CountedStep old.names (Push name value) outcome new.names → (outcome ≡ Done) × (length after ≤ MAX)
          × (new.names ≡ change (Append value) name so_far.held after old.names)
      pushed step =
          let answer : Outcome T × Names T = (outcome, new.names) in
          let grown =
          bound (grows after) _ answer (sym given_at
          ∙ accepted_as (counted_carry_out old.names (Edit name (Append value)))
          (counted_is_free old.names (Edit name (Append value))) old.names outcome new.names step ok) in
          let is = is_answer so_far.held.items grown.0 (Append value) grown.1 in
          let same : ◌≡◌ {A = Outcome T × List T} (Done, after) grown.0 = grown_is grown.0 grown.1 in
          let ends : ◌≡◌ {A = Outcome T × Names T} (grown.0.0, change (Append value) name so_far.held grown.0.1 old.names) answer =
          same_answer _ answer grown.2 in (
            sym (ap (λ a. a.0) ends) ∙ sym (ap (λ a. a.0) same),
            subst (λ a. length a.1 ≤ MAX) (sym same) is.1.1,
            sym (ap (λ a. a.1) ends)
                ∙ ap (λ a. change (Append value) name so_far.held a.1 old.names) (sym same),
          )

      pub pushes : CountedStep old.names (Push name value) outcome new.names
          → new.moved ≡ saturating old.moved (if_accepted outcome (moved_in (vec_usage (Push name value)) old.names))
          → (outcome ≡ Done) × IsFilling before name (n + 1) new
      pushes step moves_are =
          let is = pushed step in
          let long : length after ≡ length so_far.held.items + 1 = length-append so_far.held.items (value ∷ []) in
          let fits = groups.fits name so_far.held so_far.at in
          let cost : IsPaidSole (Append value) (length so_far.held.items) (length after) so_far.held.capacity =
          paid_sole (length so_far.held.items) (length after) so_far.held.capacity fits.0 fits.1 (Append value) (long, is.1) in
          let goes : change (Append value) name so_far.held after old.names ≡ settle name after capacity old.names =
          ap (λ b. cond (b && not true) old.names
          (settle name after (capacity_after (Append value) b (length so_far.held.items) so_far.held.capacity) old.names)) so_far.sole in
          let holds : holding_at old.names name ≡ so_far.held = ap (λ o. unwrap_or o nothing) so_far.at in
          let growth : moved_in (vec_usage (Push name value)) old.names ≡ moves (Append value) (length so_far.held.items) so_far.held.capacity =
          ap (moved_by (Append value)) holds
          ∙ ap (λ b. cond b 0 (moves (Append value) (length so_far.held.items) so_far.held.capacity)) so_far.sole in
          let count : if_accepted outcome (moved_in (vec_usage (Push name value)) old.names) ≡ moves (Append value)
          (length so_far.held.items) so_far.held.capacity =
          ap (λ o. if_accepted o (moved_in (vec_usage (Push name value)) old.names)) is.0 ∙ growth in
          let had : strain_at n so_far.held.capacity ≡ strain_at (length so_far.held.items) so_far.held.capacity =
          ap (λ k. strain_at k so_far.held.capacity) (sym so_far.count) in
          let has : strain_at (n + 1) capacity ≡ strain_at (length after) capacity =
          ap (λ k. strain_at k capacity) (sym (long ∙ ap (λ k. k + 1) so_far.count)) in (
            is.0,
            record {
              held = record { items = after; group = cond (nat_lt 0 capacity) (name ∷ []) []; capacity = capacity };
              at = ap (λ names. finite.get names name) (is.2 ∙ goes) ∙ get-settle old.names name after capacity;
              sole = sole_group name capacity;
              count = long ∙ ap (λ k. k + 1) so_far.count;
              paid = omega (arith, moves_are, count, so_far.paid, cost.moved, had, has);
            },
          )

-- New of a name that is there is refused as taken
pub is_taken : {T : Type 0} (old : Names T) (name : ℕ) (outcome : Outcome T) (new : Names T)
    → CountedVerdict old (New name) outcome new → IsSome (finite.get old name) → outcome ≡ Refused Taken
is_taken {T} old name outcome new h there =
    elim (finite.get old name) as (λ o. IsVerdict {A = Outcome T × Names T}
    ((if is_some o then Err Taken else Ok tt) >>= (λ _. Ok (Done, settle name [] 0 old))) false outcome → IsSome o → outcome ≡ Refused Taken) [
      | None ↦ λ h there. absurd (true≢false (sym there))
      | Some held ↦ λ h there. h
    ] h.0 there

-- why a command was refused
abbrev pub refusal_in : {T : Type 0} → Outcome T → Option Refusal
refusal_in (Refused refusal) = Some refusal
refusal_in _ = None

-- a push to a name that isn't there is refused for that
pub lacks_the_name : {T : Type 0} (old : Names T) (name : ℕ) (value : T) (refusal : Refusal) (new : Names T)
    → CountedVerdict old (Push name value) (Refused refusal) new → finite.get old name ≡ None → Some refusal ≡ Some NoName
lacks_the_name {T} old name value refusal new h missing =
    let given : counted_carry_out old (Edit name (Append value)) ≡ Err NoName = rw missing refl in
    let same : ◌≡◌ {A = Outcome T} (Refused refusal) (Refused NoName) =
    subst (λ g. IsVerdict {T = T} {A = Outcome T × Names T} g (counted_is_free old (Edit name (Append value))) (Refused refusal)) given h.0 in
    ap (λ (o : Outcome T). refusal_in o) same

pub not_refused_by : {T : Type 0} (outcome : Outcome T) → ((refusal : Refusal) → outcome ≡ Refused refusal → ⊥) → OnRefused outcome ⊥
not_refused_by (Refused refusal) h = h refusal refl
not_refused_by _ h = tt
