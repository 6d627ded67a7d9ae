-- The commands in a table of blocks, by how they end.
use Rattle.std.proofs.Common.{◌≡◌, ℕ, ◌≤◌, Bool, true, false, cond, not, ◌&&◌, List, length, take, Option, Some, None, Result, Ok, Err, refl, sym, ◌∙◌, ap, subst, inl, inr}
use Rattle.std.specs.Prelude.{nat_le, IsOk}
use Rattle.std.specs.FinMap as finite
use Rattle.std.specs.Option.{unwrap_or, option_map}
use Rattle.std.proofs.lemmas.Bool.{true≢false}
use Rattle.std.proofs.lemmas.Option.{none-some, same_Some}
use Rattle.ecow_base.specs.Capacity.{MAX}
use Rattle.ecow_model.specs.Refusing.{◌>>=◌, OnRefused, IfRefused, verdict}
use Rattle.ecow_model.specs.Vecs.{VecUsage, edit_vec}
use Rattle.ecow_model.specs.Costs.{unshares, copies, capacity_after, moves, copied_by, moved_by, holding_is_free}
use Rattle.ecow_model.specs.CountedRun.{nothing, holding_at, change, counted_carry_out, counted_is_free, IsCountedUse, IsCountedVerdict, if_accepted, copied_in, moved_in}
use Rattle.ecow_model.specs.Names.{Names, Holding, is_shared, settle}
use Rattle.ecow_model.specs.declared.usage.Usage.TheVariants.{Edit}
use Rattle.ecow_model.specs.declared.vecs.VecEdit.{VecEdit}
use Rattle.ecow_model.specs.declared.command.Outcome.{Outcome}
use Rattle.ecow_model.specs.declared.command.Outcome.TheVariants.{Refused}
use Rattle.ecow_model.specs.declared.command.Refusal.{Refusal}
use Rattle.ecow_model.specs.declared.command.Refusal.TheVariants.{NoName, Memory}
use Rattle.ecow_counted.specs.declared.blocks.Size.{Size}
use Rattle.ecow_counted.specs.declared.commands.Carried.{Carried}
use Rattle.ecow_counted.specs.Sizes.{size_of}
use Rattle.ecow_counted.specs.Edits.{staying, unchanged}
use Rattle.ecow_counted.specs.Carrying.{IsCarried, still}
use Rattle.ecow_counted.proofs.Editing.{accepts, refuses, asks_within, enough, moves_are, stays_as}

module _ {T : Type 0} where
  not_refused : (outcome : Outcome T) (n : ℕ) → OnRefused outcome ⊥ → if_accepted outcome n ≡ n
  not_refused (Refused refusal) n h = absurd h
  not_refused _ n h = refl

  no_refusal : (P : Refusal → Type 0) (outcome : Outcome T) → OnRefused outcome ⊥ → IfRefused outcome P
  no_refusal P (Refused refusal) h = absurd h
  no_refusal P _ h = tt

  nothing_counted : (outcome : Outcome T) → 0 ≡ if_accepted outcome 0
  nothing_counted (Refused refusal) = refl
  nothing_counted _ = refl

  module _ (lawful : Type 0) (old : Names T) (usage : VecUsage T) where
    -- a command for which nothing is counted
    pub still_carried : (outcome : Outcome T) (new : Names T) → (lawful → IsCountedUse old usage outcome new)
        → IsCountedVerdict old usage outcome → OnRefused outcome (new ≡ old) → copied_in usage old ≡ 0
        → moved_in usage old ≡ 0 → IsCarried lawful old usage (still outcome) new
    still_carried outcome new step judged same copies moves = record {
      step = step;
      verdict = judged;
      refused = same;
      copied = nothing_counted outcome ∙ ap (if_accepted outcome) (sym copies);
      moved = nothing_counted outcome ∙ ap (if_accepted outcome) (sym moves);
    }

    refused_carried : (refusal : Refusal) → counted_carry_out old usage ≡ Err refusal → IsCarried lawful old usage (still (Refused refusal)) old
    refused_carried refusal e = record { step = λ _. rw e (refl, refl); verdict = rw e refl; refused = refl; copied = refl; moved = refl }

    memory_carried : (answer : Outcome T × Names T) → counted_carry_out old usage ≡ Ok answer
        → counted_is_free old usage ≡ false → IsCarried lawful old usage (still (Refused Memory)) old
    memory_carried answer e takes =
        record { step = λ _. rw e (inr (refl, refl, takes)); verdict = rw e (refl, takes); refused = refl; copied = refl; moved = refl }

    pub same_carried : (done : Carried T) (new : Names T) → new ≡ old → IsCarried lawful old usage done old → IsCarried lawful old usage done new
    same_carried done new e h = subst (IsCarried lawful old usage done) (sym e) h

    -- an accepted command
    done_carried : (done : Carried T) (new : Names T) (answer : Outcome T × Names T) → counted_carry_out old usage ≡ Ok answer
        → OnRefused done.outcome ⊥ → (lawful → counted_carry_out old usage ≡ Ok (done.outcome, new))
        → done.copied ≡ copied_in usage old → done.moved ≡ moved_in usage old → IsCarried lawful old usage done new
    done_carried done new answer is accepted given copies_are moves_count = record {
      step = λ ok. rw (given ok) (inl refl);
      verdict = rw is (no_refusal _ done.outcome accepted);
      refused = no_refusal _ done.outcome accepted;
      copied = copies_are ∙ sym (not_refused done.outcome (copied_in usage old) accepted);
      moved = moves_count ∙ sym (not_refused done.outcome (moved_in usage old) accepted);
    }

  -- a change
  module _ (lawful : Type 0) (old : Names T) (x : ℕ) (e : VecEdit T) where
    pub edit_noname : finite.get old x ≡ None → IsCarried lawful old (Edit x e) (still (Refused NoName)) old
    edit_noname none = refused_carried lawful old (Edit x e) NoName (rw none refl)

    module _ (h : Holding T) (at : finite.get old x ≡ Some h) where
      given_at : counted_carry_out old (Edit x e) ≡ (edit_vec e h.items >>= (λ after. Ok (after.0, change e x h after.1 old)))
      given_at = rw at refl

      free_at : counted_is_free old (Edit x e) ≡ holding_is_free e h
      free_at = rw at refl

      held_is : holding_at old x ≡ h
      held_is = ap (λ o. unwrap_or o nothing) at

      copied_is : copied_in (Edit x e) old ≡ copied_by e h
      copied_is = ap (copied_by e) held_is

      moved_is : moved_in (Edit x e) old ≡ moved_by e h
      moved_is = ap (moved_by e) held_is

      pub edit_refused : (refusal : Refusal) → verdict (edit_vec e h.items) ≡ Err refusal → IsCarried lawful old (Edit x e) (still (Refused refusal)) old
      edit_refused refusal asked =
          refused_carried lawful old (Edit x e) refusal (given_at
          ∙ ap (λ r. r >>= (λ after. Ok (after.0, change e x h after.1 old))) (refuses e h.items refusal asked))

      module _ (asked : verdict (edit_vec e h.items) ≡ Ok tt) where
        answered : (answer : Outcome T × Names T) × (counted_carry_out old (Edit x e) ≡ Ok answer)
        answered =
            let ok =
            accepts e h.items asked in
            ((ok.0.0, change e x h ok.0.1 old), given_at ∙ ap (λ r. r >>= (λ after. Ok (after.0, change e x h after.1 old))) ok.1)

        pub edit_memory : holding_is_free e h ≡ false → IsCarried lawful old (Edit x e) (still (Refused Memory)) old
        edit_memory takes = memory_carried lawful old (Edit x e) answered.0 answered.1 (free_at ∙ takes)

        pub edit_stays : is_shared h ≡ true → unshares e (length h.items) ≡ false → OnRefused (unchanged e) ⊥
            → IsCarried lawful old (Edit x e) (still (unchanged e)) old
        edit_stays shared none accepted =
            let same = stays_as h.items e none asked in
            done_carried lawful old (Edit x e) (still (unchanged e)) old answered.0 answered.1 accepted
            (λ _. given_at ∙ ap (λ r. r >>= (λ after. Ok (after.0, change e x h after.1 old))) same.1
            ∙ (λ i. Ok (unchanged e, cond (shared i && not (none i)) old (settle x same.0 (capacity_after e (is_shared h) (length h.items) h.capacity) old))))
            (sym (copied_is ∙ (λ i. cond (shared i && none i) (copies e (length h.items)) 0)))
            (sym (moved_is ∙ ap (λ b. cond b 0 (moves e (length h.items) h.capacity)) shared))

        leaves_it : (b u : Bool) {A : Type 0} (m n : A) → (b ≡ true → u ≡ true) → cond (b && not u) m n ≡ n
        leaves_it true u m n leaves = ap (λ u. cond (not u) m n) (leaves refl)
        leaves_it false u m n leaves = refl

        copied_all : (b u : Bool) (m : ℕ) → (b ≡ true → u ≡ true) → cond b m 0 ≡ cond (b && u) m 0
        copied_all true u m leaves = ap (λ u. cond u m 0) (sym (leaves refl))
        copied_all false u m leaves = refl

        pub edit_done : (is_shared h ≡ true → unshares e (length h.items) ≡ true) → length h.items ≤ MAX
            → (from to : List T) (capacity : ℕ) (done : Carried T) (new : Names T)
            → (lawful → from ≡ cond (is_shared h) (take (copies e (length h.items)) h.items) h.items)
            → (lawful → edit_vec e from ≡ Ok (done.outcome, to))
            → OnRefused done.outcome ⊥
            → capacity ≡ capacity_after e (is_shared h) (length h.items) h.capacity
            → new ≡ settle x to capacity old
            → done.copied ≡ cond (is_shared h) (copies e (length h.items)) 0
            → done.moved ≡ cond (is_shared h) 0 (cond (nat_le capacity h.capacity) 0 (staying e (length h.items)))
            → IsCarried lawful old (Edit x e) done new
        edit_done leaves fits from to capacity done new from_is changed accepted capacity_is names_are ticks_are steps_are =
            done_carried lawful old (Edit x e) done new answered.0 answered.1 accepted
            (λ ok. given_at ∙ ap (λ r. r >>= (λ after. Ok (after.0, change e x h after.1 old)))
            (sym (elim (is_shared h) as (λ b. edit_vec e (cond b (take (copies e (length h.items)) h.items) h.items)
            ≡ edit_vec e h.items) [ true ↦ enough e h.items | false ↦ refl ])
            ∙ ap (edit_vec e) (sym (from_is ok)) ∙ changed ok)
            ∙ ap (λ n. Ok (done.outcome, n)) (leaves_it (is_shared h) (unshares e (length h.items)) old
            (settle x to (capacity_after e (is_shared h) (length h.items) h.capacity) old) leaves
            ∙ sym (names_are ∙ ap (λ k. settle x to k old) capacity_is)))
            (ticks_are ∙ copied_all (is_shared h) (unshares e (length h.items)) (copies e (length h.items)) leaves ∙ sym copied_is)
            (steps_are ∙ ap (λ k. cond (is_shared h) 0 (cond (nat_le k h.capacity) 0 (staying e (length h.items)))) capacity_is
            ∙ elim (is_shared h) as (λ b.
            cond b 0 (cond (nat_le (capacity_after e b (length h.items) h.capacity) h.capacity) 0 (staying e (length h.items)))
            ≡ cond b 0 (moves e (length h.items) h.capacity)) [
              | true ↦ refl
              | false ↦ moves_are
                  (length h.items) h.capacity e (asks_within e h.items fits asked)
            ]
            ∙ sym moved_is)

  pub no_size_at : (o : Option (Holding T)) → None ≡ option_map size_of o → o ≡ None
  no_size_at None e = refl
  no_size_at (Some h) e = absurd (none-some (size_of h) e)

  pub found_size : (names : Names T) (x : ℕ) (size : Size) → Some size ≡ option_map size_of (finite.get names x)
      → (finite.get names x ≡ Some (holding_at names x)) × (size ≡ size_of (holding_at names x))
  found_size names x size e =
      elim (finite.get names x) as (λ o. Some size ≡ option_map size_of o
      → (o ≡ Some (unwrap_or o nothing)) × (size ≡ size_of (unwrap_or o nothing))) [
        | None ↦ λ e. absurd (none-some size (sym e))
        | Some h ↦ λ e. (refl, same_Some size (size_of h) e)
      ] e

pub found_fits : {T : Type 0} {size : Size} (h : Holding T) → size ≡ size_of h → size.len ≤ size.capacity → length h.items ≤ h.capacity
found_fits h same fits = subst (λ (s : Size). s.len ≤ s.capacity) same fits

pub refused_is : {A E : Type 0} (r : Result A E) (e : E) → r ≡ Err e → IsOk r → ⊥
refused_is (Ok a) e same ok = cc
refused_is (Err f) e same ok = true≢false (sym ok)
