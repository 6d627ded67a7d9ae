-- What a change takes is what its command costs.
use Rattle.std.proofs.Common.{zero, suc, ◌≡◌, ℕ, ◌+◌, ◌-◌, ◌^◌, ◌<◌, ◌≤◌, Bool, true, false, cond, not, ◌&&◌, ◌||◌, eqb, ltb, List, [], ◌∷◌, ◌++◌, length, take, Ok, Err, refl, sym, ◌∙◌, ap, arith}
use Rattle.std.specs.Prelude.{nat_lt, nat_le, slice_get}
use Rattle.std.proofs.lemmas.Bool.{true≢false, ltb-true, ltb-false, leb-false, le-leb, lt-leb, eqb-true, ne_eqb}
use Rattle.std.proofs.Math.Seq.{take-length}
use Rattle.std.proofs.lemmas.List.{nil_from_length}
use Rattle.ecow_base.specs.Capacity.{MAX, fresh, grown, room}
use Rattle.ecow_base.specs.Range.{items_in_range}
use Rattle.ecow_model.specs.Refusing.{◌>>=◌, Effect, check, becomes, verdict}
use Rattle.ecow_model.specs.Vecs.{edit_vec, grows}
use Rattle.ecow_model.specs.Costs.{unshares, copies, capacity_after, moves, holding_is_free}
use Rattle.ecow_model.specs.Names.{Holding, is_shared}
use Rattle.ecow_model.specs.declared.vecs.VecEdit.{VecEdit}
use Rattle.ecow_model.specs.declared.vecs.VecEdit.TheVariants.{Push, Pop, Insert, Remove, Truncate, Clear, Retain, Drain, Splice, Extend, Reserve, Write}
use Rattle.ecow_model.specs.declared.command.Outcome.{Outcome}
use Rattle.ecow_model.specs.declared.command.Outcome.TheVariants.{Done, Popped}
use Rattle.ecow_model.specs.declared.command.Refusal.{Refusal}
use Rattle.ecow_model.specs.declared.command.Refusal.TheVariants.{Capacity as TooMuch}
use Rattle.ecow_counted.proofs.Lengths.{is_answer}
use Rattle.ecow_counted.specs.Edits.{staying, asked_length, taken_out, spare_room, takes_spare, unchanged}

take_twice : {X : Type 0} (n : ℕ) (xs : List X) → take n (take n xs) ≡ take n xs
take_twice zero xs = refl
take_twice (suc n) [] = refl
take_twice (suc n) (x ∷ xs) = ap (λ ys. x ∷ ys) (take_twice n xs)

in_room : (capacity k stays : ℕ) → stays + k ≤ MAX → cond (nat_le (room stays k capacity) capacity) 0 stays ≡ cond (nat_le (stays + k) capacity) 0 stays
in_room capacity k stays fits =
    elim (nat_le (stays + k) capacity) as (λ b. nat_le (stays + k) capacity ≡ b
    → cond (nat_le (cond b capacity (grown stays k capacity)) capacity) 0 stays ≡ cond b 0 stays) [
      | true ↦ λ t. ap (λ b. cond b 0 stays) (le-leb capacity capacity (omega arith))
      | false ↦ λ t. let more : capacity < stays + k =
          leb-false (stays + k) capacity t in ap (λ b. cond b 0 stays) (lt-leb (grown stays k capacity) capacity (omega arith))
    ] refl

in_place : (n capacity : ℕ) → cond (nat_le capacity capacity) 0 n ≡ 0
in_place n capacity = ap (λ b. cond b 0 n) (le-leb capacity capacity (omega arith))

module _ {T : Type 0} where
  accepted_by : (r : Effect T (List T)) → verdict r ≡ Ok tt → (answer : Outcome T × List T) × (r ≡ Ok answer)
  accepted_by (Ok answer) e = (answer, refl)
  accepted_by (Err refusal) e = cc

  refused_by : (r : Effect T (List T)) (refusal : Refusal) → verdict r ≡ Err refusal → r ≡ Err refusal
  refused_by (Ok answer) refusal e = cc
  refused_by (Err other) refusal e = cc

  pub accepts : (e : VecEdit T) (xs : List T) → verdict (edit_vec e xs) ≡ Ok tt → (answer : Outcome T × List T) × (edit_vec e xs ≡ Ok answer)
  accepts e xs asked = accepted_by (edit_vec e xs) asked

  pub refuses : (e : VecEdit T) (xs : List T) (refusal : Refusal) → verdict (edit_vec e xs) ≡ Err refusal → edit_vec e xs ≡ Err refusal
  refuses e xs refusal asked = refused_by (edit_vec e xs) refusal asked

  -- an accepted change asks for no more than the greatest length
  asked_by : (e : VecEdit T) (xs : List T) (answer : Outcome T × List T) → length xs ≤ MAX → edit_vec e xs ≡ Ok answer → asked_length e (length xs) ≤ MAX
  asked_by (Push value) xs answer fits e = let is = (is_answer xs answer (Push value) e).1 in omega (arith, is.0, is.1)
  asked_by (Insert index value) xs answer fits e = let is = (is_answer xs answer (Insert index value) e).1 in omega (arith, is.0, is.1)
  asked_by (Splice bounds items) xs answer fits e = let is = (is_answer xs answer (Splice bounds items) e).1 in omega (arith, is.0, is.1)
  asked_by (Extend items) xs answer fits e = let is = (is_answer xs answer (Extend items) e).1 in omega (arith, is.0, is.1)
  asked_by (Reserve additional) xs answer fits e = (is_answer xs answer (Reserve additional) e).1.1
  asked_by Pop xs answer fits e = fits
  asked_by (Remove index) xs answer fits e = fits
  asked_by (Truncate target) xs answer fits e = fits
  asked_by Clear xs answer fits e = fits
  asked_by (Retain marks) xs answer fits e = fits
  asked_by (Drain bounds) xs answer fits e = fits
  asked_by (Write index value) xs answer fits e = fits

  pub asks_within : (e : VecEdit T) (xs : List T) → length xs ≤ MAX → verdict (edit_vec e xs) ≡ Ok tt → asked_length e (length xs) ≤ MAX
  asks_within e xs fits asked = let ok = accepts e xs asked in asked_by e xs ok.0 fits ok.1

  -- what is copied is enough for the change
  pub enough : (e : VecEdit T) (xs : List T) → edit_vec e (take (copies e (length xs)) xs) ≡ edit_vec e xs
  enough (Truncate target) xs = ap (λ ys. becomes ys) (take_twice target xs)
  enough Clear xs = refl
  enough (Push value) xs = ap (edit_vec (Push value)) (take-length xs)
  enough Pop xs = ap (edit_vec Pop) (take-length xs)
  enough (Insert index value) xs = ap (edit_vec (Insert index value)) (take-length xs)
  enough (Remove index) xs = ap (edit_vec (Remove index)) (take-length xs)
  enough (Retain marks) xs = ap (edit_vec (Retain marks)) (take-length xs)
  enough (Drain bounds) xs = ap (edit_vec (Drain bounds)) (take-length xs)
  enough (Splice bounds items) xs = ap (edit_vec (Splice bounds items)) (take-length xs)
  enough (Extend items) xs = ap (edit_vec (Extend items)) (take-length xs)
  enough (Reserve additional) xs = ap (edit_vec (Reserve additional)) (take-length xs)
  enough (Write index value) xs = ap (edit_vec (Write index value)) (take-length xs)

  -- a change that may be made in a list of this length may be made in each that is as long, also in what is copied
  module _ (n : ℕ) where
    abbrev MayBe : VecEdit T → Type 0
    MayBe e = (xs : List T) → length xs ≡ n → verdict (edit_vec e xs) ≡ Ok tt

    pub may_be_copied : (e : VecEdit T) (b : Bool) → MayBe e → (xs : List T) → length xs ≡ cond b (copies e n) n → verdict (edit_vec e xs) ≡ Ok tt
    may_be_copied e false may xs is = may xs is
    may_be_copied (Truncate target) true may xs is = refl
    may_be_copied Clear true may xs is = refl
    may_be_copied (Push value) true may xs is = may xs is
    may_be_copied Pop true may xs is = may xs is
    may_be_copied (Insert index value) true may xs is = may xs is
    may_be_copied (Remove index) true may xs is = may xs is
    may_be_copied (Retain marks) true may xs is = may xs is
    may_be_copied (Drain bounds) true may xs is = may xs is
    may_be_copied (Splice bounds items) true may xs is = may xs is
    may_be_copied (Extend items) true may xs is = may xs is
    may_be_copied (Reserve additional) true may xs is = may xs is
    may_be_copied (Write index value) true may xs is = may xs is

    -- and takes the same beside it
    pub taken_same : (e : VecEdit T) (b : Bool) → (taken_out e (cond b (copies e n) n) ≡ taken_out e n)
        × (spare_room e (cond b (copies e n) n) ≡ spare_room e n)
    taken_same e false = (refl, refl)
    taken_same (Truncate target) true = (refl, refl)
    taken_same Clear true = (refl, refl)
    taken_same (Push value) true = (refl, refl)
    taken_same Pop true = (refl, refl)
    taken_same (Insert index value) true = (refl, refl)
    taken_same (Remove index) true = (refl, refl)
    taken_same (Retain marks) true = (refl, refl)
    taken_same (Drain bounds) true = (refl, refl)
    taken_same (Splice bounds items) true = (refl, refl)
    taken_same (Extend items) true = (refl, refl)
    taken_same (Reserve additional) true = (refl, refl)
    taken_same (Write index value) true = (refl, refl)

  -- a sole name's elements move where its block grows
  module _ (n capacity : ℕ) where
    abbrev MovesAre : VecEdit T → Type 0
    MovesAre e = cond (nat_le (capacity_after e false n capacity) capacity) 0 (staying e n) ≡ moves e n capacity

    pub moves_are : (e : VecEdit T) → asked_length e n ≤ MAX → MovesAre e
    moves_are (Push value) asked = in_room capacity 1 n asked
    moves_are (Insert index value) asked = in_room capacity 1 n asked
    moves_are (Splice bounds items) asked = in_room capacity (length items) (n - items_in_range bounds n) asked
    moves_are (Extend items) asked = in_room capacity (length items) n asked
    moves_are (Reserve additional) asked = in_room capacity additional n asked
    moves_are Pop asked = in_place n capacity
    moves_are (Remove index) asked = in_place n capacity
    moves_are (Truncate target) asked = in_place n capacity
    moves_are Clear asked = in_place n capacity
    moves_are (Retain marks) asked = in_place n capacity
    moves_are (Drain bounds) asked = in_place n capacity
    moves_are (Write index value) asked = in_place n capacity

  -- a change that takes no memory leaves the capacity as it is, or gives up a shared block
  module _ (h : Holding T) (fits : length h.items ≤ h.capacity) where
    abbrev wanted : VecEdit T → ℕ
    wanted e = capacity_after e (is_shared h) (length h.items) h.capacity

    abbrev kept : ℕ
    kept = cond (is_shared h) 0 h.capacity

    sole_keeps : (c : ℕ) → not (is_shared h) ≡ true → cond (is_shared h) c h.capacity ≡ kept
    sole_keeps c sole =
        elim (is_shared h) as (λ b. not b ≡ true
        → cond b c h.capacity ≡ cond b 0 h.capacity) [ true ↦ λ e. absurd (true≢false (sym e)) | false ↦ λ e. refl ] sole

    room_keeps : (k : ℕ) → (not (is_shared h) && nat_le (length h.items + k) h.capacity) ≡ true → room (length h.items) k h.capacity ≡ kept
    room_keeps k free =
        elim (is_shared h) as (λ b. (not b && nat_le (length h.items + k) h.capacity) ≡ true
        → room (length h.items) k h.capacity ≡ cond b 0 h.capacity) [
          | true ↦ λ e. absurd (true≢false (sym e))
          | false ↦ λ e. ap (λ b. cond b h.capacity (grown (length h.items) k h.capacity)) e
        ] free

    pub free_keeps : (e : VecEdit T) → (is_shared h ≡ true → unshares e (length h.items) ≡ true) → holding_is_free e h ≡ true → wanted e ≡ kept
    free_keeps (Push value) leaves free = room_keeps 1 free
    free_keeps (Insert index value) leaves free = room_keeps 1 free
    free_keeps (Reserve additional) leaves free = room_keeps additional free
    free_keeps (Remove index) leaves free = sole_keeps (fresh (length h.items)) free
    free_keeps (Retain marks) leaves free = sole_keeps (fresh (length h.items)) free
    free_keeps (Write index value) leaves free = sole_keeps (fresh (length h.items)) free
    free_keeps (Drain bounds) leaves free = absurd (true≢false (sym free))
    free_keeps (Splice bounds items) leaves free = absurd (true≢false (sym free))
    free_keeps Clear leaves free = refl
    free_keeps Pop leaves free =
        elim (is_shared h) as (λ b. (b ≡ true → ltb 0 (length h.items) ≡ true) → (not b || eqb (length h.items) 0) ≡ true
        → cond b (fresh (length h.items)) h.capacity ≡ cond b 0 h.capacity) [
          | true ↦ λ l e. let some : 0 < length h.items =
              ltb-true 0 (length h.items) (l refl) in let none : length h.items ≡ 0 = eqb-true (length h.items) 0 e in absurd (omega (arith, some, none))
          | false ↦ λ l e. refl
        ] leaves free
    free_keeps (Truncate target) leaves free =
        elim (is_shared h) as (λ b. (b ≡ true → ltb target (length h.items) ≡ true)
        → eqb (cond (b && ltb target (length h.items)) target 0) 0 ≡ true → cond b (fresh target) h.capacity ≡ cond b 0 h.capacity) [
          | true ↦ λ l e. let none : target ≡ 0 =
              ap (λ t. cond t target 0) (sym (l refl)) ∙ eqb-true (cond (ltb target (length h.items)) target 0) 0 e in ap fresh none
          | false ↦ λ l e. refl
        ] leaves free
    free_keeps (Extend items) leaves free =
        let none : length items ≡ 0 = eqb-true (length items) 0 free in
        elim (is_shared h) as (λ b. (b ≡ true → ltb 0 (length items) ≡ true) → room (length h.items) (length items) h.capacity ≡ cond b 0 h.capacity) [
          | true ↦ λ l. let some : 0 < length items = ltb-true 0 (length items) (l refl) in absurd (omega (arith, some, none))
          | false ↦ λ l. ap (λ b. cond b h.capacity (grown (length h.items) (length items) h.capacity))
              (le-leb (length h.items + length items) h.capacity (omega (arith, none, fits)))
        ] leaves

    -- what takes room for elements that are new_items or answered isn't free
    pub spare_not_free : (e : VecEdit T) → takes_spare e ≡ true → holding_is_free e h ≡ false
    spare_not_free (Push value) t = absurd (true≢false (sym t))
    spare_not_free (Insert index value) t = absurd (true≢false (sym t))
    spare_not_free (Reserve additional) t = absurd (true≢false (sym t))
    spare_not_free (Remove index) t = absurd (true≢false (sym t))
    spare_not_free (Retain marks) t = absurd (true≢false (sym t))
    spare_not_free (Write index value) t = absurd (true≢false (sym t))
    spare_not_free (Drain bounds) t = refl
    spare_not_free (Splice bounds items) t = refl
    spare_not_free Clear t = absurd (true≢false (sym t))
    spare_not_free Pop t = absurd (true≢false (sym t))
    spare_not_free (Truncate target) t = absurd (true≢false (sym t))
    spare_not_free (Extend items) t = let some : 0 < length items = ltb-true 0 (length items) t in ne_eqb (length items) 0 (λ e. omega (arith, some, e))

  -- a change that leaves a shared block where it is changes nothing
  grown_to : (ys : List T) → verdict (grows ys) ≡ Ok tt → grows ys ≡ Ok (Done, ys)
  grown_to ys e =
      elim (nat_lt (length ys) (2 ^ 63)) as (λ b. verdict (check b TooMuch >>= (λ _. becomes {T = T} ys)) ≡ Ok tt
      → (check b TooMuch >>= (λ _. becomes {T = T} ys)) ≡ Ok (Done, ys)) [ true ↦ λ _. refl | false ↦ λ e. cc ] e

  module _ (xs : List T) where
    pub stays_as : (e : VecEdit T) → unshares e (length xs) ≡ false → verdict (edit_vec e xs) ≡ Ok tt → (ys : List T) × (edit_vec e xs ≡ Ok (unchanged e, ys))
    stays_as (Push value) none asked = absurd (true≢false none)
    stays_as (Insert index value) none asked = absurd (true≢false none)
    stays_as (Reserve additional) none asked = absurd (true≢false none)
    stays_as (Remove index) none asked = absurd (true≢false none)
    stays_as (Retain marks) none asked = absurd (true≢false none)
    stays_as (Write index value) none asked = absurd (true≢false none)
    stays_as (Drain bounds) none asked = absurd (true≢false none)
    stays_as (Splice bounds items) none asked = absurd (true≢false none)
    stays_as Clear none asked = ([], refl)
    stays_as (Truncate target) none asked = (take target xs, refl)
    stays_as Pop none asked =
        let empty : xs ≡ [] = nil_from_length xs (let le : length xs ≤ 0 = ltb-false 0 (length xs) none in omega arith) in
        (take (length xs - 1) xs, ap (λ ys. Ok (Popped (slice_get ys (length ys - 1)), take (length xs - 1) xs)) empty)
    stays_as (Extend items) none asked = (xs ++ items, grown_to (xs ++ items) asked)
