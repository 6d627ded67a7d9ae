-- What a step is that lacks memory.
use Rattle.std.proofs.Common.{◌≡◌, ℕ, Bool, true, false, Result, Ok, Err, [], ◌∷◌, inl, inr, refl, ap}
use Rattle.ecow_model.specs.Names.{Names}
use Rattle.ecow_model.specs.Uses.{Gives}
use Rattle.ecow_model.specs.Vecs.{vec_usage}
use Rattle.ecow_model.specs.CountedRun.{counted_carry_out, counted_is_free, CountedStep}
use Rattle.ecow_model.specs.declared.vecs.VecCommand.{VecCommand}
use Rattle.ecow_model.specs.declared.vecs.VecCommand.TheVariants.{Push, Truncate, Clear, Extend}
use Rattle.ecow_model.specs.declared.command.Outcome.{Outcome}
use Rattle.ecow_model.specs.declared.command.Outcome.TheVariants.{Done, Refused}
use Rattle.ecow_model.specs.declared.command.Refusal.{Refusal}
use Rattle.ecow_model.specs.declared.command.Refusal.TheVariants.{Memory}
use Rattle.ecow_examples.specs.Memory.{three_of_four, four_of_four, shared_block}
use Rattle.ecow_examples.proofs.Tables.{table_rules}

abbrev is_done : {T : Type 0} → Outcome T → Bool
is_done Done = true
is_done _ = false

module _ {T S : Type 0} where
  -- the command isn't refused, and answers Done
  abbrev is_accepted : Result (Outcome T × S) Refusal → Bool
  is_accepted (Ok answer) = is_done answer.0
  is_accepted (Err refusal) = false

  -- want of memory changes nothing, and isn't answered by a free command
  lacking : (given : Result (Outcome T × S) Refusal) (free : Bool) (old new : S) → is_accepted given ≡ true
      → Gives given free old (Refused Memory) new → (new ≡ old) × (free ≡ false)
  lacking (Ok answer) free old new accepted (inl h) = let same = ap (λ a. is_done a.0) h in let no : false ≡ true = cc in cc
  lacking (Ok answer) free old new accepted (inr h) = (h.1, h.2)
  lacking (Err refusal) free old new accepted h = cc

  -- a command that isn't free may lack memory
  lacked : (given : Result (Outcome T × S) Refusal) (free : Bool) (old : S)
      → is_accepted given ≡ true → free ≡ false → Gives given free old (Refused Memory) old
  lacked (Ok answer) free old accepted paid = inr (refl, refl, paid)
  lacked (Err refusal) free old accepted paid = cc

counted_lacking : (old : Names ℕ) (c : VecCommand ℕ) (new : Names ℕ) → is_accepted (counted_carry_out old (vec_usage c)) ≡ true
    → CountedStep old c (Refused Memory) new → (new ≡ old) × (counted_is_free old (vec_usage c) ≡ false)
counted_lacking old c new = lacking (counted_carry_out old (vec_usage c)) (counted_is_free old (vec_usage c)) old new

pub a_push_into_a_full_block_may_lack_memory : CountedStep four_of_four (Push 0 5) (Refused Memory) four_of_four
a_push_into_a_full_block_may_lack_memory =
    lacked (counted_carry_out four_of_four (vec_usage (Push 0 5))) (counted_is_free four_of_four (vec_usage (Push 0 5))) four_of_four
    (simp table_rules refl) (simp table_rules refl)

pub a_push_into_a_full_block_then_changes_nothing : (new : Names ℕ) → CountedStep four_of_four (Push 0 5) (Refused Memory) new → new ≡ four_of_four
a_push_into_a_full_block_then_changes_nothing new step = (counted_lacking four_of_four (Push 0 5) new (simp table_rules refl) step).0

pub a_push_by_a_shared_name_may_lack_memory : CountedStep shared_block (Push 1 4) (Refused Memory) shared_block
a_push_by_a_shared_name_may_lack_memory =
    lacked (counted_carry_out shared_block (vec_usage (Push 1 4))) (counted_is_free shared_block (vec_usage (Push 1 4))) shared_block
    (simp table_rules refl) (simp table_rules refl)

pub an_extend_past_the_capacity_may_lack_memory : CountedStep three_of_four (Extend 0 (4 ∷ 5 ∷ 6 ∷ [])) (Refused Memory) three_of_four
an_extend_past_the_capacity_may_lack_memory =
    lacked (counted_carry_out three_of_four (vec_usage (Extend 0 (4 ∷ 5 ∷ 6 ∷ []))))
    (counted_is_free three_of_four (vec_usage (Extend 0 (4 ∷ 5 ∷ 6 ∷ [])))) three_of_four (simp table_rules refl) (simp table_rules refl)

pub a_truncate_by_a_shared_name_may_lack_memory : CountedStep shared_block (Truncate 1 2) (Refused Memory) shared_block
a_truncate_by_a_shared_name_may_lack_memory =
    lacked (counted_carry_out shared_block (vec_usage (Truncate 1 2)))
    (counted_is_free shared_block (vec_usage (Truncate 1 2))) shared_block (simp table_rules refl) (simp table_rules refl)

pub a_push_within_the_capacity_never_lacks_memory : (new : Names ℕ) → ¬ (CountedStep three_of_four (Push 0 4) (Refused Memory) new)
a_push_within_the_capacity_never_lacks_memory new step =
    let free : counted_is_free three_of_four (vec_usage (Push 0 4)) ≡ true = simp table_rules refl in
    let paid = (counted_lacking three_of_four (Push 0 4) new (simp table_rules refl) step).1 in cc

pub a_clear_of_a_shared_name_never_lacks_memory : (new : Names ℕ) → ¬ (CountedStep shared_block (Clear 0) (Refused Memory) new)
a_clear_of_a_shared_name_never_lacks_memory new step =
    let free : counted_is_free shared_block (vec_usage (Clear 0)) ≡ true = simp table_rules refl in
    let paid = (counted_lacking shared_block (Clear 0) new (simp table_rules refl) step).1 in cc
