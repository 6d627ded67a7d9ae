-- The answers of two stores to the same commands, where neither lacks memory.
use Rattle.std.specs.Prelude.{◌≡◌, false, List, [], ◌∷◌}
use Rattle.ecow_model.specs.Vecs.{VecUsage, vec_usage}
use Rattle.ecow_model.specs.declared.usage.Usage.TheVariants.{Ask}
use Rattle.ecow_model.specs.declared.vecs.VecAsk.TheVariants.{Capacity, Unique}
use Rattle.ecow_model.specs.declared.vecs.VecCommand.{VecCommand}
use Rattle.ecow_model.specs.declared.command.Outcome.{Outcome}
use Rattle.ecow_model.specs.declared.command.Outcome.TheVariants.{Count, Flag, Refused}
use Rattle.ecow_model.specs.declared.command.Refusal.TheVariants.{Memory}

module _ {T : Type 0} where
  -- an answer, less the number or the flag that Capacity or Unique read
  abbrev pub plain_answer : VecUsage T → Outcome T → Outcome T
  plain_answer (Ask name Capacity) (Count n) = Count 0
  plain_answer (Ask name Unique) (Flag b) = Flag false
  plain_answer _ outcome = outcome

  -- the same answers to these commands, but for what Capacity and Unique read
  abbrev pub SameAnswers : List (VecCommand T) → List (Outcome T) → List (Outcome T) → Type 0
  SameAnswers [] [] [] = Unit {0}
  SameAnswers (c ∷ cs) (a ∷ ours) (b ∷ theirs) =
      (plain_answer (vec_usage c) a ≡ plain_answer (vec_usage c) b) × SameAnswers cs ours theirs
  SameAnswers _ _ _ = ⊥

  -- no answer is want of memory
  abbrev pub LacksNoMemory : List (Outcome T) → Type 0
  LacksNoMemory [] = Unit {0}
  LacksNoMemory (outcome ∷ outcomes) = (¬ (outcome ≡ Refused Memory)) × LacksNoMemory outcomes
