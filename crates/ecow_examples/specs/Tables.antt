-- Scripts on lists in shared blocks, from no names, and what they leave where no memory is wanting.
use Rattle.std.specs.Prelude.{ℕ, ◌+◌, ◌*◌, List, [], ◌∷◌, ◌++◌, map, Option, Result, Ok, Err}
use Rattle.std.specs.Option.{option_map}
use Rattle.std.specs.FinMap as finite
use Rattle.ecow_model.specs.Names.{Names, owners_of, blocks, debt, strain}
use Rattle.ecow_model.specs.Vecs.{vec_usage}
use Rattle.ecow_model.specs.CountedRun.{counted_carry_out, names_or, copied_in, moved_in, eager_in, input_in}
use Rattle.ecow_model.specs.declared.vecs.VecCommand.{VecCommand}
use Rattle.ecow_model.specs.declared.command.Outcome.{Outcome}
use Rattle.ecow_model.specs.declared.command.Outcome.TheVariants.{Refused}
use Rattle.ecow_model.specs.declared.command.Refusal.{Refusal}

-- what a run leaves: its outcomes, owners and capacity of the names that are asked for, blocks, and
-- the totals
pub record Summary : Type 0 where
  pub outcomes : List (Outcome ℕ)
  pub owners : List (Option ℕ)
  pub capacities : List (Option ℕ)
  pub blocks : ℕ
  pub copied : ℕ
  pub moved : ℕ

-- a run that has ended: its outcomes, the numbers counted and what names hold
abbrev pub summary_of : List ℕ → List (Outcome ℕ) → ℕ → ℕ → Names ℕ → Summary
summary_of targets outcomes copies moves names =
    record {
      outcomes = outcomes;
      owners = map (λ x. owners_of (finite.get names x)) targets;
      capacities = map (λ x. option_map (λ h. h.capacity) (finite.get names x)) targets;
      blocks = blocks names;
      copied = copies;
      moved = moves;
    }

-- what one more command answers and leaves
abbrev pub play_one : Result (Outcome ℕ × Names ℕ) Refusal → VecCommand ℕ → List (Outcome ℕ) → ℕ
    → ℕ → Names ℕ → (List (Outcome ℕ) → ℕ → ℕ → Names ℕ → Summary) → Summary
play_one (Ok answer) c outcomes copies moves names rest =
    rest (outcomes ++ answer.0 ∷ []) (copies + copied_in (vec_usage c) names)
    (moves + moved_in (vec_usage c) names) answer.1
play_one (Err refusal) c outcomes copies moves names rest =
    rest (outcomes ++ Refused refusal ∷ []) copies moves names

-- a run of commands from what names hold
abbrev pub play : List ℕ → List (VecCommand ℕ) → List (Outcome ℕ) → ℕ → ℕ → Names ℕ → Summary
play targets [] outcomes copies moves names = summary_of targets outcomes copies moves names
play targets (c ∷ cs) outcomes copies moves names =
    play_one (counted_carry_out names (vec_usage c)) c outcomes copies moves names (play targets cs)

-- a run of commands from nothing
abbrev pub table : List ℕ → List (VecCommand ℕ) → Summary
table targets cs = play targets cs [] 0 0 finite.empty

-- a summary: outcomes, owners, capacities and the numbers counted
abbrev pub leaves : List (Outcome ℕ) → List (Option ℕ) → List (Option ℕ) → ℕ → ℕ → ℕ → Summary
leaves outcomes owners capacities blocks copies moves =
    record {
      outcomes = outcomes;
      owners = owners;
      capacities = capacities;
      blocks = blocks;
      copied = copies;
      moved = moves;
    }

-- the sums of a run, and what its last names owe
pub record Tally : Type 0 where
  pub copied : ℕ
  pub eager : ℕ
  pub debt : ℕ
  pub moved : ℕ
  pub input : ℕ
  pub strain : ℕ

-- what one more command copies, moves, brings and would copy at once
abbrev pub tallied : Result (Outcome ℕ × Names ℕ) Refusal → Names ℕ → (Names ℕ → ℕ → Tally) → Tally
tallied (Ok answer) names rest = rest answer.1 1
tallied (Err refusal) names rest = rest names 0

-- these numbers over commands, from what names hold
abbrev pub tally_from : List (VecCommand ℕ) → ℕ → ℕ → ℕ → ℕ → Names ℕ → Tally
tally_from [] copies clones moves items names =
    record {
      copied = copies;
      eager = clones;
      debt = debt names;
      moved = moves;
      input = items;
      strain = strain names;
    }
tally_from (c ∷ cs) copies clones moves items names =
    tallied (counted_carry_out names (vec_usage c)) names
    (λ new n. tally_from cs (copies + n * copied_in (vec_usage c) names)
    (clones + n * eager_in (vec_usage c) names) (moves + n * moved_in (vec_usage c) names)
    (items + n * input_in (vec_usage c) names) new)

-- these numbers over commands, from nothing
abbrev pub tally : List (VecCommand ℕ) → Tally
tally cs = tally_from cs 0 0 0 0 finite.empty

-- such numbers, written out
abbrev pub sums : ℕ → ℕ → ℕ → ℕ → ℕ → ℕ → Tally
sums copies clones owed moves items strained =
    record {
      copied = copies;
      eager = clones;
      debt = owed;
      moved = moves;
      input = items;
      strain = strained;
    }

-- the names that a script leaves
abbrev pub left_by_from : Names ℕ → List (VecCommand ℕ) → Names ℕ
left_by_from names [] = names
left_by_from names (c ∷ cs) =
    left_by_from (names_or (counted_carry_out names (vec_usage c)) names) cs

-- what names hold after commands
abbrev pub left_by : List (VecCommand ℕ) → Names ℕ
left_by cs = left_by_from finite.empty cs
