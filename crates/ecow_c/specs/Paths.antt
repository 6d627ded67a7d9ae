-- What calls by a path do. A path is a nested value: a list of texts, each the name of a field, and
-- of numbers, each the index of an item.
use Rattle.std.specs.Prelude.{◌≡◌, ◌≢◌, ◌↔◌, ◌+◌, ◌<◌, ◌≤◌, ◌^◌, ◌-◌, ◌||◌, ℕ, ℤ, pos, negsuc, Bool, true, false, List, Option, Some, None, IsSomeAnd, is_none, length, map, max, if◌then◌else◌}
use Rattle.std.specs.List.{list_all}
use Rattle.std.specs.Option.{option_and_then}
use Rattle.ecow_c.specs.Values.{CoversAt, depth_at}
use Rattle.ecow_c.specs.declared.status.TheConstants.{OK, MEMORY, DEPTH, INDEX, KIND, NULL}
use Rattle.ecow_nested.specs.Paths.{IsSet, value_at}
use Rattle.ecow_nested.specs.Values.{depth_of, items_of}
use Rattle.ecow_nested.specs.declared.nested.TheConstants.{MAX_DEPTH}
use Rattle.ecow_nested.specs.declared.value.paths.Step.{Step}
use Rattle.ecow_nested.specs.declared.value.paths.Step.TheVariants as step
use Rattle.ecow_nested.specs.declared.value.Value.{Value, out-Value}
use Rattle.ecow_nested.specs.declared.value.Value.TheOpen.{Value-F}

-- whether an item of a path is a step
abbrev pub is_step : Value → Bool
is_step item =
    elim (out-Value item) [ Value-F.Text name ↦ true | Value-F.Number number ↦ true | _ ↦ false ]

-- past the end of every list
abbrev pub NOWHERE : ℕ
NOWHERE = 2 ^ 64 - 1

-- a number as an index
abbrev pub index_of : ℤ → ℕ
index_of (pos n) = n
index_of (negsuc n) = NOWHERE

-- the step that an item of a path stands for; of what is no step, one that leads nowhere
abbrev pub step_of : Value → Step
step_of item =
    elim (out-Value item) [
      | Value-F.Text name ↦ step.Name name
      | Value-F.Number number ↦ step.Index (index_of number)
      | _ ↦ step.Index NOWHERE
    ]

-- the steps of a path, where the value is one
abbrev pub steps_of : Value → Option (List Step)
steps_of path =
    option_and_then (λ items. if list_all is_step items then Some (map step_of items) else None)
    (items_of path)

-- the part of a value to which a path leads
abbrev pub part_by : Value × Value → Option Value
part_by (value, path) = option_and_then (value_at value) (steps_of path)

-- the value, the path and the other value are there, and P holds of them
abbrev pub AreAllAnd : Option Value → Option Value → Option Value
    → (Value → List Step → Value → Type 0) → Type 0
AreAllAnd old path other P =
    IsSomeAnd old (λ x. IsSomeAnd path (λ p. IsSomeAnd other (λ y.
    IsSomeAnd (steps_of p) (λ steps. P x steps y))))

-- when a call answers NULL and KIND, and INDEX where it doesn't answer MEMORY
pub record AnswersAt (old path other : Option Value) (status : ℕ) : Type 0 where
  pub null : status ≡ NULL ↔ is_none old || is_none path || is_none other ≡ true
  pub kind : status ≡ KIND
      ↔ IsSomeAnd old (λ _. IsSomeAnd path (λ p. IsSomeAnd other (λ _. steps_of p ≡ None)))
  pub index : status ≢ MEMORY
      → (status ≡ INDEX ↔ AreAllAnd old path other (λ x steps y. value_at x steps ≡ None))

-- the value has the other one where the path leads, and all else as it was; a refused call leaves
-- it as it was
pub record SetsAt (old path other : Option Value) (status : ℕ) (new : Option Value) : Type 0 where
  pub ok : status ≡ OK
      → AreAllAnd old path other (λ x steps y. IsSomeAnd new (λ z. IsSet steps y x z))
  pub refused : status ≢ OK → new ≡ old
  pub covers : CoversAt old → CoversAt other → CoversAt new
  pub bound : status ≡ OK → AreAllAnd old path other
      (λ x steps y. depth_at new ≤ max (depth_of x) (length steps + depth_of y))
  pub depth : status ≢ MEMORY → (status ≡ DEPTH ↔ AreAllAnd old path other
      (λ x steps y. (value_at x steps ≢ None) × (MAX_DEPTH < length steps + depth_of y)))
