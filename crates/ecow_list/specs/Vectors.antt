-- What calls leave of a list of elements.
use Rattle.std.specs.Prelude.{◌≡◌, ◌⊎◌, ◌+◌, List, [], Option, None, Some, ◌++◌, length, Result, IfOk, OnOk}
use Rattle.std.specs.Iterator.{Drains, Yields, YieldsThen}
use Rattle.std.specs.List.{AllZip}
use Rattle.std.specs.Result.{MatchResult}
use Rattle.ecow_base.specs.Clones.{ClonesAreEqual}

-- new has the elements of old and then xs
abbrev pub Appends : {T : Type 0} → List T → List T → List T → Type 0
Appends old xs new = new ≡ old ++ xs

-- new has one more element than old for each of xs, and is old where there are none
abbrev pub Lengthens : {T : Type 0} → List T → List T → List T → Type 0
Lengthens old xs new = (length new ≡ length old + length xs) × (xs ≡ [] → new ≡ old)

-- new is old, or has a clone of each of its elements in their places
abbrev pub IsKept : {T : Type 0} → (T → T → Type 0) → List T → List T → Type 0
IsKept is_clone old new = (new ≡ old) ⊎ AllZip is_clone old new

module _ {C I T : Type 0} (gives : C → I → Type 0) (steps : I → Option T → I → Type 0) where
  -- xs are all items that the iterator of a collection gave
  abbrev pub GivesItems : C → List T → Type 0
  GivesItems c xs = (it : I) × gives c it × Drains steps it xs

  -- xs are the items that it gave first
  abbrev pub GivesFirst : C → List T → Type 0
  GivesFirst c xs = (it : I) × (rest : I) × gives c it × Yields steps it xs rest

  -- P holds of items that it gave first
  abbrev pub SomeFirst : C → (List T → Type 0) → Type 0
  SomeFirst c P = (xs : List T) × GivesFirst c xs × P xs

-- new has old and all items that the iterator gave up to its end; at a refusal it was asked once
-- more than new has items of it
abbrev pub ExtendsBy : {I T B E : Type 0} → (I → Option T → I → Type 0) → (B → List T → B → Type 0)
    → I → B → B → Result (Unit {0}) E → I → Type 0
ExtendsBy {I} {T} steps extends it old new r rest = (xs : List T) × extends old xs new
    × MatchResult r (λ _. YieldsThen steps it xs None rest)
    (λ _. (x : T) × YieldsThen steps it xs (Some x) rest)

-- P holds of the old elements, or of a clone of each
abbrev pub SomeKept : {T : Type 0} → (T → T → Type 0) → List T → (List T → Type 0) → Type 0
SomeKept {T} is_clone old P = (kept : List T) × IsKept is_clone old kept × P kept

-- new is what `change` makes of the old elements, or of a clone of each
abbrev pub IsKeptIn : {T : Type 0} → (T → T → Type 0) → List T → (List T → List T) → List T
    → Type 0
IsKeptIn is_clone old change new = SomeKept is_clone old (λ kept. new ≡ change kept)

-- new is the old elements, or a clone of each, and then xs
abbrev pub AppendsKept : {T : Type 0} → (T → T → Type 0) → List T → List T → List T → Type 0
AppendsKept is_clone old xs new = IsKeptIn is_clone old (λ kept. kept ++ xs) new

-- new is the old elements, or a clone of each, and then a clone of each of xs
abbrev pub IsKeptBefore : {T : Type 0} → (T → T → Type 0) → List T → List T → List T → Type 0
IsKeptBefore {T} is_clone old xs new =
    (kept : List T) × (added : List T) × IsKept is_clone old kept × AllZip is_clone xs added
    × (new ≡ kept ++ added)

-- what a call that makes `change` of a vector's old elements leaves
pub record Changes {T R E : Type 0} (is_clone : T → T → Type 0) (old : List T)
    (change : List T → List T) (result : Result R E) (new : List T) : Type 0 where
  -- where clones equal their sources, new is what `change` makes of old
  pub ok : ClonesAreEqual is_clone → OnOk result (new ≡ change old)
  -- for any clones, new is what it makes of the old elements, or of a clone of each
  pub kept : OnOk result (IsKeptIn is_clone old change new)

-- the same of a call that has an answer: `step xs r ys` says that it answers r at the elements xs,
-- and leaves ys
pub record ChangesBy {T R E : Type 0} (is_clone : T → T → Type 0) (old : List T)
    (step : List T → R → List T → Type 0) (result : Result R E) (new : List T) : Type 0 where
  pub ok : ClonesAreEqual is_clone → IfOk result (λ r. step old r new)
  pub kept : IfOk result (λ r. SomeKept is_clone old (λ xs. step xs r new))
