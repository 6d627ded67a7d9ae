-- What a change of a tree leaves of its elements: those in blocks that were copied are clones.
use Rattle.std.specs.Prelude.{◌≡◌, ◌⊎◌, ℕ, List, Some, ◌++◌, Result, IfErr, IfOk, OnErr, OnOk, slice_get}
use Rattle.std.specs.List.{AllZip, remove, replace_range}
use Rattle.ecow_base.specs.Clones.{ClonesAreEqual}
use Rattle.ecow_list.specs.declared.error.EcoError.{EcoError}
use Rattle.ecow_list.specs.declared.error.EcoError.TheVariants.{Memory}

module _ {T : Type 0} (is_clone : T → T → Type 0) where
  -- each element is the old one, or a clone of it
  abbrev pub AreKept : List T → List T → Type 0
  AreKept old kept = AllZip (λ x y. (y ≡ x) ⊎ is_clone x y) old kept

  -- P holds of the old elements, each of them or a clone of it
  abbrev pub SomeKept : List T → (List T → Type 0) → Type 0
  SomeKept old P = (kept : List T) × AreKept old kept × P kept

  -- each element is the old one, or a clone of it, or a clone of such a clone
  abbrev pub IsKeptTwice : List T → List T → Type 0
  IsKeptTwice old new = SomeKept old (λ once. AreKept once new)

  -- new is what `change` makes of the old elements, each of them or a clone of it
  abbrev pub AreKeptIn : List T → (List T → List T) → List T → Type 0
  AreKeptIn old change new = SomeKept old (λ kept. new ≡ change kept)

  -- new is the old elements, each of them or a clone of it, and then a clone of each of xs
  abbrev pub ExtendsKept : List T → List T → List T → Type 0
  ExtendsKept old xs new =
      SomeKept old (λ kept. (added : List T) × AllZip is_clone xs added × (new ≡ kept ++ added))

  -- new is the old elements, with a clone of each of xs in place of those from `start` up to `end`
  abbrev pub ReplacesKept : List T → ℕ → ℕ → List T → List T → Type 0
  ReplacesKept old start end xs new =
      (kept : List T) × IsKeptTwice old kept × (added : List T) × AllZip is_clone xs added
      × (new ≡ replace_range kept start end added)

  -- value stood at `index` of the old elements, each of them or a clone of it; new is the others
  abbrev pub Removes : List T → ℕ → T → List T → Type 0
  Removes old index value new =
      SomeKept old (λ kept. (slice_get kept index ≡ Some value) × (new ≡ remove kept index))

  -- a refused call lacked memory, and left each element, or a clone of it
  pub record RefusesKept {R : Type 0} (old : List T) (result : Result R EcoError) (new : List T)
      : Type 0 where
    pub memory : IfErr result (λ error. error ≡ Memory)
    pub kept : OnErr result (AreKept old new)
    pub unchanged : ClonesAreEqual is_clone → OnErr result (new ≡ old)

-- what a call that makes `change` of a tree's old elements leaves
pub record Changes {T R E : Type 0} (is_clone : T → T → Type 0) (old : List T)
    (change : List T → List T) (result : Result R E) (new : List T) : Type 0 where
  -- where clones equal their sources, new is what `change` makes of old
  pub ok : ClonesAreEqual is_clone → OnOk result (new ≡ change old)
  -- for any clones, new is what it makes of the old elements, each of them or a clone of it
  pub kept : OnOk result (AreKeptIn is_clone old change new)

-- the same of a call that has an answer: `step xs r ys` says that it answers r at the elements xs,
-- and leaves ys
pub record ChangesBy {T R E : Type 0} (is_clone : T → T → Type 0) (old : List T)
    (step : List T → R → List T → Type 0) (result : Result R E) (new : List T) : Type 0 where
  pub ok : ClonesAreEqual is_clone → IfOk result (λ r. step old r new)
  pub kept : IfOk result (λ r. SomeKept is_clone old (λ xs. step xs r new))
