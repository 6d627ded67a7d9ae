-- What a call does that lends one element of a list to a closure, once.
use Rattle.std.specs.Prelude.{◌≡◌, ◌⊎◌, ℕ, List, Some, slice_get, slice_set}
use Rattle.std.specs.Fn.{Once, FnOnceTakesAtMut, FnOnceReturnsAtMut}
use denote.Ref.{MutBor}

module _ {F T R : Type 0} (g : Once F (MutBor T × Unit {0}) (R × (MutBor T × Unit {0})))
    (f : F) where
  -- f may be called on the item at the index
  abbrev pub TakesAt : List T → ℕ → Type 0
  TakesAt items index = (x : T) → slice_get items index ≡ Some x → FnOnceTakesAtMut g f x

  -- f may be called on the item at the index, and on a clone of it
  abbrev pub TakesKeptAt : (T → T → Type 0) → List T → ℕ → Type 0
  TakesKeptAt is_clone items index = (x y : T) → slice_get items index ≡ Some x
      → (y ≡ x) ⊎ is_clone x y → FnOnceTakesAtMut g f y

  -- f answered when it was called on the item at the index, and new has there what f left
  abbrev pub UpdatesAt : ℕ → List T → List T → R → Type 0
  UpdatesAt index old new answer = (x y : T) × (slice_get old index ≡ Some x)
      × FnOnceReturnsAtMut g f x answer y × (new ≡ slice_set old index y)
