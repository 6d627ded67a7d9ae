-- What a call leaves that changes a tree several times, by any clones.
use Rattle.std.specs.Prelude.{◌≡◌, ◌⊎◌, ℕ, zero, suc, List, ◌++◌, length}
use Rattle.std.specs.List.{AllZip}

module _ {T : Type 0} (is_clone : T → T → Type 0) where
  -- y is x, or comes of it by at most so many clones, each of the one before
  abbrev pub IsCopy : ℕ → T → T → Type 0
  IsCopy zero x y = y ≡ x
  IsCopy (suc n) x y = (z : T) × IsCopy n x z × ((y ≡ z) ⊎ is_clone z y)

  abbrev pub AreCopies : ℕ → List T → List T → Type 0
  AreCopies n old new = AllZip (IsCopy n) old new

  -- new is the old elements and then xs, each of which may have been cloned once for each of xs
  abbrev pub AppendsCopies : List T → List T → List T → Type 0
  AppendsCopies old xs new = AreCopies (length xs) (old ++ xs) new
