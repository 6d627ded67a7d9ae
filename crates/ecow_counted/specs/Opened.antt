-- Names of which one is about to settle with another list.
use Rattle.std.specs.Prelude.{◌≡◌, ℕ, List, IsSome}
use Rattle.std.specs.FinMap as finite
use Rattle.ecow_model.specs.Names.{Names, settle}

-- the name is there, and wherever it settles, it settles as in the old names
pub record IsOpened {T : Type 0} (name : ℕ) (old new : Names T) : Type 0 where
  pub there : IsSome (finite.get new name)
  pub settles : (items : List T) (capacity : ℕ)
      → settle name items capacity new ≡ settle name items capacity old
