-- What clones make.
use Rattle.std.specs.Prelude.{◌≡◌, List, ◌++◌}
use Rattle.std.specs.List.{AllZip}

-- new is old, and behind it a clone of each of xs
pub record AppendsClones {T : Type 0} (is_clone : T → T → Type 0)
    (old xs new : List T) : Type 0 where
  pub copies : List T
  pub items : new ≡ old ++ copies
  pub each : AllZip is_clone xs copies
