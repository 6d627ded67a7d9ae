-- What a call takes from an iterator.
use Rattle.std.specs.Prelude.{Bool, List, Option, MatchBool}
use Rattle.std.specs.Iterator.{Yields, Drains}

module _ {I T : Type 0} (steps : I → Option T → I → Type 0) where
  -- where calls gave old and led to s, more calls made it new, and led to t, or to `None` where the
  -- iterator ended
  abbrev pub GivesOn : I → List T → I → List T → Bool → Type 0
  GivesOn s old t new ended =
      (first : I) → Yields steps first old s
      → MatchBool ended (Drains steps first new) (Yields steps first new t)
