-- What a call does that lends bytes to a closure, once, and keeps the first of them.
use Rattle.std.specs.Prelude.{◌≡◌, ℕ, List, length, take}
use Rattle.std.specs.Fn.{Once, FnOnceReturnsAtMut}
use denote.Ref.{MutBor}

module _ {F : Type 0} (g : Once F (MutBor (List ℕ) × Unit {0}) (ℕ × (MutBor (List ℕ) × Unit {0})))
    (f : F) where
  -- f was called on the old bytes, and new is as many of those that it left as it answered
  abbrev pub Rewrites : List ℕ → List ℕ → Type 0
  Rewrites old new = (len : ℕ) × (left : List ℕ) × FnOnceReturnsAtMut g f old len left
      × (length left ≡ length old) × (new ≡ take len left)
