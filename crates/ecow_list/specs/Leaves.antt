-- What a closure leaves of an element that it was lent.
use Rattle.std.specs.Prelude.{◌≡◌}
use Rattle.std.specs.Borrow.{MutBor}
use Rattle.std.specs.Fn.{Once, FnOnceReturnsAtMut}

-- whenever f gives this answer, it leaves what it was lent as it was
abbrev pub LeavesAt : {F T R : Type 0} → Once F (MutBor T × Unit {0}) (R × (MutBor T × Unit {0}))
    → F → R → Type 0
LeavesAt {F} {T} g f answer = (x y : T) → FnOnceReturnsAtMut g f x answer y → y ≡ x
