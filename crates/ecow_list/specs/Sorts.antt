-- What a sort makes of a list.
use Rattle.std.specs.Prelude.{List}
use Rattle.std.specs.Borrow.{Bor}
use Rattle.std.specs.Fn.{Mut}
use Rattle.std.specs.List.Sorted.{IsPermutation, IsSorted, IsSortedByClosure, IsStable, IsStableByClosure}
use Rattle.std.specs.declared.cmp.Ordering.{Ordering}

-- new has the elements of old in rising order, equal ones as they stood
pub record Sorts {T : Type 0} (cmp : T → T → Ordering) (old new : List T) : Type 0 where
  pub same : IsPermutation old new
  pub rising : IsSorted cmp new
  pub stable : IsStable cmp old new

-- the same by the order that a closure gives, where that is a strict weak order
pub record SortsBy {F T : Type 0} (g : Mut F (Bor T × (Bor T × Unit {0})) Ordering) (f : F)
    (old new : List T) : Type 0 where
  pub same : IsPermutation old new
  pub rising : IsSortedByClosure g f new
  pub stable : IsStableByClosure g f old new
