-- What C hands over at a pointer, and what is left there.
use Rattle.std.specs.Prelude.{◌^◌, Option, Some, None}
use Rattle.std.specs.Borrow.{Fml, RattleType, ftrue, ffalse, fsep}
use Rattle.core.specs.Ptr.{Ptr, block_ptr, null_ptr, points_to}
use base.Fml.{flt}
use denote.RawPtr.{count_of}

-- a value of the row R where the pointer isn't null
abbrev pub lies_there : (R : RattleType) → Ptr → Option R.Denot → Fml
lies_there R null_ptr None = ftrue
lies_there R null_ptr (Some x) = ffalse
lies_there R (block_ptr b o) None = ffalse
lies_there R (block_ptr b o) (Some x) = points_to R (block_ptr b o) x

-- that value, and that the pointer may be compared with null
abbrev pub pointer_owns : (R : RattleType) → Ptr → Option R.Denot → Fml
pointer_owns R p v = fsep (flt (count_of p) (2 ^ 63)) (lies_there R p v)
