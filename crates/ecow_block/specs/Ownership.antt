-- What a room and its deed own, at elements of the row R.
use Rattle.std.specs.Prelude.{ℕ, ◌+◌, ◌-◌, ◌*◌, ◌^◌, Bool, not, ◌==◌, List, length}
use Rattle.std.specs.Mem.{type_size}
use Rattle.std.specs.Vec.Ownership.{owns_if}
use Rattle.core.specs.Allocator.{array_of}
use base.Fraction.{full_share}
use base.Fml.{Lft, Fml, fsep, flt}
use mir.Syntax.{Ty}
use denote.RattleType.{RattleType}
use denote.Array.{Array}
use denote.Sharing.{said, beside}
use denote.Struct.Lending.{lent_at}
use denote.RawPtr.{Ptr, lies_at, room_for, in_block, ◌+ₚ◌}

-- whether places for c elements have any bytes, and so were asked of an allocator
abbrev pub has_bytes : RattleType → ℕ → Bool
has_bytes R c = not (c * type_size R == 0)

-- the right to give c places at p back, where they were asked for; token is the allocator's
abbrev pub deed_owns : (Ty → Ptr → Fml) → RattleType → Ptr → ℕ → Fml
deed_owns token R p c = owns_if (has_bytes R c) (token (array_of R c) p)

-- the place n of those that begin at p
abbrev pub place : RattleType → Ptr → ℕ → Ptr
place R p n = p +ₚ n * type_size R

-- the items lie at q, and behind them is room for more, up to c in all
abbrev pub lies_with_room : (R : RattleType) → Ptr → ℕ → List R.Denot → Fml
lies_with_room R q c xs =
    fsep (lies_at (Array R (length xs)) full_share q xs)
    (room_for (array_of R (c - length xs)) (place R q (length xs)))

-- the c places from the one numbered start on, of those that begin at p; the first of them hold the
-- items
abbrev pub room_owns : (R : RattleType) → Ptr → ℕ → ℕ → List R.Denot → Fml
room_owns R p start c xs =
    fsep (flt ((start + c) * type_size R) (2 ^ 63))
    (in_block p (lies_with_room R (place R p start) c xs))

-- what a `&` to a room holds: the items
abbrev pub room_shares : (R : RattleType) → Ptr → ℕ → ℕ → List R.Denot → Lft → Fml
room_shares R p start c xs =
    beside (said (flt ((start + c) * type_size R) (2 ^ 63)))
    (lent_at (Array R (length xs)) (place R p start) xs)
