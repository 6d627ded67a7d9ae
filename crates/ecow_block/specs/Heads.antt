-- A block's memory: a head of 32 bytes (how many owners there are, and the fields), and places
-- right behind it, at elements of the row R.
use Rattle.std.specs.Prelude.{ℕ, ◌+◌, ◌*◌, []}
use Rattle.std.specs.Mem.{type_size}
use Rattle.core.specs.Allocator.{array_of}
use Rattle.std_alloc.specs.Rc.Ownership.{counter_at}
use Prim.Native.Nat.{max}
use base.Fraction.{full_share}
use base.Fml.{Lft, Fml, ftrue, fsep, fwand}
use mir.Syntax.{Ty, w64, ty_int, ty_struct, tcons, tnil}
use mir.Raw.{raw}
use prog.Memory.{align, up}
use denote.RattleType.{RattleType}
use denote.Memory.{lone}
use denote.Sharing.{nothing}
use denote.Struct.Lending.{lent_at}
use denote.RawPtr.{Ptr, block_ptr, null_ptr, lies_at, room_for, ◌+ₚ◌}
use Rattle.ecow_block.specs.contracts.room.Fields as fields

abbrev pub count_type : Ty
count_type = ty_int w64

abbrev pub fields_row : RattleType → RattleType
fields_row R = fields.the_row R

abbrev pub fields_type : RattleType → Ty
fields_type R = raw (lone (fields_row R).mir)

-- the type that the memory is asked for: a head and c places
abbrev pub whole_type : RattleType → ℕ → Ty
whole_type R c =
    ty_struct [] (tcons count_type (tcons (fields_type R) (tcons (array_of R c) tnil)))

-- to what an element is aligned
abbrev pub item_align : RattleType → ℕ
item_align R = align (lone R.mir)

-- how many bytes behind the head's first the places begin
abbrev pub places_offset : RattleType → ℕ
places_offset R = up (item_align R) 32

abbrev pub whole_align : RattleType → ℕ
whole_align R = max 8 (item_align R)

abbrev pub whole_size : RattleType → ℕ → ℕ
whole_size R c = up (whole_align R) (places_offset R + c * type_size R)

-- the head and the places, empty
abbrev pub parts_room : RattleType → Ptr → ℕ → Fml
parts_room R p c =
    fsep (room_for count_type (p +ₚ 0))
    (fsep (room_for (fields_type R) (p +ₚ 8)) (room_for (array_of R c) (p +ₚ places_offset R)))

-- they make the memory that was asked for
abbrev pub parts_rejoin : RattleType → Ptr → ℕ → Fml
parts_rejoin R p c = fwand (parts_room R p c) (room_for (whole_type R c) p)

-- F, and nothing at null
abbrev pub unless_null : Ptr → Fml → Fml
unless_null (block_ptr b o) F = F
unless_null null_ptr F = ftrue

-- what a `&` holds by t, and nothing at null
abbrev pub lent_unless_null : Ptr → (Lft → Fml) → Lft → Fml
lent_unless_null (block_ptr b o) t = t
lent_unless_null null_ptr t = nothing

-- the fields x of the head at p, and what is needed beside the count to give a block back that has
-- c places right behind its head
abbrev pub head_rest : (Ty → Ptr → Fml) → (R : RattleType) → Ptr → (fields_row R).Denot → ℕ → Fml
head_rest token R p x c =
    fsep (lies_at (fields_row R) full_share (p +ₚ 8) x)
    (fsep (token (whole_type R c) p) (parts_rejoin R p c))

-- the head of a sole owner's block, and the right to give the memory back; at null there is none
abbrev pub title_owns : (Ty → Ptr → Fml) → (R : RattleType) → Ptr → (fields_row R).Denot → ℕ → Fml
title_owns token R p x c = unless_null p (fsep (head_rest token R p x c) (counter_at p 0 1))

-- what a `&` to it sees: the fields
abbrev pub title_shares : (R : RattleType) → Ptr → (fields_row R).Denot → Lft → Fml
title_shares R p x = lent_unless_null p (lent_at (fields_row R) (p +ₚ 8) x)
