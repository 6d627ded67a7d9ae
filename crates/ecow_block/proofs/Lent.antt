-- What a `&` to a head, one to a room, and one to an owner lend: the fields, the items, and both.
-- Assumes `Logic`.
use mathlib.Core.Path.{sym, subst}
use mathlib.Core.List.{List}
use Prim.Native.Nat.{ℕ, ◌+◌, ◌-◌, ◌*◌, ◌^◌}
use lib.ListN.{length}
use seplogic.Ra.Ura.{Ura}
use base.Fraction.{full_share}
use base.Fml.{Lft, Fml, Incl, ftrue, fsep, flt}
use mir.Syntax.{Ty}
use types.Logic.{Logic}
use denote.Array.{Array, Array-row_laws}
use denote.ArrayMemory.{Single}
use denote.Param.Laws.{Laws}
use denote.RattleType.{RattleType}
use denote.RawPtr.{Ptr, block_ptr, null_ptr, in_block, lies_at, room_for, ◌+ₚ◌}
use denote.Shares.{Shares-less, Shares-Array}
use denote.Sharing.{ShrLaws, said}
use denote.SharingLaws.{nothing_shr_laws, said_shr_laws, beside_shr_laws}
use denote.Struct.Lending.{lent_at, lent_at_shr_laws, Lends, Lends-false, Lends-lies, Lends-nothing, Lends-said, Lends-first, Lends-both}
use Rattle.std.specs.contracts.impls.GlobalAllocator.TheImpl.{ghosts}
use Rattle.core.specs.Allocator.{array_of}
use Rattle.core.specs.Mem.{type_size}
use Rattle.std_alloc.specs.Rc.Ownership.{counter_at}
use Rattle.ecow_block.specs.Heads.{fields_row, whole_type, parts_rejoin, head_rest, title_owns, title_shares}
use Rattle.ecow_block.specs.Kept.{head_at, kept, seen}
use Rattle.ecow_block.specs.Ownership.{place, lies_with_room, room_owns, room_shares, deed_owns}
use Rattle.ecow_block.specs.declared.block.Block.TheInside.{Inside}
use Rattle.ecow_block.proofs.room.Fields.TheLaws as laws

module _ (R : RattleType) (L : Laws R) where
  abbrev fields_laws : Laws (fields_row R)
  fields_laws = laws.the_row_laws R L

  pub title_shr_laws : (p : Ptr) (x : (fields_row R).Denot) → ShrLaws (title_shares R p x)
  title_shr_laws (block_ptr b o) x = lent_at_shr_laws (fields_row R) fields_laws.shr_laws (block_ptr b o +ₚ 8) x
  title_shr_laws null_ptr x = nothing_shr_laws

  -- the bound on a room's size
  abbrev small : ℕ → ℕ → Fml
  small start c = flt ((start + c) * type_size R) (2 ^ 63)

  pub room_shr_laws : (p : Ptr) (start c : ℕ) (xs : List R.Denot) → ShrLaws (room_shares R p start c xs)
  room_shr_laws p start c xs = let n = length xs in
      beside_shr_laws (said (small start c)) (lent_at (Array R n) (place R p start) xs) (said_shr_laws (small start c) tt)
      (lent_at_shr_laws (Array R n) (Array-row_laws R L.shr_laws n) (place R p start) xs)

  module _ {M : Type 1} {𝓤 : Ura M} (𝓛 : Logic 𝓤) (l : Lft) (within : Incl l R.lives) where
    Lends-fields : (p : Ptr) (x : (fields_row R).Denot) → Lends 𝓛 (lies_at (fields_row R) full_share p x) (lent_at (fields_row R) p x) l
    Lends-fields p x =
        Lends-lies 𝓛 (fields_row R) l p x (Shares-less 𝓛 (fields_row R) (fields_row R).lives l (laws.the_within R l within) (fields_laws.shares 𝓛) x)

    module _ (token : Ty → Ptr → Fml) where
      pub Lends-rest : (p : Ptr) (x : (fields_row R).Denot) (c : ℕ) → Lends 𝓛 (head_rest token R p x c) (title_shares R p x) l
      Lends-rest (block_ptr b o) x c = let p : Ptr = block_ptr b o in
          Lends-first 𝓛 (lies_at (fields_row R) full_share (p +ₚ 8) x) (fsep (token (whole_type R c) p) (parts_rejoin R p c))
          (title_shares R p x) l (Lends-fields (p +ₚ 8) x)
      Lends-rest null_ptr x c = Lends-nothing 𝓛 (head_rest token R null_ptr x c) l

      pub Lends-title : (p : Ptr) (x : (fields_row R).Denot) (c : ℕ) → Lends 𝓛 (title_owns token R p x c) (title_shares R p x) l
      Lends-title (block_ptr b o) x c =
          let p : Ptr = block_ptr b o in Lends-first 𝓛 (head_rest token R p x c) (counter_at p 0 1) (title_shares R p x) l (Lends-rest p x c)
      Lends-title null_ptr x c = Lends-nothing 𝓛 ftrue l

    module _ (start c : ℕ) (xs : List R.Denot) where
      abbrev items : Ptr → Lft → Fml
      items p = lent_at (Array R (length xs)) (place R p start) xs

      Lends-items : (p : Ptr) → Lends 𝓛 (in_block p (lies_with_room R (place R p start) c xs)) (items p) l
      Lends-items null_ptr = Lends-false 𝓛 (items null_ptr) l
      Lends-items (block_ptr b o) = let p : Ptr = place R (block_ptr b o) start in let shares = Shares-less 𝓛 R R.lives l within (L.shares 𝓛) in
          Lends-first 𝓛 (lies_at (Array R (length xs)) full_share p xs)
          (room_for (array_of R (c - length xs)) (place R p (length xs))) (items (block_ptr b o)) l
          (Lends-lies 𝓛 (Array R (length xs)) l p xs (Shares-Array 𝓛 R (subst Single (sym L.one) tt) (length xs) l shares xs))

      pub Lends-room : (p : Ptr) → Lends 𝓛 (room_owns R p start c xs) (room_shares R p start c xs) l
      Lends-room p = Lends-both 𝓛 (small start c) (in_block p (lies_with_room R (place R p start) c xs)) (said (small start c)) (items p) l
          (Lends-said 𝓛 (small start c) tt l) (Lends-items p)

-- what the owners of a block keep alive and see
module _ (R : RattleType) (L : Laws R) (i : Inside R.Denot) where
  abbrev fields_seen : Lft → Fml
  fields_seen = title_shares R (head_at R i) i.title.fields

  abbrev items_seen : Lft → Fml
  items_seen = room_shares R i.room.at i.room.start i.room.capacity i.room.items

  pub seen_shr_laws : ShrLaws (seen R i)
  seen_shr_laws =
      beside_shr_laws fields_seen items_seen (title_shr_laws R L (head_at R i) i.title.fields)
      (room_shr_laws R L i.room.at i.room.start i.room.capacity i.room.items)

  module _ {M : Type 1} {𝓤 : Ura M} (𝓛 : Logic 𝓤) (l : Lft) (within : Incl l R.lives) where
    abbrev Head : Fml
    Head = head_rest (ghosts.dealloc_token i.title.alloc) R (head_at R i) i.title.fields i.title.places

    abbrev Places : Fml
    Places = room_owns R i.room.at i.room.start i.room.capacity i.room.items

    abbrev Right : Fml
    Right = deed_owns (ghosts.dealloc_token i.deed.alloc) R i.deed.at i.deed.capacity

    pub Lends-kept : Lends 𝓛 (kept R i) (seen R i) l
    Lends-kept = Lends-first 𝓛 (fsep Head Places) Right (seen R i) l
        (Lends-both 𝓛 Head Places fields_seen items_seen l
        (Lends-rest R L 𝓛 l within (ghosts.dealloc_token i.title.alloc) (head_at R i) i.title.fields i.title.places)
        (Lends-room R L 𝓛 l within i.room.start i.room.capacity i.room.items i.room.at))
