-- The parts of a block cross threads as its items and its allocator may.
--     counter_Keyless, unless_Keyless, lent_Keyless      what a head may have names no thread
--     Fields-send, Fields-sync      the fields of a head are a pointer and two numbers
--     rest_Keyless, room_Keyless, deed_Keyless      what a block has beside its count names none
--     title_seen, room_seen      what a `&` to a block sees names none
--     Room-send, Room-sync, Title-send, Title-sync, Deed-send, Deed-sync      the ghost parts cross
use Rattle.std.specs.Prelude.{ℕ, ◌-◌, Bool, true, false, List, length}
use Rattle.std.specs.Vec.Ownership.{owns_if}
use Rattle.core.specs.Allocator.{array_of}
use Rattle.core.specs.declared.alloc.Allocator.{Ghosts}
use base.Fml.{Lft, Fml}
use base.Shift.{Keyless}
use mir.Syntax.{Ty}
use denote.RattleType.{RattleType}
use denote.Array.{Array}
use denote.RawPtr.{Ptr, block_ptr, null_ptr, room_for, in_block, ◌+ₚ◌}
use denote.Struct.Struct.{exits_of}
use denote.Struct.Owning.{shape, fields, to}
use denote.Param.Send.{
  IsSend,
  IsSync,
  Common,
  AllSend,
  owning_send,
  struct_send,
  struct_sync,
  array_send,
  array_sync,
  sendable,
}
use Rattle.std_alloc.specs.Rc.Ownership.{counter_at}
use Rattle.std_alloc.proofs.SendSync.{FreesAnywhere, quiet, lies, seen}
use Rattle.ecow_block.specs.Heads.{
  count_type,
  fields_row,
  fields_type,
  whole_type,
  places_offset,
  unless_null,
  lent_unless_null,
  head_rest,
  title_shares,
}
use Rattle.ecow_block.specs.Ownership.{place, has_bytes, room_owns, room_shares, deed_owns}
use Rattle.ecow_block.specs.contracts.room.Room as Room
use Rattle.ecow_block.specs.contracts.room.Title as Title
use Rattle.ecow_block.specs.contracts.room.Deed as Deed

for_Keyless : (τ : Ty) (p : Ptr) → Keyless (room_for τ p)
for_Keyless τ (block_ptr b o) = tt
for_Keyless τ null_ptr = tt

in_Keyless : (p : Ptr) (F : Fml) → Keyless F → Keyless (in_block p F)
in_Keyless (block_ptr b o) F k = k
in_Keyless null_ptr F k = tt

if_Keyless : (y : Bool) (F : Fml) → Keyless F → Keyless (owns_if y F)
if_Keyless true F k = k
if_Keyless false F k = tt

pub counter_Keyless : (p : Ptr) (k n : ℕ) → Keyless (counter_at p k n)
counter_Keyless (block_ptr b o) k n = (tt, tt)
counter_Keyless null_ptr k n = tt

pub unless_Keyless : (p : Ptr) (F : Fml) → Keyless F → Keyless (unless_null p F)
unless_Keyless (block_ptr b o) F k = k
unless_Keyless null_ptr F k = tt

pub lent_Keyless : (p : Ptr) (t : Lft → Fml) → Common t → Common (lent_unless_null p t)
lent_Keyless (block_ptr b o) t k κ = k κ
lent_Keyless null_ptr t k κ = tt

module _ (R : RattleType) where
  Fields-send : IsSend (fields_row R)
  Fields-send = search sendable depth 20

  Fields-sync : IsSync (fields_row R)
  Fields-sync = search sendable depth 20

  pub title_seen : (p : Ptr) (x : (fields_row R).Denot) → Common (title_shares R p x)
  title_seen p x = lent_Keyless p _ (seen (fields_row R) Fields-sync (p +ₚ 8) x)

  pub room_Keyless : IsSend R → (p : Ptr) (start c : ℕ) (xs : List R.Denot)
      → Keyless (room_owns R p start c xs)
  room_Keyless s p start c xs = let n = length xs in let q = place R p start in (
    tt,
    in_Keyless p _ (
      lies (Array R n) (array_send R n s) q xs,
      for_Keyless (array_of R (c - n)) (place R q n),
    ),
  )

  pub room_seen : IsSync R → (p : Ptr) (start c : ℕ) (xs : List R.Denot)
      → Common (room_shares R p start c xs)
  room_seen y p start c xs κ = let n = length xs in
      (tt, seen (Array R n) (array_sync R n y) (place R p start) xs κ)

  pub Room-send : IsSend R → IsSend (Room.the_row R)
  Room-send s =
      let O = Room.the_type R in let all : AllSend (fields O) = (search sendable, tt) in
      owning_send O all
      (λ d. room_Keyless s d.at d.start d.capacity d.items)
      (λ k. quiet (to O) (exits_of k (fields O)) ((struct_send (shape O) all).leaving k))

  pub Room-sync : IsSync R → IsSync (Room.the_row R)
  Room-sync y = let O = Room.the_type R in record {
    shared = λ d b o κ. (
      (struct_sync (shape O) (search sendable, tt)).shared (to O d) b o κ,
      room_seen y d.at d.start d.capacity d.items κ,
    );
  }

  module _ (A : RattleType) (g : Ghosts A.Denot) where
    module _ (f : FreesAnywhere A.Denot g) (a : A.Denot) where
      pub rest_Keyless : (p : Ptr) (x : (fields_row R).Denot) (c : ℕ)
          → Keyless (head_rest (g.dealloc_token a) R p x c)
      rest_Keyless p x c = (
        lies (fields_row R) Fields-send (p +ₚ 8) x,
        (
          f.frees a (whole_type R c) p,
          (
            (
              for_Keyless count_type (p +ₚ 0),
              (
                for_Keyless (fields_type R) (p +ₚ 8),
                for_Keyless (array_of R c) (p +ₚ places_offset R),
              ),
            ),
            for_Keyless (whole_type R c) p,
          ),
        ),
      )

      pub deed_Keyless : (p : Ptr) (c : ℕ) → Keyless (deed_owns (g.dealloc_token a) R p c)
      deed_Keyless p c = if_Keyless (has_bytes R c) _ (f.frees a (array_of R c) p)

    pub Title-send : FreesAnywhere A.Denot g → IsSend (Title.the_row R A g)
    Title-send f =
        let O = Title.the_type R A g in let all : AllSend (fields O) = (search sendable, tt) in
        owning_send O all
        (λ d. unless_Keyless d.at _
        (rest_Keyless f d.alloc d.at d.fields d.places, counter_Keyless d.at 0 1))
        (λ k. quiet (to O) (exits_of k (fields O)) ((struct_send (shape O) all).leaving k))

    pub Title-sync : IsSync (Title.the_row R A g)
    Title-sync = let O = Title.the_type R A g in record {
      shared = λ d b o κ. (
        (struct_sync (shape O) (search sendable, tt)).shared (to O d) b o κ,
        title_seen d.at d.fields κ,
      );
    }

    pub Deed-send : FreesAnywhere A.Denot g → IsSend (Deed.the_row R A g)
    Deed-send f =
        let O = Deed.the_type R A g in let all : AllSend (fields O) = (search sendable, tt) in
        owning_send O all
        (λ d. deed_Keyless f d.alloc d.at d.capacity)
        (λ k. quiet (to O) (exits_of k (fields O)) ((struct_send (shape O) all).leaving k))

    pub Deed-sync : IsSync (Deed.the_row R A g)
    Deed-sync = let O = Deed.the_type R A g in record {
      shared = λ d b o κ. ((struct_sync (shape O) (search sendable, tt)).shared (to O d) b o κ, tt);
    }
