-- Owners cross threads where their elements may be sent and looked at. Each owner reaches the
-- elements, and the last one takes them out, in whichever thread it is.
--     whole, shown      what owners keep, and what each of them sees, names no thread
--     count, owned, lent      the count, what an owner owns, and what a `&` to it holds, name none
--     Shared-send, Shared-sync      owners cross threads
use Rattle.std.specs.Prelude.{ℕ, Bool, true, false, [], ◌∷◌}
use base.Fml.{Fml}
use base.Shift.{Keyless}
use denote.RattleType.{RattleType}
use denote.Struct.Struct.{exits_of}
use denote.Struct.Owning.{shape, fields, to}
use denote.Param.Send.{
  IsSend,
  IsSync,
  Common,
  AllSend,
  AllSync,
  owning_send,
  struct_send,
  struct_sync,
  view_send,
  view_sync,
  sendable,
}
use Rattle.core.specs.Thread.Scope.{refcount_if_alive}
use Rattle.std.proofs.Crossing.{frees}
use Rattle.std.proofs.alloc.Global.TheSendSync as heap
use Rattle.std.specs.contracts.alloc.Global.{the_row}
use Rattle.std.specs.contracts.impls.GlobalAllocator.TheImpl.{ghosts}
use Rattle.std_alloc.specs.Owners.{sole_or_counted}
use Rattle.std_alloc.proofs.SendSync.{quiet}
use Rattle.ecow_block.specs.Kept.{head_at, kept, seen}
use Rattle.ecow_atomic.specs.Owners.{count_block, count_offset, shared_owns, shared_lends}
use Rattle.ecow_block.specs.declared.block.Block.TheInside.{Inside as BlockParts}
use Rattle.ecow_atomic.specs.contracts.shared.Shared as Shared
use Rattle.ecow_atomic.specs.contracts.shared.Shared.TheInside as Inside
use Rattle.ecow_block.proofs.Crosses.{
  counter_Keyless,
  unless_Keyless,
  lent_Keyless,
  rest_Keyless,
  room_Keyless,
  deed_Keyless,
  title_seen,
  room_seen,
}

either_way : (F G : Fml) → Keyless F → Keyless G → (y : Bool) → Keyless (sole_or_counted F G y)
either_way F G f g true = f
either_way F G f g false = g

alive_Keyless : (P : Fml) (b o a : ℕ) → Keyless P → (y : Bool)
    → Keyless (refcount_if_alive P b o a y)
alive_Keyless P b o a k true = λ n. (tt, ((λ r c. tt), k))
alive_Keyless P b o a k false = tt

module _ (R : RattleType) (s : IsSend R) (y : IsSync R) where
  module _ (i : BlockParts R.Denot) where
    whole : Keyless (kept R i)
    whole = (
      (
        rest_Keyless R the_row ghosts frees i.title.alloc (head_at R i) i.title.fields
            i.title.places,
        room_Keyless R s i.room.at i.room.start i.room.capacity i.room.items,
      ),
      deed_Keyless R the_row ghosts frees i.deed.alloc i.deed.at i.deed.capacity,
    )

    shown : Common (seen R i)
    shown κ = (
      title_seen R (head_at R i) i.title.fields κ,
      room_seen R y i.room.at i.room.start i.room.capacity i.room.items κ,
    )

    count : (a : ℕ) (z : Bool)
        → Keyless (refcount_if_alive (kept R i) (count_block R i) (count_offset R i) a z)
    count a = alive_Keyless (kept R i) (count_block R i) (count_offset R i) a whole

    owned : Keyless (shared_owns R i)
    owned = either_way _ _ (counter_Keyless (head_at R i) 0 1, whole)
        (λ a. ((λ u c. tt), (count a, shown (a ∷ []))))

    lent : Common (shared_lends R i)
    lent κ a = ((λ q. tt), (count a, shown (a ∷ [])))

  Inside-send : IsSend (Inside.the_row R)
  Inside-send =
      let O = Inside.the_type R in
      let all : AllSend (fields O) = (
        search sendable,
        (search sendable, (search sendable, (search sendable, (heap.the_field_send, tt)))),
      ) in
      owning_send O all
      (λ d. unless_Keyless (head_at R d.inside) _ (owned d.inside))
      (λ k. quiet (to O) (exits_of k (fields O)) ((struct_send (shape O) all).leaving k))

  Inside-sync : IsSync (Inside.the_row R)
  Inside-sync =
      let O = Inside.the_type R in
      let all : AllSync (fields O) = (
        search sendable,
        (search sendable, (search sendable, (search sendable, (heap.the_field_sync, tt)))),
      ) in
      record {
        shared = λ d b o κ. (
          (struct_sync (shape O) all).shared (to O d) b o κ,
          lent_Keyless (head_at R d.inside) _ (lent d.inside) κ,
        );
      }

  pub Shared-send : IsSend (Shared.the_row R)
  Shared-send = view_send _ _ _ _ _ Inside-send

  pub Shared-sync : IsSync (Shared.the_row R)
  Shared-sync = view_sync _ _ _ _ _ Inside-sync
