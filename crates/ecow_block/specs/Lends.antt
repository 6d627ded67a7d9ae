-- What a room ends as, once a `&mut` to its items has ended.
use Rattle.std.specs.Prelude.{◌≤◌, List, length}
use Rattle.std.specs.Borrow.{Fml, RattleType, MutBor, Array, Lends}
use Rattle.std.specs.List.{refill, length_refill}
use mathlib.Core.Path.{refl, subst}
use Rattle.ecow_block.specs.declared.room.Room.{Room}
use Rattle.ecow_block.specs.contracts.room.Room.{the_row}

-- r with ws as its items. Where ws has another length it is cut, or filled up from r's, so that the
-- length stays
abbrev pub with_items : {X : Type 0} → Room X → List X → Room X
with_items r ws = record {
  mark = r.mark;
  at = r.at;
  start = r.start;
  items = refill (length r.items) r.items ws;
  capacity = r.capacity;
  within = subst (λ k. k ≤ r.capacity) (length_refill (length r.items) r.items ws refl) r.within;
}

-- the room ends with the last value behind r as its items
abbrev pub lends_items : (T : RattleType) → MutBor (Room T.Denot) → MutBor (List T.Denot) → Fml
lends_items T room r = Lends (the_row T) (Array T 0) room r (with_items room.now)
