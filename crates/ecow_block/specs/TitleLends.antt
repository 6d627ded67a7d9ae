-- What a title ends as, once a borrow of its fields has ended.
use Rattle.std.specs.Borrow.{Fml, RattleType, MutBor, Lends}
use Rattle.core.specs.declared.alloc.Allocator.{Ghosts}
use Rattle.ecow_block.specs.Heads.{fields_row}
use Rattle.ecow_block.specs.declared.room.Fields.{Fields}
use Rattle.ecow_block.specs.declared.room.Title.{Title}
use Rattle.ecow_block.specs.contracts.room.Title.{the_row}

-- the title with these fields in place of its own
abbrev pub with_fields : {X A : Type 0} → Title X A → Fields X → Title X A
with_fields t x =
    record { mark = t.mark; at = t.at; fields = x; places = t.places; alloc = t.alloc }

-- the title ends with the last value behind r as its fields
abbrev pub lends_fields : (R A : RattleType) (g : Ghosts A.Denot) → MutBor (Title R.Denot A.Denot)
    → MutBor (Fields R.Denot) → Fml
lends_fields R A g title r = Lends (the_row R A g) (fields_row R) title r (with_fields title.now)
