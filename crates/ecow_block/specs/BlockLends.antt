-- What a block ends as, once a borrow of its elements has ended.
use Rattle.std.specs.Prelude.{List, length}
use Rattle.std.specs.Borrow.{Fml, RattleType, MutBor, Array, Lends}
use Rattle.std.specs.List.{refill}
use Rattle.ecow_block.specs.Contents.{Contents, contents}
use Rattle.ecow_block.specs.contracts.block.Block.{the_row}

-- the block with these elements in place of its own, as many as it has
abbrev pub with_elements : {X : Type 0} → Contents X → List X → Contents X
with_elements b ws = contents (refill (length b.items) b.items ws) b.capacity

-- the elements are those that were written last through r, and the capacity stays
abbrev pub lends_elements : (R : RattleType) → MutBor (Contents R.Denot) → MutBor (List R.Denot)
    → Fml
lends_elements R b r = Lends (the_row R) (Array R 0) b r (with_elements b.now)
