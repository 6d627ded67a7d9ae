-- What holds of the fields of a block, and what a contract sees of them.
use Rattle.ecow_block.specs.Contents.{Contents, contents}
use Rattle.ecow_block.specs.Parts.{IsParts, capacity_of}
use Rattle.ecow_block.specs.declared.block.Block.TheInside.{Inside as Block}

module _ {X : Type 0} where
  -- what always holds of the fields of a block
  abbrev pub IsBlock : Block X → Type 0
  IsBlock b = IsParts b.top b.room b.title b.deed b.alloc

  -- the items, and how many there may be
  abbrev pub shown : Block X → Contents X
  shown b = contents b.room.items (capacity_of b.title.fields.capacity)
