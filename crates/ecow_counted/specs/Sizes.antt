-- What is read of what a name holds.
use Rattle.std.specs.Prelude.{length, ◌==◌, Option, Some, None, if◌then◌else◌}
use Rattle.ecow_block.specs.Contents.{Contents, contents}
use Rattle.ecow_model.specs.Names.{Holding}
use Rattle.ecow_counted.specs.declared.blocks.Size.{Size}

module _ {T : Type 0} where
  -- the length of the list, the capacity of its block and the number of its names
  abbrev pub size_of : Holding T → Size
  size_of h = record { len = length h.items; capacity = h.capacity; owners = length h.group }

  -- the block that a name alone holds
  abbrev pub sole_block : Option (Holding T) → Option (Contents T)
  sole_block None = None
  sole_block (Some h) = if length h.group == 1 then Some (contents h.items h.capacity) else None
