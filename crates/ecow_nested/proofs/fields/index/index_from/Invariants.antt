use Rattle.std.proofs.Common.{◌≡◌, length, take}
use Rattle.ecow_nested.specs.Index.{IsIndexed, bares_in, nodes_in}
use Rattle.ecow_nested.proofs.fields.index.index_from.Given as goal

-- the entries before the next have their index, and all are the same but for it
abbrev pub invariant-loop-at : goal.invariant-loop-at
invariant-loop-at g l = IsIndexed (nodes_in (take l.at l.entries)) × (bares_in l.entries ≡ bares_in l.fn.entries)
    × (length l.entries ≡ length l.fn.entries)
