use Rattle.std.proofs.Common.{◌≡◌, length}
use Rattle.ecow_list.specs.Vectors.{Appends}
use Rattle.ecow_base.specs.Inline.{inline_after}
use Rattle.ecow_bytes.proofs.bytes.SmallBytes.extend_from.Given as goal

abbrev pub invariant-loop-byte : goal.invariant-loop-byte
invariant-loop-byte g l =
    Appends l.fn.self.bytes l.yielded l.self.bytes
    × (l.self.inline ≡ inline_after g.row.N l.fn.self.inline (length l.self.bytes) 0)
    × (goal.iterator-loop-byte g).can_next l.iter × (goal.iterator-loop-byte g).is_finite l.iter
