use Rattle.std.proofs.Common.{◌≡◌}
use Rattle.ecow_list.specs.Vectors.{Appends}
use Rattle.ecow_base.specs.Inline.{inline_after}
use Rattle.ecow_base.specs.Utf8.{utf8_len}
use Rattle.ecow_string.proofs.string.SmallText.extend_from_chars.Given as goal

abbrev pub invariant-loop-c : goal.invariant-loop-c
invariant-loop-c g l =
    Appends l.fn.self.chars l.yielded l.self.chars
    × (l.self.inline ≡ inline_after g.row.N l.fn.self.inline (utf8_len l.self.chars) 0)
    × (goal.iterator-loop-c g).can_next l.iter × (goal.iterator-loop-c g).is_finite l.iter
