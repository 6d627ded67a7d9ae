use Rattle.std.proofs.Common.{◌≡◌}
use Rattle.ecow_string.specs.Appends.{AppendsBy}
use Rattle.ecow_base.specs.Inline.{inline_after}
use Rattle.ecow_base.specs.Utf8.{utf8_len}
use Rattle.ecow_string.proofs.string.SmallText.extend_from_texts.Given as goal

abbrev pub invariant-loop-text : goal.invariant-loop-text
invariant-loop-text g l =
    AppendsBy g.T.Joined.text_of l.fn.self.chars l.yielded l.self.chars
    × (l.self.inline ≡ inline_after g.row.N l.fn.self.inline (utf8_len l.self.chars) 0)
    × (goal.iterator-loop-text g).can_next l.iter × (goal.iterator-loop-text g).is_finite l.iter
