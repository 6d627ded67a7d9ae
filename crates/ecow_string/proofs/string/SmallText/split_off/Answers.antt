use Rattle.std.proofs.Common.{sym, ap, ◌∙◌, drop, length}
use Rattle.std.specs.Str.{chars}
use Rattle.std.proofs.lemmas.Str.{encodes-chars}
use Rattle.ecow_base.proofs.Boundaries.{passes_boundary}
use Rattle.ecow_base.specs.Inline.{inline_for}
use Rattle.ecow_base.specs.Utf8.{utf8_len, chars_before}
use Rattle.ecow_string.proofs.Texts.{AreUtf8-from, boundary_of_front, chars-drop}
use Rattle.ecow_string.proofs.string.SmallText.split_off.Goals as goal

pub range_from-requires : goal.range_from-requires
range_from-requires g c =
    λ _. rw c.as_str.ensures.bytes (boundary_of_front _ c.args.at c.as_str.ensures.valid (passes_boundary _ c.args.at c.requires))

pub returns-clause-goes : goal.returns-clause-goes
returns-clause-goes g c =
    c.in_ok-rest.ensures.chars ∙ ap chars c.range_from.ensures.value
    ∙ chars-drop _ c.args.at (AreUtf8-from _ c.as_str.utf8) (rw c.as_str.ensures.chars c.requires)
    ∙ ap (λ cs. drop (chars_before cs c.args.at) cs) c.as_str.ensures.chars

pub returns-clause-mode_of_rest : goal.returns-clause-mode_of_rest
returns-clause-mode_of_rest g c =
    c.in_ok-rest.ensures.mode
    ∙ ap (inline_for g.row.N) (ap length (sym (encodes-chars _ c.range_from.utf8)) ∙ ap utf8_len (sym c.in_ok-rest.ensures.chars))
