use Rattle.std.proofs.Common.{◌≡◌, ◌∙◌, ap, sym, drop}
use Rattle.std.specs.Prelude.{slice_get}
use Rattle.std.specs.Str.{chars}
use Rattle.std.proofs.lemmas.Str.{chars_past_char}
use Rattle.ecow_base.specs.Utf8.{chars_before}
use Rattle.ecow_base.proofs.Boundaries.{passes_boundary}
use Rattle.ecow_string.proofs.Texts.{boundary_of_front}
use Rattle.ecow_c.proofs.Tails.{chars-drop, item_at}
use Rattle.ecow_c.proofs.text.char_at.Goals as goal

pub range_from-requires : goal.range_from-requires
range_from-requires c =
    λ _. rw c.as_str.ensures.bytes (boundary_of_front _ c.args.index c.as_str.ensures.valid (passes_boundary _ c.args.index c.requires.boundary))

pub returns : goal.returns
returns c =
    let cs = c.args.text.now.chars in
    let tail : chars c.range_from.result.now ≡ drop (chars_before cs c.args.index) cs =
    ap chars (c.range_from.ensures.value ∙ ap (drop c.args.index) c.as_str.ensures.bytes)
    ∙ chars-drop cs c.args.index c.as_str.ensures.valid c.requires.boundary in
    let read = (rw c.unwrap.ensures at c.next.ensures.steps).0 in
    let first = sym tail ∙ chars_past_char c.range_from.result.now _ c.unwrap.result c.range_from.utf8 (sym c.chars.ensures.rest ∙ read) in
    item_at cs (chars_before cs c.args.index) ∙ ap (λ l. slice_get l 0) first
