use Rattle.std.proofs.Common.{◌≡◌, take, rules, sym, ◌∙◌}
use Rattle.ecow_string.proofs.Chars.{FirstChar, first_char}
use Rattle.ecow_string.proofs.string.replace.interleave.split_char.Goals as goal

pub range-requires-clause-end_boundary : goal.range-requires-clause-end_boundary
range-requires-clause-end_boundary c =
    let is : FirstChar c.args.text.now c.in_ok-next.field-0 = first_char _ _ _ c.utf8.text (sym c.chars.ensures.rest ∙ c.in_ok-next.ensures.steps.0) in
    rw c.len_utf8-end.ensures.value is.boundary

pub range_from-requires : goal.range_from-requires
range_from-requires c =
    let is : FirstChar c.args.text.now c.in_ok-next.field-0 = first_char _ _ _ c.utf8.text (sym c.chars.ensures.rest ∙ c.in_ok-next.ensures.steps.0) in
    λ _. rw c.len_utf8-end.ensures.value is.boundary

pub returns : goal.returns
returns c =
    let is : FirstChar c.args.text.now c.in_ok-next.field-0 = first_char _ _ _ c.utf8.text (sym c.chars.ensures.rest ∙ c.in_ok-next.ensures.steps.0) in
    let front : c.range.result.now ≡ take c.len_utf8-end.result c.args.text.now = search rules in
    let back = c.range_from.ensures.value in
    let size = c.len_utf8-end.ensures.value in
    record {
      char = c.in_ok-next.field-0;
      first_chars = rw (front, size) is.first;
      split = rw (back, size) is.split;
      first_utf8 = c.range.utf8;
      behind_utf8 = c.range_from.utf8;
    }
