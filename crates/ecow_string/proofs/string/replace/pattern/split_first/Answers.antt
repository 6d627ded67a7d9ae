use Rattle.std.proofs.Common.{◌≡◌, ◌+◌, Some, None, length, take, drop, rules}
use Rattle.ecow_string.proofs.Occurrences.{Found, finds_text}
use Rattle.ecow_string.proofs.string.replace.pattern.split_first.Goals as goal

pub returns-in_err-start : goal.returns-in_err-start
returns-in_err-start c =
    rw c.from_residual.ensures (finds_text c.args.text.now c.args.pattern.now c.utf8.text c.utf8.pattern c.requires.some None
    (rw (c.as_bytes.ensures.value, c.requires.finder) at c.in_err-start.ensures))

pub range-requires-clause-end_boundary : goal.range-requires-clause-end_boundary
range-requires-clause-end_boundary c =
    let is : Found c.args.text.now c.args.pattern.now c.in_ok-start.start =
    finds_text c.args.text.now c.args.pattern.now c.utf8.text c.utf8.pattern c.requires.some (Some c.in_ok-start.start)
    (rw (c.as_bytes.ensures.value, c.requires.finder) at c.in_ok-start.ensures) in
    is.start

pub range_from-requires : goal.range_from-requires
range_from-requires c =
    let is : Found c.args.text.now c.args.pattern.now c.in_ok-start.start =
    finds_text c.args.text.now c.args.pattern.now c.utf8.text c.utf8.pattern c.requires.some (Some c.in_ok-start.start)
    (rw (c.as_bytes.ensures.value, c.requires.finder) at c.in_ok-start.ensures) in
    λ _. is.end

pub returns : goal.returns
returns c =
    let is : Found c.args.text.now c.args.pattern.now c.in_ok-start.start =
    finds_text c.args.text.now c.args.pattern.now c.utf8.text c.utf8.pattern c.requires.some (Some c.in_ok-start.start)
    (rw (c.as_bytes.ensures.value, c.requires.finder) at c.in_ok-start.ensures) in
    let front : c.range.result.now ≡ take c.in_ok-start.start c.args.text.now = search rules in
    let back : c.range_from.result.now ≡ drop (c.in_ok-start.start + length c.args.pattern.now) c.args.text.now = c.range_from.ensures.value in
    record {
      split = rw (front, back) is.split;
      before_utf8 = c.range.utf8;
      behind_utf8 = c.range_from.utf8;
    }
