use Rattle.std.proofs.Common.{◌≡◌, ◌+◌, length, ap, arith}
use Rattle.std.specs.Str.{chars}
use Rattle.ecow_base.specs.Utf8.{utf8_len}
use Rattle.ecow_base.specs.Replaced.{replacen}
use Rattle.ecow_string.proofs.Steps.{replaced-none, replaced-zero, replaced_len-step, chars_some, utf8_len-chars}
use Rattle.ecow_string.proofs.string.replace.pattern.replacement_len.Goals as goal

pub loop-left-preserved-in-None : goal.loop-left-preserved-in-None
loop-left-preserved-in-None c =
    let last =
    replaced-none c.loop-left.left (chars c.args.pattern.now) (chars c.args.replacement.now)
    (chars c.loop-left.rest.now) (chars_some _ c.utf8.pattern c.requires.some) c.in-None.ensures in
    record {
      text = c.loop-left.invariant.text;
      bounded = c.loop-left.invariant.bounded;
      counted =
          omega (
            arith,
            c.loop-left.invariant.counted,
            ap utf8_len last,
            ap utf8_len (replaced-zero (chars c.args.pattern.now) (chars c.args.replacement.now) (chars c.loop-left.rest.now)),
          );
    }

pub returns-in_err-total-in-Some : goal.returns-in_err-total-in-Some
returns-in_err-total-in-Some c =
    let step =
    replaced_len-step c.loop-left.left c.args.pattern.now c.args.replacement.now c.loop-left.rest.now c.in-Some.before.now
    c.in-Some.behind.now (omega arith) c.utf8.pattern c.requires.some c.utf8.replacement c.in-Some.ensures in
    rw c.from_residual.ensures (λ small. c.in_err-total-in-Some.ensures (omega (arith, step, c.loop-left.invariant.counted)))

pub returns-in_err-total-in-Some-2 : goal.returns-in_err-total-in-Some-2
returns-in_err-total-in-Some-2 c =
    let step =
    replaced_len-step c.loop-left.left c.args.pattern.now c.args.replacement.now c.loop-left.rest.now c.in-Some.before.now
    c.in-Some.behind.now (omega arith) c.utf8.pattern c.requires.some c.utf8.replacement c.in-Some.ensures in
    rw c.from_residual-in_err-total-in-Some-2.ensures
    (λ small. c.in_err-total-in-Some-2.ensures (omega (arith, step, c.in_ok-total-in-Some.ensures.1, c.loop-left.invariant.counted)))

pub loop-left-preserved : goal.loop-left-preserved
loop-left-preserved c =
    let step =
    replaced_len-step c.loop-left.left c.args.pattern.now c.args.replacement.now c.loop-left.rest.now c.in-Some.before.now
    c.in-Some.behind.now (omega arith) c.utf8.pattern c.requires.some c.utf8.replacement c.in-Some.ensures in
    record {
      text = c.in-Some.ensures.behind_utf8;
      bounded = omega (arith, c.in_ok-total-in-Some-2.ensures.0, c.in_ok-total-in-Some-2.ensures.1);
      counted = omega (arith, step, c.in_ok-total-in-Some.ensures.1, c.in_ok-total-in-Some-2.ensures.1, c.loop-left.invariant.counted);
    }

pub returns : goal.returns
returns c =
    let none : c.loop-left.left ≡ 0 = omega arith in
    let end = rw none at c.loop-left.invariant.counted in
    let whole : c.loop-left.total + length c.loop-left.rest.now ≡ utf8_len
    (replacen c.args.count (chars c.args.pattern.now) (chars c.args.replacement.now) (chars c.args.text.now)) =
    omega (
      arith,
      end,
      ap utf8_len (replaced-zero (chars c.args.pattern.now) (chars c.args.replacement.now) (chars c.loop-left.rest.now)),
      utf8_len-chars c.loop-left.rest.now c.loop-left.invariant.text,
    ) in
    rw whole at c.total_with-2.ensures
