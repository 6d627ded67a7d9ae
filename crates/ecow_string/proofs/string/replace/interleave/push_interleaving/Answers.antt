use Rattle.std.proofs.Common.{◌≡◌, ◌+◌, ◌-◌, ◌++◌, [], length, sym, ap, ◌∙◌, arith, append_assoc, append-nil, rules}
use Rattle.std.specs.Str.{chars}
use Rattle.ecow_base.specs.Utf8.{utf8_len}
use Rattle.ecow_base.specs.Replaced.{replacen}
use Rattle.ecow_string.proofs.Steps.{replaced-zero, interleaving_len-step, interleaving-step, interleaving-end, part_fits, utf8_len-chars}
use Rattle.ecow_string.proofs.string.replace.interleave.push_interleaving.Goals as goal

pub push_part-requires : goal.push_part-requires
push_part-requires g c =
    let last = interleaving-end c.loop-left.left (chars c.args.replacement.now) (chars c.loop-left.rest.now) (omega arith) c.in-None.ensures in
    let room =
    part_fits c.loop-left.target.chars c.args.target.now.chars _ _ [] c.args.most
    (length c.args.replacement.now) c.loop-left.invariant.joined c.requires.fits
    (omega (arith, ap utf8_len last, utf8_len-chars c.args.replacement.now c.utf8.replacement)) in
    (search rules, (c.requires.bounded, (room, c.loop-left.invariant.mode)))

pub loop-left-preserved-in-None : goal.loop-left-preserved-in-None
loop-left-preserved-in-None g c =
    let last = interleaving-end c.loop-left.left (chars c.args.replacement.now) (chars c.loop-left.rest.now) (omega arith) c.in-None.ensures in
    record {
      text = c.loop-left.invariant.text;
      joined = ap (λ l. c.push_part.new.target.chars ++ l) (replaced-zero _ _ _ ∙ c.in-None.ensures) ∙ append-nil _ ∙ c.in_ok-push_part-in-None.ensures.chars
          ∙ ap (λ l. c.loop-left.target.chars ++ l) (sym last) ∙ c.loop-left.invariant.joined;
      mode = c.in_ok-push_part-in-None.ensures.mode;
    }

pub push_both-requires : goal.push_both-requires
push_both-requires g c =
    let rest = replacen (c.loop-left.left - 1) [] (chars c.args.replacement.now) (chars c.in-Some.behind.now) in
    let step =
    interleaving_len-step c.loop-left.left c.args.replacement.now c.loop-left.rest.now c.in-Some.first.now c.in-Some.behind.now
    (omega arith) c.utf8.replacement c.in-Some.ensures in
    let room =
    part_fits c.loop-left.target.chars c.args.target.now.chars _ _ rest c.args.most
    (length c.args.replacement.now + length c.in-Some.first.now) c.loop-left.invariant.joined c.requires.fits step in
    (search rules, (c.requires.bounded, (omega (arith, room), c.loop-left.invariant.mode)))

pub loop-left-preserved : goal.loop-left-preserved
loop-left-preserved g c =
    let step =
    interleaving-step c.loop-left.left c.args.replacement.now c.loop-left.rest.now c.in-Some.first.now c.in-Some.behind.now
    (omega arith) c.in-Some.ensures in
    record {
      text = c.in-Some.ensures.behind_utf8;
      joined =
          ap (λ l. l ++ replacen (c.loop-left.left - 1) [] (chars c.args.replacement.now)
          (chars c.in-Some.behind.now)) c.in_ok-push_both-in-Some.ensures.chars
          ∙ simp append_assoc (ap (λ l. c.loop-left.target.chars ++ l) (sym step)) ∙ c.loop-left.invariant.joined;
      mode = c.in_ok-push_both-in-Some.ensures.mode;
    }

pub push_part-requires-2 : goal.push_part-requires-2
push_part-requires-2 g c =
    let none : c.loop-left.left ≡ 0 = omega arith in
    let end = rw none at c.loop-left.invariant.joined in
    let size = ap utf8_len (replaced-zero [] (chars c.args.replacement.now) (chars c.loop-left.rest.now)) in
    let room =
    part_fits c.loop-left.target.chars c.args.target.now.chars _ _ [] c.args.most (length c.loop-left.rest.now) end c.requires.fits
    (omega (arith, size, utf8_len-chars c.loop-left.rest.now c.loop-left.invariant.text)) in
    (search rules, (c.requires.bounded, (room, c.loop-left.invariant.mode)))

pub returns : goal.returns
returns g c =
    let none : c.loop-left.left ≡ 0 = omega arith in
    let end = rw none at c.loop-left.invariant.joined in
    let whole = ap (λ l. c.loop-left.target.chars ++ l) (sym (replaced-zero [] (chars c.args.replacement.now) (chars c.loop-left.rest.now))) ∙ end in
    let last = c.push_part-2.ensures in
    record {
      chars = rw (← whole) last.chars;
      mode = last.mode;
      memory = last.memory;
      free = last.free;
    }
