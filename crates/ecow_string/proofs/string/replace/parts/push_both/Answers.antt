use Rattle.std.proofs.Common.{arith, ap, rules}
use Rattle.std.specs.Str.{chars}
use Rattle.ecow_base.specs.Utf8.{utf8_len}
use Rattle.ecow_string.proofs.Occurrences.{encoded_len}
use Rattle.ecow_string.proofs.Steps.{utf8_len-chars}
use Rattle.ecow_string.proofs.string.replace.parts.push_both.Goals as goal

pub push_part-requires-2 : goal.push_part-requires-2
push_part-requires-2 g c = (
  search rules,
  (
    c.requires.bounded,
    (
      omega (
        arith,
        c.requires.fits,
        ap utf8_len c.in_ok-push_part.ensures.chars,
        encoded_len c.args.target.now.chars (chars c.args.first.now),
        utf8_len-chars c.args.first.now c.utf8.first,
      ),
      c.in_ok-push_part.ensures.mode,
    ),
  ),
)
