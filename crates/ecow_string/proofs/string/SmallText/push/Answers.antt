use Rattle.std.proofs.Common.{◌++◌, ap, ◌∙◌}
use Rattle.ecow_string.proofs.Texts.{chars_of_one}
use Rattle.ecow_string.proofs.string.SmallText.push.Goals as goal

pub returns-clause-chars : goal.returns-clause-chars
returns-clause-chars g c =
    c.in_ok-push_str.ensures.chars
    ∙ ap (λ l. c.args.self.now.chars ++ l) (rw c.encode_utf8.ensures.value (chars_of_one c.args.c c.ranges.c.0))
