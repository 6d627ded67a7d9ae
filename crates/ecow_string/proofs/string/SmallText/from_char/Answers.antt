use Rattle.std.proofs.Common.{ap, ◌∙◌, rules}
use Rattle.std.specs.Str.{chars}
use Rattle.ecow_string.proofs.Texts.{chars_of_one}
use Rattle.ecow_string.proofs.string.SmallText.from_char.Goals as goal

pub returns-clause-text : goal.returns-clause-text
returns-clause-text g c = record {
  chars = c.in_ok-target.ensures.chars ∙ ap chars c.encode_utf8.ensures.value ∙ chars_of_one c.args.c c.ranges.c.0;
  mode = search rules;
  free = search rules;
  capacity = search rules;
}
