use Rattle.std.proofs.Common.{ap, ◌∙◌}
use Rattle.std.specs.List.{insert_slice}
use Rattle.std.specs.Str.{chars}
use Rattle.ecow_base.specs.Utf8.{chars_before}
use Rattle.ecow_string.proofs.Texts.{chars_of_one, insert_one}
use Rattle.ecow_string.proofs.string.SmallText.insert.Goals as goal

pub returns-clause-chars : goal.returns-clause-chars
returns-clause-chars g c =
    let cs = c.args.self.now.chars in
    let place = chars_before cs c.args.index in
    c.in_ok-insert_str.ensures.chars
    ∙ ap (λ l. insert_slice cs place l) (ap chars c.encode_utf8.ensures.value ∙ chars_of_one c.args.c c.ranges.c.0)
    ∙ insert_one cs place c.args.c
