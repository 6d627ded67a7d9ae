use Rattle.std.proofs.Common.{◌++◌, ap, ◌∙◌}
use Rattle.std.specs.Str.{chars, encode_utf8_all}
use Rattle.std.proofs.lemmas.Str.{encodes-append, encodes-chars}
use Rattle.ecow_string.proofs.display.SmallTextWrite.write_str.Goals as goal

pub returns-in-Ok-clause-ok : goal.returns-in-Ok-clause-ok
returns-in-Ok-clause-ok g c = λ _.
    rw c.in-Ok.ensures.chars (encodes-append c.args.self.now.chars (chars c.args.text.now)
    ∙ ap (λ l. encode_utf8_all c.args.self.now.chars ++ l) (encodes-chars c.args.text.now c.utf8.text))
