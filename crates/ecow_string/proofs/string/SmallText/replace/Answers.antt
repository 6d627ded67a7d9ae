use Rattle.std.proofs.Common.{◌≡◌, ◌+◌, length, arith}
use Rattle.std.specs.Str.{chars}
use Rattle.std.proofs.lemmas.Str.{length-le-encodes}
use Rattle.ecow_base.specs.Replaced.{replacen, replace_all}
use Rattle.ecow_string.proofs.Enough.{enough}
use Rattle.ecow_string.proofs.string.SmallText.replace.Goals as goal

-- the limit is past what there is
pub returns : goal.returns
returns g c =
    let cs = c.args.self.now.chars in
    let all : replacen (c.len.result + 1) (chars c.args.pattern.now) (chars c.args.replacement.now) cs
    ≡ replace_all (chars c.args.pattern.now) (chars c.args.replacement.now) cs =
    enough (c.len.result + 1) (length cs + 1) _ _ cs (omega (arith, c.len.ensures.len, length-le-encodes cs)) (omega arith) in
    rw (← all) c.replacen.ensures
