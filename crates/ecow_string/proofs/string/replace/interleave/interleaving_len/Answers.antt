use Rattle.std.proofs.Common.{◌≡◌, ◌+◌, length, min, [], arith, rules}
use Rattle.std.specs.Str.{chars}
use Rattle.ecow_base.specs.Utf8.{utf8_len}
use Rattle.ecow_base.specs.Replaced.{replacen}
use Rattle.std.proofs.lemmas.Str.{chars_from_encodes}
use Rattle.ecow_string.proofs.Steps.{interleaving_total}
use Rattle.ecow_string.proofs.string.replace.interleave.interleaving_len.Goals as goal

pub returns-in_err-added : goal.returns-in_err-added
returns-in_err-added c =
    let all : c.count.result ≡ length (chars c.args.text.now) = search (rules, chars_from_encodes) in
    let places : c.min-places.result ≡ min c.args.count (length (chars c.args.text.now) + 1) = search rules in
    let total = interleaving_total c.args.count c.min-places.result c.args.replacement.now c.args.text.now c.utf8.replacement c.utf8.text places in
    rw c.from_residual.ensures (λ small. c.in_err-added.ensures (omega (arith, total)))

pub returns : goal.returns
returns c =
    let all : c.count.result ≡ length (chars c.args.text.now) = search (rules, chars_from_encodes) in
    let places : c.min-places.result ≡ min c.args.count (length (chars c.args.text.now) + 1) = search rules in
    let total = interleaving_total c.args.count c.min-places.result c.args.replacement.now c.args.text.now c.utf8.replacement c.utf8.text places in
    let product = c.in_ok-added.ensures.1 in
    let same : length c.args.text.now + c.in_ok-added.added ≡ utf8_len
    (replacen c.args.count [] (chars c.args.replacement.now) (chars c.args.text.now)) = omega (arith, total, product) in
    rw same at c.total_with.ensures
