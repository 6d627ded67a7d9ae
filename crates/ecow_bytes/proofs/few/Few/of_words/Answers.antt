use Rattle.std.proofs.Common.{rules, ◌≡◌, ◌<◌, ◌≤◌, ◌^◌, ◌-◌, ◌*◌, length, take, drop, ℕ, ◌+◌, ◌/◌, ◌%◌, List, get_or, refl, sym, ap, ◌∙◌, arith}
use Rattle.ecow_bytes.specs.Digits.{digits}
use Rattle.ecow_bytes.proofs.Digits.{few_counted, few_seen, length-digits}
use Rattle.ecow_bytes.proofs.few.Few.of_words.Goals as goal

pub invariant_of-result : goal.invariant_of-result
invariant_of-result g c =
    let low = c.args.low in
    let high = c.args.high in
    let len = c.args.len in
    let w = low + 2 ^ 64 * (high + len * 2 ^ 48 % 2 ^ 64) in
    let e : c.copy.result.bytes ≡ digits 15 w = ap (λ r. r.bytes) c.copy.ensures ∙ c.of_words.ensures.bytes in
    let count = few_counted g.row.N low high len w c.copy.result.bytes c.requires.cells (omega arith) c.requires.fits c.requires.len (omega arith) e in
    let long = ap length e ∙ length-digits 15 w in
    (omega (arith, c.requires.cells, count), long ∙ sym c.requires.cells)

pub returns : goal.returns
returns g c =
    let low = c.args.low in
    let high = c.args.high in
    let len = c.args.len in
    let w = low + 2 ^ 64 * (high + len * 2 ^ 48 % 2 ^ 64) in
    let e : c.copy.result.bytes ≡ digits 15 w = ap (λ r. r.bytes) c.copy.ensures ∙ c.of_words.ensures.bytes in
    few_seen g.row.N low high len w c.copy.result.bytes c.requires.cells (omega arith) c.requires.fits c.requires.len (omega arith) e
