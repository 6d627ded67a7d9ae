use Rattle.std.proofs.Common.{rules, ◌≤◌, length}
use Rattle.ecow_bytes.proofs.Ascii.{by_both, by_first}
use Rattle.ecow_bytes.proofs.words.are_few_ascii.Goals as goal

pub returns-then-low-eq0 : goal.returns-then-low-eq0
returns-then-low-eq0 c =
    let words = c.words_of-low.result in
    let most : length c.args.bytes.now ≤ 15 = let no = c.if-bytes-gt15.false in search rules in
    by_both c.args.bytes.now (λ i. (c.type_inv.bytes i).fits) most words.0 words.1
    c.words_of-low.ensures.low c.words_of-low.ensures.high c.if-low-eq0.true

pub returns-else-low-eq0 : goal.returns-else-low-eq0
returns-else-low-eq0 c =
    let words = c.words_of-low.result in
    let most : length c.args.bytes.now ≤ 15 = let no = c.if-bytes-gt15.false in search rules in
    by_first c.args.bytes.now (λ i. (c.type_inv.bytes i).fits) most words.0 words.1
    c.words_of-low.ensures.low c.words_of-low.ensures.high c.if-low-eq0.false
