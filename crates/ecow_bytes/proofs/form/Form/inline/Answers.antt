use Rattle.std.proofs.Common.{rules, ◌≡◌, ◌<◌, ◌^◌, ◌+◌, ◌*◌, length, drop, true, sym, ap, ◌∙◌, arith}
use Rattle.std.proofs.lemmas.List.{length-drop}
use Rattle.ecow_base.specs.Plain.{plain_bytes}
use Rattle.ecow_bytes.specs.Digits.{digits}
use Rattle.ecow_bytes.proofs.Digits.{whole, number_below, are_dropped}
use Rattle.ecow_bytes.proofs.form.Form.inline.Goals as goal

pub of_words-requires : goal.of_words-requires
of_words-requires g c =
    let xs = c.args.bytes.now in
    let cells : g.row.N ≡ 15 = omega (arith, c.if-this-eq15.true) in
    let most : length xs < 16 = omega (arith, c.if-bytes.false, cells) in
    let below = number_below 7 (drop 8 xs) (let l = length-drop 8 xs in omega arith) (are_dropped 8 xs (λ i. (c.type_inv.bytes i).fits)) in
    (search rules, (cells, omega (arith, c.words_of-low.ensures.high, below)))

pub returns-then-bytes-2-clause-bytes : goal.returns-then-bytes-2-clause-bytes
returns-then-bytes-2-clause-bytes g c =
    let xs = c.args.bytes.now in
    let cells : g.row.N ≡ 15 = omega (arith, c.if-this-eq15.true) in
    let full : 15 ≡ length xs = omega (arith, c.if-bytes-2.true, cells) in
    let v = c.words_of-low.result.0 + 2 ^ 64 * c.words_of-low.result.1 in
    ap (λ bytes. plain_bytes bytes true) (ap (λ r. r.bytes) c.copy.ensures ∙ c.of_words.ensures.bytes ∙ ap (λ k. digits k v) full
    ∙ whole xs c.words_of-low.result.0 c.words_of-low.result.1 (λ i. (c.type_inv.bytes i).fits) c.words_of-low.ensures.low c.words_of-low.ensures.high)

pub of_words-requires-then-this-eq15 : goal.of_words-requires-then-this-eq15
of_words-requires-then-this-eq15 g c =
    let xs = c.args.bytes.now in
    let cells : g.row.N ≡ 15 = omega (arith, c.if-this-eq15.true) in
    let few : length xs < 15 = omega (arith, c.if-bytes-2.false, c.if-bytes.false, cells) in
    let below = number_below 6 (drop 8 xs) (let l = length-drop 8 xs in omega arith) (are_dropped 8 xs (λ i. (c.type_inv.bytes i).fits)) in
    (search rules, (cells, (few, omega (arith, c.words_of-low.ensures.high, below))))

pub returns-then-this-eq15-clause-bytes : goal.returns-then-this-eq15-clause-bytes
returns-then-this-eq15-clause-bytes g c =
    let xs = c.args.bytes.now in
    ap (λ bytes. plain_bytes bytes true) (c.of_words-then-this-eq15.ensures
    ∙ whole xs c.words_of-low.result.0 c.words_of-low.result.1 (λ i. (c.type_inv.bytes i).fits) c.words_of-low.ensures.low c.words_of-low.ensures.high)
