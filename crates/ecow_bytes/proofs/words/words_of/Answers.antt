use Rattle.std.proofs.Common.{rules, ◌<◌, length, sym, arith}
use Rattle.ecow_bytes.proofs.Digits.{number_past, first_word, second_word, mid_word, small_word, one_word, no_word}
use Rattle.ecow_bytes.proofs.words.words_of.Goals.{in_default-via-in-None-1, in_default-via-in-Some+in-None-1, in_default-2-via-in-None-1, in_default-2-via-in-Some-first_chunk+in-None-1, in_default-3-via-in-None-1, in_default-3-via-in-Some-first_chunk-2+in-None-1}
use Rattle.ecow_bytes.proofs.words.words_of.Goals as goal

pub returns-clause-low : goal.returns-clause-low
returns-clause-low c =
    first_word c.args.bytes.now c.in-Some.first.now c.in-Some-last_chunk.last.now (λ i. (c.type_inv.bytes i).fits)
    c.from_le_bytes-2.result c.in-Some.ensures.cases.enough c.in-Some.ensures.cases.same c.from_le_bytes-2.ensures

pub returns-clause-high : goal.returns-clause-high
returns-clause-high c =
    second_word c.args.bytes.now c.in-Some.first.now c.in-Some-last_chunk.last.now (λ i. (c.type_inv.bytes i).fits)
    c.from_le_bytes.result c.in-Some.ensures.cases.enough c.requires c.in-Some-last_chunk.ensures.cases.1.same c.from_le_bytes.ensures

pub returns-2-clause-low : goal.returns-2-clause-low
returns-2-clause-low c =
    let past : length c.args.bytes.now < 8 = elim c.in_default.branch [ in_default-via-in-None-1 w ↦ let n = c.first_chunk.ensures in search rules | in_default-via-in-Some+in-None-1 w ↦ let n = w.last_chunk.ensures in search rules ] in
    mid_word c.args.bytes.now c.in-Some-first_chunk.first.now c.in-Some-last_chunk-2.last.now (λ i. (c.type_inv.bytes i).fits)
    c.from_le_bytes-4.result c.from_le_bytes-3.result c.in-Some-first_chunk.ensures.cases.enough past c.in-Some-first_chunk.ensures.cases.same
    c.in-Some-last_chunk-2.ensures.cases.1.same c.from_le_bytes-4.ensures c.from_le_bytes-3.ensures

pub returns-2-clause-high : goal.returns-2-clause-high
returns-2-clause-high c =
    let past : length c.args.bytes.now < 8 = elim c.in_default.branch [ in_default-via-in-None-1 w ↦ let n = c.first_chunk.ensures in search rules | in_default-via-in-Some+in-None-1 w ↦ let n = w.last_chunk.ensures in search rules ] in
    sym (number_past 8 c.args.bytes.now (omega arith))

pub returns-3-clause-low : goal.returns-3-clause-low
returns-3-clause-low c =
    let past : length c.args.bytes.now < 4 = elim c.in_default-2.branch [ in_default-2-via-in-None-1 w ↦ let n = c.first_chunk-2.ensures in search rules | in_default-2-via-in-Some-first_chunk+in-None-1 w ↦ let n = w.last_chunk-2.ensures in search rules ] in
    small_word c.args.bytes.now c.in-Some-first_chunk-2.first.now c.in-Some-last_chunk-3.last.now (λ i. (c.type_inv.bytes i).fits)
    c.from_le_bytes-6.result c.from_le_bytes-5.result c.in-Some-first_chunk-2.ensures.cases.enough past c.in-Some-first_chunk-2.ensures.cases.same
    c.in-Some-last_chunk-3.ensures.cases.1.same c.from_le_bytes-6.ensures c.from_le_bytes-5.ensures

pub returns-3-clause-high : goal.returns-3-clause-high
returns-3-clause-high c =
    let past : length c.args.bytes.now < 4 = elim c.in_default-2.branch [ in_default-2-via-in-None-1 w ↦ let n = c.first_chunk-2.ensures in search rules | in_default-2-via-in-Some-first_chunk+in-None-1 w ↦ let n = w.last_chunk-2.ensures in search rules ] in
    sym (number_past 8 c.args.bytes.now (omega arith))

pub returns-in-Some-first-clause-low : goal.returns-in-Some-first-clause-low
returns-in-Some-first-clause-low c =
    let past : length c.args.bytes.now < 2 = elim c.in_default-3.branch [ in_default-3-via-in-None-1 w ↦ let n = c.first_chunk-3.ensures in search rules | in_default-3-via-in-Some-first_chunk-2+in-None-1 w ↦ let n = w.last_chunk-3.ensures in search rules ] in
    one_word c.args.bytes.now c.in-Some-first.byte.now past c.in-Some-first.ensures.value

pub returns-in-Some-first-clause-high : goal.returns-in-Some-first-clause-high
returns-in-Some-first-clause-high c =
    let past : length c.args.bytes.now < 2 = elim c.in_default-3.branch [ in_default-3-via-in-None-1 w ↦ let n = c.first_chunk-3.ensures in search rules | in_default-3-via-in-Some-first_chunk-2+in-None-1 w ↦ let n = w.last_chunk-3.ensures in search rules ] in
    sym (number_past 8 c.args.bytes.now (omega arith))

pub returns-in-None-clause-low : goal.returns-in-None-clause-low
returns-in-None-clause-low c = no_word c.args.bytes.now c.in-None.ensures.value

pub returns-in-None-clause-high : goal.returns-in-None-clause-high
returns-in-None-clause-high c =
    let past : length c.args.bytes.now < 2 = elim c.in_default-3.branch [ in_default-3-via-in-None-1 w ↦ let n = c.first_chunk-3.ensures in search rules | in_default-3-via-in-Some-first_chunk-2+in-None-1 w ↦ let n = w.last_chunk-3.ensures in search rules ] in
    sym (number_past 8 c.args.bytes.now (omega arith))
