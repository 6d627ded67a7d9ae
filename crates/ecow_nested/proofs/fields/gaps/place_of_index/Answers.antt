use Rattle.std.proofs.Common.{arith, ◌≡◌, ◌<◌, ◌+◌, ◌-◌, ◌≤◌, ◌/◌, ℕ, List, Some, ap, sym, length, slice_get, ◌∙◌}
use Rattle.std.proofs.lemmas.List.{length-map}
use Rattle.std.proofs.lemmas.Option.{slice_get_within}
use Rattle.ecow_nested.specs.Index.{IsPlaceOf, fields_in, gaps_from, past, slots_in}
use Rattle.ecow_nested.specs.declared.fields.Entry.{Entry}
use Rattle.ecow_nested.proofs.Gaps.{before, gap_high, index_before, index_behind, index_placed, past_high, past_low}
use Rattle.ecow_nested.proofs.fields.gaps.place_of_index.Goals as goal

middle_low : (low high : ℕ) → low < high → low + (high - low) / 2 < high
middle_low low high some = omega (arith, some)

pub loop-low-init : goal.loop-low-init
loop-low-init g c =
    let gaps = c.gaps_of-gaps.result.now in
    (omega (arith, past_low gaps c.args.index), past_high gaps c.args.index, omega arith)

pub overflow_sub-gaps : goal.overflow_sub-gaps
overflow_sub-gaps g c =
    let gaps = c.gaps_of-gaps.result.now in
    let inv = c.loop-low.invariant in
    let m = c.loop-low.low + (c.loop-low.high - c.loop-low.low) / 2 in
    gap_high gaps (slots_in c.args.entries.now) (c.gaps_of-gaps.ensures ∙ c.requires.noted) m
    (omega (arith, inv.2, middle_low c.loop-low.low c.loop-low.high c.loop-low-test.true))

pub loop-low-preserved-then-gaps-middle : goal.loop-low-preserved-then-gaps-middle
loop-low-preserved-then-gaps-middle g c =
    let gaps = c.gaps_of-gaps.result.now in
    let inv = c.loop-low.invariant in
    let m = c.loop-low.low + (c.loop-low.high - c.loop-low.low) / 2 in
    let within : m < length gaps = omega (arith, inv.2, middle_low c.loop-low.low c.loop-low.high c.loop-low-test.true) in (
      index_before gaps (slots_in c.args.entries.now) (c.gaps_of-gaps.ensures ∙ c.requires.noted) c.args.index m within c.if-gaps-middle.true,
      inv.1,
      inv.2,
    )

pub loop-low-preserved : goal.loop-low-preserved
loop-low-preserved g c =
    let gaps = c.gaps_of-gaps.result.now in
    let inv = c.loop-low.invariant in
    let m = c.loop-low.low + (c.loop-low.high - c.loop-low.low) / 2 in
    let within : m < length gaps = omega (arith, inv.2, middle_low c.loop-low.low c.loop-low.high c.loop-low-test.true) in (
      inv.0,
      index_behind gaps (slots_in c.args.entries.now) (c.gaps_of-gaps.ensures ∙ c.requires.noted) c.args.index m within c.if-gaps-middle.false,
      omega (arith, within),
    )

-- the place that the search comes to
module _ {T : Type 0} (es : List (Entry T)) (gaps : List ℕ) (i low high : ℕ)
    (noted : gaps ≡ gaps_from 0 (slots_in es)) (within : i < length (fields_in es))
    (least : i + low ≤ past gaps i) (most : past gaps i ≤ i + high) (over : high ≤ low) where
  is : past gaps i ≡ i + low
  is = omega (arith, least, most, over)

  pub its_place : IsPlaceOf es i (i + low)
  its_place =
      let p = index_placed gaps (slots_in es) noted i within in
      (p.0, ap (slice_get (slots_in es)) (sym is) ∙ p.1, ap (before (slots_in es)) (sym is) ∙ p.2)

  pub inside : i + low < length es
  inside =
      let p = its_place in
      omega (arith, slice_get_within (slots_in es) (i + low) (Some p.0) p.1, length-map es (λ (e : Entry T). e.field))

pub overflow_add-result : goal.overflow_add-result
overflow_add-result g c =
    let inv = c.loop-low.invariant in
    let low = inside c.args.entries.now c.gaps_of-gaps.result.now c.args.index c.loop-low.low c.loop-low.high (c.gaps_of-gaps.ensures ∙ c.requires.noted)
    c.requires.within inv.0 inv.1 c.loop-low-test.false in
    omega (arith, low, c.count_of-count.ensures, c.count_of-count.type_inv)

pub returns-clause-place : goal.returns-clause-place
returns-clause-place g c =
    let inv = c.loop-low.invariant in
    its_place c.args.entries.now c.gaps_of-gaps.result.now c.args.index c.loop-low.low c.loop-low.high (c.gaps_of-gaps.ensures ∙ c.requires.noted)
    c.requires.within inv.0 inv.1 c.loop-low-test.false

pub returns-clause-within : goal.returns-clause-within
returns-clause-within g c =
    let inv = c.loop-low.invariant in
    inside c.args.entries.now c.gaps_of-gaps.result.now c.args.index c.loop-low.low c.loop-low.high (c.gaps_of-gaps.ensures ∙ c.requires.noted)
    c.requires.within inv.0 inv.1 c.loop-low-test.false
