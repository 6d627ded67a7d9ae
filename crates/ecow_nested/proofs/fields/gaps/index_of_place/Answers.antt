use Rattle.std.proofs.Common.{arith, ◌<◌, ◌+◌, ◌-◌, ◌/◌, ℕ, ap, length, ◌∙◌}
use Rattle.std.proofs.lemmas.List.{length-map}
use Rattle.ecow_nested.specs.Index.{slots_in}
use Rattle.ecow_nested.proofs.Gaps.{before_high, before_low, place_before, place_behind}
use Rattle.ecow_nested.proofs.fields.gaps.index_of_place.Goals as goal

middle_low : (low high : ℕ) → low < high → low + (high - low) / 2 < high
middle_low low high some = omega (arith, some)

pub loop-low-init : goal.loop-low-init
loop-low-init g c =
    let os = slots_in c.args.entries.now in (
      omega (arith, before_low os c.args.place),
      omega (
        arith,
        c.requires.within,
        ap length (c.gaps_of-gaps.ensures ∙ c.requires.noted),
        before_high 0 os c.args.place (omega (arith, c.requires.within, length-map c.args.entries.now (λ e. e.field))),
      ),
      omega arith,
    )

pub loop-low-preserved-then-gaps-middle : goal.loop-low-preserved-then-gaps-middle
loop-low-preserved-then-gaps-middle g c =
    let gaps = c.gaps_of-gaps.result.now in
    let inv = c.loop-low.invariant in
    let m = c.loop-low.low + (c.loop-low.high - c.loop-low.low) / 2 in
    let within : m < length gaps = omega (arith, inv.2, middle_low c.loop-low.low c.loop-low.high c.loop-low-test.true) in (
      place_before gaps (slots_in c.args.entries.now) (c.gaps_of-gaps.ensures ∙ c.requires.noted) c.args.place m within c.if-gaps-middle.true,
      inv.1,
      inv.2,
    )

pub loop-low-preserved : goal.loop-low-preserved
loop-low-preserved g c =
    let gaps = c.gaps_of-gaps.result.now in
    let inv = c.loop-low.invariant in
    let m = c.loop-low.low + (c.loop-low.high - c.loop-low.low) / 2 in
    let within : m < length gaps = omega (arith, inv.2, middle_low c.loop-low.low c.loop-low.high c.loop-low-test.true) in (
      inv.0,
      place_behind gaps (slots_in c.args.entries.now) (c.gaps_of-gaps.ensures ∙ c.requires.noted) c.args.place m within c.if-gaps-middle.false,
      omega (arith, within),
    )
