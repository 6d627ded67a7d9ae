use Rattle.std.proofs.Common.{arith, ◌≡◌, ℕ, List, Some, length, drop, slice_get, slice_set, refl, sym, ap, ◌∙◌}
use Rattle.std.proofs.lemmas.Option.{slice_get-get_or}
use Rattle.std.proofs.Math.Seq.{take_at}
use lib.ListN.{get_or, length-set}
use Rattle.std.specs.List.{refill}
use Rattle.ecow_block.proofs.block.Block.update.Goals as goal

-- a list written at one place keeps its length, so nothing of the old one is put behind it
written : {X : Type 0} (items : List X) (index : ℕ) (y : X) → refill (length items) items (slice_set items index y) ≡ slice_set items index y
written items index y = take_at (slice_set items index y) (drop (length (slice_set items index y)) items) (length items) (length-set items index y)

pub returns-clause-updates : goal.returns-clause-updates
returns-clause-updates g c =
    let items = c.args.self.now.items in
    let lent = c.as_mut_slice.result.now in
    let x = get_or lent c.args.index c.index-as_mut_slice-index.result in
    let y = c.f.new.arg2 in
    let same : lent ≡ items = c.as_mut_slice.ensures.value in
    let found : slice_get items c.args.index ≡ Some x =
    ap (λ l. slice_get l c.args.index) (sym same)
    ∙ slice_get-get_or lent c.args.index c.index-as_mut_slice-index.result (omega (arith, ap length same, c.requires.in_bounds)) in (
      x,
      y,
      found,
      record { shown = _; shows = refl; left = _; met = c.f.ensures; leaves = refl },
      ap (λ l. refill (length items) items (slice_set l c.args.index y)) same ∙ written items c.args.index y,
    )
