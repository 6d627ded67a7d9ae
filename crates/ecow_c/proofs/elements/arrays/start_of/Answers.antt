use Rattle.std.proofs.Common.{rules, arith, ◌≡◌, ◌*◌}
use Rattle.ecow_c.proofs.Items.{below_end, item_fits}
use Rattle.ecow_c.proofs.elements.arrays.start_of.Goals as goal

pub returns-in-Some : goal.returns-in-Some
returns-in-Some c =
    let start : c.in-Some.start ≡ c.args.index * c.args.size = search rules in
    let below = below_end c.args.size c.args.index c.args.bytes.now c.requires (omega (arith, start, c.if-start-bytes.true)) in
    (start, below, omega (arith, start, item_fits c.args.size c.args.index c.args.bytes.now c.requires below))
