use Rattle.std.proofs.Common.{◌+◌, ◌-◌, arith}
use borrow.Author.Clash.{clash}
use Rattle.ecow_bytes.proofs.Groups.{joined, longer_twice, part_of_front}
use Rattle.ecow_bytes.proofs.compare.same_front.Goals as goal

pub returns-then-not-both_same-clause-differ : goal.returns-then-not-both_same-clause-differ
returns-then-not-both_same-clause-differ c more front =
    let at = c.loop-at.at in
    let xs = c.args.left.now in
    let ys = c.args.right.now in
    let one = part_of_front at 64 c.args.len xs ys (omega (arith, c.loop-at-test.true)) c.requires.in_bounds.0 c.requires.in_bounds.1 front in
    let other = part_of_front (at + 64) 64 c.args.len xs ys (omega (arith, c.loop-at-test.true)) c.requires.in_bounds.0 c.requires.in_bounds.1 front in
    clash c.both_same.result (c.both_same.ensures.1 (one, other)) c.if-not-both_same.true

pub loop-at-preserved : goal.loop-at-preserved
loop-at-preserved c =
    let same = c.both_same.ensures.0 c.if-not-both_same.false in
    (omega (arith, c.loop-at-test.true), longer_twice c.loop-at.at 64 c.args.left.now c.args.right.now c.loop-at.invariant.1 same.0 same.1)

pub returns-then-both_same-clause-same : goal.returns-then-both_same-clause-same
returns-then-both_same-clause-same c =
    let same = c.both_same-2.ensures.0 c.if-both_same.true in
    joined c.loop-at.at 64 c.args.len c.min.result c.args.left.now c.args.right.now c.min.ensures
    (omega (arith, c.loop-at.invariant.0)) c.requires.many (omega (arith, c.loop-at-test.false)) c.requires.in_bounds.0 c.requires.in_bounds.1
    c.loop-at.invariant.1 same.0 same.1

pub returns-else-both_same-clause-differ : goal.returns-else-both_same-clause-differ
returns-else-both_same-clause-differ c more front =
    let len = c.args.len in
    let xs = c.args.left.now in
    let ys = c.args.right.now in
    let one = part_of_front c.min.result 64 len xs ys (omega (arith, c.min.ensures, c.requires.many)) c.requires.in_bounds.0 c.requires.in_bounds.1 front in
    let other = part_of_front (len - 64) 64 len xs ys (omega (arith, c.requires.many)) c.requires.in_bounds.0 c.requires.in_bounds.1 front in
    clash c.both_same-2.result (c.both_same-2.ensures.1 (one, other)) c.if-both_same.false
