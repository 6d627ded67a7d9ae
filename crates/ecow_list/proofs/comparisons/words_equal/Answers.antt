use Rattle.std.proofs.Common.{arith, sym, ◌∙◌}
use Rattle.ecow_list.proofs.Equals.{rests_decide, fronts_decide}
use Rattle.ecow_list.proofs.comparisons.words_equal.Goals as goal

pub returns-then-not-groups_equal : goal.returns-then-not-groups_equal
returns-then-not-groups_equal g c =
    let one = c.in-Some.ensures.cases in let other = c.in-Some-split_first_chunk.ensures.cases in
    sym (c.loop-group.invariant ∙ fronts_decide g.T.PartialEq.eq 16 c.loop-group.ours.now c.loop-group.theirs.now
    (omega (arith, one.2)) (omega (arith, other.2)) c.in-Some.group.now c.in-Some-split_first_chunk.other.now one.0 other.0
    (sym c.groups_equal.ensures ∙ c.if-not-groups_equal.true))

pub loop-group-preserved : goal.loop-group-preserved
loop-group-preserved g c =
    let one = c.in-Some.ensures.cases in let other = c.in-Some-split_first_chunk.ensures.cases in
    c.loop-group.invariant ∙ rests_decide g.T.PartialEq.eq 16 c.loop-group.ours.now c.loop-group.theirs.now
    (omega (arith, one.2)) (omega (arith, other.2)) c.in-Some.group.now c.in-Some-split_first_chunk.other.now
    one.0 other.0 c.in-Some.rest.now c.in-Some-split_first_chunk.others.now one.1 other.1
    (sym c.groups_equal.ensures ∙ c.if-not-groups_equal.false)

pub loop-group-smaller : goal.loop-group-smaller
loop-group-smaller g c = let one = c.in-Some.ensures.cases in omega (arith, one.2)

pub returns : goal.returns
returns g c = c.eq.ensures ∙ sym c.loop-group.invariant
