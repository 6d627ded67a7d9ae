use Rattle.std.proofs.Common.{◌≡◌, ℕ, true, false, List, [], map, sym, subst, ◌∙◌}
use Rattle.std.proofs.lemmas.Iterator.{YieldsList-from_chars}
use Rattle.std.proofs.lemmas.List.{map-id}
use Rattle.std.proofs.lemmas.Iterator.Consumers.{YieldsList-end}
use Rattle.std.specs.Str.{chars}
use Rattle.ecow_uses.proofs.Pieces.{SoFar, closes, ends, ends_open, longer_name, longer_text, opens}
use Rattle.ecow_uses.proofs.template.parse.Goals as goal

pub loop-c-preserved-then-c-eq125 : goal.loop-c-preserved-then-c-eq125
loop-c-preserved-then-c-eq125 c =
    closes c.loop-c.pieces c.push.new.self c.loop-c.part c.loop-c.yielded c.new-part-then-c-eq125.result.chars
    c.in-Some.c c.if-c-eq125.true c.new-part-then-c-eq125.ensures.chars
    (c.in_ok-push.ensures.change.ok (λ x y same. same)) (rw c.if-in_hole.true at c.loop-c.invariant)

pub loop-c-preserved-in-Continue-branch-2 : goal.loop-c-preserved-in-Continue-branch-2
loop-c-preserved-in-Continue-branch-2 c =
    rw c.if-in_hole.true (longer_name c.loop-c.pieces c.loop-c.pieces c.loop-c.part c.loop-c.yielded
    c.push-else-c-eq125.new.self.chars c.in-Some.c c.if-c-eq125.false c.in_ok-push-2.ensures.chars (rw c.if-in_hole.true at c.loop-c.invariant))

pub loop-c-preserved-then-c-eq123 : goal.loop-c-preserved-then-c-eq123
loop-c-preserved-then-c-eq123 c =
    opens c.loop-c.pieces c.push-then-c-eq123.new.self c.loop-c.part c.loop-c.yielded c.new-part-then-c-eq123.result.chars
    c.in-Some.c c.if-c-eq123.true c.new-part-then-c-eq123.ensures.chars
    (c.in_ok-push-3.ensures.change.ok (λ x y same. same)) (rw c.if-in_hole.false at c.loop-c.invariant)

pub loop-c-preserved : goal.loop-c-preserved
loop-c-preserved c =
    rw c.if-in_hole.false (longer_text c.loop-c.pieces c.loop-c.pieces c.loop-c.part c.loop-c.yielded
    c.push-else-c-eq123.new.self.chars c.in-Some.c c.if-c-eq123.false c.in_ok-push-4.ensures.chars
    (rw c.if-in_hole.false at c.loop-c.invariant))

-- all characters of the template were read
all_read : (read cs : List ℕ) → map (λ x. x) read ≡ cs → read ≡ cs
all_read read cs same = sym (map-id read) ∙ same

pub returns-then-in_hole-2-clause-unclosed : goal.returns-then-in_hole-2-clause-unclosed
returns-then-in_hole-2-clause-unclosed c =
    let t = YieldsList-end (YieldsList-from_chars c.args.template.now c.utf8.template cc)
    c.loop-c.yielded _ c.loop-c.yielded_by _ _ c.in-None.is c.next.ensures.steps in
    let so_far = rw c.if-in_hole-2.true at c.loop-c.invariant in
    ends_open c.loop-c.pieces c.loop-c.part.chars (chars c.args.template.now)
    (subst (λ cs. SoFar c.loop-c.pieces true c.loop-c.part.chars cs) (all_read c.loop-c.yielded (chars c.args.template.now) t.0) so_far)

pub returns-clause-pieces : goal.returns-clause-pieces
returns-clause-pieces c =
    let t = YieldsList-end (YieldsList-from_chars c.args.template.now c.utf8.template cc)
    c.loop-c.yielded _ c.loop-c.yielded_by _ _ c.in-None.is c.next.ensures.steps in
    let so_far = rw c.if-in_hole-2.false at c.loop-c.invariant in
    ends c.loop-c.pieces c.push-2.new.self c.loop-c.part (chars c.args.template.now) [] 0
    (c.in_ok-push-5.ensures.change.ok (λ x y same. same))
    (subst (λ cs. SoFar c.loop-c.pieces false c.loop-c.part.chars cs) (all_read c.loop-c.yielded (chars c.args.template.now) t.0) so_far)
