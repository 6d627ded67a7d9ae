use Rattle.std.proofs.Common.{ap, ◌∙◌}
use Rattle.ecow_table.specs.Tables.{values_of}
use Rattle.ecow_table.proofs.Maps.{one_more, same-slots}
use Rattle.ecow_table.proofs.table.reach.Goals as goal

pub loop-slots-preserved : goal.loop-slots-preserved
loop-slots-preserved g c =
    let slots = c.loop-slots.slots.items in
    λ others.
    ap (λ s. values_of s others) c.in_ok-push.ensures.items
    ∙ same-slots slots _ others (one_more slots) ∙ c.loop-slots.invariant others

pub returns-in_err-push-clause-kept : goal.returns-in_err-push-clause-kept
returns-in_err-push-clause-kept g c =
    λ others.
    ap (λ s. values_of s others) c.in_err-push.ensures.items ∙ c.loop-slots.invariant others
