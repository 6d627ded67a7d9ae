use Rattle.std.proofs.Common.{ap, ◌∙◌}
use Rattle.std.specs.FinMap as map
use Rattle.ecow_table.specs.Tables.{values_of}
use Rattle.ecow_table.proofs.Maps.{put-slot, put-entry, on_err, few-values, few-kept, few-inserted}
use Rattle.ecow_table.proofs.table.Table.insert.Goals as goal
use Rattle.ecow_table.proofs.table.Table.insert.Goals.{in-Some-1, in-None-1, in-Some-2, in-None-2}

pub returns-in_err-reach-clause-unchanged : goal.returns-in_err-reach-clause-unchanged
returns-in_err-reach-clause-unchanged g c =
    on_err c.from_residual.result
    (c.reach.ensures.kept c.self.inside.others.entries ∙ c.self.view_is)

pub returns-in_err-reach-clause-countable : goal.returns-in_err-reach-clause-countable
returns-in_err-reach-clause-countable g c =
    let slots = c.self.inside.slots.items in
    let es = c.self.inside.others.entries in
    few-kept c.args.self.now _
    (few-values slots es c.args.self.now c.len-others.result c.self.view_is
    c.len-others.ensures.len c.len-others.ensures.small)
    (c.reach.ensures.kept es ∙ c.self.view_is)

pub returns-in_err-insert-clause-countable : goal.returns-in_err-insert-clause-countable
returns-in_err-insert-clause-countable g c =
    let slots = c.self.inside.slots.items in
    let es = c.self.inside.others.entries in
    few-kept c.args.self.now _
    (few-values slots es c.args.self.now c.len-others.result c.self.view_is
    c.len-others.ensures.len c.len-others.ensures.small)
    (ap (values_of slots) c.in_err-insert.ensures.err ∙ c.self.view_is)

pub returns-in_ok-reach-clause-ok : goal.returns-in_ok-reach-clause-ok
returns-in_ok-reach-clause-ok g c =
    let k = c.args.name in
    let es = c.self.inside.others.entries in
    let new = c.reach.new.slots.items in
    let put = put-slot new es k c.if-name-lt-SLOTS.true c.args.value c.in_ok-reach.ensures.there
    ∙ ap (λ m. map.insert m k c.args.value) (c.in_ok-reach.ensures.kept es ∙ c.self.view_is) in
    elim c.match-index_mut.branch [ in-Some-1 w ↦ w.self-is ∙ put | in-None-1 w ↦ w.self-is ∙ put ]

pub returns-in_ok-reach-clause-countable : goal.returns-in_ok-reach-clause-countable
returns-in_ok-reach-clause-countable g c =
    few-inserted c.args.self.now c.match-index_mut.self c.args.name c.args.value
    (few-values c.self.inside.slots.items c.self.inside.others.entries c.args.self.now c.len-others.result
    c.self.view_is c.len-others.ensures.len c.len-others.ensures.small)
    (returns-in_ok-reach-clause-ok g c)

pub returns-in_ok-insert-clause-ok : goal.returns-in_ok-insert-clause-ok
returns-in_ok-insert-clause-ok g c =
    let k = c.args.name in
    let put =
    put-entry c.self.inside.slots.items c.self.inside.others.entries k c.if-name-lt-SLOTS.false
    c.insert.new.self.entries c.args.value c.in_ok-insert.ensures.updates.0
    ∙ ap (λ m. map.insert m k c.args.value) c.self.view_is in
    elim c.match-branch-3.branch [ in-Some-2 w ↦ w.self-is ∙ put | in-None-2 w ↦ w.self-is ∙ put ]

pub returns-in_ok-insert-clause-countable : goal.returns-in_ok-insert-clause-countable
returns-in_ok-insert-clause-countable g c =
    few-inserted c.args.self.now c.match-branch-3.self c.args.name c.args.value
    (few-values c.self.inside.slots.items c.self.inside.others.entries c.args.self.now c.len-others.result
    c.self.view_is c.len-others.ensures.len c.len-others.ensures.small)
    (returns-in_ok-insert-clause-ok g c)
