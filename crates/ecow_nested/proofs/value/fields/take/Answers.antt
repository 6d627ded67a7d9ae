use Rattle.std.proofs.Common.{rules, ◌∙◌}
use Rattle.ecow_nested.proofs.Lookups.{missing, removed, taken, there}
use Rattle.ecow_nested.proofs.value.fields.take.Goals as goal

pub returns-in_default-clause-index : goal.returns-in_default-clause-index
returns-in_default-clause-index c =
    let none = missing c.args.name.now c.args.fields.now c.position.result c.in_default.is c.position.ensures in
    search (rules, none)

pub returns-in-Ok-clause-ok : goal.returns-in-Ok-clause-ok
returns-in-Ok-clause-ok c =
    c.in-Ok.ensures.ok.1 ∙ removed c.args.name.now c.args.fields.now c.in-Some.at c.in-Some.ensures

pub returns-in-Ok-clause-value : goal.returns-in-Ok-clause-value
returns-in-Ok-clause-value c =
    taken c.args.name.now c.args.fields.now c.in-Some.at c.in-Ok.field c.in-Some.ensures c.in-Ok.ensures.ok.0

pub returns-in-Ok-clause-index : goal.returns-in-Ok-clause-index
returns-in-Ok-clause-index c =
    let is_there = there c.args.name.now c.args.fields.now c.in-Some.at c.in-Some.ensures in
    search (rules, is_there)

pub returns-in-Err-clause-index : goal.returns-in-Err-clause-index
returns-in-Err-clause-index c =
    let is_there = there c.args.name.now c.args.fields.now c.in-Some.at c.in-Some.ensures in
    search (rules, is_there)
