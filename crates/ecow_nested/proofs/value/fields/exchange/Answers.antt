use Rattle.std.proofs.Common.{rules, refl}
use Rattle.ecow_nested.specs.Names.{named}
use Rattle.ecow_nested.proofs.Lookups.{missing, set_found, taken, there}
use Rattle.ecow_nested.proofs.value.fields.exchange.Goals as goal

pub returns-in_default-clause-index : goal.returns-in_default-clause-index
returns-in_default-clause-index c =
    let none = missing c.args.name.now c.args.fields.now c.position.result c.in_default.is c.position.ensures in
    search (rules, none)

pub returns-in_default-clause-depth : goal.returns-in_default-clause-depth
returns-in_default-clause-depth c =
    let none = missing c.args.name.now c.args.fields.now c.position.result c.in_default.is c.position.ensures in
    search (rules, none)

pub returns-in_err-depth_as_part-clause-index : goal.returns-in_err-depth_as_part-clause-index
returns-in_err-depth_as_part-clause-index c =
    let is_there = there c.args.name.now c.args.fields.now c.in-Some.at c.in-Some.ensures in
    search (rules, is_there)

pub returns-in_err-depth_as_part-clause-depth : goal.returns-in_err-depth_as_part-clause-depth
returns-in_err-depth_as_part-clause-depth c =
    let is_there = there c.args.name.now c.args.fields.now c.in-Some.at c.in-Some.ensures in
    search (rules, is_there)

pub returns-in_err-value-clause-index : goal.returns-in_err-value-clause-index
returns-in_err-value-clause-index c =
    let is_there = there c.args.name.now c.args.fields.now c.in-Some.at c.in-Some.ensures in
    search (rules, is_there)

pub returns-in-Ok-clause-ok : goal.returns-in-Ok-clause-ok
returns-in-Ok-clause-ok c =
    let set = c.in-Ok.ensures.ok in
    let is = set_found c.args.name.now c.args.fields.now c.in-Some.at (named set.0 c.in-Ok.was) (named set.0 c.args.other.now) c.in-Some.ensures set.1 refl in
    search (rules, is, set)

pub returns-in-Ok-clause-other : goal.returns-in-Ok-clause-other
returns-in-Ok-clause-other c =
    let set = c.in-Ok.ensures.ok in
    let is = taken c.args.name.now c.args.fields.now c.in-Some.at (named set.0 c.in-Ok.was) c.in-Some.ensures set.1 in
    search (rules, is)

pub returns-in-Ok-clause-index : goal.returns-in-Ok-clause-index
returns-in-Ok-clause-index c =
    let is_there = there c.args.name.now c.args.fields.now c.in-Some.at c.in-Some.ensures in
    search (rules, is_there)

pub returns-in-Err-clause-index : goal.returns-in-Err-clause-index
returns-in-Err-clause-index c =
    let is_there = there c.args.name.now c.args.fields.now c.in-Some.at c.in-Some.ensures in
    search (rules, is_there)
