use Rattle.std.proofs.Common.{rules, refl, ◌∙◌}
use Rattle.ecow_nested.specs.Names.{named}
use Rattle.ecow_nested.proofs.Lookups.{set_found, pushed}
use Rattle.ecow_nested.proofs.value.fields.put.Goals as goal

pub returns-in_ok-replace-in-Some-clause-ok : goal.returns-in_ok-replace-in-Some-clause-ok
returns-in_ok-replace-in-Some-clause-ok c =
    let set = c.in_ok-replace-in-Some.ensures.ok in
    set.2 ∙ set_found c.args.name.now c.args.fields.now c.in-Some.at (named set.0 c.in_ok-replace-in-Some.field-0) (named set.0 c.args.value) c.in-Some.ensures set.1 refl

pub returns-in-None-clause-ok : goal.returns-in-None-clause-ok
returns-in-None-clause-ok c =
    let behind = pushed c.args.name.now c.args.value c.args.fields.now c.position.result c.in-None.is c.position.ensures in
    let append = c.append.ensures.ok in
    search (rules, behind, append)
