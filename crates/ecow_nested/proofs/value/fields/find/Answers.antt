use Rattle.ecow_nested.proofs.Lookups.{taken, missing}
use Rattle.ecow_nested.proofs.value.fields.find.Goals as goal

pub returns-in-Some : goal.returns-in-Some
returns-in-Some c = taken c.args.name.now c.args.fields.now c.in-Some.at c.field_at.result.now c.in-Some.ensures c.field_at.ensures

pub returns-in-None : goal.returns-in-None
returns-in-None c = missing c.args.name.now c.args.fields.now c.position.result c.in-None.is c.position.ensures
