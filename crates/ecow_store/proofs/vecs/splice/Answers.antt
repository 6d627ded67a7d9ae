use Rattle.std.proofs.Common.{◌≡◌, ◌∙◌, arith}
use Rattle.std.proofs.lemmas.Grind.{common_steps}
use Rattle.ecow_list.proofs.Items.{given_items}
use Rattle.ecow_model.proofs.Lengths.{edits}
use Rattle.ecow_store.proofs.vecs.splice.Goals as goal

pub returns-in-Ok-splice-clause-step : goal.returns-in-Ok-splice-clause-step
returns-in-Ok-splice-clause-step g c = λ clones.
    let given = c.in-Ok-splice.ensures.change.ok clones in
    let same : given.0 ≡ c.args.items = given_items c.into_vec.result given.0 given.1 ∙ c.into_vec.ensures in
    let spliced = rw same at given.2 in
    grind (arith, common_steps, edits, spliced)
