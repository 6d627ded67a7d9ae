use Rattle.std.proofs.Common.{Some, sym, ap, ◌∙◌}
use Rattle.std.specs.Prelude.{position}
use Rattle.ecow_nested.specs.Names.{has_name}
use Rattle.ecow_nested.specs.Index.{fields_in}
use Rattle.ecow_nested.proofs.Positions.{index_missing, index_there}
use Rattle.ecow_nested.proofs.fields.Fields.position.Goals as goal

pub returns-in-Some : goal.returns-in-Some
returns-in-Some g c =
    ap Some c.index_of_place.ensures
    ∙ index_there c.args.name.now c.as_slice-entries.result.now c.in-Some.place (sym c.in-Some.is ∙ c.find_place.ensures)
    ∙ ap (position (has_name c.args.name.now)) (ap fields_in c.as_slice-entries.ensures ∙ c.self.view_is)

pub returns-in-None : goal.returns-in-None
returns-in-None g c =
    index_missing c.args.name.now c.as_slice-entries.result.now (sym c.in-None.is ∙ c.find_place.ensures)
    ∙ ap (position (has_name c.args.name.now)) (ap fields_in c.as_slice-entries.ensures ∙ c.self.view_is)
