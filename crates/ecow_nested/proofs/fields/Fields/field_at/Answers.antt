use Rattle.std.proofs.Common.{slice_get, ap, sym, ◌∙◌}
use Rattle.ecow_nested.specs.Index.{fields_in}
use Rattle.ecow_nested.proofs.Held.{field_read}
use Rattle.ecow_nested.proofs.fields.Fields.field_at.Goals as goal

pub returns : goal.returns
returns g c =
    ap (λ fs. slice_get fs c.args.index) (sym c.self.view_is) ∙ ap (λ es. slice_get (fields_in es) c.args.index) (sym c.as_slice-entries.ensures)
    ∙ field_read c.as_slice-entries.result.now c.args.index c.place_of_index.result c.place_of_index.ensures.place c.index-entries-place_of_index.result c.in-Some.field c.in-Some.is
