use Rattle.std.proofs.Common.{subst, sym, ◌∙◌}
use Rattle.ecow_nested.specs.Index.{IsPlaceOf}
use Rattle.ecow_nested.proofs.fields.edits.Fields+Value.replace.Goals as goal

pub put-requires-clause-place : goal.put-requires-clause-place
put-requires-clause-place c =
    let same = c.as_slice.ensures ∙ sym (c.as_mut_slice.ensures.value ∙ c.in-Ok.ensures.value (λ x y same. same)) in
    subst (λ es. IsPlaceOf es c.args.index c.place_of_index-place.result) same c.place_of_index-place.ensures.place
