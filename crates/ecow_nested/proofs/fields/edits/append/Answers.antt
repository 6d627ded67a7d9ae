use Rattle.std.proofs.Common.{length, refl, sym, ap, subst, ◌∙◌}
use Rattle.ecow_nested.specs.Index.{NotesGaps, fields_in, present}
use Rattle.ecow_nested.proofs.Held.{fields_pushed, noted_pushed}
use Rattle.ecow_nested.proofs.Index.{noted_same, refilled, slots_same}
use Rattle.ecow_nested.proofs.fields.edits.append.Goals as goal

pub returns-clause-fields : goal.returns-clause-fields
returns-clause-fields g c =
    let whole = refilled c.push_within_capacity.new.self.items c.include_last.new.entries (c.include_last.ensures.len ∙ ap length c.as_mut_slice.ensures.value) in
    ap fields_in whole ∙ ap present (slots_same _ _ c.include_last.ensures.same) ∙ ap fields_in (c.as_mut_slice.ensures.value ∙ ap (λ b. b.items) c.push_within_capacity.ensures)
    ∙ fields_pushed c.args.block.now.items _ c.args.field refl

pub returns-clause-noted : goal.returns-clause-noted
returns-clause-noted g c =
    let whole = refilled c.push_within_capacity.new.self.items c.include_last.new.entries (c.include_last.ensures.len ∙ ap length c.as_mut_slice.ensures.value) in
    let pushed = noted_pushed c.args.block.now.items _ c.args.field refl c.new.ensures c.requires.noted in
    subst (λ es. NotesGaps es) (sym whole) (noted_same _ _ c.include_last.ensures.same
    (subst (λ es. NotesGaps es) (sym (c.as_mut_slice.ensures.value ∙ ap (λ b. b.items) c.push_within_capacity.ensures)) pushed))
