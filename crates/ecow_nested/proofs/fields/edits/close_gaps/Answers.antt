use Rattle.std.proofs.Common.{rules, length, sym, ap, subst, ◌∙◌}
use Rattle.ecow_nested.specs.Index.{NotesGaps, fields_in, gaps_from, present, slots_in}
use Rattle.ecow_nested.proofs.Held.{retained}
use Rattle.ecow_nested.proofs.Index.{noted_same, refilled, slots_same}
use Rattle.ecow_nested.proofs.fields.edits.close_gaps.Goals as goal

pub returns-clause-fields : goal.returns-clause-fields
returns-clause-fields g c =
    let entries = c.index_from.new.entries in
    let whole = refilled c.retain.new.self.items entries (c.index_from.ensures.len ∙ c.clear_gaps.ensures.len ∙ ap length c.as_mut_slice-entries.ensures.value) in
    let kept = retained _ (λ s x b t y r. search rules) _ c.args.block.now.items c.retain.new.self.items c.retain.ensures.items in
    ap fields_in whole ∙ ap present (slots_same entries c.clear_gaps.new.entries c.index_from.ensures.same ∙ c.clear_gaps.ensures.slots)
    ∙ ap fields_in c.as_mut_slice-entries.ensures.value ∙ kept.0

pub returns-clause-noted : goal.returns-clause-noted
returns-clause-noted g c =
    let entries = c.index_from.new.entries in
    let whole = refilled c.retain.new.self.items entries (c.index_from.ensures.len ∙ c.clear_gaps.ensures.len ∙ ap length c.as_mut_slice-entries.ensures.value) in
    let kept = retained _ (λ s x b t y r. search rules) _ c.args.block.now.items c.retain.new.self.items c.retain.ensures.items in
    let none = c.clear_gaps.ensures.none ∙ sym (ap (gaps_from 0) (c.clear_gaps.ensures.slots ∙ ap slots_in c.as_mut_slice-entries.ensures.value) ∙ kept.1 0) in
    subst (λ es. NotesGaps es) (sym whole) (noted_same entries c.clear_gaps.new.entries c.index_from.ensures.same none)
