use Rattle.std.proofs.Common.{rules, arith, length, Some, sym, ap, subst, ◌∙◌}
use Rattle.std.proofs.lemmas.Option.{slice_get_within}
use Rattle.ecow_nested.specs.Index.{IsFoundFrom, NotesGaps, fields_in, gaps_from, present, slots_in}
use Rattle.ecow_nested.proofs.Gaps.{whole_remove, whole_there}
use Rattle.ecow_nested.proofs.Held.{long, whole_filled, whole_read}
use Rattle.ecow_nested.proofs.Index.{found_same, refilled, slots_removed, slots_same}
use Rattle.ecow_nested.proofs.fields.edits.take_out.Goals as goal

pub remove-field-requires : goal.remove-field-requires
remove-field-requires g c =
    let there = whole_there 0 (slots_in c.args.block.now.items) c.args.index c.requires.whole c.requires.within in
    omega (arith, slice_get_within (slots_in c.args.block.now.items) c.args.index (Some there.0) there.1, long c.args.block.now.items)

pub returns-clause-fields : goal.returns-clause-fields
returns-clause-fields g c =
    let items = c.args.block.now.items in
    let os = slots_in items in
    let cleared = c.clear_gaps.new.entries in
    let whole = refilled c.remove-field.new.self.items cleared (c.clear_gaps.ensures.len ∙ c.drop_index.ensures.len ∙ ap length c.as_mut_slice-entries.ensures.value) in
    let left = whole_remove 0 os c.args.index c.requires.whole in
    let slots = c.clear_gaps.ensures.slots ∙ slots_same _ _ c.drop_index.ensures.same ∙ ap slots_in (c.as_mut_slice-entries.ensures.value ∙ ap (λ b. b.items) c.remove-field.ensures.block) ∙ slots_removed items c.args.index in
    ap fields_in whole ∙ ap present slots ∙ left.0

pub returns-clause-noted : goal.returns-clause-noted
returns-clause-noted g c =
    let items = c.args.block.now.items in
    let os = slots_in items in
    let cleared = c.clear_gaps.new.entries in
    let whole = refilled c.remove-field.new.self.items cleared (c.clear_gaps.ensures.len ∙ c.drop_index.ensures.len ∙ ap length c.as_mut_slice-entries.ensures.value) in
    let left = whole_remove 0 os c.args.index c.requires.whole in
    let slots = c.clear_gaps.ensures.slots ∙ slots_same _ _ c.drop_index.ensures.same ∙ ap slots_in (c.as_mut_slice-entries.ensures.value ∙ ap (λ b. b.items) c.remove-field.ensures.block) ∙ slots_removed items c.args.index in
    subst (λ es. NotesGaps es) (sym whole) (c.clear_gaps.ensures.none ∙ sym (ap (gaps_from 0) slots ∙ left.1))

pub returns-clause-found : goal.returns-clause-found
returns-clause-found g c =
    let items = c.args.block.now.items in
    let os = slots_in items in
    let cleared = c.clear_gaps.new.entries in
    let whole = refilled c.remove-field.new.self.items cleared (c.clear_gaps.ensures.len ∙ c.drop_index.ensures.len ∙ ap length c.as_mut_slice-entries.ensures.value) in
    let left = whole_remove 0 os c.args.index c.requires.whole in
    let slots = c.clear_gaps.ensures.slots ∙ slots_same _ _ c.drop_index.ensures.same ∙ ap slots_in (c.as_mut_slice-entries.ensures.value ∙ ap (λ b. b.items) c.remove-field.ensures.block) ∙ slots_removed items c.args.index in
    subst (λ es. IsFoundFrom 16 es) (sym whole)
    (found_same 16 cleared c.drop_index.new.entries c.clear_gaps.ensures.nodes (λ many kept. absurd (search (rules, kept, c.drop_index.ensures.dropped))))

pub returns-clause-value : goal.returns-clause-value
returns-clause-value g c =
    whole_read c.args.block.now.items c.args.index c.requires.whole c.requires.within c.remove-field.result c.in-Some.field c.remove-field.ensures.value c.in-Some.is

pub unreachable-requires : goal.unreachable-requires
unreachable-requires g c =
    whole_filled c.args.block.now.items c.args.index c.requires.whole c.requires.within c.remove-field.result c.remove-field.ensures.value c.in-None.is
