use Rattle.std.proofs.Common.{rules, arith, get_or, refl, sym, subst, ap, ◌∙◌}
use Rattle.std.proofs.lemmas.Option.{slice_get-get_or}
use Rattle.ecow_nested.specs.Index.{fields_in, IsFoundFrom, NotesGaps, present}
use Rattle.ecow_nested.specs.declared.fields.Entry.{Entry}
use Rattle.ecow_nested.proofs.Held.{before_within, gapped_fields, gapped_found, gapped_noted, was_there}
use Rattle.ecow_nested.proofs.Index.{noted_same, slots_same}
use Rattle.ecow_nested.proofs.fields.edits.leave_gap.Goals as goal
use Rattle.ecow_nested.proofs.fields.edits.leave_gap.Goals.{then-entry, else-entry}

pub overflow_sub-place : goal.overflow_sub-place
overflow_sub-place g c = (before_within c.args.entries.now c.args.index c.args.place c.requires.place c.requires.noted).0

pub note_gap-requires-clause-within : goal.note_gap-requires-clause-within
note_gap-requires-clause-within g c = (before_within c.args.entries.now c.args.index c.args.place c.requires.place c.requires.noted).1

pub returns-clause-value : goal.returns-clause-value
returns-clause-value g c =
    let es = c.note_gap.new.entries in
    let d = c.index-entries-place.result in
    let x = get_or es c.args.place d in
    let y : Entry g.row.T.Denot = record { field = c.take-field.new.self; left = x.left; right = x.right; again = x.again; gaps = x.gaps } in
    let there = slice_get-get_or es c.args.place d (omega (arith, c.requires.within, c.note_gap.ensures.len)) in
    let e = c.in_ok-note_gap.ensures in
    was_there c.args.entries.now es c.args.index c.args.place c.requires.place c.note_gap.ensures.slots c.note_gap.ensures.nodes
    e.noted x y there c.take-field.ensures.after refl d c.in-Some.field (sym c.take-field.ensures.value ∙ c.in-Some.is)

pub returns-clause-fields : goal.returns-clause-fields
returns-clause-fields g c =
    let es = c.note_gap.new.entries in
    let d = c.index-entries-place.result in
    let x = get_or es c.args.place d in
    let y : Entry g.row.T.Denot = record { field = c.take-field.new.self; left = x.left; right = x.right; again = x.again; gaps = x.gaps } in
    let there = slice_get-get_or es c.args.place d (omega (arith, c.requires.within, c.note_gap.ensures.len)) in
    let e = c.in_ok-note_gap.ensures in
    let gapped = gapped_fields c.args.entries.now es c.args.index c.args.place c.requires.place c.note_gap.ensures.slots c.note_gap.ensures.nodes
    e.noted x y there c.take-field.ensures.after refl in
    elim c.if-entry.branch [
      | then-entry w ↦ ap fields_in w.entries-is ∙ ap present (slots_same _ _ w.drop_index.ensures.same) ∙ gapped
      | else-entry w ↦ ap fields_in w.entries-is ∙ gapped
    ]

pub returns-clause-noted : goal.returns-clause-noted
returns-clause-noted g c =
    let es = c.note_gap.new.entries in
    let d = c.index-entries-place.result in
    let x = get_or es c.args.place d in
    let y : Entry g.row.T.Denot = record { field = c.take-field.new.self; left = x.left; right = x.right; again = x.again; gaps = x.gaps } in
    let there = slice_get-get_or es c.args.place d (omega (arith, c.requires.within, c.note_gap.ensures.len)) in
    let e = c.in_ok-note_gap.ensures in
    let gapped = gapped_noted c.args.entries.now es c.args.index c.args.place c.requires.place c.note_gap.ensures.slots c.note_gap.ensures.nodes
    e.noted x y there c.take-field.ensures.after refl c.requires.noted in
    elim c.if-entry.branch [
      | then-entry w ↦ subst (λ es. NotesGaps es) (sym w.entries-is) (noted_same _ _ w.drop_index.ensures.same gapped)
      | else-entry w ↦ subst (λ es. NotesGaps es) (sym w.entries-is) gapped
    ]

pub returns-clause-found : goal.returns-clause-found
returns-clause-found g c =
    let es = c.note_gap.new.entries in
    let d = c.index-entries-place.result in
    let x = get_or es c.args.place d in
    let y : Entry g.row.T.Denot = record { field = c.take-field.new.self; left = x.left; right = x.right; again = x.again; gaps = x.gaps } in
    let there = slice_get-get_or es c.args.place d (omega (arith, c.requires.within, c.note_gap.ensures.len)) in
    let e = c.in_ok-note_gap.ensures in
    elim c.if-entry.branch [
      | then-entry w ↦ subst (λ es. IsFoundFrom 16 es) (sym w.entries-is) (λ many kept. absurd (search (rules, kept, w.drop_index.ensures.dropped)))
      | else-entry w ↦ subst (λ es. IsFoundFrom 16 es) (sym w.entries-is)
          (gapped_found c.args.entries.now es c.args.index c.args.place c.requires.place c.note_gap.ensures.slots c.note_gap.ensures.nodes
          e.noted x y there c.take-field.ensures.after refl c.requires.found w.if-entry.false refl refl)
    ]
