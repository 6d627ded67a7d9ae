use Rattle.std.proofs.Common.{◌≡◌, Some, get_or, slice_set, refl, sym, ap, ◌∙◌}
use Rattle.std.specs.Prelude.{Option}
use Rattle.std.proofs.lemmas.Option.{slice_get-get_or}
use Rattle.ecow_nested.specs.Index.{fields_in, node_of}
use Rattle.ecow_nested.specs.Names.{named}
use Rattle.ecow_nested.specs.declared.fields.Entry.{Entry}
use Rattle.ecow_nested.specs.declared.fields.Field.{Field}
use Rattle.ecow_nested.proofs.Held.{field_read, fields_set, noted_set}
use Rattle.ecow_nested.proofs.Index.{found_kept}
use Rattle.ecow_nested.proofs.fields.edits.put.Goals as goal

pub returns-clause-change : goal.returns-clause-change
returns-clause-change g c =
    let es = c.args.entries.now in
    let d = c.index-entries-place.result in
    let x = get_or es c.args.place d in
    let f = c.in-Some.field in
    let g2 : Field g.row.T.Denot = record { name = f.name; value = c.replace.new.dest } in
    let y : Entry g.row.T.Denot = record { field = Some g2; left = x.left; right = x.right; again = x.again; gaps = x.gaps } in (
      f.name,
      field_read es c.args.index c.args.place c.requires.place d f c.in-Some.is ∙ ap (λ v. Some (named f.name v)) (sym c.replace.ensures.value),
      fields_set es c.args.index c.args.place c.requires.place y g2 refl ∙ ap (λ v. slice_set (fields_in es) c.args.index (named f.name v)) c.replace.ensures.after,
    )

pub returns-clause-noted : goal.returns-clause-noted
returns-clause-noted g c =
    let es = c.args.entries.now in
    let d = c.index-entries-place.result in
    let x = get_or es c.args.place d in
    let f = c.in-Some.field in
    let g2 : Field g.row.T.Denot = record { name = f.name; value = c.replace.new.dest } in
    let y : Entry g.row.T.Denot = record { field = Some g2; left = x.left; right = x.right; again = x.again; gaps = x.gaps } in
    noted_set es c.args.index c.args.place c.requires.place x y g2 (slice_get-get_or es c.args.place d c.requires.within) refl refl c.requires.noted

pub returns-clause-found : goal.returns-clause-found
returns-clause-found g c =
    let es = c.args.entries.now in
    let d = c.index-entries-place.result in
    let x = get_or es c.args.place d in
    let f = c.in-Some.field in
    let g2 : Field g.row.T.Denot = record { name = f.name; value = c.replace.new.dest } in
    let y : Entry g.row.T.Denot = record { field = Some g2; left = x.left; right = x.right; again = x.again; gaps = x.gaps } in
    let same : node_of y ≡ node_of x = ap (λ (o : Option (Field g.row.T.Denot)). node_of (record { field = o; left = x.left; right = x.right; again = x.again; gaps = x.gaps })) (sym c.in-Some.is) in
    found_kept es c.args.place x y (slice_get-get_or es c.args.place d c.requires.within) same c.requires.found
