use Rattle.std.proofs.Common.{rules, [], refl, sym, inl, ◌∷◌, ◌++◌, ◌∙◌}
use Rattle.std.proofs.lemmas.List.{append-nil}
use Rattle.ecow_list.specs.Vectors.{Appends, ExtendsBy}
use Rattle.ecow_list.proofs.Fronts.{begun_kept, begun_len}
use Rattle.ecow_list.proofs.vec.EcoVec.extend_from.Goals as goal

pub returns-in-Ok-clause-kept : goal.returns-in-Ok-clause-kept
returns-in-Ok-clause-kept g c = λ from step.
    let steps = g.I.Iterator.next_gives in
    let e = c.in-Ok.ensures.edited.kept in
    let went : (rest : g.row.I.Denot) × ExtendsBy steps Appends c.args.iter (e.kept ++ c.args.first ∷ []) c.edit-added.new.self c.in-Ok.result rest =
    search (rules, e.edited.met, e.edited.shows, e.edited.leaves) in
    (went.0, begun_kept steps from c.args.iter c.args.first step c.args.self.now e.kept c.edit-added.new.self g.T.Clone.is_clone c.in-Ok.result went.0 e.is_kept went.1)

pub returns-in-Ok-clause-len : goal.returns-in-Ok-clause-len
returns-in-Ok-clause-len g c = λ from step.
    let steps = g.I.Iterator.next_gives in
    let e = c.in-Ok.ensures.edited.kept in
    let went : (rest : g.row.I.Denot) × ExtendsBy steps Appends c.args.iter (e.kept ++ c.args.first ∷ []) c.edit-added.new.self c.in-Ok.result rest =
    search (rules, e.edited.met, e.edited.shows, e.edited.leaves) in
    (went.0, begun_len steps from c.args.iter c.args.first step c.args.self.now e.kept c.edit-added.new.self c.in-Ok.result went.0 e.same_length went.1)

-- the first item was refused
pub returns-in-Err-clause-kept : goal.returns-in-Err-clause-kept
returns-in-Err-clause-kept g c = λ from step.
    let old = c.args.self.now in
    (c.args.iter, ([], (old, inl refl, c.in-Err.ensures.edited.unchanged ∙ sym (append-nil old)), (c.args.first, (from, refl, step))))
