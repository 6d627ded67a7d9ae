use Rattle.std.proofs.Common.{[], refl, sym, inl}
use Rattle.std.proofs.lemmas.List.{append-nil}
use Rattle.ecow_list.specs.Vectors.{Lengthens}
use Rattle.ecow_list.proofs.Fronts.{refused_at}
use Rattle.ecow_list.proofs.vec.EcoVec.extend.Goals as goal

pub returns-in-Some-clause-refused : goal.returns-in-Some-clause-refused
returns-in-Some-clause-refused g c =
    let it = c.into_iter-items.result in
    let went = c.extend_from.ensures.len it c.in-Some.ensures.steps in
    refused_at g.I.IntoIterator.into_iter_gives g.I.IntoIter.Iterator.next_gives c.args.iter Lengthens
    it c.args.self.now c.extend_from.new.self c.extend_from.result went.0
    (λ xs went. went.0) c.into_iter-items.ensures.into_iter_gives went.1

-- there was no item
pub returns-in-None-clause-kept : goal.returns-in-None-clause-kept
returns-in-None-clause-kept g c =
    let old = c.args.self.now in let it = c.into_iter-items.result in
    (it, [], c.into_iter-items.ensures.into_iter_gives, (old, inl refl, sym (append-nil old)), (c.next.new.self, (it, refl, c.in-None.ensures.steps)))
