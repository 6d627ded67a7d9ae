use Rattle.std.proofs.Common.{rules, refl}
use Rattle.std.proofs.lemmas.Result.{IfOk-weaker}
use Rattle.ecow_model.proofs.Marks.{retained_by_marks}
use Rattle.ecow_store.specs.contracts.vecs.fn.retain_by_marks.retain as closure
use Rattle.ecow_store.proofs.vecs.retain_by_marks.Goals as goal

pub returns-clause-ok : goal.returns-clause-ok
returns-clause-ok g c = λ clones. IfOk-weaker c.retain.result _ _
    (λ u h. retained_by_marks _
    (λ f. (closure.captures (record {
      T = g.row.T;
      T-Clone = g.T.Clone;
      T-Clone-dict = g.T.Clone-dict;
      T-Destruct-dict = g.T.Destruct-dict;
    }) f).rest.now)
    (λ s x b t y m ms e k. search rules) c.args.marks.now _ c.args.list.now c.retain.new.self refl c.requires h)
    (c.retain.ensures.change.ok clones)
