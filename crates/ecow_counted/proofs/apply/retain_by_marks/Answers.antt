use Rattle.std.proofs.Common.{rules, refl}
use Rattle.ecow_block.specs.Contents.{contents}
use Rattle.ecow_model.proofs.Marks.{retained_by_marks}
use Rattle.ecow_counted.specs.contracts.apply.fn.retain_by_marks.retain as closure
use Rattle.ecow_counted.proofs.apply.retain_by_marks.Goals as goal

pub returns : goal.returns
returns g c =
    let kept =
    retained_by_marks _ (λ f. (closure.captures (record { T = g.row.T; T-Destruct-dict = g.T.Destruct-dict }) f).rest.now)
    (λ s x b t y m ms e k. search rules) c.args.marks.now _ c.args.block.now.items
    c.retain.new.self.items refl c.requires c.retain.ensures.items in
    λ i. contents (kept i) (c.retain.ensures.capacity i)
