use Rattle.std.proofs.Common.{◌≡◌, Some, slice_get, subst, ◌∙◌}
use Rattle.std.specs.Prelude.{IfOk}
use Rattle.std.specs.List.{remove}
use Rattle.ecow_tree.specs.Kept.{Removes}
use Rattle.ecow_tree.proofs.Kept.{changes_by, removed_len}
use Rattle.ecow_tree.proofs.tree.EcoTree.remove.Goals as goal

pub returns-clause-change : goal.returns-clause-change
returns-clause-change g c =
    changes_by g.T.Clone.is_clone c.args.self.now c.remove.new.self.items (λ xs value ys. (slice_get xs c.args.index ≡ Some value) × (ys ≡ remove xs c.args.index))
    c.remove.result
    (subst (λ old. IfOk c.remove.result (λ value. Removes g.T.Clone.is_clone old c.args.index value c.remove.new.self.items))
    (c.lower.ensures.items ∙ c.self.view_is) c.remove.ensures.removed)

pub returns-clause-len : goal.returns-clause-len
returns-clause-len g c =
    removed_len g.T.Clone.is_clone c.args.self.now c.remove.new.self.items c.args.index c.remove.result c.requires
    (subst (λ old. IfOk c.remove.result (λ value. Removes g.T.Clone.is_clone old c.args.index value c.remove.new.self.items))
    (c.lower.ensures.items ∙ c.self.view_is) c.remove.ensures.removed)
