use Rattle.std.proofs.Common.{◌∷◌, ap, sym, subst}
use Rattle.ecow_block.specs.Updates.{TakesKeptAt, UpdatesAt}
use Rattle.ecow_tree.specs.Kept.{SomeKept}
use Rattle.ecow_tree.proofs.Kept.{changes_by}
use Rattle.ecow_tree.proofs.tree.EcoTree.update.Goals as goal

pub update-requires-clause-callable : goal.update-requires-clause-callable
update-requires-clause-callable g c =
    subst (λ xs. TakesKeptAt g.F.FnOnce c.args.f g.T.Clone.is_clone xs c.args.index) (sym c.self.view_is) c.requires.callable

pub returns-clause-change : goal.returns-clause-change
returns-clause-change g c =
    changes_by g.T.Clone.is_clone _ _ (λ xs answer ys. UpdatesAt g.F.FnOnce c.args.f c.args.index xs ys answer) _
    (subst (λ old. SomeKept g.T.Clone.is_clone old (λ xs. UpdatesAt g.F.FnOnce c.args.f c.args.index xs c.update.new.self.items c.in_ok-answer.answer)) c.self.view_is
    c.in_ok-answer.ensures.kept)
