use Rattle.std.proofs.Common.{◌<◌, rules, arith, length, subst}
use Rattle.ecow_block.specs.Updates.{UpdatesAt}
use Rattle.ecow_list.proofs.Kept.{takes_kept}
use Rattle.ecow_list.proofs.Popped.{stayed}
use Rattle.ecow_list.proofs.vec.EcoVec.update.Goals as goal

pub edit-requires-clause-callable : goal.edit-requires-clause-callable
edit-requires-clause-callable g c = λ b kept len room.
    let within : c.args.index < length b.now.items = omega (arith, len, c.requires.in_bounds) in
    let takes = takes_kept g.T.Clone.is_clone g.F.FnOnce c.args.f c.args.self.now b.now.items c.args.index c.requires.callable kept in
    search (rules, within, takes)

pub returns-clause-change : goal.returns-clause-change
returns-clause-change g c = record {
  ok = λ equal. let e = c.in_ok-edit.ensures.edited.ok equal in
      subst (λ xs. UpdatesAt g.F.FnOnce c.args.f c.args.index xs c.edit.new.self c.in_ok-edit.field-0) e.shows
      (subst (λ ys. UpdatesAt g.F.FnOnce c.args.f c.args.index e.shown.now.items ys c.in_ok-edit.field-0) e.leaves (search (rules, e.met)));
  kept = search rules;
}

pub returns-clause-stays : goal.returns-clause-stays
returns-clause-stays g c = λ equal leaves.
    let changed = returns-clause-change g c in
    stayed g.F.FnOnce c.args.f c.args.index c.args.self.now c.edit.new.self c.in_ok-edit.field-0 (changed.ok equal) leaves
