use Rattle.std.proofs.Common.{rules, arith, ◌≡◌, ◌<◌, ◌≤◌, ◌↔◌, ◌+◌, length, ◌++◌, ap, sym, subst, ◌∙◌}
use Rattle.std.specs.Iterator.{Drains}
use Rattle.std.specs.Prelude.{IsErrOf}
use Rattle.ecow_base.specs.declared.capacity.TheConstants.{MAX_LEN}
use Rattle.ecow_list.proofs.Fronts.{on_err}
use Rattle.ecow_list.specs.declared.error.EcoError.TheVariants.{Capacity}
use Rattle.ecow_tree.proofs.tree.EcoTree.from_iter.Goals as goal

pub returns-in_err-extend-clause-refused : goal.returns-in_err-extend-clause-refused
returns-in_err-extend-clause-refused g c =
    let r = c.in_err-extend.ensures.refused in
    let same : length c.extend.new.self + 1 ≡ length r.0 = omega (arith, r.2, ap length c.new-tree.ensures) in
    let full : IsErrOf c.from_residual.result Capacity ↔ (MAX_LEN ≤ length c.extend.new.self) = search rules in
    on_err c.from_residual.result (r.0, r.1, (omega (arith, same), ((λ is. omega (arith, same, full.0 is)), (λ past. full.1 (omega (arith, same, past))))))

pub returns-clause-ok : goal.returns-clause-ok
returns-clause-ok g c = λ equal.
    let e = c.in_ok-extend.ensures.ok equal in
    (e.0, e.2, subst (Drains g.I.IntoIter.Iterator.next_gives e.0) (sym (e.3 ∙ ap (λ old. old ++ e.1) c.new-tree.ensures)) e.4)
