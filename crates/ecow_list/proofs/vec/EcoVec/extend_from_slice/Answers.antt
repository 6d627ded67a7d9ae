use Rattle.std.proofs.Common.{[], refl, sym, subst, inl}
use Rattle.std.specs.List.{AllZip}
use Rattle.std.proofs.lemmas.List.{append-nil, nil_from_length}
use Rattle.ecow_list.proofs.vec.EcoVec.extend_from_slice.Goals as goal

-- where nothing is appended, the elements stayed
pub returns-then-added-eq0-clause-kept : goal.returns-then-added-eq0-clause-kept
returns-then-added-eq0-clause-kept g c =
    let none = nil_from_length c.args.elements.now c.if-added-eq0.true in
    (c.args.self.now, [], inl refl, subst (λ xs. AllZip g.T.Clone.is_clone xs []) (sym none) tt, sym (append-nil c.args.self.now))
