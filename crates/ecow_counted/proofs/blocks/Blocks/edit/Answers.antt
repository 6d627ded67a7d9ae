use Rattle.std.proofs.Common.{rules, ◌≡◌, ◌≤◌, true, cond, length, take, sym, ap, ◌∙◌, subst, arith, ⊎_elim}
use Rattle.std.specs.Prelude.{nat_lt, nat_le, vec_capacity}
use Rattle.std.proofs.lemmas.Bool.{true≢false, le-ltb, cases_Bool}
use Rattle.ecow_base.specs.Capacity.{MAX}
use Rattle.ecow_base.specs.Clones.{ClonesAreEqual}
use Rattle.ecow_model.specs.Costs.{unshares, copies, capacity_after, holding_is_free}
use Rattle.ecow_model.specs.CountedRun.{holding_at}
use Rattle.ecow_model.specs.Names.{is_shared}
use Rattle.ecow_model.specs.declared.usage.Usage.TheVariants.{Edit}
use Rattle.ecow_counted.specs.Edits.{asked_length, staying, spare_room, taken_out, takes_spare}
use Rattle.ecow_counted.proofs.Editing.{asks_within, may_be_copied, taken_same, free_keeps, spare_not_free}
use Rattle.ecow_counted.proofs.Carrying.{edit_memory, edit_done, same_carried, found_size, found_fits, refused_is}
use Rattle.ecow_counted.proofs.blocks.Blocks.edit.Goals as goal
use Rattle.ecow_counted.proofs.blocks.Blocks.edit.Goals.{else-size-gt1-via-then-size-gt1+else-not-unshares, else-size-gt1-via-else-size-gt1}

pub capacity-requires-clause-length : goal.capacity-requires-clause-length
capacity-requires-clause-length g c =
    let names = c.args.self.now.names in
    let h = holding_at names c.args.name in
    let found = found_size names c.args.name c.in-Some.size (sym c.in-Some.is ∙ c.size.ensures.size) in
    let len = ap (λ s. s.len) found.1 in
    let fits : length h.items ≤ MAX = omega (arith, len, c.in-Some.ensures.bounds.0, c.in-Some.ensures.bounds.1) in
    let asked = sym (c.check.ensures h.items (sym len)) ∙ c.in_default-check.is in
    subst (λ n. asked_length c.args.edit n ≤ MAX) (sym len) (asks_within c.args.edit h.items fits asked)

pub returns-in_default-new-clause-carried : goal.returns-in_default-new-clause-carried
returns-in_default-new-clause-carried g c =
    let names = c.args.self.now.names in
    let h = holding_at names c.args.name in
    let found = found_size names c.args.name c.in-Some.size (sym c.in-Some.is ∙ c.size.ensures.size) in
    let asked = sym (c.check.ensures h.items (sym (ap (λ s. s.len) found.1))) ∙ c.in_default-check.is in
    rw c.still-in_default-new.ensures (edit_memory (ClonesAreEqual g.T.Clone.is_clone) names c.args.name c.args.edit h found.0 asked
    (spare_not_free h (found_fits h found.1 c.in-Some.ensures.bounds.0) c.args.edit
    (⊎_elim (λ t. t) (λ f. absurd (refused_is c.new.result c.in_default-new.field-0 c.in_default-new.is (c.new.ensures.free f)))
    (cases_Bool (takes_spare c.args.edit)))))

-- copies that there are, or no smaller a block
pub own-requires-clause-wanted : goal.own-requires-clause-wanted
own-requires-clause-wanted g c =
    let found = found_size c.args.self.now.names c.args.name c.in-Some.size (sym c.in-Some.is ∙ c.size.ensures.size) in
    let len = ap (λ s. s.len) found.1 in
    record { copies = search rules; fits = search rules; grows = search rules; staying = omega (arith, len, c.staying.ensures.bounded) }

pub returns-in_default-own-clause-carried : goal.returns-in_default-own-clause-carried
returns-in_default-own-clause-carried g c =
    let names = c.args.self.now.names in
    let h = holding_at names c.args.name in
    let found = found_size names c.args.name c.in-Some.size (sym c.in-Some.is ∙ c.size.ensures.size) in
    let len = ap (λ s. s.len) found.1 in
    let capacity = ap (λ s. s.capacity) found.1 in
    let owners = ap (λ s. s.owners) found.1 in
    let asked = sym (c.check.ensures h.items (sym len)) ∙ c.in_default-check.is in
    let wanted = c.capacity.ensures.capacity ∙ (λ i. capacity_after c.args.edit (nat_lt 1 (owners i)) (len i) (capacity i)) in
    let leaves : is_shared h ≡ true → unshares c.args.edit (length h.items) ≡ true = λ shared. elim c.else-size-gt1.branch [
      | else-size-gt1-via-then-size-gt1+else-not-unshares w ↦ ap (unshares c.args.edit) (sym len) ∙ sym w.unshares.ensures ∙ w.if-not-unshares.false
      | else-size-gt1-via-else-size-gt1 w ↦ absurd (true≢false (sym shared ∙ ap (nat_lt 1) (sym owners) ∙ le-ltb 1 c.in-Some.size.owners w.if-size-gt1.false))
    ] in
    rw c.still-in_default-own.ensures (same_carried (ClonesAreEqual g.T.Clone.is_clone) names
    (Edit c.args.name c.args.edit) _ _ c.in_default-own.ensures.unchanged
    (edit_memory (ClonesAreEqual g.T.Clone.is_clone) names c.args.name c.args.edit h found.0 asked
    (⊎_elim (λ t. absurd (refused_is c.own.result c.in_default-own.field-0 c.in_default-own.is
    (c.own.ensures.free (wanted ∙ free_keeps h (found_fits h found.1 c.in-Some.ensures.bounds.0) c.args.edit leaves t))))
    (λ f. f) (cases_Bool (holding_is_free c.args.edit h)))))

pub apply-outcome-requires-clause-allowed : goal.apply-outcome-requires-clause-allowed
apply-outcome-requires-clause-allowed g c =
    let names = c.args.self.now.names in
    let h = holding_at names c.args.name in
    let found = found_size names c.args.name c.in-Some.size (sym c.in-Some.is ∙ c.size.ensures.size) in
    let len = ap (λ s. s.len) found.1 in
    let copied = c.copies.ensures.copies ∙ ap (copies c.args.edit) len in
    may_be_copied (length h.items) c.args.edit (is_shared h) (λ xs is. sym (c.check.ensures xs (is ∙ sym len))
    ∙ c.in_default-check.is) c.in-Ok-own.own.block.items (c.in-Ok-own.ensures.len ∙ (λ i. cond (is_shared h) (copied i) (length h.items)))

pub apply-outcome-requires-clause-places : goal.apply-outcome-requires-clause-places
apply-outcome-requires-clause-places g c =
    let names = c.args.self.now.names in
    let h = holding_at names c.args.name in
    let found = found_size names c.args.name c.in-Some.size (sym c.in-Some.is ∙ c.size.ensures.size) in
    let len = ap (λ s. s.len) found.1 in
    let copied = c.copies.ensures.copies ∙ ap (copies c.args.edit) len in
    let same =
    ap (spare_room c.args.edit) (c.in-Ok-own.ensures.len ∙ (λ i. cond (is_shared h) (copied i) (length h.items)))
    ∙ (taken_same (length h.items) c.args.edit (is_shared h)).1 ∙ ap (spare_room c.args.edit) (sym len) in
    subst (λ n. n ≤ c.in-Ok.spare.block.capacity) (sym same) c.in-Ok.ensures.room

pub apply-outcome-requires-clause-answer : goal.apply-outcome-requires-clause-answer
apply-outcome-requires-clause-answer g c =
    let names = c.args.self.now.names in
    let h = holding_at names c.args.name in
    let found = found_size names c.args.name c.in-Some.size (sym c.in-Some.is ∙ c.size.ensures.size) in
    let len = ap (λ s. s.len) found.1 in
    let copied = c.copies.ensures.copies ∙ ap (copies c.args.edit) len in
    let same =
    ap (taken_out c.args.edit) (c.in-Ok-own.ensures.len ∙ (λ i. cond (is_shared h) (copied i) (length h.items)))
    ∙ (taken_same (length h.items) c.args.edit (is_shared h)).0 ∙ ap (taken_out c.args.edit) (sym len) in
    subst (λ n. n ≤ vec_capacity c.in-Ok.spare.answer) (sym same) c.in-Ok.ensures.answer

pub returns-clause-carried : goal.returns-clause-carried
returns-clause-carried g c =
    let names = c.args.self.now.names in
    let h = holding_at names c.args.name in
    let found = found_size names c.args.name c.in-Some.size (sym c.in-Some.is ∙ c.size.ensures.size) in
    let len = ap (λ s. s.len) found.1 in
    let capacity = ap (λ s. s.capacity) found.1 in
    let owners = ap (λ s. s.owners) found.1 in
    let fits : length h.items ≤ MAX = omega (arith, len, c.in-Some.ensures.bounds.0, c.in-Some.ensures.bounds.1) in
    let asked = sym (c.check.ensures h.items (sym len)) ∙ c.in_default-check.is in
    let copied = c.copies.ensures.copies ∙ ap (copies c.args.edit) len in
    let wanted = c.capacity.ensures.capacity ∙ (λ i. capacity_after c.args.edit (nat_lt 1 (owners i)) (len i) (capacity i)) in
    let leaves : is_shared h ≡ true → unshares c.args.edit (length h.items) ≡ true = λ shared. elim c.else-size-gt1.branch [
      | else-size-gt1-via-then-size-gt1+else-not-unshares w ↦ ap (unshares c.args.edit) (sym len) ∙ sym w.unshares.ensures ∙ w.if-not-unshares.false
      | else-size-gt1-via-else-size-gt1 w ↦ absurd (true≢false (sym shared ∙ ap (nat_lt 1) (sym owners) ∙ le-ltb 1 c.in-Some.size.owners w.if-size-gt1.false))
    ] in
    let end = c.apply-outcome.new.block in
    let at_end = c.apply-outcome.ensures.capacity ∙ c.in-Ok-own.ensures.cost.capacity in
    edit_done (ClonesAreEqual g.T.Clone.is_clone) names c.args.name c.args.edit h found.0
    asked leaves fits c.in-Ok-own.own.block.items end.items end.capacity _ _
    (λ ok. c.in-Ok-own.ensures.items ok ∙ (λ i. cond (is_shared h) (take (copied i) h.items) h.items))
    (λ ok. c.apply-outcome.ensures.change (c.in-Ok.ensures.items ok))
    c.apply-outcome.ensures.accepted
    (at_end ∙ wanted)
    (c.settle.ensures.names ∙ c.in-Ok-own.ensures.opened.settles end.items end.capacity)
    (c.in-Ok-own.ensures.cost.copied ∙ (λ i. cond (is_shared h) (copied i) 0))
    (c.in-Ok-own.ensures.cost.moved
    ∙ (λ i. cond (is_shared h) 0 (cond (nat_le (sym at_end i) h.capacity) 0 ((c.staying.ensures.staying ∙ ap (staying c.args.edit) len) i))))
