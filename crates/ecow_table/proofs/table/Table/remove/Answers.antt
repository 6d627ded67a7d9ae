use Rattle.std.proofs.Common.{ap, sym, ◌∙◌, None, slice_set}
use Rattle.std.specs.FinMap as map
use Rattle.std.proofs.lemmas.List.{get_or_past}
use Rattle.ecow_table.specs.Tables.{values_of}
use Rattle.ecow_table.proofs.Maps.{get-slot, get-entry, clear-slot, no-slot, cut-entry}
use Rattle.ecow_table.proofs.table.Table.remove.Goals as goal

pub returns-in_ok-get_mut-clause-value : goal.returns-in_ok-get_mut-clause-value
returns-in_ok-get_mut-clause-value g c =
    c.take.ensures.value ∙ c.in_ok-get_mut.ensures.item.3.1 None
    ∙ sym (get-slot c.self.inside.slots.items c.self.inside.others.entries c.args.name c.if-name-lt-SLOTS.true)
    ∙ ap (λ m. map.get m c.args.name) c.self.view_is

pub returns-in_err-get_mut-clause-value : goal.returns-in_err-get_mut-clause-value
returns-in_err-get_mut-clause-value g c =
    c.from_residual.ensures
    ∙ sym (get_or_past c.self.inside.slots.items c.args.name None c.in_err-get_mut.ensures.item.3)
    ∙ sym (get-slot c.self.inside.slots.items c.self.inside.others.entries c.args.name c.if-name-lt-SLOTS.true)
    ∙ ap (λ m. map.get m c.args.name) c.self.view_is

pub returns-in_ok-get_mut-clause-removed : goal.returns-in_ok-get_mut-clause-removed
returns-in_ok-get_mut-clause-removed g c =
    let slots = c.self.inside.slots.items in
    let es = c.self.inside.others.entries in
    let k = c.args.name in
    ap (λ o. values_of (slice_set slots k o) es) c.take.ensures.after
    ∙ clear-slot slots es k c.if-name-lt-SLOTS.true c.in_ok-get_mut.ensures.item.3.0
    ∙ ap (λ m. map.remove m k) c.self.view_is

pub returns-in_err-get_mut-clause-removed : goal.returns-in_err-get_mut-clause-removed
returns-in_err-get_mut-clause-removed g c =
    let slots = c.self.inside.slots.items in
    let k = c.args.name in
    no-slot slots c.self.inside.others.entries k c.if-name-lt-SLOTS.true
    (get_or_past slots k None c.in_err-get_mut.ensures.item.3)
    ∙ ap (λ m. map.remove m k) c.self.view_is

pub returns-else-name-lt-SLOTS-clause-value : goal.returns-else-name-lt-SLOTS-clause-value
returns-else-name-lt-SLOTS-clause-value g c =
    c.remove.ensures.value
    ∙ sym (get-entry c.self.inside.slots.items c.self.inside.others.entries c.args.name
    c.if-name-lt-SLOTS.false)
    ∙ ap (λ m. map.get m c.args.name) c.self.view_is

pub returns-else-name-lt-SLOTS-clause-removed : goal.returns-else-name-lt-SLOTS-clause-removed
returns-else-name-lt-SLOTS-clause-removed g c =
    cut-entry c.self.inside.slots.items c.self.inside.others.entries c.args.name c.if-name-lt-SLOTS.false
    c.remove.new.self.entries c.remove.ensures.updates.0
    ∙ ap (λ m. map.remove m c.args.name) c.self.view_is
