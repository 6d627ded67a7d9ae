use Rattle.std.proofs.Common.{ap, sym, ◌∙◌, None, get_or}
use Rattle.std.specs.FinMap as map
use Rattle.std.specs.Option.{option_copied}
use Rattle.std.proofs.lemmas.List.{get_or_past}
use Rattle.ecow_table.proofs.Maps.{get-slot, get-entry}
use Rattle.ecow_table.proofs.table.Table.get.Goals as goal

pub returns-in_ok-get : goal.returns-in_ok-get
returns-in_ok-get g c =
    c.as_ref.ensures.value ∙ c.in_ok-get.ensures.lookup.3.1 None
    ∙ ap (λ s. get_or s c.args.name None) c.as_slice.ensures.value
    ∙ sym (get-slot c.self.inside.slots.items c.self.inside.others.entries c.args.name
    c.if-name-lt-SLOTS.true)
    ∙ ap (λ m. map.get m c.args.name) c.self.view_is

pub returns-in_err-get : goal.returns-in_err-get
returns-in_err-get g c =
    ap option_copied c.from_residual.ensures
    ∙ sym (get_or_past c.as_slice.result.now c.args.name None c.in_err-get.ensures.lookup.3)
    ∙ ap (λ s. get_or s c.args.name None) c.as_slice.ensures.value
    ∙ sym (get-slot c.self.inside.slots.items c.self.inside.others.entries c.args.name
    c.if-name-lt-SLOTS.true)
    ∙ ap (λ m. map.get m c.args.name) c.self.view_is

pub returns-else-name-lt-SLOTS : goal.returns-else-name-lt-SLOTS
returns-else-name-lt-SLOTS g c =
    c.get-else-name-lt-SLOTS.ensures.value
    ∙ sym (get-entry c.self.inside.slots.items c.self.inside.others.entries c.args.name c.if-name-lt-SLOTS.false)
    ∙ ap (λ m. map.get m c.args.name) c.self.view_is
