use Rattle.std.proofs.Common.{ap, sym, ◌∙◌, inr, None}
use Rattle.std.specs.Prelude.{slice_set}
use Rattle.std.specs.FinMap as map
use Rattle.std.proofs.lemmas.List.{set-get_or, get_or_past}
use Rattle.ecow_table.specs.Tables.{values_of}
use Rattle.ecow_table.proofs.Maps.{get-slot, put-slot, get-entry, put-entry, same_loan, found}
use Rattle.ecow_table.proofs.table.Table.get_mut.Goals as goal

pub returns-in_ok-self-inside : goal.returns-in_ok-self-inside
returns-in_ok-self-inside g c =
    let slots = c.self.inside.slots.items in
    let es = c.self.inside.others.entries in
    let k = c.args.name in
    let small = c.if-name-lt-SLOTS.true in
    let within = c.in_ok-self-inside.ensures.item.3.0 in
    let held = c.in_ok-self-inside.ensures.item.3.1 None in (
      same_loan c.as_mut.result _ _ _ _
          (λ some w. put-slot slots es k small w within ∙ ap (λ m. map.insert m k w) c.self.view_is)
          (ap (λ o. values_of (slice_set slots k o) es) held
          ∙ ap (λ s. values_of s es) (set-get_or slots k None) ∙ c.self.view_is),
      record {
        writes_back = tt;
        value = c.as_mut.ensures.value ∙ held ∙ sym (get-slot slots es k small)
            ∙ ap (λ m. map.get m k) c.self.view_is;
      },
    )

pub returns-in_err-self-inside : goal.returns-in_err-self-inside
returns-in_err-self-inside g c =
    let slots = c.self.inside.slots.items in
    let k = c.args.name in
    let past = c.in_err-self-inside.ensures.item.3 in
    rw c.from_residual.ensures (
      ap inr c.self.view_is,
      record {
        writes_back = tt;
        value = sym (get_or_past slots k None past)
            ∙ sym (get-slot slots c.self.inside.others.entries k c.if-name-lt-SLOTS.true)
            ∙ ap (λ m. map.get m k) c.self.view_is;
      },
    )

pub returns-else-name-lt-SLOTS : goal.returns-else-name-lt-SLOTS
returns-else-name-lt-SLOTS g c =
    let slots = c.self.inside.slots.items in
    let es = c.self.inside.others.entries in
    let k = c.args.name in
    let large = c.if-name-lt-SLOTS.false in
    let lent = c.get_mut-else-name-lt-SLOTS in (
      same_loan lent.result _ _ _ _
          (λ some w. put-entry slots es k large _ w
          ((lent.follows.holds w).3 (found lent.result _ lent.ensures.value some)).0
          ∙ ap (λ m. map.insert m k w) c.self.view_is)
          (ap (λ m. values_of slots m.entries) lent.follows.holds-at-none ∙ c.self.view_is),
      record {
        writes_back = tt;
        value = lent.ensures.value ∙ sym (get-entry slots es k large)
            ∙ ap (λ m. map.get m k) c.self.view_is;
      },
    )
