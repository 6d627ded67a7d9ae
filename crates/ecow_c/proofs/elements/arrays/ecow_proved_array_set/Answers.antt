use Rattle.std.proofs.Common.{rules, arith, refl, ◌≡◌, ◌<◌, ◌≤◌, ◌+◌, ◌-◌, ◌*◌, ◌^◌, ◌++◌, ◌∷◌, [], true, length, take, drop, ap, sym, ◌∙◌}
use Rattle.std.specs.Prelude.{Some, slice_set}
use Rattle.ecow_c.specs.Arrays.{AltersArray, are_items, count_in, items_in}
use Rattle.ecow_c.proofs.Items.{concat_set, lent_alters, written}
use Rattle.ecow_c.proofs.elements.arrays.ecow_proved_array_set.Goals as goal

pub returns-clause-items : goal.returns-clause-items
returns-clause-items c =
    let item = c.args.item.now in
    let bytes = c.in-Some.value.now in
    let start = c.in-Some-start_of.value in
    let is : c.args.pointer.now.value ≡ Some bytes = search rules in
    let are : are_items (length item) bytes ≡ true = search rules in
    let there = c.in-Some-start_of.ensures in
    let begins : start ≡ c.args.index * length item = search rules in
    let below : c.args.index < count_in (length item) bytes = search rules in
    let fits : start + length item ≤ length bytes = search rules in
    lent_alters (length item) (λ xs. slice_set xs c.args.index item)
    (λ bs. take (c.args.index * length item) bs ++ (item ++ drop (c.args.index * length item + length item) bs)) _ bytes c.own_mut.follows.lender _ is
    (concat_set (length item) c.args.index bytes item are below)
    (c.own_mut.follows.holds _ (search rules)
    ∙ written c.in-Ok.block.now.items c.as_mut_slice.result.now bytes item c.copy_from_slice.new.self start (start + length item - start)
    c.as_mut_slice.ensures.value (c.in-Ok.ensures.value (λ x y same. same)) c.copy_from_slice.ensures.after fits (omega arith)
    ∙ ap (λ at. take at bytes ++ (item ++ drop (at + length item) bytes)) begins)
    refl (λ e. omega (arith, e))
