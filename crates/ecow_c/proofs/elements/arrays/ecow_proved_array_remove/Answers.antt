use Rattle.std.proofs.Common.{rules, arith, refl, ◌≡◌, ◌<◌, ◌≤◌, ◌+◌, ◌-◌, ◌*◌, ◌^◌, ◌++◌, ◌∷◌, [], true, length, take, drop, ap, sym, ◌∙◌}
use Rattle.std.specs.Prelude.{Some, remove, slice_get}
use Rattle.ecow_c.specs.Answers.{Writes}
use Rattle.ecow_c.specs.Arrays.{AltersArray, are_items, count_in, items_in}
use Rattle.ecow_c.proofs.Items.{concat_remove, closed, get_item, lent_alters, taken}
use Rattle.ecow_c.proofs.elements.arrays.ecow_proved_array_remove.Goals as goal

pub returns-clause-items : goal.returns-clause-items
returns-clause-items c =
    let size = length c.args.out.now in
    let bytes = c.in-Some.value.now in
    let start = c.in-Some-start_of.value in
    let is : c.args.pointer.now.value ≡ Some bytes = search rules in
    let are : are_items size bytes ≡ true = search rules in
    let begins : start ≡ c.args.index * size = search rules in
    let below : c.args.index < count_in size bytes = search rules in
    let fits : start + size ≤ length bytes = search rules in
    lent_alters size (λ xs. remove xs c.args.index) (λ bs. take (c.args.index * size) bs ++ drop (c.args.index * size + size) bs) _ bytes
    c.own_mut.follows.lender _ is (concat_remove size c.args.index bytes are below)
    (c.own_mut.follows.holds _ (search rules) ∙ ap (λ b. b.items) c.truncate.ensures
    ∙ closed c.in-Ok.block.now.items c.as_mut_slice-all.result.now bytes c.copy_within.new.self start size c.len-len.result
    c.as_mut_slice-all.ensures.value (c.in-Ok.ensures.value (λ x y same. same)) c.len-len.ensures.len fits c.copy_within.ensures.after
    ∙ ap (λ at. take at bytes ++ drop (at + size) bytes) begins)
    refl (λ e. omega (arith, e))

pub returns-clause-out : goal.returns-clause-out
returns-clause-out c =
    let size = length c.args.out.now in
    let bytes = c.in-Some.value.now in
    let start = c.in-Some-start_of.value in
    let is : c.args.pointer.now.value ≡ Some bytes = search rules in
    let begins : start ≡ c.args.index * size = search rules in
    let below : c.args.index < count_in size bytes = search rules in
    let all : c.as_mut_slice-all.result.now ≡ bytes = c.as_mut_slice-all.ensures.value ∙ c.in-Ok.ensures.value (λ x y same. same) in
    let copied : c.copy_from_slice.new.self ≡ take size (drop (c.args.index * size) bytes) =
    c.copy_from_slice.ensures.after ∙ taken start size c.as_mut_slice-all.result.now ∙ ap (λ xs. take size (drop start xs)) all
    ∙ ap (λ at. take size (drop at bytes)) begins in
    let item = get_item size c.args.index bytes below ∙ ap Some (sym copied) in
    search (rules, is, item)
