use Rattle.std.proofs.Common.{rules, arith, ◌≡◌, ◌+◌, ◌*◌, ◌++◌, ◌∷◌, [], true, length, take, drop, ap, sym, ◌∙◌}
use Rattle.std.specs.Prelude.{Some, slice_set, remove}
use Rattle.std.specs.List.{replace_range}
use Rattle.ecow_c.specs.Arrays.{AltersArray, are_items, count_in, items_in}
use Rattle.ecow_c.proofs.Items.{alters_items, concat_push}
use Rattle.ecow_c.proofs.elements.arrays.ecow_proved_array_push.Goals as goal

pub returns-clause-items : goal.returns-clause-items
returns-clause-items c =
    let item = c.args.item.now in
    let bytes = c.in-Some.value.now in
    let is : c.args.pointer.now.value ≡ Some bytes = search rules in
    let are : are_items (length item) bytes ≡ true = search rules in
    let done : AltersArray (λ bs. bs ++ item) c.args.pointer.now.value c.status.result (Some c.extend_from_copied.new.self) = search rules in
    alters_items (length item) (λ xs. xs ++ item ∷ []) (λ bs. bs ++ item) _ _ _ bytes is (concat_push (length item) bytes item are) done
