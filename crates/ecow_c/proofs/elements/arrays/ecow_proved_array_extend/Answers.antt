use Rattle.std.proofs.Common.{rules, arith, ◌≡◌, ◌+◌, ◌*◌, ◌++◌, ◌∷◌, [], true, length, take, drop, ap, sym, ◌∙◌}
use Rattle.std.specs.Prelude.{Some, slice_set, remove}
use Rattle.std.specs.List.{replace_range}
use Rattle.ecow_c.specs.Arrays.{AltersArray, are_items, count_in, items_in}
use Rattle.ecow_c.proofs.Items.{alters_items, concat_extend}
use Rattle.ecow_c.proofs.elements.arrays.ecow_proved_array_extend.Goals as goal

pub returns-clause-items : goal.returns-clause-items
returns-clause-items c =
    let added = c.args.added.now in
    let size = c.args.size in
    let bytes = c.in-Some.value.now in
    let is : c.args.pointer.now.value ≡ Some bytes = search rules in
    let are : are_items size bytes ≡ true = search rules in
    let are_added : are_items size added ≡ true = search rules in
    let done : AltersArray (λ bs. bs ++ added) c.args.pointer.now.value c.status.result (Some c.extend_from_copied.new.self) = search rules in
    alters_items size (λ xs. xs ++ items_in size added) (λ bs. bs ++ added) _ _ _ bytes is (concat_extend size bytes added are are_added) done
