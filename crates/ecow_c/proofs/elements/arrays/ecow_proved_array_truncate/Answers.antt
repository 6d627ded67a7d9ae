use Rattle.std.proofs.Common.{rules, arith, ◌≡◌, ◌<◌, ◌≤◌, ◌+◌, ◌*◌, ◌^◌, ◌++◌, ◌∷◌, [], true, length, take, drop, ap, sym, ◌∙◌}
use Rattle.std.specs.Prelude.{Some, slice_set, remove}
use Rattle.std.specs.List.{replace_range}
use Rattle.ecow_c.specs.Arrays.{AltersArray, are_items, count_in, items_in}
use Rattle.ecow_c.proofs.Items.{alters_items, concat_take_most}
use Rattle.ecow_c.proofs.elements.arrays.ecow_proved_array_truncate.Goals as goal

pub returns-clause-items : goal.returns-clause-items
returns-clause-items c =
    let size = c.args.size in
    let bytes = c.in-Some.value.now in
    let is : c.args.pointer.now.value ≡ Some bytes = search rules in
    let are : are_items size bytes ≡ true = search rules in
    let most = c.saturating_mul.result in
    let short : length bytes < 2 ^ 64 = search rules in
    let done : AltersArray (λ bs. take most bs) c.args.pointer.now.value c.status.result (Some c.truncate.new.self) = search rules in
    alters_items size (λ xs. take c.args.len xs) (λ bs. take most bs) _ _ _ bytes is (concat_take_most size c.args.len most bytes are (λ within. omega (arith, c.saturating_mul.ensures, within, short)) (λ past. omega (arith, c.saturating_mul.ensures, past, short))) done
