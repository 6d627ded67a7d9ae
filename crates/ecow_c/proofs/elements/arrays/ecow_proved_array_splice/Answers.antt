use Rattle.std.proofs.Common.{rules, arith, ◌≡◌, ◌≤◌, ◌+◌, ◌*◌, ◌++◌, ◌∷◌, [], true, length, take, drop, ap, sym, ◌∙◌}
use Rattle.std.specs.Prelude.{Some, slice_set, remove}
use Rattle.std.specs.List.{replace_range}
use Rattle.ecow_c.specs.Arrays.{AltersArray, are_items, count_in, items_in}
use Rattle.ecow_c.proofs.Items.{alters_items, bytes_in_bounds, bytes_in_order, concat_splice, passes_empty, replaced}
use Rattle.ecow_c.proofs.elements.arrays.ecow_proved_array_splice.Goals as goal

pub returns-in-Err-clause-capacity : goal.returns-in-Err-clause-capacity
returns-in-Err-clause-capacity c =
    let size = c.args.size in
    let added = c.args.added.now in
    let bytes = c.in-Some.value.now in
    let is : c.args.pointer.now.value ≡ Some bytes = search rules in
    let are : are_items size bytes ≡ true = search rules in
    let are_added : are_items size added ≡ true = search rules in
    let in_order : c.args.start ≤ c.args.end = omega (arith, c.if-start-end.false) in
    let in_bounds : c.args.end ≤ count_in size bytes = search rules in
    let passes = passes_empty size c.args.start c.args.end added bytes c.in-Err.ensures.empty are in_order in_bounds in
    search (rules, is, are, are_added, passes)

pub returns-clause-items : goal.returns-clause-items
returns-clause-items c =
    let size = c.args.size in
    let added = c.args.added.now in
    let bytes = c.in-Some.value.now in
    let is : c.args.pointer.now.value ≡ Some bytes = search rules in
    let are : are_items size bytes ≡ true = search rules in
    let are_added : are_items size added ≡ true = search rules in
    let in_order : c.args.start ≤ c.args.end = omega (arith, c.if-start-end.false) in
    let in_bounds : c.args.end ≤ count_in size bytes = search rules in
    let same : c.reserve_first.new.array ≡ bytes = search rules in
    let left = replaced c.replace_range.result c.reserve_first.new.array c.replace_range.new.self added (c.args.start * size) (c.args.end * size)
    (bytes_in_order size c.args.start c.args.end in_order)
    (omega (arith, ap length same, bytes_in_bounds size c.args.end bytes are in_bounds)) c.replace_range.ensures.ok in
    let done : AltersArray (λ bs. replace_range bs (c.args.start * size) (c.args.end * size) added) c.args.pointer.now.value c.status.result (Some c.replace_range.new.self) =
    search (rules, is, same, left) in
    alters_items size (λ xs. replace_range xs c.args.start c.args.end (items_in size added)) (λ bs. replace_range bs (c.args.start * size) (c.args.end * size) added) _ _ _ bytes is
    (concat_splice size c.args.start c.args.end bytes added are are_added in_order in_bounds) done
