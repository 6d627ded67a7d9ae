use Rattle.std.proofs.Common.{◌≡◌, ◌≤◌, drop, map, length}
use Rattle.ecow_nested.specs.Values.{each_holds, value_eq, field_eq}
use Rattle.ecow_nested.proofs.value.Value.+equals.Given as goal

-- the values are equal where what is left of both lists is
abbrev pub invariant-loop-item : goal.invariant-loop-item
invariant-loop-item l = (l.index ≡ l.item-index) × (length l.item-items ≡ length l.others)
    × (value_eq l.fn.self l.fn.other ≡ each_holds (map value_eq (drop l.index l.item-items)) (drop l.index l.others))

abbrev pub invariant-loop-index : goal.invariant-loop-index
invariant-loop-index l = (length l.left.items ≡ length l.right.items) × (l.index ≤ length l.left.items)
    × (value_eq l.fn.self l.fn.other ≡ each_holds (map field_eq (drop l.index l.left.items)) (drop l.index l.right.items))
