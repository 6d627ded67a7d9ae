use Rattle.std.proofs.Common.{◌≡◌, ◌+◌, ◌++◌, ◌≤◌, length, vec_capacity}
use Rattle.ecow_block.proofs.rest.Rest.collect_into.Given as goal

abbrev pub invariant-loop-item : goal.invariant-loop-item
invariant-loop-item g l = record {
  moved : l.elements.items ++ l.rest ≡ l.fn.elements.items ++ l.fn.self;
  room : length l.elements.items + length l.rest ≤ vec_capacity l.elements;
}

abbrev pub decreases-loop-item : goal.decreases-loop-item
decreases-loop-item g l = length l.rest
