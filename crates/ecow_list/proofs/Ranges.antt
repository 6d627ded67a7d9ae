-- Where a range of indices lies in a list.
use Rattle.std.proofs.Common.{◌≡◌, ◌≤◌, ℕ, Some, rules}
use Rattle.std.specs.declared.ops.Bound.TheVariants.{Included, Excluded}
use Rattle.ecow_base.specs.Range.{range_of}

-- a range whose bounds are in order and within the list is where they are
pub within : (start end len : ℕ) → start ≤ end → end ≤ len → range_of (Included start, Excluded end) len ≡ Some (start, end)
within start end len in_order in_bounds = search rules
