-- How much room a block is given. Lengths and capacities are numbers of elements.
use Rattle.std.specs.Prelude.{ℕ, ◌+◌, ◌*◌, min, max, nat_lt, nat_le, if◌then◌else◌}

-- the greatest length and capacity
abbrev pub MAX : ℕ
MAX = 9223372036854775807

-- the capacity of a new block with room for this many items: none for none, and at least 4
abbrev pub fresh : ℕ → ℕ
fresh n = if nat_lt 0 n then max n 4 else 0

-- what a block grows to
abbrev pub grown : ℕ → ℕ → ℕ → ℕ
grown len k capacity = min (max (max (len + k) (2 * capacity)) 4) MAX

-- the capacity with which k more items go in
abbrev pub room : ℕ → ℕ → ℕ → ℕ
room len k capacity = if nat_le (len + k) capacity then capacity else grown len k capacity
