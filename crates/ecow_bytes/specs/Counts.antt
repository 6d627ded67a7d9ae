-- How many of the cells of an array are used, where the last ones say it.
use Rattle.std.specs.Prelude.{ℕ, ◌-◌, List, take, drop, min, nat_lt, slice_index, if◌then◌else◌}
use Rattle.std.specs.Int.{w64, from_le_bytes}

-- the number in the eight cells before the last of so many, the lowest byte first
unfoldable pub before_last : ℕ → List ℕ → ℕ
before_last limit cells = from_le_bytes w64 (take 8 (drop (limit - 9) cells))

-- Of at most 256 cells the last says how many are used, and of more how many before it are free.
-- Where 255 are, or more, the eight before it say how many are used.
unfoldable pub counted : ℕ → List ℕ → ℕ
counted limit cells =
    if nat_lt limit 257 then slice_index cells (limit - 1)
    else if nat_lt (slice_index cells (limit - 1)) 255
    then limit - 1 - slice_index cells (limit - 1)
    else min (limit - 256) (before_last limit cells)
