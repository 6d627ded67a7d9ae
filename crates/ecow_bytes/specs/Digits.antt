-- Bytes as a number, the lowest first.
use Prim.Native.Nat.{ℕ, zero, suc, ◌+◌, ◌*◌, ◌/◌, ◌%◌}
use mathlib.Core.List.{List, [], ◌∷◌}

-- the number that bytes are
abbrev pub number : List ℕ → ℕ
number [] = 0
number (b ∷ bytes) = b + 256 * number bytes

-- the lowest bytes of a number, so many
abbrev pub digits : ℕ → ℕ → List ℕ
digits zero n = []
digits (suc k) n = n % 256 ∷ digits k (n / 256)
