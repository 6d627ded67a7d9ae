-- How deep the parts of a container nest.
use Rattle.std.specs.Prelude.{ℕ, List, [], ◌∷◌, max}

-- the largest of some numbers, and 0 of none
abbrev pub largest : List ℕ → ℕ
largest [] = 0
largest (n ∷ ns) = max n (largest ns)
