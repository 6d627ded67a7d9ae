-- What a hasher is fed of bytes.
use Rattle.std.specs.Prelude.{ℕ, List, [], ◌∷◌, ◌++◌, length}
use Rattle.std.specs.Hash as fed
use Rattle.std.specs.Hash.{HashWrites}

-- how many there are, and then all of them in one write
abbrev pub hash_writes : List ℕ → HashWrites
hash_writes xs = fed.usize (length xs) ++ xs ∷ []
