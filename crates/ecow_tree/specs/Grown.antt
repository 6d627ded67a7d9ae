-- What a node is seen as.
use Rattle.std.specs.Prelude.{ℕ, List}

-- how high it stands above the leaves, and its elements in order
pub record Grown (T : Type 0) : Type 0 where
  pub height : ℕ
  pub items : List T
