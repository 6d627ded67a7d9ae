-- What holds at the range that a pair of bounds has in a list.
use Rattle.std.specs.Prelude.{ℕ, IfSome}
use Rattle.std.specs.declared.ops.Bound.{Bound}
use Rattle.ecow_base.specs.Range.{range_of}

-- P holds of the start and the end of the range
abbrev pub AtRange : Bound ℕ × Bound ℕ → ℕ → (ℕ → ℕ → Type 0) → Type 0
AtRange bounds len P = IfSome (range_of bounds len) (λ part. P part.0 part.1)
