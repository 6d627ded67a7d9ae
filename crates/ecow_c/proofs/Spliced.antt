-- What a splice of a range within a list leaves.
use Rattle.std.proofs.Common.{◌≡◌, ◌≤◌, ℕ, List, length, IfSome, Option, ap, ◌∙◌, subst}
use Rattle.std.specs.List.{splice}
use Rattle.std.specs.declared.ops.Bound.TheVariants.{Included, Excluded}
use Rattle.ecow_list.specs.Ranges.{AtRange}
use Rattle.ecow_list.proofs.Ranges.{within}

pub spliced : {X : Type 0} (removed : ℕ → ℕ → Type 0) (xs new items given : List X) (start end : ℕ) → start ≤ end → end ≤ length xs → given ≡ items
    → AtRange (Included start, Excluded end) (length xs) (λ s e. removed s e × (new ≡ splice xs s e given)) → new ≡ splice xs start end items
spliced removed xs new items given start end in_order in_bounds same h =
    (subst (λ (range : Option (ℕ × ℕ)). IfSome range (λ part. removed part.0 part.1 × (new ≡ splice xs part.0 part.1 given)))
    (within start end (length xs) in_order in_bounds) h).1
    ∙ ap (splice xs start end) same
