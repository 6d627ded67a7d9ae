use Rattle.std.proofs.Common.{◌≡◌, ℕ, List, length, arith, subst, sym}
use Rattle.std.proofs.lemmas.Grind.{common_steps}
use Rattle.std.proofs.lemmas.List.Sorted.{IsNonDecreasingBy-from_sort}
use Rattle.std.specs.List.{refill}
use Rattle.std.specs.List.Sorted.{IsNonDecreasing}
use Rattle.ecow_list.proofs.Views.{refilled}
use Rattle.ecow_uses.proofs.writing.sort.Goals as goal

-- what was sorted behind the loan is what the vector has
pub returns-in-Ok-clause-ok : goal.returns-in-Ok-clause-ok
returns-in-Ok-clause-ok c =
    let P : List ℕ → Type 0 = λ xs. IsNonDecreasing xs in
    let same : c.own_mut.follows.lender
    (record {
      items = refill (length c.in-Ok.block.now.items) c.in-Ok.block.now.items c.sort_unstable.new.self;
      capacity = c.in-Ok.block.now.capacity;
    }) ≡ c.sort_unstable.new.self = grind (arith, common_steps, refilled) in
    subst P (sym same) (IsNonDecreasingBy-from_sort (λ n. n) _ c.sort_unstable.ensures.sorted)
