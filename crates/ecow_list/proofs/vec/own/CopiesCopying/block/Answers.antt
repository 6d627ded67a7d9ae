use Rattle.std.proofs.Common.{◌≡◌, List, Result, Ok, Err, IfOk, sym, subst}
use Rattle.std.specs.List.{AllZip}
use Rattle.ecow_block.specs.Contents.{Contents, contents}
use Rattle.ecow_list.proofs.Kept.{zip_same}
use Rattle.ecow_list.proofs.vec.own.CopiesCopying.block.Goals as goal

-- a block of these very elements has a copy of each
all_same : {X E : Type 0} (xs : List X) (n : _) (r : Result (Contents X) E)
    → IfOk r (λ b. b ≡ contents xs n) → IfOk r (λ b. AllZip (λ (x y : X). y ≡ x) xs b.items)
all_same xs n (Ok b) same = subst (λ (b : Contents _). AllZip (λ x y. y ≡ x) xs b.items) (sym same) (zip_same (λ x y. y ≡ x) xs)
all_same xs n (Err e) same = tt

pub returns-clause-copies : goal.returns-clause-copies
returns-clause-copies g c = all_same c.args.elements.now c.args.capacity c.from_copies.result c.from_copies.ensures
