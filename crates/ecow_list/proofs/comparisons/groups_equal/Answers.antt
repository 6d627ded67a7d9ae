use Rattle.std.proofs.Common.{arith, ◌≡◌, ◌+◌, ◌++◌, ◌∷◌, [], length, take, get_or, ap₂, sym, ◌∙◌}
use mathlib.Core.Bool.{◌&&◌}
use Rattle.std.proofs.lemmas.Grind.{common_steps}
use Rattle.ecow_list.proofs.Equals.{one_more}
use Rattle.ecow_list.proofs.comparisons.groups_equal.Goals as goal

pub loop-i-preserved : goal.loop-i-preserved
loop-i-preserved g c =
    let i = c.loop-i.i in let xs = c.args.left.now in let ys = c.args.right.now in
    let x = get_or xs i c.index-left-i.result in let y = get_or ys i c.index-right-i.result in
    let next : take (i + 1) xs ≡ take i xs ++ x ∷ [] = grind (arith, common_steps) in
    let other : take (i + 1) ys ≡ take i ys ++ y ∷ [] = grind (arith, common_steps) in
    let as_long : length (take i xs) ≡ length (take i ys) = grind (arith, common_steps) in (
      omega (arith, c.loop-i-test.true),
      ap₂ (λ a b. a && b) c.loop-i.invariant.1 c.eq-equal.ensures
          ∙ sym (one_more g.T.PartialEq.eq (take i xs) (take i ys) (take (i + 1) xs) (take (i + 1) ys) x y as_long next other),
    )
