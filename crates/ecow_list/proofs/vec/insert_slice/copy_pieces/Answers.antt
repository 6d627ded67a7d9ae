use Rattle.std.proofs.Common.{◌≡◌, ◌+◌, ◌-◌, ◌≤◌, length, take, drop, ap, ◌∙◌}
use native.Mathlib.Omega.{arith}
use Rattle.std.proofs.lemmas.List.{length-drop, length-take-le}
use Rattle.ecow_list.proofs.Pieces.{pieces_put}
use Rattle.ecow_list.proofs.vec.insert_slice.copy_pieces.Goals as goal

-- src/vec/insert_slice.rt:121:1
pub returns : goal.returns
returns g c =
    let k = g.row.K in
    let n = c.args.end - c.args.start in
    let all = c.args.all.now in
    let s = drop c.args.start all in
    let long : n ≤ length s = omega (arith, c.requires.in_order, c.requires.in_bounds, length-drop c.args.start all) in
    let count : length (take n s) ≡ n = length-take-le n s long in
    let cases = c.in-Some-Some.ensures.cases in
    let cases' = c.in-Some-Some.ensures'.cases in
    let first : c.copy_from_slice.new.self ≡ take k (take n s) = c.copy_from_slice.ensures.after ∙ cases.same in
    let last : c.copy_from_slice-2.new.self ≡ drop (n - k) (take n s) =
    c.copy_from_slice-2.ensures.after ∙ cases'.1.same ∙ ap (λ l. drop (l - k) (take n s)) count in
    let few : k ≤ n = omega (arith, cases.enough, count) in
    pieces_put all c.args.to s k n c.copy_from_slice.new.self c.copy_from_slice-2.new.self
    (c.args.to + n - k) (c.args.to + k - c.args.to) (c.args.to + n - (c.args.to + n - k))
    few c.requires.covered (omega (arith, c.requires.room)) long first last (omega (arith, few)) (omega arith) (omega (arith, few))
