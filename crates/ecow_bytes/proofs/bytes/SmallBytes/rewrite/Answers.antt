use Rattle.std.proofs.Common.{rules, ◌≡◌, [], IsOk, refl, sym, ◌∙◌}
use Rattle.ecow_list.proofs.Kept.{kept_equal, none_kept}
use Rattle.ecow_bytes.proofs.Rewritten.{rewritten, none_rewritten}
use Rattle.ecow_bytes.proofs.bytes.SmallBytes.rewrite.Goals.{in-Ok, in-Err-None, in-Err-Some}
use Rattle.ecow_bytes.proofs.bytes.SmallBytes.rewrite.Goals as goal

-- a closure is lent the bytes of a block, and none where there is no block
pub returns-after-own_mut-clause-bytes : goal.returns-after-own_mut-clause-bytes
returns-after-own_mut-clause-bytes g c =
    let same : c.in-Spilled.vec ≡ c.args.self.now.bytes = search rules in
    elim c.match-own_mut.branch [
      | in-Ok w ↦
          let own : w.in-Ok.block.now.items ≡ c.in-Spilled.vec = w.in-Ok.ensures.value (λ x y same. same) in
          let ok : IsOk c.own_mut.result = search rules in
          let written = c.own_mut.follows.holds w.truncate.new.self ok ∙ (λ i. (w.truncate.ensures i).items) in
          rw (w.result-is, w.self-inside-is) (rewritten g.F.FnOnce c.args.f _ _ _ w.as_mut_slice.result _ w.f-len.result
          (own ∙ same) w.as_mut_slice.ensures.value w.f-len.auto.arg2 w.f-len.ensures written)
      | in-Err-None w ↦
          let none : c.in-Spilled.vec ≡ [] = search rules in
          let kept = rw w.in-Err-None.is at c.own_mut.follows.holds-at-none in
          rw (w.result-is, w.self-inside-is) (none_rewritten g.F.FnOnce c.args.f _ _ _ _ w.f.result
          (sym same ∙ none) (none_kept _ _ _ none kept) refl w.f.auto.arg2 w.f.ensures)
      | in-Err-Some w ↦ search rules
    ]

-- where the copy was refused, the vector has the bytes of before
pub returns-after-own_mut-clause-refused : goal.returns-after-own_mut-clause-refused
returns-after-own_mut-clause-refused g c = elim c.match-own_mut.branch [
  | in-Ok w ↦ search rules
  | in-Err-None w ↦ search rules
  | in-Err-Some w ↦
      let kept = kept_equal _ (λ x y same. same) _ _ (rw w.in-Err-Some.is at c.own_mut.follows.holds-at-none) in
      rw (w.result-is, w.self-inside-is, kept) (search rules)
]
