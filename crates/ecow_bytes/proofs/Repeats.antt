-- Several copies of a list, end to end.
use Rattle.std.proofs.Common.{◌≡◌, ℕ, zero, suc, ◌+◌, ◌-◌, ◌*◌, ◌≤◌, List, ◌++◌, length, take, sym, ap, ◌∙◌, arith, append_assoc}
use Rattle.std.proofs.lemmas.List.{take_at}
use Rattle.std.proofs.lemmas.Nat.{mul-le}
use Rattle.std.proofs.Math.Nat.{add-mul}
use Rattle.std.specs.List.{repeat}
use Rattle.std_alloc.proofs.Concat.{length-repeat}

module _ {A : Type 0} (xs : List A) where
  -- some copies and then some more
  repeat_add : (a b : ℕ) → repeat a xs ++ repeat b xs ≡ repeat (a + b) xs
  repeat_add zero b = let e : b ≡ zero + b = omega arith in ap (λ k. repeat k xs) e
  repeat_add (suc a) b =
      let e : suc (a + b) ≡ suc a + b = omega arith in
      append_assoc xs (repeat a xs) (repeat b xs) ∙ (ap (λ l. xs ++ l) (repeat_add a b) ∙ ap (λ k. repeat k xs) e)

  -- some of the copies, from the first on
  front_repeat : (a b : ℕ) → b ≤ a → take (b * length xs) (repeat a xs) ≡ repeat b xs
  front_repeat a b le =
      let e : b + (a - b) ≡ a = omega arith in
      let cut = take_at (repeat b xs) (repeat (a - b) xs) (b * length xs) (length-repeat b xs) in
      ap (λ l. take (b * length xs) l) (ap (λ k. repeat k xs) (sym e) ∙ sym (repeat_add b (a - b))) ∙ cut

  -- the first b of a copies appended once more
  pub more_copies : (a b len : ℕ) (target new : List A) → len ≡ length xs → target ≡ repeat a xs
      → b ≤ a → new ≡ target ++ take (b * len) target → new ≡ repeat (a + b) xs
  more_copies a b len target new size are le appended =
      let front : take (b * len) target ≡ repeat b xs = rw (size, are) (front_repeat a b le) in
      appended ∙ (ap (λ l. target ++ l) front ∙ (ap (λ l. l ++ repeat b xs) are ∙ repeat_add a b))

-- where there are no more than `count` copies, these take no more places
pub places : (len count a b long : ℕ) → long ≡ a * len → b ≤ a → a + b ≤ count → (b * len ≤ long) × (long + b * len ≤ len * count)
places len count a b long is part le =
    let sum = add-mul a b len in
    let less = mul-le (a + b) len count len le (omega arith) in
    let front = mul-le b len a len part (omega arith) in
    let turned : count * len ≡ len * count = omega arith in
    (omega arith, omega arith)
