-- What the first and the last elements of a list leave where they are written, one after the other.
use Rattle.std.proofs.Common.{List, ◌++◌, ◌≡◌, ◌+◌, ◌-◌, ◌≤◌, ℕ, length, take, drop, ap, sym, ◌∙◌}
use mathlib.Core.List.{append_assoc}
use native.Mathlib.Omega.{arith}
use Rattle.std.proofs.Math.Seq.{paste, take-take, take-add, take-append-add, drop-drop, length-take-le}
use Rattle.std.proofs.lemmas.List.{length-drop}
use Rattle.std.proofs.lemmas.List.Edits.{take-paste, drop-paste}
use Rattle.std.proofs.lemmas.Slice.{put_mid-paste}
use borrow.Rule.Slice.PartMut.{put_mid}

module _ {X : Type 0} (d : List X) (at : ℕ) (s : List X) (k j : ℕ) where
  -- the first k elements of s, and over them those from place j on, at most as far behind
  pub pieces_overlap : j ≤ k → at ≤ length d → j + k ≤ length s → paste (paste d at s k) (at + j) (drop j s) k ≡ paste d at s (j + k)
  pieces_overlap near fits long =
      let p : List X = paste d at s k in
      let to : length (take at d) ≡ at = length-take-le at d fits in
      let front : take (at + j) p ≡ take at d ++ take j s =
      sym (take-take (at + j) (at + k) p (omega arith)) ∙ ap (take (at + j)) (take-paste d at s k fits (omega arith))
      ∙ ap (λ i. take (i + j) (take at d ++ take k s)) (sym to) ∙ take-append-add (take at d) (take k s) j
      ∙ ap (λ l. take at d ++ l) (take-take j k s near) in
      let both : take (at + j) p ++ take k (drop j s) ≡ take at d ++ take (j + k) s =
      ap (λ l. l ++ take k (drop j s)) front ∙ append_assoc (take at d) (take j s) (take k (drop j s))
      ∙ ap (λ l. take at d ++ l) (sym (take-add j k s)) in
      let on : at + j + k ≡ at + k + j = omega arith in
      let same : at + k + j ≡ at + (j + k) = omega arith in
      let back : drop (at + j + k) p ≡ drop (at + (j + k)) d =
      ap (λ i. drop i p) on ∙ sym (drop-drop j (at + k) p) ∙ ap (drop j) (drop-paste d at s k fits (omega arith))
      ∙ drop-drop j (at + k) d ∙ ap (λ i. drop i d) same in
      λ i. both i ++ back i

-- writing the first k elements of the first n, and over them the last k of these, writes the n
module _ {X : Type 0} (d : List X) (at : ℕ) (s : List X) (k n : ℕ) (y z : List X) where
  pub pieces_put : (i p q : ℕ) → k ≤ n → n ≤ k + k → at ≤ length d → n ≤ length s → y ≡ take k (take n s) → z ≡ drop (n - k) (take n s)
      → i ≡ at + (n - k) → p ≡ k → q ≡ k → put_mid i q (put_mid at p d y) z ≡ paste d at s n
  pieces_put i p q few covered fits long first last on wide wide' =
      let m : List X = take n s in
      let count : length m ≡ n = length-take-le n s long in
      let front : put_mid at p d y ≡ paste d at m k =
      put_mid-paste at p d y (take k m) k first (sym wide) (sym (length-take-le k m (omega (arith, count))))
      ∙ ap (λ l. (take at d ++ l) ++ drop (at + k) d) (take-take k k m (omega arith)) in
      let behind : put_mid i q (put_mid at p d y) z ≡ paste (put_mid at p d y) i (drop (n - k) m) k =
      put_mid-paste i q (put_mid at p d y) z (drop (n - k) m) k last (sym wide') (omega (arith, count, length-drop (n - k) m)) in
      let all : n - k + k ≡ n = omega arith in
      behind ∙ ap (λ l. paste l i (drop (n - k) m) k) front ∙ ap (λ t. paste (paste d at m k) t (drop (n - k) m) k) on
      ∙ pieces_overlap d at m k (n - k) (omega arith) fits (omega (arith, count)) ∙ ap (paste d at m) all
      ∙ ap (λ l. (take at d ++ l) ++ drop (at + n) d) (take-take n n s (omega arith))
