-- Elements in place of a range: those behind it move to where the new ones end, and what is left over is cut off.
use Rattle.std.proofs.Common.{List, ◌≡◌, ◌+◌, ◌-◌, ◌≤◌, ℕ, length, take, ap, ◌∙◌}
use native.Mathlib.Omega.{arith}
use mathlib.Core.Logic.{⊎_elim}
use Rattle.core.proofs.slice.Writes.{same_lists}
use Rattle.core.proofs.slice.Indexed.{places}
use Rattle.core.proofs.str.Laws.{order}
use Rattle.std.specs.List.{copy_within, replace_range, refill}
use Rattle.ecow_list.proofs.Views.{refilled}
use borrow.Rule.Slice.PartMut.{put_mid}

-- the first n elements of d are the list, and behind them is room
module _ {X : Type 0} (d xs ys : List X) (s e n m : ℕ) (front : xs ≡ take n d)
    (within : n ≤ length d) (many : m ≡ length ys) (ordered : s ≤ e) (in_bounds : e ≤ n)
    (room : n - (e - s) + m ≤ length d) where
  abbrev written : List X
  written = put_mid s (s + m - s) (copy_within d e n (s + m)) ys

  pub replaced : take (n - (e - s) + m) written ≡ replace_range xs s e ys
  replaced =
      rw front (same_lists _ _ (grind (arith, places)) (λ k d l. ⊎_elim
      (λ a. grind (arith, places))
      (λ a. ⊎_elim (λ b. grind (arith, places)) (λ b. grind (arith, places)) (order k (s + m)))
      (order k s)))

  size : length d ≡ length written
  size = grind (arith, places)

  -- the same where a loan gives the elements back
  pub replaced_again : take (n - (e - s) + m) (refill (length d) d written) ≡ replace_range xs s e ys
  replaced_again = ap (take (n - (e - s) + m)) (refilled (length d) d written size) ∙ replaced
