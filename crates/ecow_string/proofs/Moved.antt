-- What is left of bytes that were lent and changed where they stand.
use Rattle.std.proofs.Common.{◌≡◌, ℕ, ◌+◌, ◌-◌, ◌≤◌, List, ◌++◌, length, take, drop, sym, ap, ◌∙◌, arith, length-drop}
use Rattle.std.proofs.lemmas.List.Edits.{take-paste}
use Rattle.std.specs.List.{copy_within, remove_range}
use Rattle.std.proofs.lemmas.List.{take_all}

-- where those from place j on move down to place i, those before place i stand before them
pub cut_in_front : (d : List ℕ) (i j n : ℕ) → i ≤ j → j ≤ n → n ≡ length d → take (n - (j - i)) (copy_within d j n i) ≡ remove_range d i j
cut_in_front d i j n le fits e =
    let count : n - (j - i) ≡ i + (n - j) = omega arith in
    let all : length (drop j d) ≡ n - j = length-drop j d ∙ ap (λ k. k - j) (sym e) in
    ap (λ k. take k (copy_within d j n i)) count ∙ take-paste d i (drop j d) (n - j) (omega (arith, e)) (omega (arith, all))
    ∙ ap (λ l. take i d ++ l) (take_all (n - j) (drop j d) (omega (arith, all)))
