-- The nodes below one that is parted.
use Rattle.std.proofs.Common.{◌≡◌, ◌≤◌, ◌+◌, ◌-◌, ◌^◌, ℕ, List, ◌++◌, length, take, drop, refl, ap, subst, sym, ◌∙◌, arith, length-append, length-drop}
use Rattle.ecow_tree.specs.Grown.{Grown}
use Rattle.ecow_tree.specs.Nodes.{items_of, AllFit, IsNode}
use Rattle.ecow_tree.proofs.Fits.{fit_take, fit_drop, fit_four, fit_some}
use Rattle.ecow_tree.proofs.Inside.{inner_all}
use Rattle.ecow_tree.proofs.More.{all_taken, length_taken}
use Rattle.ecow_tree.proofs.Parts.{rejoined}

module _ {T : Type 0} (h len : ℕ) (own all : List T) (nodes seen : List (Grown T)) (node : IsNode h len own nodes)
    (whole : own ++ items_of nodes ≡ all) (old : seen ≡ nodes) (cut : ℕ) (front : 4 ≤ cut) (back : cut + 4 ≤ length seen) where
  right_is : take (length seen - cut) (drop cut seen) ≡ drop cut seen
  right_is = all_taken (drop cut seen) (length seen - cut) (omega (arith, length-drop cut seen))

  fits : AllFit h seen
  fits = subst (AllFit h) (sym old) node.fit

  all_is : items_of seen ≡ all
  all_is =
      ap (λ ns. items_of ns) old
      ∙ inner_all h len own all nodes node whole (fit_some h seen fits (omega (arith, front, back)))

  pub halves_items : (left right : List T) → left ≡ items_of (take cut seen) → right ≡ items_of (take (length seen - cut) (drop cut seen))
      → left ++ right ≡ all
  halves_items left right l r =
      ap (λ ys. ys ++ right) l ∙ ap (λ ys. items_of (take cut seen) ++ ys) (r ∙ ap (λ ns. items_of ns) right_is)
      ∙ rejoined seen (take cut seen) (drop cut seen) cut refl refl ∙ all_is

  sum : length (items_of (take cut seen)) + length (items_of (take (length seen - cut) (drop cut seen))) ≡ length all
  sum =
      sym (length-append (items_of (take cut seen)) (items_of (take (length seen - cut) (drop cut seen))))
      ∙ ap length (halves_items (items_of (take cut seen)) (items_of (take (length seen - cut) (drop cut seen))) refl refl)

  pub left_within : length (items_of (take cut seen)) ≤ length all
  left_within = omega (arith, sum)

  pub right_within : length (items_of (take (length seen - cut) (drop cut seen))) ≤ length all
  right_within = omega (arith, sum)

  pub left_weight : (left : List T) → left ≡ items_of (take cut seen) → 4 ^ h ≤ length left
  left_weight left l =
      omega (
        arith,
        ap length l,
        fit_four h (take cut seen) (fit_take h cut seen fits) (omega (arith, length_taken cut seen (omega (arith, back)), front)),
      )

  pub right_weight : (right : List T) → right ≡ items_of (take (length seen - cut) (drop cut seen)) → 4 ^ h ≤ length right
  right_weight right r =
      omega (
        arith,
        ap length (r ∙ ap (λ ns. items_of ns) right_is),
        fit_four h (drop cut seen) (fit_drop h cut seen fits) (omega (arith, length-drop cut seen, back)),
      )
