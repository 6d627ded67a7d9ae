-- A list that is gone over in turn: each element is kept as it was left, or goes.
use Rattle.std.proofs.Common.{◌≡◌, ℕ, ◌+◌, ◌<◌, ◌≤◌, Bool, true, false, List, [], ◌∷◌, ◌++◌, length, take, drop, refl, sym, ap, ◌∙◌, subst, append_assoc, append-nil}
use Rattle.std.proofs.Common.{arith, set, get_or}
use Rattle.std.proofs.lemmas.List.{length-set, take_more_set, take-set-le, drop-set-lt, get_or-set_same}
use Rattle.std.proofs.lemmas.List.Edits.{swap_is}
use Rattle.std.specs.List.{swap}
use Rattle.std.specs.List.Retain.{RetainsInTurn}

module _ {S X : Type 0} (R : S → X → Bool → S → X → Type 0) (start : S) (all : List X) where
  -- the elements before the rest are done with, and of these the kept ones stay
  abbrev pub Done : S → List X → List X → Type 0
  Done s rest kept = (zs : List X) → RetainsInTurn R s rest zs → RetainsInTurn R start all (kept ++ zs)

  pub none_done : (rest kept : List X) → rest ≡ all → kept ≡ [] → Done start rest kept
  none_done rest kept e none zs g = subst (λ l. RetainsInTurn R start all (l ++ zs)) (sym none) (subst (λ l. RetainsInTurn R start l zs) e g)

  module _ (s t : S) (x y : X) (rest more kept now : List X) (goes_on : rest ≡ x ∷ more) (d : Done s rest kept) where
    pub one_kept : R s x true t y → now ≡ kept ++ y ∷ [] → Done t more now
    one_kept r e zs g =
        subst (RetainsInTurn R start all) (sym (ap (λ l. l ++ zs) e ∙ append_assoc kept (y ∷ []) zs))
        (d (y ∷ zs) (subst (λ l. RetainsInTurn R s l (y ∷ zs)) (sym goes_on) (true, t, y, r, zs, g, refl)))

    pub one_gone : R s x false t y → now ≡ kept → Done t more now
    one_gone r e zs g =
        subst (λ l. RetainsInTurn R start all (l ++ zs)) (sym e)
        (d zs (subst (λ l. RetainsInTurn R s l zs) (sym goes_on) (false, t, y, r, zs, g, refl)))

  pub all_done : (s : S) (rest kept now : List X) → Done s rest kept → rest ≡ [] → now ≡ kept → RetainsInTurn R start all now
  all_done s rest kept now d none e = subst (RetainsInTurn R start all) (append-nil kept ∙ sym e) (d [] (subst (λ l. RetainsInTurn R s l []) (sym none) refl))

-- y, written to the place i of xs, is moved to the place n before it
module _ {X : Type 0} (xs : List X) (n i : ℕ) (y : X) (in_xs : i < length xs) where
  abbrev pub written : List X
  written = set xs i y

  pub stays : n ≡ i → take (n + 1) written ≡ take n xs ++ y ∷ []
  stays e = subst (λ m. take (m + 1) written ≡ take m xs ++ y ∷ []) (sym e) (take_more_set xs i y in_xs)

  pub behind_written : drop (i + 1) written ≡ drop (i + 1) xs
  behind_written = drop-set-lt (i + 1) xs i y (omega (arith))

  module _ (before : n < i) where
    swapped : swap written n i ≡ set (set written n (get_or written i y)) i (get_or written n y)
    swapped = let len = length-set xs i y in
        sym (swap_is written n i y (omega (arith, before, in_xs, len)) (omega (arith, in_xs, len)))

    pub moves : take (n + 1) (swap written n i) ≡ take n xs ++ y ∷ []
    moves = let len = length-set xs i y in
        ap (take (n + 1)) swapped
        ∙ take-set-le (n + 1) (set written n (get_or written i y)) i (get_or written n y) (omega (arith, before))
        ∙ take_more_set written n (get_or written i y) (omega (arith, before, in_xs, len))
        ∙ ap (λ l. l ++ get_or written i y ∷ []) (take-set-le n xs i y (omega (arith, before)))
        ∙ ap (λ z. take n xs ++ z ∷ []) (get_or-set_same xs i y y in_xs)

    pub behind_swapped : drop (i + 1) (swap written n i) ≡ drop (i + 1) xs
    behind_swapped =
        ap (drop (i + 1)) swapped
        ∙ drop-set-lt (i + 1) (set written n (get_or written i y)) i (get_or written n y) (omega (arith))
        ∙ drop-set-lt (i + 1) written n (get_or written i y) (omega (arith, before))
        ∙ behind_written
