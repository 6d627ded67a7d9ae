-- Elements that may have been cloned several times.
use Rattle.std.proofs.Common.{◌≡◌, ◌<◌, ◌≤◌, ◌+◌, ℕ, zero, suc, List, [], ◌∷◌, ◌++◌, length, refl, ap, subst, sym, ◌∙◌, arith, inl, inr, append-nil, append_assoc, length-append}
use Rattle.std.specs.Prelude.{◌⊎◌}
use Rattle.ecow_base.specs.Clones.{ClonesAreEqual}
use Rattle.ecow_tree.specs.Recopied.{IsCopy, AreCopies, AppendsCopies}
use Rattle.ecow_tree.specs.Kept.{AreKept, AreKeptIn}
use Rattle.ecow_tree.proofs.Kept.{unchanged}

module _ {T : Type 0} (is_clone : T → T → Type 0) where
  itself : (n : ℕ) (x : T) → IsCopy is_clone n x x
  itself zero x = refl
  itself (suc n) x = (x, itself n x, inl refl)

  none_copied : (n : ℕ) (xs : List T) → AreCopies is_clone n xs xs
  none_copied n [] = tt
  none_copied n (x ∷ xs) = (itself n x, none_copied n xs)

  pub none_copied_behind : (old : List T) → AppendsCopies is_clone old [] old
  none_copied_behind old = subst (λ xs. AreCopies is_clone 0 xs old) (sym (append-nil old)) (none_copied 0 old)

  again : (n : ℕ) (xs ys ks : List T) → AreCopies is_clone n xs ys → AreKept is_clone ys ks → AreCopies is_clone (suc n) xs ks
  again n [] [] [] copies each = tt
  again n [] [] (k ∷ ks) copies each = absurd each
  again n [] (y ∷ ys) ks copies each = absurd copies
  again n (x ∷ xs) [] ks copies each = absurd copies
  again n (x ∷ xs) (y ∷ ys) [] copies each = absurd each
  again n (x ∷ xs) (y ∷ ys) (k ∷ ks) copies each = ((y, copies.0, each.0), again n xs ys ks copies.1 each.1)

  one_more : (n : ℕ) (xs ys : List T) (x : T) → AreCopies is_clone n xs ys → AreCopies is_clone n (xs ++ x ∷ []) (ys ++ x ∷ [])
  one_more n [] [] x copies = (itself n x, tt)
  one_more n [] (y ∷ ys) x copies = absurd copies
  one_more n (a ∷ xs) [] x copies = absurd copies
  one_more n (a ∷ xs) (y ∷ ys) x copies = (copies.0, one_more n xs ys x copies.1)

  -- one more item was appended
  pub pushed : (old xs now new : List T) (x : T) → AppendsCopies is_clone old xs now → AreKeptIn is_clone now (λ ys. ys ++ x ∷ []) new
      → AppendsCopies is_clone old (xs ++ x ∷ []) new
  pushed old xs now new x copies (k, each, made) =
      let count : length (xs ++ x ∷ []) ≡ suc (length xs) = omega (arith, length-append xs (x ∷ [])) in
      subst (λ n. AreCopies is_clone n (old ++ (xs ++ x ∷ [])) new) (sym count)
      (subst (λ ys. AreCopies is_clone (suc (length xs)) ys new) (append_assoc old xs (x ∷ []))
      (subst (AreCopies is_clone (suc (length xs)) ((old ++ xs) ++ x ∷ [])) (sym made)
      (one_more (suc (length xs)) (old ++ xs) k x (again (length xs) (old ++ xs) now k copies each))))

  same_copy : ClonesAreEqual is_clone → (n : ℕ) (x y : T) → IsCopy is_clone n x y → y ≡ x
  same_copy equal zero x y is = is
  same_copy equal (suc n) x y (z, is, inl same) = same ∙ same_copy equal n x z is
  same_copy equal (suc n) x y (z, is, inr clone) = equal z y clone ∙ same_copy equal n x z is

  pub copies_exact : ClonesAreEqual is_clone → (n : ℕ) (xs ys : List T) → AreCopies is_clone n xs ys → ys ≡ xs
  copies_exact equal n [] [] copies = refl
  copies_exact equal n [] (y ∷ ys) copies = absurd copies
  copies_exact equal n (x ∷ xs) [] copies = absurd copies
  copies_exact equal n (x ∷ xs) (y ∷ ys) copies =
      let head : y ≡ x = same_copy equal n x y copies.0 in
      let tail : ys ≡ xs = copies_exact equal n xs ys copies.1 in cc

  pub copies_long : (n : ℕ) (xs ys : List T) → AreCopies is_clone n xs ys → length ys ≡ length xs
  copies_long n [] [] copies = refl
  copies_long n [] (y ∷ ys) copies = absurd copies
  copies_long n (x ∷ xs) [] copies = absurd copies
  copies_long n (x ∷ xs) (y ∷ ys) copies = ap (λ m. suc m) (copies_long n xs ys copies.1)

  uncopied : (xs ys : List T) → AreCopies is_clone 0 xs ys → ys ≡ xs
  uncopied [] [] copies = refl
  uncopied [] (y ∷ ys) copies = absurd copies
  uncopied (x ∷ xs) [] copies = absurd copies
  uncopied (x ∷ xs) (y ∷ ys) copies =
      let head : y ≡ x = copies.0 in
      let tail : ys ≡ xs = uncopied xs ys copies.1 in cc

  -- how many elements there are, and what stays where no item came
  pub appended_len : (old xs now : List T) → AppendsCopies is_clone old xs now → length now ≡ length old + length xs
  appended_len old xs now copies = copies_long (length xs) (old ++ xs) now copies ∙ length-append old xs

  pub appended_none : (old xs now : List T) → AppendsCopies is_clone old xs now → xs ≡ [] → now ≡ old
  appended_none old [] now copies none = uncopied (old ++ []) now copies ∙ append-nil old
  appended_none old (x ∷ xs) now copies none = absurd (omega (arith, ap length none))
