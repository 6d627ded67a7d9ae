-- Clones that are appended, one or some at a time.
use Rattle.std.proofs.Common.{◌≡◌, List, [], ◌∷◌, ◌++◌, sym, ap, ◌∙◌, subst, append_assoc}
use Rattle.std.proofs.lemmas.List.Elements.{AllZip-push}
use Rattle.std.specs.List.{AllZip}
use Rattle.ecow_block.specs.Clones.{AppendsClones}

side_by_side : {T : Type 0} (R : T → T → Type 0) (xs xs' ys ys' : List T) → AllZip R xs xs' → AllZip R ys ys' → AllZip R (xs ++ ys) (xs' ++ ys')
side_by_side R [] [] ys ys' h k = k
side_by_side R [] (x ∷ xs) ys ys' h k = absurd h
side_by_side R (x ∷ xs) [] ys ys' h k = absurd h
side_by_side R (x ∷ xs) (x' ∷ xs') ys ys' h k = (h.0, side_by_side R xs xs' ys ys' h.1 k)

module _ {T : Type 0} (R : T → T → Type 0) (old : List T) where
  pub one_more : (xs more now new : List T) (x y : T) → AppendsClones R old xs now
      → more ≡ xs ++ x ∷ [] → R x y → new ≡ now ++ y ∷ [] → AppendsClones R old more new
  one_more xs more now new x y h e r f = record {
    copies = h.copies ++ y ∷ [];
    items = f ∙ ap (λ l. l ++ y ∷ []) h.items ∙ append_assoc old h.copies (y ∷ []);
    each = subst (λ l. AllZip R l (h.copies ++ y ∷ [])) (sym e) (AllZip-push R xs h.copies x y h.each r);
  }

  pub some_more : (xs ys now new : List T) → AppendsClones R old xs now → AppendsClones R now ys new → AppendsClones R old (xs ++ ys) new
  some_more xs ys now new h k = record {
    copies = h.copies ++ k.copies;
    items = k.items ∙ ap (λ l. l ++ k.copies) h.items ∙ append_assoc old h.copies k.copies;
    each = side_by_side R xs h.copies ys k.copies h.each k.each;
  }
