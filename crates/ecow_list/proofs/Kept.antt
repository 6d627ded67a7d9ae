-- Elements that stayed, or in whose places clones stand.
use Rattle.std.proofs.Common.{◌≡◌, ℕ, zero, suc, List, [], ◌∷◌, Some, map, length, slice_get, refl, ap, sym, subst, ◌∙◌, arith, inl, inr}
use Rattle.std.specs.List.{AllZip}
use Rattle.std.proofs.lemmas.Option.{none-some, same_Some}
use Rattle.std.specs.Borrow.{MutBor}
use Rattle.std.specs.Fn.{Once}
use Rattle.ecow_base.specs.Clones.{ClonesAreEqual}
use Rattle.ecow_block.specs.Updates.{TakesAt, TakesKeptAt}
use Rattle.ecow_list.specs.Vectors.{IsKept}

module _ {X : Type 0} (is_clone : X → X → Type 0) where
  -- clones that equal their sources are the elements of before
  pub clones_equal : ClonesAreEqual is_clone → (old new : List X) → AllZip is_clone old new → new ≡ old
  clones_equal equal [] [] all = refl
  clones_equal equal [] (y ∷ ys) all = absurd all
  clones_equal equal (x ∷ xs) [] all = absurd all
  clones_equal equal (x ∷ xs) (y ∷ ys) all = let head : y ≡ x = equal x y all.0 in let tail : ys ≡ xs = clones_equal equal xs ys all.1 in cc

  pub kept_equal : ClonesAreEqual is_clone → (old new : List X) → IsKept is_clone old new → new ≡ old
  kept_equal equal old new (inl same) = same
  kept_equal equal old new (inr clones) = clones_equal equal old new clones

  -- where there were none, there are none
  pub none_kept : (old new : List X) → old ≡ [] → IsKept is_clone old new → new ≡ []
  none_kept [] new e (inl same) = same
  none_kept [] [] e (inr clones) = refl
  none_kept [] (y ∷ ys) e (inr clones) = absurd clones
  none_kept (x ∷ xs) new e is = absurd (omega (arith, ap length e))

  -- each element is itself in its place
  pub zip_same : (xs : List X) → AllZip (λ (x y : X). y ≡ x) xs xs
  zip_same [] = tt
  zip_same (x ∷ xs) = (refl, zip_same xs)

  zipped_alike : {Y : Type 0} (f : X → Y) → ((x y : X) → is_clone x y → f y ≡ f x) → (old new : List X) → AllZip is_clone old new → map f new ≡ map f old
  zipped_alike f alike [] [] all = refl
  zipped_alike f alike [] (y ∷ ys) all = absurd all
  zipped_alike f alike (x ∷ xs) [] all = absurd all
  zipped_alike f alike (x ∷ xs) (y ∷ ys) all = let head = alike x y all.0 in let tail = zipped_alike f alike xs ys all.1 in cc (head, tail)

  -- what an element shares with its clones stays of each, as the bytes of a `String`
  pub kept_alike : {Y : Type 0} (f : X → Y) → ((x y : X) → is_clone x y → f y ≡ f x) → (old new : List X) → IsKept is_clone old new → map f new ≡ map f old
  kept_alike f alike old new (inl same) = ap (map f) same
  kept_alike f alike old new (inr clones) = zipped_alike f alike old new clones

  -- an element of the list of clones is a clone of the element in its place
  pub zipped_at : (old new : List X) (i : ℕ) (y : X) → AllZip is_clone old new → slice_get new i ≡ Some y → (x : X) × (slice_get old i ≡ Some x) × is_clone x y
  zipped_at [] [] i y all found = absurd (none-some y found)
  zipped_at [] (z ∷ zs) i y all found = absurd all
  zipped_at (x ∷ xs) [] i y all found = absurd all
  zipped_at (x ∷ xs) (z ∷ zs) zero y all found = (x, refl, subst (is_clone x) (same_Some _ _ found) all.0)
  zipped_at (x ∷ xs) (z ∷ zs) (suc i) y all found = zipped_at xs zs i y all.1 found

  -- what takes an element or a clone of it takes the element that stands in its place
  pub takes_kept : {F R : Type 0} (g : Once F (MutBor X × Unit {0}) (R × (MutBor X × Unit {0}))) (f : F) (old new : List X) (i : ℕ)
      → TakesKeptAt g f is_clone old i → IsKept is_clone old new → TakesAt g f new i
  takes_kept g f old new i takes (inl same) = λ x found. takes x x (ap (λ l. slice_get l i) (sym same) ∙ found) (inl refl)
  takes_kept g f old new i takes (inr clones) = λ y found. let at = zipped_at old new i y clones found in takes at.0 y at.1 (inr at.2)
