-- A view of each element, as the text of a name, over a list that was changed; and what is read off
-- a whole list, as a sum or a text, after one element more.
use Rattle.std.proofs.Common.{◌≡◌, ℕ, suc, List, [], ◌∷◌, ◌++◌, map, length, take, drop, append-nil, sym, ap, ◌∙◌}
use Rattle.std.proofs.lemmas.List.{map-append, map-set}
use Rattle.std.proofs.lemmas.List.Concat.{flat_map-append}
use Rattle.std.proofs.lemmas.List.Sums.{fold-append}
use Rattle.std.specs.List.{insert, remove, slice_set, refill, take-map, drop-map, fold, flat_map}
use lib.Seq.{take_at}

module _ {X Y : Type 0} (f : X → Y) where
  pub map_insert : (xs : List X) (i : ℕ) (x : X) → map f (insert xs i x) ≡ insert (map f xs) i (f x)
  map_insert xs i x =
      let before = take-map f i xs in
      let behind = drop-map f i xs in
      map-append f (take i xs) (x ∷ drop i xs) ∙ cc (before, behind)

  pub map_remove : (xs : List X) (i : ℕ) → map f (remove xs i) ≡ remove (map f xs) i
  map_remove xs i =
      let before = take-map f i xs in
      let behind = drop-map f (suc i) xs in
      map-append f (take i xs) (drop (suc i) xs) ∙ cc (before, behind)

  pub map_slice_set : (xs : List X) (i : ℕ) (x : X) → map f (slice_set xs i x) ≡ slice_set (map f xs) i (f x)
  map_slice_set xs i x = map-set f xs i x

-- what a fold makes of one element more. Of a list that gave its last, read it from the right
pub fold_push : {X B : Type 0} (f : B → X → B) (b : B) (xs : List X) (x : X) → fold f b (xs ++ x ∷ []) ≡ f (fold f b xs) x
fold_push f b xs x = fold-append f b xs (x ∷ [])

-- the same, where each element gives a part of a longer list
pub flat_map_push : {X Y : Type 0} (f : X → List Y) (xs : List X) (x : X) → flat_map f (xs ++ x ∷ []) ≡ flat_map f xs ++ f x
flat_map_push f xs x = flat_map-append f xs (x ∷ []) ∙ ap (λ ys. flat_map f xs ++ ys) (append-nil (f x))

-- elements that were lent come back as they were written
pub refilled : {X : Type 0} (n : ℕ) (xs ws : List X) → n ≡ length ws → refill n xs ws ≡ ws
refilled n xs ws e = take_at ws (drop (length ws) xs) n (sym e)
