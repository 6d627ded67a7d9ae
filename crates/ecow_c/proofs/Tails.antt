-- The characters behind a boundary.
use Rattle.std.proofs.Common.{◌≡◌, ℕ, zero, suc, true, List, [], ◌∷◌, refl, take, drop, take-append-drop, sym, ap, ◌∙◌, subst}
use Rattle.std.specs.Prelude.{slice_get}
use Rattle.std.specs.Str.{chars, encode_utf8_all}
use Rattle.std.proofs.lemmas.Str.{chars-encodes}
use Rattle.std.proofs.lemmas.List.{drop_at}
use Rattle.ecow_base.specs.Utf8.{chars_before, is_boundary}
use Rattle.ecow_base.proofs.Boundaries.{chars_before-front, passes_boundary}
use Rattle.ecow_string.specs.Text.{AreChars}
use Rattle.ecow_string.proofs.Texts.{AreChars-append, split_encoded}

pub chars-drop : (cs : List ℕ) (index : ℕ) → AreChars cs → is_boundary cs index ≡ true
    → chars (drop index (encode_utf8_all cs)) ≡ drop (chars_before cs index) cs
chars-drop cs index valid passes =
    let at = passes_boundary cs index passes in
    let pointer : chars_before cs index ≡ at.front = rw at.ends at (chars_before-front cs at.front at.fits) in
    let after : drop index (encode_utf8_all cs) ≡ encode_utf8_all (drop at.front cs) =
    ap (drop index) (split_encoded cs at.front) ∙ drop_at (encode_utf8_all (take at.front cs)) _ index at.ends in
    ap chars after ∙ chars-encodes _ (AreChars-append (take at.front cs) (drop at.front cs)
    (subst AreChars (sym (take-append-drop at.front cs)) valid)).1 ∙ ap (λ k. drop k cs) (sym pointer)

-- an item is the first of those that begin with it
pub item_at : (xs : List ℕ) (index : ℕ) → slice_get xs index ≡ slice_get (drop index xs) 0
item_at [] zero = refl
item_at [] (suc index) = refl
item_at (x ∷ xs) zero = refl
item_at (x ∷ xs) (suc index) = item_at xs index
