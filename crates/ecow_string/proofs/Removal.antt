-- A character taken out of a text.
use Rattle.std.proofs.Common.{◌≡◌, ℕ, suc, ◌+◌, ◌≤◌, true, List, [], ◌∷◌, ◌++◌, length, take, drop, Some, refl, sym, ap, ◌∙◌, subst, arith, append_assoc, length-append, take-append-drop, length-take-le}
use Rattle.std.specs.Prelude.{slice_get}
use Rattle.std.specs.List.{remove, remove_range}
use Rattle.std.specs.Char.{len_utf8, encode_utf8}
use Rattle.std.specs.Str.{chars, encode_utf8_all}
use Rattle.std.proofs.lemmas.Str.{chars-encodes, encodes-append, cons_from_encodes, length-encode, drop_past_char}
use Rattle.std.proofs.lemmas.List.{take_at, drop_at}
use Rattle.ecow_base.specs.Utf8.{chars_before, is_boundary}
use Rattle.ecow_base.proofs.Boundaries.{chars_before-front, passes_boundary}
use Rattle.ecow_string.specs.Text.{AreChars, AreUtf8}
use Rattle.ecow_string.proofs.Texts.{AreUtf8-encoded, AreChars-append, AreChars-joined, front_bytes, split_encoded}

item_at : (xs : List ℕ) (x : ℕ) (ys : List ℕ) → slice_get (xs ++ x ∷ ys) (length xs) ≡ Some x
item_at [] x ys = refl
item_at (y ∷ xs) x ys = item_at xs x ys

-- the item between two lists, and the two without it
between : (xs ys zs : List ℕ) (y k : ℕ) → zs ≡ xs ++ y ∷ ys → length xs ≡ k → (slice_get zs k ≡ Some y) × (remove zs k ≡ xs ++ ys)
between xs ys zs y k e size =
    let rest : drop (suc k) zs ≡ ys =
    ap (drop (suc k)) (e ∙ sym (append_assoc xs (y ∷ []) ys)) ∙ drop_at (xs ++ y ∷ []) ys (suc k) (omega (arith, length-append xs (y ∷ []))) in (
      ap (λ l. slice_get l k) e ∙ subst (λ (n : ℕ). slice_get (xs ++ y ∷ ys) n ≡ Some y) size (item_at xs y ys),
      (λ i. (ap (take k) e ∙ take_at xs (y ∷ ys) k size) i ++ rest i),
    )

-- what taking the character c out at a boundary leaves
pub record Removed (bs : List ℕ) (index c : ℕ) : Type 0 where
  pub fits : index + len_utf8 c ≤ length bs
  pub item : slice_get (chars bs) (chars_before (chars bs) index) ≡ Some c
  pub left : chars (remove_range bs index (index + len_utf8 c)) ≡ remove (chars bs) (chars_before (chars bs) index)
  pub utf8 : AreUtf8 (remove_range bs index (index + len_utf8 c))

pub removed : (bs tail : List ℕ) (index c : ℕ) → AreUtf8 bs → is_boundary (chars bs) index ≡ true → drop index bs ≡ encode_utf8 c ++ tail → Removed bs index c
removed bs tail index c text passes e =
    let at = passes_boundary (chars bs) index passes in
    let front = take at.front (chars bs) in
    let before = front_bytes bs index text at in
    let after : drop index bs ≡ encode_utf8_all (drop at.front (chars bs)) =
    ap (drop index) (sym text.spelling ∙ split_encoded (chars bs) at.front) ∙ drop_at (encode_utf8_all front) _ index at.ends in
    let parts = cons_from_encodes (drop at.front (chars bs)) tail c (sym after ∙ e) in
    let whole : chars bs ≡ front ++ c ∷ parts.0 = sym (take-append-drop at.front (chars bs)) ∙ ap (λ l. front ++ l) parts.1 in
    let place : chars_before (chars bs) index ≡ at.front = rw at.ends at (chars_before-front (chars bs) at.front at.fits) in
    let size : length front ≡ at.front = length-take-le at.front (chars bs) at.fits in
    let items = between front parts.0 (chars bs) c at.front whole size in
    let bytes : remove_range bs index (index + len_utf8 c) ≡ encode_utf8_all (front ++ parts.0) =
    rw (before, drop_past_char bs tail index c e) (ap (λ l. encode_utf8_all front ++ l) (sym parts.2) ∙ sym (encodes-append front parts.0)) in
    let all = AreChars-append front (c ∷ parts.0) (subst AreChars whole text.valid) in
    let valid = AreChars-joined front parts.0 all.0 (AreChars-append (c ∷ []) parts.0 all.1).1 in
    record {
      fits = omega (
        arith,
        ap length (sym (take-append-drop index bs)),
        length-append (take index bs) (drop index bs),
        ap length e,
        length-append (encode_utf8 c) tail,
        length-encode c,
        ap length before,
        at.ends,
      );
      item = rw place items.0;
      left = ap chars bytes ∙ chars-encodes _ valid ∙ rw place (sym items.1);
      utf8 = rw bytes (AreUtf8-encoded _ valid);
    }
