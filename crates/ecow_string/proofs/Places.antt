-- What stands at a byte index of a text, for those who test an index before they call `remove` or `truncate`, or cut the `str`.
use Rattle.std.proofs.Common.{◌≡◌, ℕ, zero, ◌+◌, ◌<◌, ◌≤◌, Bool, true, false, List, [], ◌∷◌, length, take, drop, get_or, Some, None, refl, sym, ap, ◌∙◌, arith, inl, inr}
use Rattle.std.specs.Prelude.{slice_get, slice_index, nat_lt, ◌||◌}
use Rattle.std.proofs.lemmas.List.{take_all, length-append}
use Rattle.std.proofs.lemmas.Bool.{cases_lt, le-ltb}
use Rattle.std.proofs.lemmas.Option.{slice_get_past, slice_get-get_or}
use Rattle.ecow_base.specs.Utf8.{utf8_len, chars_before, is_boundary}
use Rattle.std.specs.Str.{chars, encode_utf8_all, IsCharBoundary, IsUtf8}
use Rattle.std.proofs.lemmas.Str.{encodes-chars}
use Rattle.ecow_base.proofs.Boundaries.{boundary_passes, chars_before-front, passes_boundary}
use Rattle.ecow_string.proofs.Texts.{chars_before-past, split_encoded, boundary_of_front, front_of_boundary}
use Rattle.ecow_string.specs.Text.{AreChars}

-- a boundary isn't past the end, and the end is one
pub boundary_within : (cs : List ℕ) (index : ℕ) → is_boundary cs index ≡ true → index ≤ utf8_len cs
boundary_within cs index passes =
    let at = passes_boundary cs index passes in
    let front = encode_utf8_all (take at.front cs) in
    let behind = encode_utf8_all (drop at.front cs) in
    let whole : utf8_len cs ≡ length front + length behind = ap length (split_encoded cs at.front) ∙ length-append front behind in
    omega (arith, whole, at.ends)

pub end_is_boundary : (cs : List ℕ) → is_boundary cs (utf8_len cs) ≡ true
end_is_boundary cs =
    boundary_passes cs (utf8_len cs) (record { front = length cs; fits = omega arith; ends = ap utf8_len (take_all (length cs) cs (omega arith)) })

-- all characters stand before the end, and none before the start
pub all_before_end : (cs : List ℕ) → chars_before cs (utf8_len cs) ≡ length cs
all_before_end cs =
    let whole : take (length cs) cs ≡ cs = take_all (length cs) cs (omega arith) in
    sym (ap (λ front. chars_before cs (utf8_len front)) whole) ∙ chars_before-front cs (length cs) (omega arith)

pub none_before_start : (cs : List ℕ) → chars_before cs 0 ≡ 0
none_before_start [] = refl
none_before_start (c ∷ cs) = refl

-- no character stands at the end or past it
pub nothing_at_end : (cs : List ℕ) (index : ℕ) → utf8_len cs ≤ index → slice_get cs (chars_before cs index) ≡ None
nothing_at_end cs index past = slice_get_past cs (chars_before cs index) (chars_before-past cs index past)

-- at a boundary below the length stands one
pub char_at_boundary : (cs : List ℕ) (index : ℕ) → is_boundary cs index ≡ true → index < utf8_len cs → (c : ℕ) × (slice_get cs (chars_before cs index) ≡ Some c)
char_at_boundary cs index passes below =
    let at = passes_boundary cs index passes in
    let place : chars_before cs index ≡ at.front = rw at.ends at (chars_before-front cs at.front at.fits) in
    elim (cases_lt at.front (length cs)) [
      | inl within ↦ rw place (get_or cs at.front 0, slice_get-get_or cs at.front 0 within)
      | inr past ↦ (let whole : utf8_len (take at.front cs) ≡ utf8_len cs = ap utf8_len (take_all at.front cs (omega arith)) in
          absurd (omega (arith, whole, at.ends)))
    ]

-- what `truncate` asks, where a boundary was tested first and the end then
pub may_cut : (cs : List ℕ) (index : ℕ) → (is_boundary cs index || nat_lt (utf8_len cs) index) ≡ true → index ≤ utf8_len cs → is_boundary cs index ≡ true
may_cut cs index tested within = by_test (is_boundary cs index) (nat_lt (utf8_len cs) index) (le-ltb (utf8_len cs) index within) tested
  where
    by_test : (a b : Bool) → b ≡ false → (a || b) ≡ true → a ≡ true
    by_test true b f t = refl
    by_test false b f t = sym f ∙ t

-- a text's characters and its `str` have the same boundaries: what a slice or a split of the `str` asks
pub str_boundary : (cs : List ℕ) (index : ℕ) → is_boundary cs index ≡ true → AreChars cs → index < length (encode_utf8_all cs)
    → 128 ≤ slice_index (encode_utf8_all cs) index → 192 ≤ slice_index (encode_utf8_all cs) index
str_boundary cs index passes valid = (boundary_of_front cs index valid (passes_boundary cs index passes)).1

-- and what `truncate` asks, at an index that a search of the `str` gave
pub text_boundary : (cs bytes : List ℕ) (index : ℕ) → bytes ≡ encode_utf8_all cs → AreChars cs → IsCharBoundary bytes index
    → is_boundary cs index ≡ true
text_boundary cs bytes index is valid at = boundary_passes cs index (front_of_boundary cs index valid (rw is at at))

pub ruleset boundaries = (boundary_within, str_boundary, text_boundary)

-- a text that is made of a `str` has as many bytes
pub str_len : (bytes : List ℕ) → IsUtf8 bytes → utf8_len (chars bytes) ≡ length bytes
str_len bytes text = ap length (encodes-chars bytes text)
