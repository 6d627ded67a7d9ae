-- A text's bytes and its characters with the ASCII letters in one case.
use Rattle.std.proofs.Common.{◌≡◌, ℕ, suc, ◌&&◌, ◌<◌, ◌≤◌, Bool, true, false, List, [], ◌∷◌, ◌++◌, length, get_or, refl, sym, ap, ◌∙◌, arith, inl, inr, append-nil}
use Rattle.std.specs.Prelude.{map}
use Rattle.std.specs.Char.{encode_utf8, IsScalar}
use Rattle.std.specs.Str.{chars, encode_utf8_all, all_scalars, IsAscii}
use Rattle.std.proofs.StrCases.{str_to_lowercase-IsAscii, str_to_uppercase-IsAscii}
use Rattle.std.proofs.lemmas.Str.{encode_ascii, inside_one, chars-encodes}
use Rattle.std.proofs.lemmas.Str.Ascii.{lowercase_ascii, uppercase_ascii, lowercase_is, uppercase_is}
use Rattle.std.proofs.lemmas.Bool.{cases_lt}
use Rattle.std.proofs.lemmas.List.{length-map, map-append}
use Rattle.ecow_base.specs.Utf8.{utf8_len}
use Rattle.std.proofs.Math.Utf8.{scalar, low_scalar}
use Rattle.ecow_string.specs.Case.{in_case, str_in_case}
use Rattle.ecow_string.specs.declared.case.Case.{Case}
use Rattle.ecow_string.specs.declared.case.Case.TheVariants.{Lower, Upper}
use Rattle.ecow_string.specs.Text.{AreChars, AreUtf8}
use Rattle.ecow_string.proofs.Texts.{AreUtf8-encoded}

both : (a b : Bool) → (a && b) ≡ true → (a ≡ true) × (b ≡ true)
both true b h = (refl, h)
both false b h = cc

joined : (a b : Bool) → a ≡ true → b ≡ true → (a && b) ≡ true
joined true b h i = i
joined false b h i = cc

module _ (f : ℕ → ℕ) (low : (c : ℕ) → c < 128 → f c < 128) (high : (c : ℕ) → 128 ≤ c → f c ≡ c) where
  high_bytes : (bs : List ℕ) → ((k : ℕ) → k < length bs → 128 ≤ get_or bs k 0) → map f bs ≡ bs
  high_bytes [] above = refl
  high_bytes (b ∷ bs) above = λ i. high b (above 0 (omega arith)) i ∷ high_bytes bs (λ k less. above (suc k) (omega arith)) i

  -- a character past ASCII has no byte of ASCII
  wide_bytes : (c : ℕ) → 128 ≤ c → (k : ℕ) → k < length (encode_utf8 c) → 128 ≤ get_or (encode_utf8 c) k 0
  wide_bytes c wide k less = elim (cases_lt (get_or (encode_utf8 c) k 0) 128) [
    | inl small ↦ absurd (omega (arith, inside_one c [] (encode_utf8 c) k (sym (append-nil _)) less small))
    | inr large ↦ omega arith
  ]

  one_char : (c : ℕ) → map f (encode_utf8 c) ≡ encode_utf8 (f c)
  one_char c = elim (cases_lt c 128) [
    | inl small ↦ ap (map f) (encode_ascii c small) ∙ sym (encode_ascii (f c) (low c small))
    | inr wide ↦ high_bytes (encode_utf8 c) (wide_bytes c (omega arith)) ∙ ap encode_utf8 (sym (high c (omega arith)))
  ]

  mapped_scalar : (c : ℕ) → IsScalar c → IsScalar (f c)
  mapped_scalar c is = elim (cases_lt c 128) [
    | inl small ↦ (let less = low c small in low_scalar (f c) (omega arith))
    | inr wide ↦ ap scalar (high c (omega arith)) ∙ is
  ]

  mapped_chars : (cs : List ℕ) → AreChars cs → AreChars (map f cs)
  mapped_chars [] are = refl
  mapped_chars (c ∷ cs) are =
      let parts =
      both (scalar c) (all_scalars cs) are in joined (scalar (f c)) (all_scalars (map f cs)) (mapped_scalar c parts.0) (mapped_chars cs parts.1)

  mapped_bytes : (cs : List ℕ) → map f (encode_utf8_all cs) ≡ encode_utf8_all (map f cs)
  mapped_bytes [] = refl
  mapped_bytes (c ∷ cs) = map-append f (encode_utf8 c) (encode_utf8_all cs) ∙ (λ i. one_char c i ++ mapped_bytes cs i)

  -- the bytes are mapped, and so are the characters
  as_encoded : (bs : List ℕ) → AreUtf8 bs → map f bs ≡ encode_utf8_all (map f (chars bs))
  as_encoded bs text = ap (map f) (sym text.spelling) ∙ mapped_bytes (chars bs)

  AreUtf8-mapped : (bs : List ℕ) → AreUtf8 bs → AreUtf8 (map f bs)
  AreUtf8-mapped bs text = rw (as_encoded bs text) (AreUtf8-encoded _ (mapped_chars (chars bs) text.valid))

  chars-mapped : (bs : List ℕ) → AreUtf8 bs → chars (map f bs) ≡ map f (chars bs)
  chars-mapped bs text = ap chars (as_encoded bs text) ∙ chars-encodes _ (mapped_chars (chars bs) text.valid)

low : (case : Case) (c : ℕ) → c < 128 → in_case case c < 128
low Lower = lowercase_ascii
low Upper = uppercase_ascii

high : (case : Case) (c : ℕ) → 128 ≤ c → in_case case c ≡ c
high Lower c wide = (lowercase_is c).2 (omega arith)
high Upper c wide = (uppercase_is c).2 (omega arith)

pub AreUtf8-in_case : (case : Case) (bs : List ℕ) → AreUtf8 bs → AreUtf8 (map (in_case case) bs)
AreUtf8-in_case case = AreUtf8-mapped (in_case case) (low case) (high case)

pub chars-in_case : (case : Case) (bs : List ℕ) → AreUtf8 bs → chars (map (in_case case) bs) ≡ map (in_case case) (chars bs)
chars-in_case case = chars-mapped (in_case case) (low case) (high case)

-- std's text in a case is an ASCII text's bytes, mapped
str_in_case-IsAscii : (case : Case) (bs : List ℕ) → IsAscii bs → str_in_case case bs ≡ map (in_case case) bs
str_in_case-IsAscii Lower = str_to_lowercase-IsAscii
str_in_case-IsAscii Upper = str_to_uppercase-IsAscii

-- and so the bytes of its characters, mapped
pub encoded-in_case : (case : Case) (cs : List ℕ) → IsAscii (encode_utf8_all cs)
    → encode_utf8_all (map (in_case case) cs) ≡ str_in_case case (encode_utf8_all cs)
encoded-in_case case cs ascii = sym (str_in_case-IsAscii case _ ascii ∙ mapped_bytes (in_case case) (low case) (high case) cs)

-- as many as before
pub len-in_case : (case : Case) (cs : List ℕ) → utf8_len (map (in_case case) cs) ≡ utf8_len cs
len-in_case case cs = ap length (sym (mapped_bytes (in_case case) (low case) (high case) cs)) ∙ length-map (encode_utf8_all cs) _
