-- A text that is printed is read again.
use Rattle.std.proofs.Common.{◌≡◌, ℕ, ◌+◌, ◌*◌, ◌/◌, ◌%◌, ◌<◌, ◌≤◌, Bool, true, false, cond, ◌||◌, ◌&&◌, leb, List, [], ◌∷◌, ◌++◌, Option, Some, None, eqb, ltb, refl, sym, ap, ◌∙◌, arith, append_assoc, inl, inr}
use Rattle.std.specs.Prelude.{encode_utf8}
use Rattle.std.specs.List.{flat_map}
use Rattle.std.specs.Str.{encode_utf8_all}
use Rattle.std.specs.Fmt.{digits, digit_glyph}
use Rattle.std.specs.Char.{digit_value}
use Rattle.std.proofs.lemmas.Bool.{eqb-true, cases_lt, lt-ltb}
use Rattle.std.proofs.lemmas.Bool.Decides.{nat_tests}
use Rattle.std.proofs.lemmas.Fmt.{hex_one_digit, hex_two_digits}
use Rattle.ecow_script.specs.Quoted.{text_from, escape_from, digits_from, behind_bytes, behind_char, scalar_in, hex_behind, scalar}
use Rattle.ecow_script.specs.Answers.{escaped}
use Rattle.ecow_script.proofs.Quotes.{bytes_bytes, no_bytes}

-- bytes that stand for themselves
abbrev ArePlain : List ℕ → Type 0
ArePlain [] = Unit {0}
ArePlain (b ∷ bs) = (eqb b 34 ≡ false) × (eqb b 92 ≡ false) × ArePlain bs

plain_again : (bs tail : List ℕ) → ArePlain bs
    → text_from (bs ++ tail) ≡ behind_bytes bs (text_from tail)
plain_again [] tail h = no_bytes (text_from tail)
plain_again (b ∷ bs) tail h =
    ap (λ q. cond q (Some ([], bs ++ tail))
    (cond (eqb b 92) (escape_from (bs ++ tail))
    (behind_bytes (b ∷ []) (text_from (bs ++ tail))))) h.0
    ∙ ap (λ q. cond q (escape_from (bs ++ tail))
    (behind_bytes (b ∷ []) (text_from (bs ++ tail)))) h.1
    ∙ ap (behind_bytes (b ∷ [])) (plain_again bs tail h.2)
    ∙ bytes_bytes (b ∷ []) bs (text_from tail)

high_is_plain : (b : ℕ) → 128 ≤ b → (eqb b 34 ≡ false) × (eqb b 92 ≡ false)
high_is_plain b h = (grind (arith, nat_tests), grind (arith, nat_tests))

pick : (b : Bool) (xs ys : List ℕ) → ArePlain xs → ArePlain ys → ArePlain (cond b xs ys)
pick true xs ys h k = h
pick false xs ys h k = k

behind_high : (b : ℕ) (bs : List ℕ) → 128 ≤ b → ArePlain bs → ArePlain (b ∷ bs)
behind_high b bs h k = let p = high_is_plain b h in (p.0, p.1, k)

abbrev last_one : ℕ → List ℕ
last_one c = (128 + c % 64) ∷ []

abbrev last_two : ℕ → List ℕ
last_two c = (128 + c / 64 % 64) ∷ last_one c

abbrev last_three : ℕ → List ℕ
last_three c = (128 + c / 4096 % 64) ∷ last_two c

-- the bytes of a character in UTF-8 are plain where the character is no quote and no backslash
utf8_plain : (c : ℕ) → eqb c 34 ≡ false → eqb c 92 ≡ false → ArePlain (encode_utf8 c)
unfolding lib.Utf8.encode
utf8_plain c h k =
    let one : ArePlain (last_one c) = behind_high (128 + c % 64) [] (omega arith) tt in
    let two : ArePlain (last_two c) =
    behind_high (128 + c / 64 % 64) (last_one c) (omega arith) one in
    let three : ArePlain (last_three c) =
    behind_high (128 + c / 4096 % 64) (last_two c) (omega arith) two in
    pick (ltb c 128) (c ∷ [])
    (cond (ltb c 2048) ((192 + c / 64) ∷ last_one c)
    (cond (ltb c 65536) ((224 + c / 4096) ∷ last_two c) ((240 + c / 262144) ∷ last_three c)))
    (h, k, tt)
    (pick (ltb c 2048) ((192 + c / 64) ∷ last_one c)
    (cond (ltb c 65536) ((224 + c / 4096) ∷ last_two c) ((240 + c / 262144) ∷ last_three c))
    (behind_high (192 + c / 64) (last_one c) (omega arith) one)
    (pick (ltb c 65536) ((224 + c / 4096) ∷ last_two c) ((240 + c / 262144) ∷ last_three c)
    (behind_high (224 + c / 4096) (last_two c) (omega arith) two)
    (behind_high (240 + c / 262144) (last_three c) (omega arith) three)))

-- a control character
glyph_again : (d : ℕ) → d < 16 → digit_value (digit_glyph false d) ≡ d
glyph_again d h = grind (arith, nat_tests)

glyph_open : (d : ℕ) → d < 16 → eqb (digit_glyph false d) 125 ≡ false
glyph_open d h = grind (arith, nat_tests)

scalar_small : (n : ℕ) → n < 55296 → scalar (Some n) ≡ Some n
scalar_small n h =
    ap (λ b. cond (b || (leb 57344 n && ltb n 1114112)) (Some n) None) (lt-ltb n 55296 h)

hex_more : (n v d : ℕ) (r : ℕ → Option ℕ) → v ≡ d → d < 16
    → cond (ltb v 16) (r (n * 16 + v)) None ≡ r (n * 16 + d)
hex_more n v d r e h =
    ap (λ w. cond (ltb w 16) (r (n * 16 + w)) None) e
    ∙ ap (λ b. cond b (r (n * 16 + d)) None) (lt-ltb d 16 h)

one_digit : (d : ℕ) → d < 16 → scalar_in (digit_glyph false d ∷ []) ≡ Some d
one_digit d h =
    ap scalar (hex_more 0 (digit_value (digit_glyph false d)) d (λ n. Some n) (glyph_again d h) h)
    ∙ scalar_small (0 * 16 + d) (omega arith) ∙ ap Some (omega arith)

two_digits : (c d : ℕ) → c < 16 → d < 16
    → scalar_in (digit_glyph false c ∷ digit_glyph false d ∷ []) ≡ Some (c * 16 + d)
two_digits c d h k =
    ap scalar
    (hex_more 0 (digit_value (digit_glyph false c)) c
    (λ n. hex_behind n (digit_glyph false d ∷ [])) (glyph_again c h) h
    ∙ hex_more (0 * 16 + c) (digit_value (digit_glyph false d)) d (λ n. Some n) (glyph_again d k) k)
    ∙ scalar_small ((0 * 16 + c) * 16 + d) (omega arith) ∙ ap Some (omega arith)

abbrev control : List ℕ → List ℕ
control ds = (92 ∷ 117 ∷ 123 ∷ []) ++ ds ++ 125 ∷ []

one_again : (d : ℕ) (tail : List ℕ) → d < 16
    → text_from (control (digit_glyph false d ∷ []) ++ tail)
    ≡ behind_bytes (encode_utf8 d) (text_from tail)
one_again d tail h =
    ap (λ b. cond b (behind_char (scalar_in []) (text_from (125 ∷ tail)))
    (behind_char (scalar_in (digit_glyph false d ∷ [])) (text_from tail))) (glyph_open d h)
    ∙ ap (λ s. behind_char s (text_from tail)) (one_digit d h)

two_again : (c d : ℕ) (tail : List ℕ) → c < 16 → d < 16
    → text_from (control (digit_glyph false c ∷ digit_glyph false d ∷ []) ++ tail)
    ≡ behind_bytes (encode_utf8 (c * 16 + d)) (text_from tail)
two_again c d tail h k =
    ap (λ b. cond b (behind_char (scalar_in []) (text_from (digit_glyph false d ∷ 125 ∷ tail)))
    (digits_from (digit_glyph false c ∷ []) (digit_glyph false d ∷ 125 ∷ tail)))
    (glyph_open c h)
    ∙ ap (λ b. cond b (behind_char (scalar_in (digit_glyph false c ∷ [])) (text_from (125 ∷ tail)))
    (behind_char (scalar_in (digit_glyph false c ∷ digit_glyph false d ∷ [])) (text_from tail)))
    (glyph_open d k)
    ∙ ap (λ s. behind_char s (text_from tail)) (two_digits c d h k)

control_again : (c : ℕ) (tail : List ℕ) → c < 256
    → text_from (control (digits 16 false c) ++ tail)
    ≡ behind_bytes (encode_utf8 c) (text_from tail)
control_again c tail h =
    elim (cases_lt c 16) [
      | inl low ↦
          ap (λ ds. text_from (control ds ++ tail)) (hex_one_digit false c low)
          ∙ one_again c tail low
      | inr high ↦
          ap (λ ds. text_from (control ds ++ tail)) (hex_two_digits false c high h)
          ∙ two_again (c / 16) (c % 16) tail (omega arith) (omega arith)
          ∙ ap (λ n. behind_bytes (encode_utf8 n) (text_from tail)) (omega arith)
    ]

is_low : (c : ℕ) → (ltb c 32 || eqb c 127) ≡ true → c < 256
is_low c h = grind (arith, nat_tests)

-- one of the characters that are escaped, or another
either : (k c : ℕ) (xs ys tail : List ℕ)
    → text_from (xs ++ tail) ≡ behind_bytes (encode_utf8 k) (text_from tail)
    → (eqb c k ≡ false → text_from (ys ++ tail) ≡ behind_bytes (encode_utf8 c) (text_from tail))
    → text_from (cond (eqb c k) xs ys ++ tail) ≡ behind_bytes (encode_utf8 c) (text_from tail)
either k c xs ys tail same other =
    elim (eqb c k) as
    (λ b. eqb c k ≡ b → text_from (cond b xs ys ++ tail) ≡ behind_bytes (encode_utf8 c)
    (text_from tail)) [
      | true ↦
          λ e. same ∙ ap (λ n. behind_bytes (encode_utf8 n) (text_from tail)) (sym (eqb-true c k e))
      | false ↦ λ e. other e
    ] refl

abbrev unescaped : ℕ → List ℕ
unescaped c = cond (ltb c 32 || eqb c 127) (control (digits 16 false c)) (encode_utf8 c)

abbrev but_tab : ℕ → List ℕ
but_tab c = cond (eqb c 9) (92 ∷ 116 ∷ []) (unescaped c)

abbrev but_return : ℕ → List ℕ
but_return c = cond (eqb c 13) (92 ∷ 114 ∷ []) (but_tab c)

abbrev but_feed : ℕ → List ℕ
but_feed c = cond (eqb c 10) (92 ∷ 110 ∷ []) (but_return c)

abbrev but_quote : ℕ → List ℕ
but_quote c = cond (eqb c 34) (92 ∷ 34 ∷ []) (but_feed c)

char_again : (c : ℕ) (tail : List ℕ)
    → text_from (escaped c ++ tail) ≡ behind_bytes (encode_utf8 c) (text_from tail)
char_again c tail =
    either 92 c (92 ∷ 92 ∷ []) (but_quote c) tail refl (λ no_backslash.
    either 34 c (92 ∷ 34 ∷ []) (but_feed c) tail refl (λ no_quote.
    either 10 c (92 ∷ 110 ∷ []) (but_return c) tail refl (λ _.
    either 13 c (92 ∷ 114 ∷ []) (but_tab c) tail refl (λ _.
    either 9 c (92 ∷ 116 ∷ []) (unescaped c) tail refl (λ _.
    elim (ltb c 32 || eqb c 127) as
    (λ b. (ltb c 32 || eqb c 127) ≡ b → text_from
    (cond b (control (digits 16 false c)) (encode_utf8 c) ++ tail) ≡ behind_bytes
    (encode_utf8 c) (text_from tail)) [
      | true ↦ λ e. control_again c tail (is_low c e)
      | false ↦ λ e. plain_again (encode_utf8 c) tail (utf8_plain c no_quote no_backslash)
    ] refl)))))

-- the characters of a text that is printed are read again, up to the closing quote
pub text_again : (cs rest : List ℕ)
    → text_from (flat_map escaped cs ++ 34 ∷ rest) ≡ Some (encode_utf8_all cs, rest)
text_again [] rest = refl
text_again (c ∷ cs) rest =
    ap text_from (append_assoc (escaped c) (flat_map escaped cs) (34 ∷ rest))
    ∙ char_again c (flat_map escaped cs ++ 34 ∷ rest)
    ∙ ap (behind_bytes (encode_utf8 c)) (text_again cs rest)
