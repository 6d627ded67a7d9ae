-- One step of a replacement, on the characters and by lengths.
use Rattle.std.proofs.Common.{◌≡◌, ◌≢◌, ℕ, zero, suc, ◌+◌, ◌-◌, ◌*◌, ◌<◌, ◌≤◌, List, [], ◌∷◌, ◌++◌, length, Some, None, refl, sym, ap, ◌∙◌, arith, min}
use Rattle.std.proofs.Math.Nat.{suc-mul}
use Rattle.std.specs.Char.{len_utf8}
use Rattle.std.specs.Str.{chars, encode_utf8_all, IsUtf8}
use Rattle.std.specs.Option.{option_map_or}
use Rattle.std.proofs.lemmas.Str.{encodes-chars}
use Rattle.ecow_base.specs.Utf8.{utf8_len}
use Rattle.ecow_base.specs.Replaced.{first_split, replacen}
use Rattle.ecow_base.proofs.Boundaries.{width}
use Rattle.ecow_string.specs.Replace.{IsFirstSplit, IsCharSplit}
use Rattle.ecow_string.proofs.Occurrences.{encoded_len}

-- where the first p of s stands between `before` and `behind`, and where there is none
pub replaced-first : (n : ℕ) (p t s before behind : List ℕ) → p ≢ [] → first_split p s ≡ Some (before, behind)
    → replacen (suc n) p t s ≡ before ++ (t ++ replacen n p t behind)
unfolding replacen
replaced-first n [] t s before behind some e = absurd (some refl)
replaced-first n (c ∷ p) t s before behind some e = ap (λ o. option_map_or (λ (parts : List ℕ × List ℕ). parts.0 ++ (t ++ replacen n (c ∷ p) t parts.1)) o s) e

pub replaced-none : (n : ℕ) (p t s : List ℕ) → p ≢ [] → first_split p s ≡ None → replacen n p t s ≡ s
unfolding replacen
replaced-none zero p t s some e = refl
replaced-none (suc n) [] t s some e = absurd (some refl)
replaced-none (suc n) (c ∷ p) t s some e = ap (λ o. option_map_or (λ (parts : List ℕ × List ℕ). parts.0 ++ (t ++ replacen n (c ∷ p) t parts.1)) o s) e

pub replaced-zero : (p t s : List ℕ) → replacen 0 p t s ≡ s
unfolding replacen
replaced-zero p t s = refl

-- the characters of a text that is not empty
pub chars_some : (bs : List ℕ) → IsUtf8 bs → bs ≢ [] → chars bs ≢ []
chars_some bs text some e = some (sym (encodes-chars bs text) ∙ ap encode_utf8_all e)

pub utf8_len-chars : (bs : List ℕ) → IsUtf8 bs → utf8_len (chars bs) ≡ length bs
utf8_len-chars bs text = ap length (encodes-chars bs text)

-- one step of a replacement, by lengths
pub replaced_len-step : (n : ℕ) (p t s before behind : List ℕ) → 0 < n → IsUtf8 p → p ≢ [] → IsUtf8 t → IsFirstSplit p s before behind
    → utf8_len (replacen n (chars p) (chars t) (chars s)) ≡ length before + length t + utf8_len (replacen (n - 1) (chars p) (chars t) (chars behind))
replaced_len-step zero p t s before behind more text some to parts = absurd (omega arith)
replaced_len-step (suc n) p t s before behind more text some to parts =
    let rest = replacen n (chars p) (chars t) (chars behind) in
    let back : suc n - 1 ≡ n = omega arith in
    rw back (ap utf8_len (replaced-first n (chars p) (chars t) (chars s) (chars before) (chars behind) (chars_some p text some) parts.split)
    ∙ omega (arith, encoded_len (chars before) (chars t ++ rest), encoded_len (chars t) rest, utf8_len-chars before parts.before_utf8, utf8_len-chars t to))

-- one step of a replacement
pub replaced-step : (n : ℕ) (p t s before behind : List ℕ) → 0 < n → IsUtf8 p → p ≢ [] → IsFirstSplit p s before behind
    → replacen n (chars p) (chars t) (chars s) ≡ chars before ++ (chars t ++ replacen (n - 1) (chars p) (chars t) (chars behind))
replaced-step zero p t s before behind more text some parts = absurd (omega arith)
replaced-step (suc n) p t s before behind more text some parts =
    let back : suc n - 1 ≡ n = omega arith in
    rw back (replaced-first n (chars p) (chars t) (chars s) (chars before) (chars behind) (chars_some p text some) parts.split)

-- the first step of a replacement of the empty pattern
interleaving_first : (n x : ℕ) (t s : List ℕ) → replacen (suc n) [] t (x ∷ s) ≡ t ++ x ∷ replacen n [] t s
unfolding replacen
interleaving_first n x t s = refl

interleaving_end : (n : ℕ) (t : List ℕ) → replacen (suc n) [] t [] ≡ t
unfolding replacen
interleaving_end n t = refl

pub interleaving-step : (n : ℕ) (t s first behind : List ℕ) → 0 < n → IsCharSplit s first behind
    → replacen n [] (chars t) (chars s) ≡ chars t ++ (chars first ++ replacen (n - 1) [] (chars t) (chars behind))
interleaving-step zero t s first behind more parts = absurd (omega arith)
interleaving-step (suc n) t s first behind more parts =
    let back : suc n - 1 ≡ n = omega arith in
    rw (back, parts.split, parts.first_chars) (interleaving_first n parts.char (chars t) (chars behind))

pub interleaving-end : (n : ℕ) (t s : List ℕ) → 0 < n → s ≡ [] → replacen n [] t s ≡ t
interleaving-end zero t s more none = absurd (omega arith)
interleaving-end (suc n) t s more none = rw none (interleaving_end n t)

pub interleaving_len-step : (n : ℕ) (t s first behind : List ℕ) → 0 < n → IsUtf8 t → IsCharSplit s first behind
    → utf8_len (replacen n [] (chars t) (chars s)) ≡ length t + length first + utf8_len (replacen (n - 1) [] (chars t) (chars behind))
interleaving_len-step n t s first behind more to parts =
    let rest = replacen (n - 1) [] (chars t) (chars behind) in
    ap utf8_len (interleaving-step n t s first behind more parts)
    ∙ omega (arith, encoded_len (chars t) (chars first ++ rest), encoded_len (chars first) rest, utf8_len-chars t to, utf8_len-chars first parts.first_utf8)

-- how long the empty pattern's replacement is
pub interleaving_size : (n : ℕ) (t s : List ℕ) → utf8_len (replacen n [] t s) ≡ utf8_len s + min n (length s + 1) * utf8_len t
interleaving_size zero t s = let none : min 0 (length s + 1) ≡ 0 = grind arith in rw none (ap utf8_len (replaced-zero [] t s) ∙ omega arith)
interleaving_size (suc n) t [] =
    let once : min (suc n) (length {A = ℕ} [] + 1) ≡ 1 = grind arith in
    rw (interleaving_end n t, once) (omega arith)
interleaving_size (suc n) t (x ∷ s) =
    let more : min (suc n) (length (x ∷ s) + 1) ≡ suc (min n (length s + 1)) = grind arith in
    let one = suc-mul (min n (length s + 1)) (utf8_len t) in
    rw (interleaving_first n x t s, more)
    (omega (arith, encoded_len t (x ∷ replacen n [] t s), width x (replacen n [] t s), width x s, interleaving_size n t s, one))

-- how many bytes a text has in which the empty pattern is replaced
pub interleaving_total : (n places : ℕ) (t s : List ℕ) → IsUtf8 t → IsUtf8 s → places ≡ min n (length (chars s) + 1)
    → utf8_len (replacen n [] (chars t) (chars s)) ≡ length s + places * length t
interleaving_total n places t s to text e =
    interleaving_size n (chars t) (chars s) ∙ (λ i. utf8_len-chars s text i + sym e i * utf8_len-chars t to i)

-- what fits once all is appended leaves room for a part of it
pub part_fits : (target old rest whole after : List ℕ) (most n : ℕ) → target ++ rest ≡ old ++ whole
    → utf8_len old + utf8_len whole ≤ most → utf8_len rest ≡ n + utf8_len after → utf8_len target + n ≤ most
part_fits target old rest whole after most n joined fits size = omega (arith, ap utf8_len joined, encoded_len target rest, encoded_len old whole)

-- the bytes of a text with one character more
pub one_char_more : (cs : List ℕ) (c : ℕ) → utf8_len (cs ++ c ∷ []) ≡ utf8_len cs + len_utf8 c
one_char_more cs c = encoded_len cs (c ∷ []) ∙ ap (λ n. utf8_len cs + n) (width c [] ∙ omega arith)
