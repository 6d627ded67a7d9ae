-- A text occurs in another's characters where its bytes occur in the other's bytes, and the first place is the same.
use Rattle.std.proofs.Common.{◌≡◌, ◌≢◌, ℕ, ◌+◌, ◌<◌, ◌≤◌, Bool, true, false, eqb, List, [], ◌∷◌, ◌++◌, length, take, drop, get_or, Option, Some, None, MatchOption, refl, sym, ap, ◌∙◌, subst, arith, append_assoc, length-append, take-append-drop, inl, inr, ◌⊎◌}
use Rattle.std.specs.Str.{chars, encode_utf8_all, IsUtf8, IsCharBoundary}
use Rattle.std.specs.Option.{option_map}
use Rattle.std.specs.Char.{encode_utf8}
use Rattle.std.proofs.lemmas.Str.{cons_from_encodes, chars-encodes, IsCharBoundary-at_seam, IsCharBoundary-start, encodes-append, len_utf8_bounds}
use Rattle.std.proofs.lemmas.List.Prefix.{at_from_reads, at_reads}
use Rattle.std.proofs.lemmas.List.{take_at, drop_at}
use borrow.Author.Tests.{eqb-true, eq-eqb}
use Rattle.memchr.specs.Find.{OccursAt, FindsNeedle}
use Rattle.ecow_base.specs.Utf8.{utf8_len}
use Rattle.ecow_base.specs.Replaced.{after_front, or_later, first_split}
use Rattle.ecow_base.proofs.Boundaries.{width}
use Rattle.ecow_string.specs.Text.{AreChars}
use Rattle.ecow_string.proofs.Texts.{front_of_boundary, split_encoded, AreChars-append}

-- a text whose bytes begin with those of p begins with p
pub front_of_chars : (p s r : List ℕ) → encode_utf8_all s ≡ encode_utf8_all p ++ r → (b : List ℕ) × (s ≡ p ++ b) × (encode_utf8_all b ≡ r)
front_of_chars [] s r e = (s, refl, e)
front_of_chars (c ∷ p) s r e =
    let first = cons_from_encodes s (encode_utf8_all p ++ r) c (e ∙ append_assoc (encode_utf8 c) (encode_utf8_all p) r) in
    let rest = front_of_chars p first.0 r first.2 in
    (rest.0, first.1 ∙ ap (λ l. c ∷ l) rest.1, rest.2)

pub encoded_len : (xs ys : List ℕ) → utf8_len (xs ++ ys) ≡ utf8_len xs + utf8_len ys
encoded_len xs ys = ap length (encodes-append xs ys) ∙ length-append _ _

-- where p occurs in the bytes of s, s parts into characters
pub record PartsAt (s p : List ℕ) (k : ℕ) : Type 0 where
  pub front : List ℕ
  pub rest : List ℕ
  pub whole : s ≡ front ++ (p ++ rest)
  pub before : utf8_len front ≡ k

-- the first byte of a needle begins a character, so a place where the needle occurs is a boundary
needle_boundary : (s p : List ℕ) (c k : ℕ) → AreChars (c ∷ p) → OccursAt (encode_utf8_all s) (encode_utf8_all (c ∷ p)) k → IsCharBoundary (encode_utf8_all s) k
needle_boundary s p c k needle at =
    let bytes = encode_utf8_all (c ∷ p) in
    let some : 0 < length bytes = omega (arith, width c p, len_utf8_bounds c) in
    let start = (IsCharBoundary-start bytes (c ∷ p, (needle, refl))).1 some in
    let same : get_or (encode_utf8_all s) k 0 ≡ get_or bytes 0 0 = ap (λ n. get_or (encode_utf8_all s) n 0) (omega arith) ∙ at.reads 0 some in
    (omega (arith, at.fits), λ within. rw same start)

pub parts_from_bytes : (s p : List ℕ) (c k : ℕ) → AreChars s → AreChars (c ∷ p) → OccursAt (encode_utf8_all s) (encode_utf8_all (c ∷ p)) k → PartsAt s (c ∷ p) k
parts_from_bytes s p c k valid needle at =
    let cut = front_of_boundary s k valid (needle_boundary s p c k needle at) in
    let bytes = at_from_reads 0 (encode_utf8_all s) (encode_utf8_all (c ∷ p)) k at.fits at.reads in
    let back : drop k (encode_utf8_all s) ≡ encode_utf8_all (drop cut.front s) =
    ap (drop k) (split_encoded s cut.front) ∙ drop_at (encode_utf8_all (take cut.front s)) _ k cut.ends in
    let parts = front_of_chars (c ∷ p) (drop cut.front s) _ (sym back ∙ bytes) in
    record {
      front = take cut.front s;
      rest = parts.0;
      whole = sym (take-append-drop cut.front s) ∙ ap (λ l. take cut.front s ++ l) parts.1;
      before = cut.ends;
    }

-- and the other way
pub bytes_from_parts : (s p a b : List ℕ) → s ≡ a ++ (p ++ b) → OccursAt (encode_utf8_all s) (encode_utf8_all p) (utf8_len a)
bytes_from_parts s p a b e =
    let bytes : encode_utf8_all s ≡ encode_utf8_all a ++ (encode_utf8_all p ++ encode_utf8_all b) =
    ap encode_utf8_all e ∙ encodes-append a (p ++ b) ∙ ap (λ l. encode_utf8_all a ++ l) (encodes-append p b) in
    let back = ap (drop (utf8_len a)) bytes ∙ drop_at (encode_utf8_all a) _ (utf8_len a) refl in
    record {
      fits = omega (
        arith,
        ap length bytes,
        length-append (encode_utf8_all a) (encode_utf8_all p ++ encode_utf8_all b),
        length-append (encode_utf8_all p) (encode_utf8_all b),
      );
      reads = at_reads 0 (encode_utf8_all s) (encode_utf8_all p) (utf8_len a) (encode_utf8_all b) back;
    }

decide : (b : Bool) → (b ≡ true) ⊎ (b ≡ false)
decide true = inl refl
decide false = inr refl

pub after_front-front : (p b : List ℕ) → after_front p (p ++ b) ≡ Some b
after_front-front [] b = refl
after_front-front (c ∷ p) b = rw (eq-eqb c c refl) (after_front-front p b)

pub after_front-none : (p s : List ℕ) → ((b : List ℕ) → s ≢ p ++ b) → after_front p s ≡ None
after_front-none [] s never = absurd (never s refl)
after_front-none (c ∷ p) [] never = refl
after_front-none (c ∷ p) (x ∷ s) never = elim (decide (eqb c x)) [
  | inl e ↦ rw e (after_front-none p s (λ b f. never b (ap (λ l. x ∷ l) f ∙ ap (λ y. y ∷ (p ++ b)) (sym (eqb-true c x e)))))
  | inr e ↦ rw e refl
]

-- p stands at no place of a ++ t but past a
abbrev NotWithin : List ℕ → List ℕ → List ℕ → Type 0
NotWithin p a t = (a₁ a₂ : List ℕ) (x : ℕ) → a ≡ a₁ ++ x ∷ a₂ → (b : List ℕ) → x ∷ (a₂ ++ t) ≢ p ++ b

pub first_split-some : (c : ℕ) (p a b : List ℕ) → NotWithin (c ∷ p) a ((c ∷ p) ++ b) → first_split (c ∷ p) (a ++ ((c ∷ p) ++ b)) ≡ Some (a, b)
unfolding first_split
first_split-some c p [] b none = ap (λ o. or_later c o (first_split (c ∷ p) (p ++ b))) (after_front-front (c ∷ p) b)
first_split-some c p (x ∷ a) b none =
    ap (λ o. or_later x o (first_split (c ∷ p) (a ++ ((c ∷ p) ++ b)))) (after_front-none (c ∷ p) (x ∷ (a ++ ((c ∷ p) ++ b))) (none [] a x refl))
    ∙ ap (option_map (λ (parts : List ℕ × List ℕ). (x ∷ parts.0, parts.1))) (first_split-some c p a b (λ a₁ a₂ y e. none (x ∷ a₁) a₂ y (ap (λ l. x ∷ l) e)))

pub first_split-none : (c : ℕ) (p s : List ℕ) → ((a b : List ℕ) → s ≢ a ++ ((c ∷ p) ++ b)) → first_split (c ∷ p) s ≡ None
unfolding first_split
first_split-none c p [] none = refl
first_split-none c p (x ∷ s) none =
    ap (λ o. or_later x o (first_split (c ∷ p) s)) (after_front-none (c ∷ p) (x ∷ s) (none []))
    ∙ ap (option_map (λ (parts : List ℕ × List ℕ). (x ∷ parts.0, parts.1))) (first_split-none c p s (λ a b e. none (x ∷ a) b (ap (λ l. x ∷ l) e)))

-- what the search of the bytes says of the characters
pub finds_split : (s p : List ℕ) (c : ℕ) (r : Option ℕ) → AreChars s → AreChars (c ∷ p) → FindsNeedle (encode_utf8_all s) (encode_utf8_all (c ∷ p)) 0 r
    → MatchOption r (first_split (c ∷ p) s ≡ None) (λ k. (parts : PartsAt s (c ∷ p) k) × (first_split (c ∷ p) s ≡ Some (parts.front, parts.rest)))
finds_split s p c None valid needle never = first_split-none c p s (λ a b e.
    let at = bytes_from_parts s (c ∷ p) a b e in never (utf8_len a) (omega arith) (omega (arith, at.fits)) at)
finds_split s p c (Some k) valid needle found =
    let parts = parts_from_bytes s p c k valid needle found.1 in
    let none : NotWithin (c ∷ p) parts.front ((c ∷ p) ++ parts.rest) = λ a₁ a₂ x e b f.
    let whole : s ≡ a₁ ++ ((c ∷ p) ++ b) =
    parts.whole ∙ ap (λ l. l ++ ((c ∷ p) ++ parts.rest)) e ∙ append_assoc a₁ (x ∷ a₂) ((c ∷ p) ++ parts.rest) ∙ ap (λ l. a₁ ++ l) f in
    let less : utf8_len a₁ < k = omega (arith, parts.before, ap utf8_len e, encoded_len a₁ (x ∷ a₂), width x a₂, len_utf8_bounds x) in
    found.0.before (utf8_len a₁) (omega arith) less (bytes_from_parts s (c ∷ p) a₁ b whole) in
    (parts, ap (first_split (c ∷ p)) parts.whole ∙ first_split-some c p parts.front parts.rest none)

-- what a search found: the text may be cut before and after the match, which is the first among the characters
pub record Found (text pattern : List ℕ) (k : ℕ) : Type 0 where
  pub fits : k + length pattern ≤ length text
  pub start : IsCharBoundary text k
  pub end : IsCharBoundary text (k + length pattern)
  pub split : first_split (chars pattern) (chars text) ≡ Some (chars (take k text), chars (drop (k + length pattern) text))

chars_same : (cs bs : List ℕ) → AreChars cs → bs ≡ encode_utf8_all cs → chars bs ≡ cs
chars_same cs bs valid e = ap chars e ∙ chars-encodes cs valid

found_parts : (s p : List ℕ) (c k : ℕ) → AreChars s → (parts : PartsAt s (c ∷ p) k)
    → first_split (c ∷ p) s ≡ Some (parts.front, parts.rest) → AreChars (c ∷ p) → IsCharBoundary (encode_utf8_all s) k
    → Found (encode_utf8_all s) (encode_utf8_all (c ∷ p)) k
found_parts s p c k valid parts split needle start =
    let a = encode_utf8_all parts.front in
    let n = encode_utf8_all (c ∷ p) in
    let b = encode_utf8_all parts.rest in
    let whole : encode_utf8_all s ≡ a ++ (n ++ b) =
    ap encode_utf8_all parts.whole ∙ encodes-append parts.front ((c ∷ p) ++ parts.rest) ∙ ap (λ l. a ++ l) (encodes-append (c ∷ p) parts.rest) in
    let all : AreChars (parts.front ++ ((c ∷ p) ++ parts.rest)) = subst AreChars parts.whole valid in
    let pieces = AreChars-append parts.front ((c ∷ p) ++ parts.rest) all in
    let back = (AreChars-append (c ∷ p) parts.rest pieces.1).1 in
    let size : length (a ++ n) ≡ k + length n = length-append a n ∙ ap (λ m. m + length n) parts.before in
    let before : take k (encode_utf8_all s) ≡ a = ap (take k) whole ∙ take_at a (n ++ b) k parts.before in
    let after : drop (k + length n) (encode_utf8_all s) ≡ b =
    ap (drop (k + length n)) (whole ∙ sym (append_assoc a n b)) ∙ drop_at (a ++ n) b (k + length n) size in
    record {
      fits = omega (arith, ap length whole, length-append a (n ++ b), length-append n b, parts.before);
      start = start;
      end = rw size at (IsCharBoundary-at_seam (encode_utf8_all s) (a ++ n) b (whole ∙ sym (append_assoc a n b)) (parts.rest, (back, refl)));
      split = rw (chars-encodes (c ∷ p) needle, chars-encodes s valid, chars_same parts.front _ pieces.0 before, chars_same parts.rest _ back after) split;
    }

pub found_text : (s p : List ℕ) → AreChars s → AreChars p → encode_utf8_all p ≢ [] → (r : Option ℕ) → FindsNeedle (encode_utf8_all s) (encode_utf8_all p) 0 r
    → MatchOption r (first_split (chars (encode_utf8_all p)) (chars (encode_utf8_all s)) ≡ None) (λ k. Found (encode_utf8_all s) (encode_utf8_all p) k)
found_text s [] valid needle some r found = absurd (some refl)
found_text s (c ∷ p) valid needle some None found = rw (chars-encodes (c ∷ p) needle, chars-encodes s valid) (finds_split s p c None valid needle found)
found_text s (c ∷ p) valid needle some (Some k) found =
    let parts = finds_split s p c (Some k) valid needle found in
    found_parts s p c k valid parts.0 parts.1 needle (needle_boundary s p c k needle found.1)

-- what the search of a text's bytes says of its characters
pub finds_text : (text pattern : List ℕ) → IsUtf8 text → IsUtf8 pattern → pattern ≢ [] → (r : Option ℕ) → FindsNeedle text pattern 0 r
    → MatchOption r (first_split (chars pattern) (chars text) ≡ None) (λ k. Found text pattern k)
finds_text text pattern t p some r found =
    let P : List ℕ → List ℕ → Type 0 = λ s n. n ≢ [] → FindsNeedle s n 0 r → MatchOption r (first_split (chars n) (chars s) ≡ None) (λ k. Found s n k) in
    let there : P (encode_utf8_all t.0) (encode_utf8_all p.0) = λ few at. found_text t.0 p.0 t.1.0 p.1.0 few r at in
    let half : P text (encode_utf8_all p.0) = subst (λ (s : List ℕ). P s (encode_utf8_all p.0)) t.1.1 there in
    let whole : P text pattern = subst (λ (n : List ℕ). P text n) p.1.1 half in
    whole some found
