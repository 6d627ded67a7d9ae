-- The first character of a text.
use Rattle.std.proofs.Common.{◌≡◌, ℕ, List, [], ◌∷◌, ◌++◌, take, drop, sym, ap, ◌∙◌, append-nil, IsUtf8}
use Rattle.std.specs.Char.{len_utf8, encode_utf8}
use Rattle.std.specs.Str.{chars, IsCharBoundary}
use Rattle.std.proofs.lemmas.Str.{IsCharBoundary-at_seam, length-encode, IsUtf8-past_char, IsUtf8-take, chars_past_char, chars-nil}
use Rattle.std.proofs.lemmas.List.{take_at, drop_at}

-- the text begins with the character c
pub record FirstChar (bs : List ℕ) (c : ℕ) : Type 0 where
  pub boundary : IsCharBoundary bs (len_utf8 c)
  pub first : chars (take (len_utf8 c) bs) ≡ c ∷ []
  pub split : chars bs ≡ c ∷ chars (drop (len_utf8 c) bs)

pub first_char : (bs rest : List ℕ) (c : ℕ) → IsUtf8 bs → bs ≡ encode_utf8 c ++ rest → FirstChar bs c
first_char bs rest c text e =
    let size = length-encode c in
    let front : take (len_utf8 c) bs ≡ encode_utf8 c = ap (take (len_utf8 c)) e ∙ take_at (encode_utf8 c) rest (len_utf8 c) size in
    let back : drop (len_utf8 c) bs ≡ rest = ap (drop (len_utf8 c)) e ∙ drop_at (encode_utf8 c) rest (len_utf8 c) size in
    let boundary : IsCharBoundary bs (len_utf8 c) = rw size at (IsCharBoundary-at_seam bs (encode_utf8 c) rest e (IsUtf8-past_char bs rest c text e)) in
    let alone : IsUtf8 (encode_utf8 c) = rw front at (IsUtf8-take bs (len_utf8 c) text boundary) in
    record {
      boundary = boundary;
      first = ap chars front ∙ chars_past_char (encode_utf8 c) [] c alone (sym (append-nil _)) ∙ ap (λ l. c ∷ l) chars-nil;
      split = chars_past_char bs rest c text e ∙ ap (λ l. c ∷ chars l) (sym back);
    }
