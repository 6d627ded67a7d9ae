-- A text that is gone over character by character, or whose front is cut off again and again. A text
-- is its bytes here: `cs` are the characters before a seam, and `rest` the bytes behind it.
use Rattle.std.proofs.Common.{◌≡◌, ℕ, ◌+◌, List, [], ◌∷◌, ◌++◌, length, take, drop, ◌<◌, sym, ap, ◌∙◌, append_assoc, append-nil, arith}
use Rattle.std.specs.Str.{chars, IsUtf8, IsCharBoundary, encode_utf8_all}
use Rattle.std.specs.Char.{encode_utf8}
use Rattle.std.proofs.Math.Seq.{take-append_seam}
use Rattle.std.proofs.lemmas.List.{length-append, length-drop, take-append-drop}
use Rattle.std.proofs.lemmas.Str.{IsCharBoundary-at_seam, IsUtf8-take, chars_from_encodes, encodes-append, length-encode, IsUtf8-past_char, IsUtf8-drop, chars_past_char, chars-nil, chars-append, len_utf8_bounds}

-- n bytes stand before the seam: the text may be cut there, and these are the characters before it
pub seam_boundary : (bs cs rest : List ℕ) (n : ℕ) → n ≡ length (encode_utf8_all cs) → bs ≡ encode_utf8_all cs ++ rest → IsUtf8 rest
    → IsCharBoundary bs n
seam_boundary bs cs rest n is parts behind =
    let at = IsCharBoundary-at_seam bs (encode_utf8_all cs) rest parts behind in
    rw is at

pub seam_chars : (bs cs rest : List ℕ) (n : ℕ) → IsUtf8 bs → n ≡ length (encode_utf8_all cs) → bs ≡ encode_utf8_all cs ++ rest → IsUtf8 rest
    → cs ≡ chars (take n bs)
seam_chars bs cs rest n whole is parts behind =
    let boundary = seam_boundary bs cs rest n is parts behind in
    let front : take n bs ≡ encode_utf8_all cs =
    ap (λ m. take m bs) is ∙ ap (λ b. take (length (encode_utf8_all cs)) b) parts ∙ take-append_seam (encode_utf8_all cs) rest in
    chars_from_encodes cs (take n bs) (IsUtf8-take bs n whole boundary) (sym front)

-- the next character goes before the seam
pub seam_more : (bs cs rest left : List ℕ) (c : ℕ) → bs ≡ encode_utf8_all cs ++ rest → rest ≡ encode_utf8 c ++ left
    → bs ≡ encode_utf8_all (cs ++ c ∷ []) ++ left
seam_more bs cs rest left c parts step =
    let one : encode_utf8_all (c ∷ []) ≡ encode_utf8 c = append-nil (encode_utf8 c) in
    parts ∙ ap (λ r. encode_utf8_all cs ++ r) step
    ∙ sym (append_assoc (encode_utf8_all cs) (encode_utf8 c) left)
    ∙ sym (ap (λ f. f ++ left) (encodes-append cs (c ∷ []) ∙ ap (λ e. encode_utf8_all cs ++ e) one))

pub seam_len : (cs : List ℕ) (c n more : ℕ) → n ≡ length (encode_utf8_all cs) → more ≡ length (encode_utf8 c) → n + more ≡ length (encode_utf8_all (cs ++ c ∷ []))
seam_len cs c n more is len =
    let one : encode_utf8_all (c ∷ []) ≡ encode_utf8 c = append-nil (encode_utf8 c) in
    let whole : encode_utf8_all (cs ++ c ∷ []) ≡ encode_utf8_all cs ++ encode_utf8 c = encodes-append cs (c ∷ []) ∙ ap (λ e. encode_utf8_all cs ++ e) one in
    omega (arith, is, len, ap length whole, length-append (encode_utf8_all cs) (encode_utf8 c))

-- `source` was put together up to `rest`. Of that a first character and the front of what is `left`
-- behind it, which ends at n, are put behind `done`
pub cut_step : (source done rest left front behind text : List ℕ) (c n : ℕ) → done ++ chars rest ≡ source → IsUtf8 rest → rest ≡ encode_utf8 c ++ left
    → IsCharBoundary left n → front ≡ take n left → behind ≡ drop n left → text ≡ (c ∷ []) ++ chars front
    → (done ++ text) ++ chars behind ≡ source
cut_step source done rest left front behind text c n whole utf8 step cut is-front is-behind is-text =
    let later : IsUtf8 left = IsUtf8-past_char rest left c utf8 step in
    let parts : left ≡ front ++ behind = sym (take-append-drop n left) ∙ ap (λ f. f ++ drop n left) (sym is-front) ∙ ap (λ b. front ++ b) (sym is-behind) in
    let good : IsUtf8 front = rw is-front (IsUtf8-take left n later cut) in
    let characters : chars rest ≡ c ∷ (chars front ++ chars behind) =
    chars_past_char rest left c utf8 step ∙ ap (λ l. c ∷ chars l) parts ∙ ap (λ l. c ∷ l) (chars-append front behind good) in
    append_assoc done text (chars behind)
    ∙ ap (λ t. done ++ (t ++ chars behind)) is-text
    ∙ sym (ap (λ l. done ++ l) characters)
    ∙ whole

pub cut_rest : (rest left behind : List ℕ) (c n : ℕ) → IsUtf8 rest → rest ≡ encode_utf8 c ++ left → IsCharBoundary left n → behind ≡ drop n left
    → IsUtf8 behind
cut_rest rest left behind c n utf8 step cut is-behind = rw is-behind (IsUtf8-drop left n (IsUtf8-past_char rest left c utf8 step) cut)

pub cut_less : (rest left behind : List ℕ) (c n : ℕ) → rest ≡ encode_utf8 c ++ left → behind ≡ drop n left → length behind < length rest
cut_less rest left behind c n step is-behind =
    let size = ap length step ∙ length-append (encode_utf8 c) left in
    let one = length-encode c in
    let bounds = len_utf8_bounds c in
    let less = ap length is-behind ∙ length-drop n left in
    omega (arith, size, one, bounds.0, less)

-- nothing is left of it
pub cut_end : (done rest source : List ℕ) → length rest ≡ 0 → done ++ chars rest ≡ source → done ≡ source
cut_end done [] source none whole = sym (append-nil done) ∙ sym (ap (λ cs. done ++ cs) chars-nil) ∙ whole
cut_end done (b ∷ bs) source none whole = absurd (omega (arith, none))
