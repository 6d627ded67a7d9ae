-- The characters of bytes that are UTF-8, and their byte indices.
use Rattle.std.proofs.Common.{◌≡◌, ℕ, zero, suc, ◌&&◌, ◌+◌, ◌-◌, ◌<◌, ◌≤◌, Bool, true, false, List, [], ◌∷◌, ◌++◌, length, take, drop, None, Some, refl, sym, ap, ◌∙◌, subst, arith, inl, inr, append-nil, append_assoc, length-append, length-take-le, take-append-drop, IsUtf8}
use Rattle.std.specs.Prelude.{slice_get, ◌==◌}
use Rattle.std.specs.List.{insert, insert_slice, replace_range}
use Rattle.std.specs.Char.{len_utf8, encode_utf8, IsScalar}
use Rattle.std.specs.Str.{chars, encode_utf8_all, all_scalars, is_utf8, IsCharBoundary}
use Rattle.std.proofs.lemmas.Str.{chars-nil, chars-encodes, encodes-chars, scalars-chars, IsUtf8-append, encodes-append, IsUtf8-nil, IsUtf8-take, IsUtf8-drop, IsCharBoundary-at_seam, len_utf8_bounds, encodes_same, chars_past_char, IsUtf8-encode, IsUtf8-from_is_utf8}
use Rattle.std.proofs.lemmas.List.{take_at, take_all, drop_at, nil_from_length}
use Rattle.std.proofs.lemmas.Bool.{cases_lt, eqb-true, eq-eqb}
use Rattle.std.proofs.Math.Utf8.{scalar}
use Rattle.ecow_base.specs.Utf8.{utf8_len, chars_before, IsBoundary, is_boundary}
use Rattle.ecow_base.proofs.Boundaries.{width, chars_before-front, passes_boundary}
use Rattle.ecow_string.specs.Text.{AreChars, AreUtf8}

pub AreUtf8-from : (bs : List ℕ) → IsUtf8 bs → AreUtf8 bs
AreUtf8-from bs text = record { spelling = encodes-chars bs text; valid = scalars-chars bs text }

pub IsUtf8-from : (bs : List ℕ) → AreUtf8 bs → IsUtf8 bs
IsUtf8-from bs text = (chars bs, (text.valid, text.spelling))

pub AreUtf8-nil : (bs : List ℕ) → bs ≡ [] → AreUtf8 bs
AreUtf8-nil bs e = AreUtf8-from bs (rw e IsUtf8-nil)

pub chars_of_nil : (bs : List ℕ) → bs ≡ [] → chars bs ≡ []
chars_of_nil bs e = rw e chars-nil

pub AreUtf8-append : (bs ds : List ℕ) → AreUtf8 bs → AreUtf8 ds → AreUtf8 (bs ++ ds)
AreUtf8-append bs ds b d = AreUtf8-from (bs ++ ds) (IsUtf8-append bs ds (IsUtf8-from bs b) (IsUtf8-from ds d))

both : (a b : Bool) → (a && b) ≡ true → (a ≡ true) × (b ≡ true)
both true b h = (refl, h)
both false b h = cc

joined : (a b : Bool) → a ≡ true → b ≡ true → (a && b) ≡ true
joined true b h i = i
joined false b h i = cc

-- of characters, a front and the rest are characters
pub AreChars-append : (cs ds : List ℕ) → AreChars (cs ++ ds) → AreChars cs × AreChars ds
AreChars-append [] ds h = (refl, h)
AreChars-append (c ∷ cs) ds h =
    let parts = both (scalar c) (all_scalars (cs ++ ds)) h in
    let rest = AreChars-append cs ds parts.1 in
    (joined _ _ parts.0 rest.0, rest.1)

pub AreChars-joined : (cs ds : List ℕ) → AreChars cs → AreChars ds → AreChars (cs ++ ds)
AreChars-joined [] ds h i = i
AreChars-joined (c ∷ cs) ds h i =
    let parts = both (scalar c) (all_scalars cs) h in joined (scalar c) (all_scalars (cs ++ ds)) parts.0 (AreChars-joined cs ds parts.1 i)

-- a list of characters is what its bytes spell
pub AreUtf8-encoded : (cs : List ℕ) → AreChars cs → AreUtf8 (encode_utf8_all cs)
AreUtf8-encoded cs h = AreUtf8-from (encode_utf8_all cs) (cs, (h, refl))

pub split_encoded : (cs : List ℕ) (k : ℕ) → encode_utf8_all cs ≡ encode_utf8_all (take k cs) ++ encode_utf8_all (drop k cs)
split_encoded cs k = ap encode_utf8_all (sym (take-append-drop k cs)) ∙ encodes-append (take k cs) (drop k cs)

split_valid : (cs : List ℕ) (k : ℕ) → AreChars cs → AreChars (take k cs) × AreChars (drop k cs)
split_valid cs k h = AreChars-append (take k cs) (drop k cs) (rw take-append-drop h)

-- the bytes of a front are a front of the bytes
take-encoded : (cs : List ℕ) (k : ℕ) → take (utf8_len (take k cs)) (encode_utf8_all cs) ≡ encode_utf8_all (take k cs)
take-encoded cs k = rw (split_encoded cs k) (take_at (encode_utf8_all (take k cs)) _ _ refl)

-- where a front ends, by the test of bytes and by characters
pub boundary_of_front : (cs : List ℕ) (index : ℕ) → AreChars cs → IsBoundary cs index → IsCharBoundary (encode_utf8_all cs) index
boundary_of_front cs index h at =
    let seam =
    IsCharBoundary-at_seam (encode_utf8_all cs) (encode_utf8_all (take at.front cs)) (encode_utf8_all (drop at.front cs))
    (split_encoded cs at.front) (drop at.front cs, ((split_valid cs at.front h).1, refl)) in
    rw at.ends at seam

pub front_of_boundary : (cs : List ℕ) (index : ℕ) → AreChars cs → IsCharBoundary (encode_utf8_all cs) index → IsBoundary cs index
front_of_boundary cs index h at =
    let bs = encode_utf8_all cs in
    let text : IsUtf8 bs = (cs, (h, refl)) in
    let front = IsUtf8-take bs index text at in
    let back = IsUtf8-drop bs index text at in
    let same : front.0 ++ back.0 ≡ cs =
    encodes_same (front.0 ++ back.0) cs (encodes-append front.0 back.0 ∙ rw (front.1.1, back.1.1) (take-append-drop index bs)) in
    let taken : take (length front.0) cs ≡ front.0 = ap (take (length front.0)) (sym same) ∙ take_at front.0 back.0 (length front.0) refl in
    record {
      front = length front.0;
      fits = omega (arith, ap length same, length-append front.0 back.0);
      ends = rw (taken, front.1.1) (length-take-le index bs at.0);
    }

step : (c n : ℕ) (cs : List ℕ) → 0 < n → chars_before (c ∷ cs) n ≡ 1 + chars_before cs (n - len_utf8 c)
step c zero cs h = absurd (omega arith)
step c (suc n) cs h = refl

-- at the end and past it, all characters stand before
pub chars_before-past : (cs : List ℕ) (index : ℕ) → utf8_len cs ≤ index → length cs ≤ chars_before cs index
chars_before-past [] index le = omega arith
chars_before-past (c ∷ cs) index le =
    let wide = width c cs in
    let small = len_utf8_bounds c in
    let rest = chars_before-past cs (index - len_utf8 c) (omega arith) in
    rw (step c index cs (omega (arith, small.0))) (omega arith)

-- the bytes before a front's end are those of the front
pub front_bytes : (bs : List ℕ) (index : ℕ) → AreUtf8 bs → (at : IsBoundary (chars bs) index) → take index bs ≡ encode_utf8_all (take at.front (chars bs))
front_bytes bs index text at = ap (take index) (sym text.spelling) ∙ (rw at.ends at (take-encoded (chars bs) at.front))

front_valid : (bs : List ℕ) (k : ℕ) → AreUtf8 bs → AreChars (take k (chars bs))
front_valid bs k text = (split_valid (chars bs) k text.valid).0

-- a text may be cut here: at a boundary, or past the end
abbrev pub IsCut : List ℕ → ℕ → Type 0
IsCut cs index = index ≤ utf8_len cs → is_boundary cs index ≡ true

-- the characters of the first bytes
pub chars-take : (bs : List ℕ) (index : ℕ) → AreUtf8 bs → IsCut (chars bs) index → chars (take index bs) ≡ take (chars_before (chars bs) index) (chars bs)
chars-take bs index text at =
    elim (cases_lt (length bs) index) [
      | inl past ↦
          let long : utf8_len (chars bs) ≤ index = rw text.spelling (omega arith) in
          ap chars (take_all index bs (omega arith)) ∙ sym (take_all _ (chars bs) (chars_before-past (chars bs) index long))
      | inr within ↦
          let front = passes_boundary (chars bs) index (at (rw text.spelling within)) in
          let before : chars_before (chars bs) index ≡ front.front = rw front.ends at (chars_before-front (chars bs) front.front front.fits) in
          ap chars (front_bytes bs index text front) ∙ chars-encodes _ (front_valid bs front.front text) ∙ ap (λ n. take n (chars bs)) (sym before)
    ]

-- the characters of the bytes from a boundary on
pub chars-drop : (bs : List ℕ) (index : ℕ) → AreUtf8 bs → is_boundary (chars bs) index ≡ true → chars (drop index bs) ≡ drop (chars_before (chars bs) index) (chars bs)
chars-drop bs index text at =
    let front = passes_boundary (chars bs) index at in
    let before : chars_before (chars bs) index ≡ front.front = rw front.ends at (chars_before-front (chars bs) front.front front.fits) in
    let behind : drop index bs ≡ encode_utf8_all (drop front.front (chars bs)) =
    ap (drop index) (sym text.spelling ∙ split_encoded (chars bs) front.front) ∙ drop_at (encode_utf8_all (take front.front (chars bs))) _ index front.ends in
    ap chars behind ∙ chars-encodes _ (split_valid (chars bs) front.front text.valid).1 ∙ ap (λ n. drop n (chars bs)) (sym before)

pub AreUtf8-take : (bs : List ℕ) (index : ℕ) → AreUtf8 bs → IsCut (chars bs) index → AreUtf8 (take index bs)
AreUtf8-take bs index text at =
    elim (cases_lt (length bs) index) [
      | inl past ↦ subst AreUtf8 (sym (take_all index bs (omega arith))) text
      | inr within ↦
          let front = passes_boundary (chars bs) index (at (rw text.spelling within)) in
          subst AreUtf8 (sym (front_bytes bs index text front)) (AreUtf8-encoded _ (front_valid bs front.front text))
    ]

pub chars_of_one : (c : ℕ) → IsScalar c → chars (encode_utf8 c) ≡ c ∷ []
chars_of_one c h = chars_past_char (encode_utf8 c) [] c (IsUtf8-encode c h) (sym (append-nil _)) ∙ ap (λ l. c ∷ l) chars-nil

-- the last character of a text
pub last_char : (bs front : List ℕ) (c : ℕ) → AreUtf8 bs → IsUtf8 front → bs ≡ front ++ encode_utf8 c → chars bs ≡ chars front ++ c ∷ []
last_char bs front c text before e =
    encodes_same (chars bs) (chars front ++ c ∷ []) (text.spelling ∙ e ∙ sym (encodes-append (chars front) (c ∷ [])
    ∙ ap (λ l. l ++ encode_utf8_all (c ∷ [])) (encodes-chars front before) ∙ ap (λ l. front ++ l) (append-nil (encode_utf8 c))))

-- a list of no items has no last
pub nothing_last : (cs : List ℕ) → cs ≡ [] → (slice_get cs (length cs - 1) ≡ None) × (take (length cs - 1) cs ≡ cs)
nothing_last cs e = rw e (refl, refl)

-- of a list with one more item at its end, the last, and what stands before it
pub last_of : (cs ds : List ℕ) (c : ℕ) → ds ≡ cs ++ c ∷ [] → (Some c ≡ slice_get ds (length ds - 1)) × (cs ≡ take (length ds - 1) ds)
last_of cs ds c e =
    let size : length ds - 1 ≡ length cs = omega (arith, ap length e, length-append cs (c ∷ [])) in
    (sym (rw (size, e) (item_at cs c [])), sym (rw size (ap (take (length cs)) e ∙ take_at cs (c ∷ []) (length cs) refl)))
  where
    item_at : (xs : List ℕ) (x : ℕ) (ys : List ℕ) → slice_get (xs ++ x ∷ ys) (length xs) ≡ Some x
    item_at [] x ys = refl
    item_at (y ∷ xs) x ys = item_at xs x ys

-- a text with another in place of what stands between two boundaries, as bytes and as characters
replaced_bytes : (bs ds : List ℕ) (start end : ℕ) → AreUtf8 bs → AreUtf8 ds → (at : IsBoundary (chars bs) start) (to : IsBoundary (chars bs) end)
    → replace_range bs start end ds ≡ encode_utf8_all (replace_range (chars bs) at.front to.front (chars ds))
replaced_bytes bs ds start end text put at to =
    let front = take at.front (chars bs) in
    let back = drop to.front (chars bs) in
    let before = front_bytes bs start text at in
    let after : drop end bs ≡ encode_utf8_all back =
    ap (drop end) (sym text.spelling ∙ split_encoded (chars bs) to.front) ∙ drop_at (encode_utf8_all (take to.front (chars bs))) _ end to.ends in
    rw (before, after) (sym (encodes-append (front ++ chars ds) back
    ∙ ap (λ l. l ++ encode_utf8_all back) (encodes-append front (chars ds) ∙ ap (λ l. encode_utf8_all front ++ l) put.spelling)))

replaced_valid : (bs ds : List ℕ) (j k : ℕ) → AreUtf8 bs → AreUtf8 ds → AreChars (replace_range (chars bs) j k (chars ds))
replaced_valid bs ds j k text put =
    let before = (split_valid (chars bs) j text.valid).0 in
    let after = (split_valid (chars bs) k text.valid).1 in
    AreChars-joined (take j (chars bs) ++ chars ds) (drop k (chars bs)) (AreChars-joined (take j (chars bs)) (chars ds) before put.valid) after

pub AreUtf8-replace : (bs ds : List ℕ) (start end : ℕ) → AreUtf8 bs → IsUtf8 ds → is_boundary (chars bs) start ≡ true → is_boundary (chars bs) end ≡ true
    → AreUtf8 (replace_range bs start end ds)
AreUtf8-replace bs ds start end text put begins ends =
    let at = passes_boundary (chars bs) start begins in
    let to = passes_boundary (chars bs) end ends in
    rw (replaced_bytes bs ds start end text (AreUtf8-from ds put) at to) (AreUtf8-encoded _ (replaced_valid bs ds at.front to.front text (AreUtf8-from ds put)))

pub chars-replace : (bs ds : List ℕ) (start end : ℕ) → AreUtf8 bs → IsUtf8 ds → is_boundary (chars bs) start ≡ true → is_boundary (chars bs) end ≡ true
    → chars (replace_range bs start end ds) ≡ replace_range (chars bs) (chars_before (chars bs) start) (chars_before (chars bs) end) (chars ds)
chars-replace bs ds start end text put begins ends =
    let at = passes_boundary (chars bs) start begins in
    let to = passes_boundary (chars bs) end ends in
    let utf8 = AreUtf8-from ds put in
    let first : chars_before (chars bs) start ≡ at.front = rw at.ends at (chars_before-front (chars bs) at.front at.fits) in
    let last : chars_before (chars bs) end ≡ to.front = rw to.ends at (chars_before-front (chars bs) to.front to.fits) in
    ap chars (replaced_bytes bs ds start end text utf8 at to) ∙ chars-encodes _ (replaced_valid bs ds at.front to.front text utf8)
    ∙ (λ i. replace_range (chars bs) (sym first i) (sym last i) (chars ds))

-- one character put in
pub insert_one : (cs : List ℕ) (k c : ℕ) → insert_slice cs k (c ∷ []) ≡ insert cs k c
insert_one cs k c = append_assoc (take k cs) (c ∷ []) (drop k cs)

-- a boundary lies within the text
pub boundary_fits : (bs : List ℕ) (index : ℕ) → AreUtf8 bs → is_boundary (chars bs) index ≡ true → index ≤ length bs
boundary_fits bs index text passes =
    let at = passes_boundary (chars bs) index passes in
    omega (
      arith,
      ap length (front_bytes bs index text at),
      at.ends,
      ap length text.spelling,
      ap length (split_encoded (chars bs) at.front),
      length-append (encode_utf8_all (take at.front (chars bs))) (encode_utf8_all (drop at.front (chars bs))),
    )

-- two tests that pass together are one
pub same_test : (a b : Bool) → (a ≡ true → b ≡ true) → (b ≡ true → a ≡ true) → a ≡ b
same_test true b from to = sym (from refl)
same_test false true from to = to refl
same_test false false from to = refl

-- there are no bytes where there are no characters
pub empty_together : (bs : List ℕ) → AreUtf8 bs → (length bs == 0) ≡ (length (chars bs) == 0)
empty_together bs text =
    let none : length bs ≡ 0 → length (chars bs) ≡ 0 = λ e. ap length (chars_of_nil bs (nil_from_length bs e)) in
    let some : length (chars bs) ≡ 0 → length bs ≡ 0 = λ e. ap length (sym text.spelling) ∙ ap utf8_len (nil_from_length (chars bs) e) in
    same_test _ _ (λ e. eq-eqb _ _ (none (eqb-true _ _ e))) (λ e. eq-eqb _ _ (some (eqb-true _ _ e)))

-- the test of bytes that are not UTF-8
pub not_utf8 : (bs : List ℕ) → ¬ (IsUtf8 bs) → is_utf8 bs ≡ false
not_utf8 bs never = failed (is_utf8 bs) (λ e. never (IsUtf8-from_is_utf8 bs e))
  where
    failed : (b : Bool) → ¬ (b ≡ true) → b ≡ false
    failed true h = absurd (h refl)
    failed false h = refl

-- no bytes spell no characters
pub chars_of_none : (bs : List ℕ) → (length bs == 0) ≡ true → chars bs ≡ []
chars_of_none bs e = chars_of_nil bs (nil_from_length bs (eqb-true _ _ e))
