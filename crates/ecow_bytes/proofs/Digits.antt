-- Words and the bytes that they are.
use Rattle.std.proofs.Common.{◌≡◌, ℕ, zero, suc, ◌+◌, ◌-◌, ◌*◌, ◌/◌, ◌%◌, ◌^◌, ◌<◌, ◌≤◌, List, [], ◌∷◌, ◌++◌, length, get_or, take, drop, refl, sym, ap, ◌∙◌, arith}
use Rattle.std.proofs.lemmas.Nat.{shr-shr}
use Rattle.std.proofs.lemmas.List.{drop-drop, take_all, length-drop}
use lib.Seq.{length-take-le}
use Rattle.std.specs.Prelude.{Some, None, slice_get}
use Rattle.ecow_bytes.specs.Counts.{counted}
use Rattle.std.specs.Int.{w16, w32, w64, from_le_bytes, to_le_bytes}
use Rattle.ecow_bytes.specs.Digits.{number, digits}

-- each number is below 256
abbrev pub AreBytes : List ℕ → Type 0
AreBytes xs = (i : ℕ) → get_or xs i 0 < 256

-- q with so many bytes of zeros below it
abbrev pub shift : ℕ → ℕ → ℕ
shift zero q = q
shift (suc k) q = 256 * shift k q

pub number_drop : (k : ℕ) (xs : List ℕ) → k ≤ length xs → AreBytes xs → number xs / 2 ^ (8 * k) ≡ number (drop k xs)
number_drop zero xs le h = let e : number xs / 1 ≡ number xs = omega arith in e
number_drop (suc k) [] le h = absurd (omega arith)
number_drop (suc k) (x ∷ xs) le h =
    let b : x < 256 = h 0 in
    let head : (x + 256 * number xs) / 2 ^ 8 ≡ number xs = omega arith in
    let e : 8 * suc k ≡ 8 + 8 * k = omega arith in
    ap (λ j. (x + 256 * number xs) / 2 ^ j) e ∙ sym (shr-shr (x + 256 * number xs) 8 (8 * k))
    ∙ ap (λ m. m / 2 ^ (8 * k)) head ∙ number_drop k xs (omega arith) (λ i. h (suc i))

number_step : (k : ℕ) (xs : List ℕ) → number (drop k xs) ≡ get_or xs k 0 + 256 * number (drop (suc k) xs)
number_step zero [] = refl
number_step zero (x ∷ xs) = refl
number_step (suc k) [] = refl
number_step (suc k) (x ∷ xs) = number_step k xs

pub number_past : (k : ℕ) (xs : List ℕ) → length xs ≤ k → number (drop k xs) ≡ 0
number_past zero [] le = refl
number_past zero (x ∷ xs) le = absurd (omega arith)
number_past (suc k) [] le = refl
number_past (suc k) (x ∷ xs) le = number_past k xs (omega arith)

pub from_8 : (xs : List ℕ) → length xs ≤ 8 → from_le_bytes w64 xs ≡ number xs
from_8 xs le = omega (
  arith,
  number_step 0 xs,
  number_step 1 xs,
  number_step 2 xs,
  number_step 3 xs,
  number_step 4 xs,
  number_step 5 xs,
  number_step 6 xs,
  number_step 7 xs,
  number_past 8 xs le,
)

pub from_4 : (xs : List ℕ) → length xs ≤ 4 → from_le_bytes w32 xs ≡ number xs
from_4 xs le = omega (arith, number_step 0 xs, number_step 1 xs, number_step 2 xs, number_step 3 xs, number_past 4 xs le)

pub from_2 : (xs : List ℕ) → length xs ≤ 2 → from_le_bytes w16 xs ≡ number xs
from_2 xs le = omega (arith, number_step 0 xs, number_step 1 xs, number_past 2 xs le)

pub number_below : (k : ℕ) (xs : List ℕ) → length xs ≤ k → AreBytes xs → number xs < shift k 1
number_below zero [] le h = omega arith
number_below zero (x ∷ xs) le h = absurd (omega arith)
number_below (suc k) [] le h = let rest : 0 < shift k 1 = number_below k [] (omega arith) h in omega arith
number_below (suc k) (x ∷ xs) le h =
    let b : x < 256 = h 0 in
    let rest : number xs < shift k 1 = number_below k xs (omega arith) (λ i. h (suc i)) in omega arith

pub are_dropped : (k : ℕ) (xs : List ℕ) → AreBytes xs → AreBytes (drop k xs)
are_dropped zero xs h = h
are_dropped (suc k) [] h = h
are_dropped (suc k) (x ∷ xs) h = are_dropped k xs (λ i. h (suc i))

number_split_none : (k : ℕ) → 0 ≡ 0 + shift k 0
number_split_none zero = refl
number_split_none (suc k) = let rest = number_split_none k in omega arith

pub number_split : (k : ℕ) (xs : List ℕ) → number xs ≡ number (take k xs) + shift k (number (drop k xs))
number_split zero xs = omega arith
number_split (suc k) [] = let rest : 0 ≡ 0 + shift k 0 = number_split_none k in omega arith
number_split (suc k) (x ∷ xs) = let rest = number_split k xs in omega arith

-- the words of few bytes, from those at the ends
tail_word : (j m : ℕ) (xs : List ℕ) → AreBytes xs → m ≤ length xs → length xs ≤ m + m → j ≡ m + m - length xs
    → number (drop (length xs - m) xs) / 2 ^ (8 * j) ≡ number (drop m xs)
tail_word j m xs h le most is =
    let sum : length xs - m + j ≡ m = omega arith in
    let long : length (drop (length xs - m) xs) ≡ m = length-drop (length xs - m) xs ∙ omega arith in
    number_drop j (drop (length xs - m) xs) (omega arith) (are_dropped (length xs - m) xs h)
    ∙ ap number (drop-drop j (length xs - m) xs) ∙ ap (λ k. number (drop k xs)) sum

module _ (xs ys zs : List ℕ) (h : AreBytes xs) where
  pub first_word : (n : ℕ) → 8 ≤ length xs → ys ≡ take 8 xs → n ≡ from_le_bytes w64 ys → n ≡ number (take 8 xs)
  first_word n le e is =
      is ∙ ap (from_le_bytes w64) e ∙ from_8 (take 8 xs) (let long = length-take-le 8 xs le in omega arith)

  pub second_word : (n : ℕ) → 8 ≤ length xs → length xs ≤ 15 → zs ≡ drop (length xs - 8) xs → n ≡ from_le_bytes w64 zs
      → n / 2 ^ 8 / 2 ^ (8 * (15 - length xs)) ≡ number (drop 8 xs)
  second_word n le most e is =
      let long : length (drop (length xs - 8) xs) ≡ 8 = length-drop (length xs - 8) xs ∙ omega arith in
      let same : n ≡ number (drop (length xs - 8) xs) = is ∙ ap (from_le_bytes w64) e ∙ from_8 (drop (length xs - 8) xs) (omega arith) in
      let bits : 8 + 8 * (15 - length xs) ≡ 8 * (16 - length xs) = omega arith in
      shr-shr n 8 (8 * (15 - length xs)) ∙ ap (λ k. n / 2 ^ k) bits ∙ ap (λ k. k / 2 ^ (8 * (16 - length xs))) same
      ∙ tail_word (16 - length xs) 8 xs h le (omega arith) (omega arith)

  pub mid_word : (a b : ℕ) → 4 ≤ length xs → length xs < 8 → ys ≡ take 4 xs → zs ≡ drop (length xs - 4) xs
      → a ≡ from_le_bytes w32 ys → b ≡ from_le_bytes w32 zs
      → a + b / 2 ^ (8 * (8 - length xs)) * 2 ^ 32 % 2 ^ 64 ≡ number (take 8 xs)
  mid_word a b le most ey ez is_a is_b =
      let front : a ≡ number (take 4 xs) = is_a ∙ ap (from_le_bytes w32) ey ∙ from_4 (take 4 xs) (let long = length-take-le 4 xs le in omega arith) in
      let long : length (drop (length xs - 4) xs) ≡ 4 = length-drop (length xs - 4) xs ∙ omega arith in
      let same : b ≡ number (drop (length xs - 4) xs) = is_b ∙ ap (from_le_bytes w32) ez ∙ from_4 (drop (length xs - 4) xs) (omega arith) in
      let back : b / 2 ^ (8 * (8 - length xs)) ≡ number (drop 4 xs) =
      ap (λ k. k / 2 ^ (8 * (8 - length xs))) same ∙ tail_word (8 - length xs) 4 xs h le (omega arith) (omega arith) in
      let small : number (drop 4 xs) < shift 4 1 = number_below 4 (drop 4 xs) (let l = length-drop 4 xs in omega arith) (are_dropped 4 xs h) in
      let all : number xs ≡ number (take 4 xs) + shift 4 (number (drop 4 xs)) = number_split 4 xs in
      ap (λ k. a + k * 2 ^ 32 % 2 ^ 64) back
      ∙ (let e : a + number (drop 4 xs) * 2 ^ 32 % 2 ^ 64 ≡ number xs = omega arith in e) ∙ ap number (sym (take_all 8 xs (omega arith)))

  pub small_word : (a b : ℕ) → 2 ≤ length xs → length xs < 4 → ys ≡ take 2 xs → zs ≡ drop (length xs - 2) xs
      → a ≡ from_le_bytes w16 ys → b ≡ from_le_bytes w16 zs
      → a + b / 2 ^ (8 * (4 - length xs)) * 2 ^ 16 % 2 ^ 64 ≡ number (take 8 xs)
  small_word a b le most ey ez is_a is_b =
      let front : a ≡ number (take 2 xs) = is_a ∙ ap (from_le_bytes w16) ey ∙ from_2 (take 2 xs) (let long = length-take-le 2 xs le in omega arith) in
      let long : length (drop (length xs - 2) xs) ≡ 2 = length-drop (length xs - 2) xs ∙ omega arith in
      let same : b ≡ number (drop (length xs - 2) xs) = is_b ∙ ap (from_le_bytes w16) ez ∙ from_2 (drop (length xs - 2) xs) (omega arith) in
      let back : b / 2 ^ (8 * (4 - length xs)) ≡ number (drop 2 xs) =
      ap (λ k. k / 2 ^ (8 * (4 - length xs))) same ∙ tail_word (4 - length xs) 2 xs h le (omega arith) (omega arith) in
      let small : number (drop 2 xs) < shift 2 1 = number_below 2 (drop 2 xs) (let l = length-drop 2 xs in omega arith) (are_dropped 2 xs h) in
      let all : number xs ≡ number (take 2 xs) + shift 2 (number (drop 2 xs)) = number_split 2 xs in
      ap (λ k. a + k * 2 ^ 16 % 2 ^ 64) back
      ∙ (let e : a + number (drop 2 xs) * 2 ^ 16 % 2 ^ 64 ≡ number xs = omega arith in e) ∙ ap number (sym (take_all 8 xs (omega arith)))

pub one_word : (xs : List ℕ) (b : ℕ) → length xs < 2 → Some b ≡ slice_get xs 0 → b ≡ number (take 8 xs)
one_word [] b le e = absurd (cc)
one_word (x ∷ []) b le e = let same : b ≡ x = cc in omega arith
one_word (x ∷ (y ∷ xs)) b le e = absurd (omega arith)

pub no_word : (xs : List ℕ) → None ≡ slice_get xs 0 → 0 ≡ number (take 8 xs)
no_word [] e = refl
no_word (x ∷ xs) e = absurd (cc)

-- digits
pub to_8 : (n : ℕ) → to_le_bytes w64 n ≡ digits 8 n
to_8 n =
    let e2 : n / 65536 ≡ n / 256 / 256 = sym (shr-shr n 8 8) in
    let e3 : n / 16777216 ≡ n / 256 / 256 / 256 = sym (shr-shr n 16 8) ∙ ap (λ m. m / 256) e2 in
    let e4 : n / 4294967296 ≡ n / 256 / 256 / 256 / 256 = sym (shr-shr n 24 8) ∙ ap (λ m. m / 256) e3 in
    let e5 : n / 1099511627776 ≡ n / 256 / 256 / 256 / 256 / 256 = sym (shr-shr n 32 8) ∙ ap (λ m. m / 256) e4 in
    let e6 : n / 281474976710656 ≡ n / 256 / 256 / 256 / 256 / 256 / 256 = sym (shr-shr n 40 8) ∙ ap (λ m. m / 256) e5 in
    let e7 : n / 72057594037927936 ≡ n / 256 / 256 / 256 / 256 / 256 / 256 / 256 = sym (shr-shr n 48 8) ∙ ap (λ m. m / 256) e6 in
    λ i. n % 256 ∷ n / 256 % 256 ∷ e2 i % 256 ∷ e3 i % 256 ∷ e4 i % 256 ∷ e5 i % 256 ∷ e6 i % 256 ∷ e7 i % 256 ∷ []

pub seven_off : (n : ℕ) → n / 72057594037927936 ≡ n / 256 / 256 / 256 / 256 / 256 / 256 / 256
seven_off n =
    let e2 : n / 65536 ≡ n / 256 / 256 = sym (shr-shr n 8 8) in
    let e3 : n / 16777216 ≡ n / 256 / 256 / 256 = sym (shr-shr n 16 8) ∙ ap (λ m. m / 256) e2 in
    let e4 : n / 4294967296 ≡ n / 256 / 256 / 256 / 256 = sym (shr-shr n 24 8) ∙ ap (λ m. m / 256) e3 in
    let e5 : n / 1099511627776 ≡ n / 256 / 256 / 256 / 256 / 256 = sym (shr-shr n 32 8) ∙ ap (λ m. m / 256) e4 in
    let e6 : n / 281474976710656 ≡ n / 256 / 256 / 256 / 256 / 256 / 256 = sym (shr-shr n 40 8) ∙ ap (λ m. m / 256) e5 in
    sym (shr-shr n 48 8) ∙ ap (λ m. m / 256) e6

pub digits_low : (k m q : ℕ) → digits k (m + shift k q) ≡ digits k m
digits_low zero m q = refl
digits_low (suc k) m q =
    let low : (m + 256 * shift k q) % 256 ≡ m % 256 = omega arith in
    let high : (m + 256 * shift k q) / 256 ≡ m / 256 + shift k q = omega arith in
    λ i. low i ∷ (ap (digits k) high ∙ digits_low k (m / 256) q) i

pub to_2 : (n : ℕ) → to_le_bytes w16 (n % 2 ^ 16) ≡ digits 2 n
to_2 n =
    let e : n ≡ n % 2 ^ 16 + shift 2 (n / 2 ^ 16) = omega arith in
    sym (ap (digits 2) e ∙ digits_low 2 (n % 2 ^ 16) (n / 2 ^ 16))

pub to_4 : (n : ℕ) → to_le_bytes w32 (n % 2 ^ 32) ≡ digits 4 n
to_4 n =
    let m = n % 2 ^ 32 in
    let e : n ≡ m + shift 4 (n / 2 ^ 32) = omega arith in
    let e2 : m / 65536 ≡ m / 256 / 256 = sym (shr-shr m 8 8) in
    let e3 : m / 16777216 ≡ m / 256 / 256 / 256 = sym (shr-shr m 16 8) ∙ ap (λ k. k / 256) e2 in
    let same : to_le_bytes w32 m ≡ digits 4 m = λ i. m % 256 ∷ m / 256 % 256 ∷ e2 i % 256 ∷ e3 i % 256 ∷ [] in
    same ∙ sym (ap (digits 4) e ∙ digits_low 4 m (n / 2 ^ 32))

pub digit_behind : (k l m q : ℕ) → k < l → m < shift k 1 → get_or (digits l (m + shift k q)) k 0 ≡ q % 256
digit_behind zero zero m q within le = absurd (omega arith)
digit_behind zero (suc l) m q within le = let e : m + q ≡ q = omega arith in ap (λ n. n % 256) e
digit_behind (suc k) zero m q within le = absurd (omega arith)
digit_behind (suc k) (suc l) m q within le =
    let high : (m + 256 * shift k q) / 256 ≡ m / 256 + shift k q = omega arith in
    ap (λ n. get_or (digits l n) k 0) high ∙ digit_behind k l (m / 256) q (omega arith) (omega arith)

pub take_digits : (j k n : ℕ) → j ≤ k → take j (digits k n) ≡ digits j n
take_digits zero k n le = refl
take_digits (suc j) zero n le = absurd (omega arith)
take_digits (suc j) (suc k) n le = ap (λ l. n % 256 ∷ l) (take_digits j k (n / 256) (omega arith))

pub digits_number : (xs : List ℕ) → AreBytes xs → digits (length xs) (number xs) ≡ xs
digits_number [] h = refl
digits_number (x ∷ xs) h =
    let b : x < 256 = h 0 in
    let low : (x + 256 * number xs) % 256 ≡ x = omega arith in
    let high : (x + 256 * number xs) / 256 ≡ number xs = omega arith in
    λ i. low i ∷ (ap (digits (length xs)) high ∙ digits_number xs (λ i. h (suc i))) i

pub length-digits : (k n : ℕ) → length (digits k n) ≡ k
length-digits zero n = refl
length-digits (suc k) n = ap suc (length-digits k (n / 256))

-- two words in pieces
pub in_pieces : (low high v : ℕ) → v ≡ low + 2 ^ 64 * high
    → (low % 2 ^ 8 ∷ to_le_bytes w16 (low / 2 ^ 8 % 2 ^ 16)) ++ (to_le_bytes w32 (low / 2 ^ 24 % 2 ^ 32) ++ to_le_bytes w64 (v / 2 ^ 56)) ≡ digits 15 v
in_pieces low high v e =
    let s : v ≡ low + shift 7 (256 * high) = omega arith in
    let front : digits 7 low ≡ digits 7 v = sym (ap (digits 7) s ∙ digits_low 7 low (256 * high)) in
    let two : to_le_bytes w16 (low / 2 ^ 8 % 2 ^ 16) ≡ digits 2 (low / 256) = to_2 (low / 256) in
    let three : low / 2 ^ 24 ≡ low / 256 / 256 / 256 = sym (shr-shr low 16 8) ∙ ap (λ m. m / 256) (sym (shr-shr low 8 8)) in
    let four : to_le_bytes w32 (low / 2 ^ 24 % 2 ^ 32) ≡ digits 4 (low / 256 / 256 / 256) = to_4 (low / 2 ^ 24) ∙ ap (digits 4) three in
    let back : to_le_bytes w64 (v / 2 ^ 56) ≡ digits 8 (v / 256 / 256 / 256 / 256 / 256 / 256 / 256) =
    to_8 (v / 2 ^ 56) ∙ ap (digits 8) (seven_off v) in
    let all : (low % 256 ∷ digits 2 (low / 256)) ++ (digits 4 (low / 256 / 256 / 256) ++ digits 8 (v / 256 / 256 / 256 / 256 / 256 / 256 / 256)) ≡ digits 15 v =
    ap (λ l. l ++ digits 8 (v / 256 / 256 / 256 / 256 / 256 / 256 / 256)) front in
    (λ i. (low % 256 ∷ two i) ++ (four i ++ back i)) ∙ all

-- two words hold all bytes
pub whole : (xs : List ℕ) (low high : ℕ) → AreBytes xs → low ≡ number (take 8 xs) → high ≡ number (drop 8 xs)
    → digits (length xs) (low + 2 ^ 64 * high) ≡ xs
whole xs low high h is_low is_high =
    let all : number xs ≡ number (take 8 xs) + shift 8 (number (drop 8 xs)) = number_split 8 xs in
    let e : low + 2 ^ 64 * high ≡ number xs = omega arith in
    ap (digits (length xs)) e ∙ digits_number xs h

module _ (n low high len w : ℕ) (cells : List ℕ) (en : n ≡ 15) (l : low < 2 ^ 64) (h : high < 2 ^ 48) (fits : len < 15)
    (ew : w ≡ low + 2 ^ 64 * (high + len * 2 ^ 48)) (ec : cells ≡ digits 15 w) where
  has : w ≡ low + 2 ^ 64 * high + shift 14 len
  has = omega arith

  pub few_counted : counted n cells ≡ len
  unfolding counted
  few_counted =
      let below : low + 2 ^ 64 * high < shift 14 1 = omega arith in
      let small : len % 256 ≡ len = omega arith in
      rw (en, ec) (ap (λ v. get_or (digits 15 v) 14 0) has ∙ digit_behind 14 15 (low + 2 ^ 64 * high) len (omega arith) below ∙ small)

  pub few_seen : take (counted n cells) cells ≡ digits len (low + 2 ^ 64 * high)
  few_seen =
      let m = low + 2 ^ 64 * high in
      ap (λ k. take k cells) few_counted ∙ ap (take len) (ec ∙ ap (digits 15) has)
      ∙ take_digits len 15 (m + shift 14 len) (omega arith) ∙ sym (take_digits len 14 (m + shift 14 len) (omega arith))
      ∙ ap (take len) (digits_low 14 m len) ∙ take_digits len 14 m (omega arith)
