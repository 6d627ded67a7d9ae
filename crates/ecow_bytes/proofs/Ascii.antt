-- What the highest bits of a word say of the bytes in it.
use Rattle.std.proofs.Common.{◌≡◌, ◌↔◌, Bool, true, nat_eq, eqb-true, eq-eqb, ℕ, zero, suc, ◌+◌, ◌*◌, ◌/◌, ◌%◌, ◌^◌, ◌<◌, ◌≤◌, List, [], ◌∷◌, length, get_or, take, drop, sym, ap, ap₂, subst, ◌∙◌, arith}
use Rattle.std.proofs.lemmas.Nat.{and_mod, and_shr, and_comm}
use Rattle.std.proofs.lemmas.Nat.Bits.{shr_and_one}
use Rattle.std.specs.Int.Bits.{bit_and, and_shifted, and_zero_l}
use Rattle.ecow_bytes.specs.Digits.{number}
use Rattle.std.proofs.lemmas.List.{length-take, length-drop, take-append-drop}
use Rattle.std.proofs.lemmas.Str.{IsAscii-append, IsAscii-take, IsAscii-drop}
use Rattle.std.specs.Str.{IsAscii}
use Rattle.ecow_bytes.proofs.Digits.{AreBytes, are_dropped}

-- the highest bit of each of so many bytes
abbrev pub high_bits : ℕ → ℕ
high_bits zero = 0
high_bits (suc k) = 128 + 256 * high_bits k

are_taken : (k : ℕ) (xs : List ℕ) → AreBytes xs → AreBytes (take k xs)
are_taken zero xs h = λ i. omega arith
are_taken (suc k) [] h = h
are_taken (suc k) (x ∷ xs) h = λ i. elim i as (λ i. get_or (x ∷ take k xs) i 0 < 256) [
  | zero ↦ h 0
  | suc j ↦ are_taken k xs (λ j. h (suc j)) j
]

-- of one byte
ascii_byte : (b : ℕ) → b < 256 → bit_and b 128 ≡ 0 → b < 128
ascii_byte b below e =
    let bit : bit_and (b / 2 ^ 7) 1 ≡ 0 = sym (and_shr b 128 7) ∙ ap (λ k. k / 2 ^ 7) e in
    let half : b / 2 ^ 7 % 2 ≡ 0 = sym (shr_and_one b 7) ∙ bit in
    omega (arith, below, half)

byte_ascii : (b : ℕ) → b < 128 → bit_and b 128 ≡ 0
byte_ascii b below = and_comm b 128 ∙ and_shifted 1 7 b below

-- of one byte, and of those above it
and_split : (b n m : ℕ) → b < 256
    → bit_and (b + 256 * n) (128 + 256 * m) ≡ bit_and b 128 + 256 * bit_and n m
and_split b n m below =
    let x = b + 256 * n in
    let y = 128 + 256 * m in
    let low_x : x % 2 ^ 8 ≡ b = omega (arith, below) in
    let low_y : y % 2 ^ 8 ≡ 128 = omega arith in
    let high_x : x / 2 ^ 8 ≡ n = omega (arith, below) in
    let high_y : y / 2 ^ 8 ≡ m = omega arith in
    let low : bit_and x y % 2 ^ 8 ≡ bit_and b 128 = and_mod x y 8 ∙ ap₂ bit_and low_x low_y in
    let high : bit_and x y / 2 ^ 8 ≡ bit_and n m = and_shr x y 8 ∙ ap₂ bit_and high_x high_y in
    omega (arith, low, high)

abbrev AreAscii : List ℕ → Type 0
AreAscii xs = (i : ℕ) → get_or xs i 0 < 128

-- the highest bits of the bytes of a word
abbrev highest : ℕ → ℕ → ℕ
highest k word = bit_and word (high_bits k)

all_ascii : (k : ℕ) (xs : List ℕ) → length xs ≤ k → AreBytes xs → highest k (number xs) ≡ 0
    → AreAscii xs
all_ascii k [] le bytes e = λ i. omega arith
all_ascii zero (x ∷ xs) le bytes e = absurd (omega (arith, le))
all_ascii (suc k) (x ∷ xs) le bytes e =
    let sum : bit_and x 128 + 256 * highest k (number xs) ≡ 0 =
    sym (and_split x (number xs) (high_bits k) (bytes 0)) ∙ e in
    let first : bit_and x 128 ≡ 0 = omega (arith, sum) in
    let rest : highest k (number xs) ≡ 0 = omega (arith, sum) in
    λ i. elim i as (λ i. get_or (x ∷ xs) i 0 < 128) [
      | zero ↦ ascii_byte x (bytes 0) first
      | suc j ↦ all_ascii k xs (omega (arith, le)) (λ j. bytes (suc j)) rest j
    ]

no_high_bit : (k : ℕ) (xs : List ℕ) → length xs ≤ k → AreAscii xs → highest k (number xs) ≡ 0
no_high_bit k [] le ascii = and_zero_l (high_bits k)
no_high_bit zero (x ∷ xs) le ascii = absurd (omega (arith, le))
no_high_bit (suc k) (x ∷ xs) le ascii =
    let first : bit_and x 128 ≡ 0 = byte_ascii x (ascii 0) in
    let rest : highest k (number xs) ≡ 0 =
    no_high_bit k xs (omega (arith, le)) (λ i. ascii (suc i)) in
    let below : x < 256 = omega (arith, ascii 0) in
    and_split x (number xs) (high_bits k) below ∙ omega (arith, first, rest)

-- few bytes, by their two words
module _ (xs : List ℕ) (bytes : AreBytes xs) (most : length xs ≤ 15) (n m : ℕ)
    (low : n ≡ number (take 8 xs)) (high : m ≡ number (drop 8 xs)) where
  in_low : length (take 8 xs) ≤ 8
  in_low = let long = length-take 8 xs in omega (arith, long)

  in_high : length (drop 8 xs) ≤ 8
  in_high = let long = length-drop 8 xs in omega (arith, most, long)

  abbrev has_none : ℕ → Bool
  has_none word = nat_eq (highest 8 word) 0

  tells : (word : ℕ) → has_none word ≡ true → highest 8 word ≡ 0
  tells word = eqb-true (highest 8 word) 0

  low_ascii : highest 8 n ≡ 0 → AreAscii (take 8 xs)
  low_ascii e =
      all_ascii 8 (take 8 xs) in_low (are_taken 8 xs bytes) (ap (highest 8) (sym low) ∙ e)

  high_ascii : highest 8 m ≡ 0 → AreAscii (drop 8 xs)
  high_ascii e =
      all_ascii 8 (drop 8 xs) in_high (are_dropped 8 xs bytes) (ap (highest 8) (sym high) ∙ e)

  ascii_low : IsAscii xs → highest 8 n ≡ 0
  ascii_low ascii = ap (highest 8) low ∙ no_high_bit 8 (take 8 xs) in_low (IsAscii-take xs 8 ascii)

  ascii_high : IsAscii xs → has_none m ≡ true
  ascii_high ascii =
      let none = no_high_bit 8 (drop 8 xs) in_high (IsAscii-drop xs 8 ascii) in
      eq-eqb (highest 8 m) 0 (ap (highest 8) high ∙ none)

  pub by_both : highest 8 n ≡ 0 → has_none m ≡ true ↔ ((length xs ≤ 15) × IsAscii xs)
  by_both e = (
    λ d. (
      most,
      subst IsAscii (take-append-drop 8 xs)
          (IsAscii-append (take 8 xs) (drop 8 xs) (low_ascii e) (high_ascii (tells m d))),
    ),
    λ few. ascii_high few.1,
  )

  pub by_first : (highest 8 n ≡ 0 → ⊥)
      → has_none n ≡ true ↔ ((length xs ≤ 15) × IsAscii xs)
  by_first never = (
    λ d. absurd (never (tells n d)),
    λ few. absurd (never (ascii_low few.1)),
  )
