-- A list that is printed is read again.
use Rattle.std.proofs.Common.{◌≡◌, ℕ, zero, suc, ◌<◌, Bool, true, false, List, [], ◌∷◌, ◌++◌, length, map, Option, Some, ℤ, pos, negsuc, eqb, refl, ap, ◌∙◌, arith, length-append}
use Rattle.std.specs.List.{All, slice_split}
use Rattle.std.specs.Fmt.{decimal, signed_decimal}
use Rattle.std.proofs.lemmas.Bool.Decides.{nat_tests}
use Rattle.std.proofs.lemmas.List.Splits.{slice_split_at, slice_split_none}
use Rattle.std.proofs.lemmas.List.{append-nil}
use Rattle.ecow_script.specs.Numbers.{◌>>=◌, is_digit, each_in, parted_in, list_in, IsI64, integer_in, byte_in}
use Rattle.ecow_script.specs.Answers.{items_behind, items_text, list_text}
use Rattle.ecow_script.proofs.Digits.{closed_push}
use Rattle.ecow_script.proofs.NumbersAgain.{AreDigits, decimal_digits, integer_again, byte_again}

abbrev comma : ℕ → Bool
comma c = eqb c 44

-- how a value is printed and read: it is read again, and its text is not empty and has no comma
record IsShown {A : Type 0} (read : List ℕ → Option A) (show : A → List ℕ) (x : A) : Type 0 where
  again : read (show x) ≡ Some x
  some : 0 < length (show x)
  whole : All (λ c. comma c ≡ false) (show x)

-- each of these is
abbrev AreShown : {A : Type 0} → (List ℕ → Option A) → (A → List ℕ) → List A → Type 0
AreShown read show [] = Unit {0}
AreShown read show (x ∷ xs) = IsShown read show x × AreShown read show xs

module _ {A : Type 0} (read : List ℕ → Option A) (show : A → List ℕ) where
  parts_of : (x : A) (xs : List A) → AreShown read show (x ∷ xs)
      → slice_split comma (show x ++ items_behind (44 ∷ []) show xs) ≡ show x ∷ map show xs
  parts_of x [] h =
      ap (slice_split comma) (append-nil (show x)) ∙ slice_split_none comma (show x) h.0.whole
  parts_of x (y ∷ ys) h =
      slice_split_at comma (show x) 44 (show y ++ items_behind (44 ∷ []) show ys) h.0.whole refl
      ∙ ap (λ parts. show x ∷ parts) (parts_of y ys h.1)

  each_again : (xs : List A) → AreShown read show xs → each_in read (map show xs) ≡ Some xs
  each_again [] h = refl
  each_again (x ∷ xs) h =
      ap (λ r. r >>= λ y. each_in read (map show xs) >>= λ ys. Some (y ∷ ys)) h.0.again
      ∙ ap (λ r. r >>= λ ys. Some (x ∷ ys)) (each_again xs h.1)

  as_parts : (text : List ℕ) → 0 < length text
      → parted_in read text ≡ each_in read (slice_split comma text)
  as_parts [] h = absurd (omega arith)
  as_parts (c ∷ cs) h = refl

  inner_again : (xs : List A) → AreShown read show xs
      → parted_in read (items_text show xs) ≡ Some xs
  inner_again [] h = refl
  inner_again (x ∷ xs) h =
      as_parts (show x ++ items_behind (44 ∷ []) show xs)
      (omega (arith, h.0.some, length-append (show x) (items_behind (44 ∷ []) show xs)))
      ∙ ap (each_in read) (parts_of x xs h)
      ∙ each_again (x ∷ xs) h

  list_again : (xs : List A) → AreShown read show xs → list_in read (list_text show xs) ≡ Some xs
  list_again xs h =
      ap (λ r. r >>= λ inner. parted_in read inner) (closed_push (items_text show xs) 93)
      ∙ inner_again xs h

no_digit : (c : ℕ) → is_digit c ≡ true → comma c ≡ false
no_digit c h = grind (arith, nat_tests)

without_comma : (ds : List ℕ) → AreDigits ds → All (λ c. comma c ≡ false) ds
without_comma [] h k d l = absurd (omega arith)
without_comma (c ∷ cs) h zero d l = no_digit c h.0
without_comma (c ∷ cs) h (suc k) d l = without_comma cs h.1 k d (omega arith)

behind_minus : (ds : List ℕ) → AreDigits ds → All (λ c. comma c ≡ false) (45 ∷ ds)
behind_minus ds h zero d l = refl
behind_minus ds h (suc k) d l = without_comma ds h k d (omega arith)

integer_shown : (z : ℤ) → IsI64 z → IsShown integer_in signed_decimal z
integer_shown (pos n) h =
    let ds = decimal_digits n (omega arith) in
    record { again = integer_again (pos n) h; some = ds.0; whole = without_comma (decimal n) ds.1 }
integer_shown (negsuc n) h =
    let ds = decimal_digits (suc n) (omega arith) in
    record {
      again =
          integer_again (negsuc n) h;
      some = omega arith;
      whole = behind_minus
          (decimal (suc n)) ds.1;
    }

byte_shown : (b : ℕ) → b < 256 → IsShown byte_in decimal b
byte_shown b h =
    let ds = decimal_digits b (omega arith) in
    record { again = byte_again b h; some = ds.0; whole = without_comma (decimal b) ds.1 }

integers_shown : (xs : List ℤ) → All IsI64 xs → AreShown integer_in signed_decimal xs
integers_shown [] h = tt
integers_shown (x ∷ xs) h =
    (integer_shown x (h 0 x (omega arith)), integers_shown xs (λ k d l. h (suc k) d (omega arith)))

bytes_shown : (xs : List ℕ) → All (λ b. b < 256) xs → AreShown byte_in decimal xs
bytes_shown [] h = tt
bytes_shown (x ∷ xs) h =
    (byte_shown x (h 0 x (omega arith)), bytes_shown xs (λ k d l. h (suc k) d (omega arith)))

-- the numbers of a list that is printed are read again
pub integers_again : (xs : List ℤ) → All IsI64 xs
    → list_in integer_in (list_text signed_decimal xs) ≡ Some xs
integers_again xs h = list_again integer_in signed_decimal xs (integers_shown xs h)

pub bytes_again : (xs : List ℕ) → All (λ b. b < 256) xs
    → list_in byte_in (list_text decimal xs) ≡ Some xs
bytes_again xs h = list_again byte_in decimal xs (bytes_shown xs h)
