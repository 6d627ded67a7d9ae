-- Words that are printed are read again.
use Rattle.std.proofs.Common.{◌≡◌, ℕ, suc, ◌+◌, ◌^◌, ◌<◌, true, false, cond, not, ◌&&◌, List, [], ◌∷◌, ◌++◌, length, get_or, take, drop, append_assoc, Option, Some, Ok, Err, ℤ, pos, negsuc, refl, ap, ◌∙◌, arith}
use Rattle.std.specs.List.{All, flat_map, position_or_len}
use Rattle.std.specs.Fmt.{decimal, signed_decimal}
use Rattle.std.specs.Str.{chars, encode_utf8_all}
use Rattle.std.specs.Char.{IsScalar}
use lib.Utf8.{scalars}
use Rattle.std.proofs.lemmas.Bool.Decides.{nat_tests}
use Rattle.std.proofs.lemmas.List.{take_all, drop_all}
use Rattle.std.proofs.lemmas.Str.{chars-encodes}
use Rattle.ecow_script.specs.Numbers.{is_digit, count_in, byte_in, integer_in, list_in, up_to, IsI64}
use Rattle.ecow_script.specs.Words.{place, next_word, word_of, argument, wanted_at, read_on, spelling, wanted, count, integer, byte, integers, bytes, text, text_behind, ends_word, is_blank, is_ink}
use Rattle.ecow_script.specs.Quoted.{text_from}
use Rattle.ecow_script.specs.Answers.{items_behind, items_text, list_text, text_form, escaped}
use Rattle.ecow_script.specs.declared.reason.Reason.{Reason}
use Rattle.ecow_script.specs.declared.reason.Reason.TheVariants.{Arguments, Number, Text, List as List'}
use Rattle.ecow_script.proofs.Digits.{fits_within}
use Rattle.ecow_script.proofs.NumbersAgain.{AreDigits, decimal_digits, number_is, integer_again, byte_again}
use Rattle.ecow_script.proofs.ListsAgain.{integers_again, bytes_again}
use Rattle.ecow_script.proofs.TextsAgain.{text_again}

-- bytes among which there is no blank
abbrev AreInk : List ℕ → Type 0
AreInk [] = Unit {0}
AreInk (c ∷ cs) = (is_blank c ≡ false) × AreInk cs

ink_append : (xs ys : List ℕ) → AreInk xs → AreInk ys → AreInk (xs ++ ys)
ink_append [] ys h k = k
ink_append (x ∷ xs) ys h k = (h.0, ink_append xs ys h.1 k)

whole_word : (word : List ℕ) → AreInk word → position_or_len is_blank word ≡ length word
whole_word [] h = refl
whole_word (c ∷ cs) h =
    ap (λ b. cond (not b) (1 + position_or_len is_blank cs) 0) h.0
    ∙ ap (λ n. 1 + n) (whole_word cs h.1) ∙ omega arith

-- what is left of a line and its next word, where that is all
next_word_is : (c : ℕ) (cs : List ℕ) (names : List (List ℕ)) → AreInk (c ∷ cs)
    → next_word (place (c ∷ cs) names) ≡ (Some (c ∷ cs), place [] names)
next_word_is c cs names h =
    let none : position_or_len is_ink (c ∷ cs) ≡ 0 =
    ap (λ b. cond (not (not b)) (1 + position_or_len is_ink cs) 0) h.0 in
    let all : position_or_len is_blank (c ∷ cs) ≡ length (c ∷ cs) = whole_word (c ∷ cs) h in
    ap (λ n. word_of (drop n (c ∷ cs)) names) none
    ∙ ap (λ n. (Some (take n (c ∷ cs)), place (drop n (c ∷ cs)) names)) all
    ∙ ap (λ w. (Some w, place (drop (length (c ∷ cs)) (c ∷ cs)) names))
    (take_all (length (c ∷ cs)) (c ∷ cs) (omega arith))
    ∙ ap (λ r. (Some (c ∷ cs), place r names)) (drop_all (length (c ∷ cs)) (c ∷ cs) (omega arith))

-- a word at the end of a line is its next argument
last_argument : (word : List ℕ) (names : List (List ℕ)) → 0 < length word → AreInk word
    → argument (place word names) ≡ Ok (word, place [] names)
last_argument [] names some h = absurd (omega arith)
last_argument (c ∷ cs) names some h = ap (wanted_at Arguments) (next_word_is c cs names h)

module _ {A : Type 0} (expected_there : Reason) (form : List ℕ → Option A) where
  last_spelled : (word : List ℕ) (names : List (List ℕ)) (x : A) → 0 < length word → AreInk word
      → form word ≡ Some x → spelling expected_there form (place word names) ≡ Ok (x, place [] names)
  last_spelled word names x some h is =
      ap (λ r. read_on r (λ w. wanted expected_there (form w))) (last_argument word names some h)
      ∙ ap (λ o. wanted expected_there o (place [] names)) is

digit_is_ink : (c : ℕ) → is_digit c ≡ true → is_blank c ≡ false
digit_is_ink c h = grind (arith, nat_tests)

digits_are_ink : (ds : List ℕ) → AreDigits ds → AreInk ds
digits_are_ink [] h = tt
digits_are_ink (c ∷ cs) h = (digit_is_ink c h.0, digits_are_ink cs h.1)

decimal_is_ink : (n : ℕ) → n < 2 ^ 64 → AreInk (decimal n)
decimal_is_ink n h = digits_are_ink (decimal n) (decimal_digits n h).1

integer_is_ink : (z : ℤ) → IsI64 z → AreInk (signed_decimal z)
integer_is_ink (pos n) h = decimal_is_ink n (omega arith)
integer_is_ink (negsuc n) h = (refl, decimal_is_ink (suc n) (omega arith))

integer_is_some : (z : ℤ) → IsI64 z → 0 < length (signed_decimal z)
integer_is_some (pos n) h = (decimal_digits n (omega arith)).0
integer_is_some (negsuc n) h = omega arith

items_are_ink : {A : Type 0} (before : List ℕ) (show : A → List ℕ) (xs : List A) → AreInk before
    → All (λ x. AreInk (show x)) xs → AreInk (items_behind before show xs)
items_are_ink before show [] h k = tt
items_are_ink before show (x ∷ xs) h k =
    ink_append (before ++ show x) (items_behind (44 ∷ []) show xs)
    (ink_append before (show x) h (k 0 x (omega arith)))
    (items_are_ink (44 ∷ []) show xs (refl, tt) (λ i d l. k (suc i) d (omega arith)))

list_is_ink : {A : Type 0} (show : A → List ℕ) (xs : List A) → All (λ x. AreInk (show x)) xs
    → AreInk (list_text show xs)
list_is_ink show xs h =
    (refl, ink_append (items_text show xs) (93 ∷ []) (items_are_ink [] show xs tt h) (refl, tt))

list_is_some : {A : Type 0} (show : A → List ℕ) (xs : List A) → 0 < length (list_text show xs)
list_is_some show xs = omega arith

pub count_read : (n : ℕ) (names : List (List ℕ)) → n < 2 ^ 64
    → count (place (decimal n) names) ≡ Ok (n, place [] names)
count_read n names h =
    last_spelled Number count_in (decimal n) names n (decimal_digits n h).0 (decimal_is_ink n h)
    (ap (up_to 18446744073709551615) (number_is n h)
    ∙ fits_within 18446744073709551615 n (omega arith))

pub byte_read : (b : ℕ) (names : List (List ℕ)) → b < 256
    → byte (place (decimal b) names) ≡ Ok (b, place [] names)
byte_read b names h =
    last_spelled Number byte_in (decimal b) names b (decimal_digits b (omega arith)).0
    (decimal_is_ink b (omega arith)) (byte_again b h)

pub integer_read : (z : ℤ) (names : List (List ℕ)) → IsI64 z
    → integer (place (signed_decimal z) names) ≡ Ok (z, place [] names)
integer_read z names h =
    last_spelled Number integer_in (signed_decimal z) names z (integer_is_some z h)
    (integer_is_ink z h) (integer_again z h)

pub integers_read : (xs : List ℤ) (names : List (List ℕ)) → All IsI64 xs
    → integers (place (list_text signed_decimal xs) names) ≡ Ok (xs, place [] names)
integers_read xs names h =
    last_spelled List' (list_in integer_in) (list_text signed_decimal xs) names xs
    (list_is_some signed_decimal xs)
    (list_is_ink signed_decimal xs (λ i d l. integer_is_ink (get_or xs i d) (h i d l)))
    (integers_again xs h)

pub bytes_read : (xs : List ℕ) (names : List (List ℕ)) → All (λ b. b < 256) xs
    → bytes (place (list_text decimal xs) names) ≡ Ok (xs, place [] names)
bytes_read xs names h =
    last_spelled List' (list_in byte_in) (list_text decimal xs) names xs (list_is_some decimal xs)
    (list_is_ink decimal xs (λ i d l. decimal_is_ink (get_or xs i d) (omega (arith, h i d l))))
    (bytes_again xs h)

scalars_are : (cs : List ℕ) → All IsScalar cs → scalars cs ≡ true
scalars_are [] h = refl
scalars_are (c ∷ cs) h =
    ap (λ b. b && scalars cs) (h 0 c (omega arith))
    ∙ scalars_are cs (λ k d l. h (suc k) d (omega arith))

pub text_read : (cs : List ℕ) (rest : List ℕ) (names : List (List ℕ)) → All IsScalar cs
    → ends_word rest ≡ true → text (place (text_form cs ++ rest) names) ≡ Ok (cs, place rest names)
text_read cs rest names h ends =
    ap (λ (inner : List ℕ). text_behind (text_from inner) names)
    (append_assoc (flat_map escaped cs) (34 ∷ []) rest)
    ∙ ap (λ r. text_behind r names) (text_again cs rest)
    ∙ ap (λ b. cond b (Ok (chars (encode_utf8_all cs), place rest names)) (Err Text)) ends
    ∙ ap (λ (ds : List ℕ). Ok (ds, place rest names)) (chars-encodes cs (scalars_are cs h))
