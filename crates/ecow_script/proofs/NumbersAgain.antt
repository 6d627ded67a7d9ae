-- A number that is printed is read again.
use Rattle.std.proofs.Common.{◌≡◌, ℕ, ◌+◌, ◌-◌, ◌*◌, ◌/◌, ◌%◌, ◌^◌, ◌<◌, Bool, true, false, cond, List, [], ◌∷◌, ◌++◌, Option, Some, None, ℤ, pos, negsuc, suc, length, eqb, refl, ap, ◌∙◌, arith}
use Rattle.std.specs.Fmt.{decimal}
use Rattle.std.proofs.lemmas.Fmt.{decimal_by_steps}
use Rattle.std.specs.Fmt.{signed_decimal}
use Rattle.std.specs.Option.{option_map}
use Rattle.std.proofs.lemmas.List.{length_push}
use Rattle.std.proofs.lemmas.Bool.{le-leb}
use Rattle.std.proofs.lemmas.Bool.Decides.{nat_tests}
use Rattle.ecow_script.specs.Numbers.{is_digit, digits_behind, number_in, byte_in, integer_in, up_to, negative, IsI64}
use Rattle.ecow_script.proofs.Digits.{digit_test, fits_within}

digit_more : (m d : ℕ) → d < 10 → digits_behind m ((48 + d) ∷ []) ≡ Some (m * 10 + d)
digit_more m d h =
    ap (λ b. cond b (Some (m * 10 + (48 + d - 48))) None)
    (digit_test (48 + d) (omega arith) (omega arith)) ∙ ap Some (omega arith)

some_is : (m n : ℕ) → Some m ≡ Some n → m ≡ n
some_is m n e = cc

rest_of : (b : Bool) (r : Option ℕ) (n : ℕ) → cond b r None ≡ Some n → (b ≡ true) × (r ≡ Some n)
rest_of true r n e = (refl, e)
rest_of false r n e = absurd cc

digits_push : (m : ℕ) (ds : List ℕ) (n d : ℕ) → digits_behind m ds ≡ Some n → d < 10
    → digits_behind m (ds ++ (48 + d) ∷ []) ≡ Some (n * 10 + d)
digits_push m [] n d e h = digit_more m d h ∙ ap (λ k. Some (k * 10 + d)) (some_is m n e)
digits_push m (c ∷ cs) n d e h =
    let r = rest_of (is_digit c) (digits_behind (m * 10 + (c - 48)) cs) n e in
    ap (λ b. cond b (digits_behind (m * 10 + (c - 48)) (cs ++ (48 + d) ∷ [])) None) r.0
    ∙ digits_push (m * 10 + (c - 48)) cs n d r.1 h

pub number_again : (n : ℕ) → n < 2 ^ 64 → digits_behind 0 (decimal n) ≡ Some n
number_again n h =
    decimal_by_steps (λ k ds. digits_behind 0 ds ≡ Some k)
    (λ k l. digit_more 0 k l ∙ ap Some (omega arith))
    (λ k ds l p. digits_push 0 ds (k / 10) (k % 10) p (omega arith) ∙ ap Some (omega arith)) n h

-- decimal digits alone
abbrev pub AreDigits : List ℕ → Type 0
AreDigits [] = Unit {0}
AreDigits (c ∷ cs) = (is_digit c ≡ true) × AreDigits cs

are_digits_push : (ds : List ℕ) (d : ℕ) → AreDigits ds → d < 10 → AreDigits (ds ++ (48 + d) ∷ [])
are_digits_push [] d h l = (digit_test (48 + d) (omega arith) (omega arith), tt)
are_digits_push (c ∷ cs) d h l = (h.0, are_digits_push cs d h.1 l)

pub decimal_digits : (n : ℕ) → n < 2 ^ 64 → (0 < length (decimal n)) × AreDigits (decimal n)
decimal_digits n h =
    decimal_by_steps (λ k ds. (0 < length ds) × AreDigits ds)
    (λ k l. (omega arith, (digit_test (48 + k) (omega arith) (omega arith), tt)))
    (λ k ds l p. (
      omega (arith, length_push ds (48 + k % 10)),
      are_digits_push ds (k % 10) p.1
          (omega arith),
    )) n h

-- one or more digits are a number, and no integer that begins with a minus
as_number : (ds : List ℕ) → 0 < length ds → number_in ds ≡ digits_behind 0 ds
as_number [] h = absurd (omega arith)
as_number (c ∷ cs) h = refl

not_minus : (c : ℕ) → is_digit c ≡ true → eqb c 45 ≡ false
not_minus c h = grind (arith, nat_tests)

as_integer : (ds : List ℕ) → 0 < length ds → AreDigits ds
    → integer_in ds ≡ option_map pos (up_to 9223372036854775807 (number_in ds))
as_integer [] h k = absurd (omega arith)
as_integer (c ∷ cs) h k =
    ap (λ b. cond b (option_map negative (up_to 9223372036854775808 (number_in cs)))
    (option_map pos (up_to 9223372036854775807 (number_in (c ∷ cs))))) (not_minus c k.0)

pub number_is : (n : ℕ) → n < 2 ^ 64 → number_in (decimal n) ≡ Some n
number_is n h = as_number (decimal n) (decimal_digits n h).0 ∙ number_again n h

pub byte_again : (b : ℕ) → b < 256 → byte_in (decimal b) ≡ Some b
byte_again b h = ap (up_to 255) (number_is b (omega arith)) ∙ fits_within 255 b (omega arith)

negative_is : (n : ℕ) → negative (suc n) ≡ negsuc n
negative_is n =
    ap (λ b. cond b (negsuc (suc n - 1)) (pos (0 - suc n))) (le-leb 1 (suc n) (omega arith))
    ∙ ap negsuc (omega arith)

pub integer_again : (z : ℤ) → IsI64 z → integer_in (signed_decimal z) ≡ Some z
integer_again (pos n) h =
    let ds = decimal_digits n (omega arith) in
    as_integer (decimal n) ds.0 ds.1
    ∙ ap (λ r. option_map pos (up_to 9223372036854775807 r)) (number_is n (omega arith))
    ∙ ap (option_map pos) (fits_within 9223372036854775807 n (omega arith))
integer_again (negsuc n) h =
    ap (λ r. option_map negative (up_to 9223372036854775808 r)) (number_is (suc n) (omega arith))
    ∙ ap (option_map negative) (fits_within 9223372036854775808 (suc n) (omega arith))
    ∙ ap Some (negative_is n)
