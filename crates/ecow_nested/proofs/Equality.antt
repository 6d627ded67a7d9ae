-- The equations of equality, and its steps along two lists.
use Rattle.std.proofs.Common.{◌≡◌, ◌≢◌, ℕ, zero, suc, ◌<◌, ◌+◌, slice_get, Some, Bool, true, false, ◌&&◌, List, [], ◌∷◌, length, get_or, map, drop, refl, sym, ap, ◌∙◌, arith}
use Rattle.std.specs.Str.{bytes_eq, encode_utf8_all}
use Rattle.std.proofs.lemmas.List.{length-map}
use Rattle.std.proofs.lemmas.Option.{get_or_from_slice_get, slice_get_within}
use Rattle.ecow_nested.specs.Values.{value_step, field_test, eq_in, each_holds, value_eq, field_eq}
use Rattle.ecow_nested.specs.declared.nested.Nested.{Nested}
use Rattle.ecow_nested.specs.declared.fields.Field.{Field}
use Rattle.ecow_nested.specs.declared.value.Value.{Value, out-Value}
use Rattle.ecow_nested.specs.declared.value.Value.TheOpen.{Value-F}
use Rattle.ecow_nested.specs.declared.value.Value.TheFolds.{fold_out-Value}

-- a field with a test in the place of its value
abbrev tested : Field Value → Field (Value → Bool)
tested f = record { name = f.name; value = value_eq f.value }

pub equal_items : (x y : Value) (xs ys : Nested (List Value)) → out-Value x ≡ Value-F.List xs
    → out-Value y ≡ Value-F.List ys → value_eq x y ≡ each_holds (map value_eq xs.items) ys.items
equal_items x y xs ys a b =
    let h = fold_out-Value (Value → Bool) value_step x in
    ap (λ (test : Value → Bool). test y) (rw a at h) ∙ ap (eq_in (Value-F.List (record { items = map value_eq xs.items; depth = xs.depth }))) b

tests_of : (fs : List (Field Value)) → map field_test (map tested fs) ≡ map field_eq fs
tests_of [] = refl
tests_of (f ∷ fs) = ap (λ tests. field_eq f ∷ tests) (tests_of fs)

pub equal_fields : (x y : Value) (xs ys : Nested (List (Field Value)))
    → out-Value x ≡ Value-F.Fields xs
    → out-Value y ≡ Value-F.Fields ys → value_eq x y ≡ each_holds (map field_eq xs.items) ys.items
equal_fields x y xs ys a b =
    let h = fold_out-Value (Value → Bool) value_step x in
    ap (λ (test : Value → Bool). test y) (rw a at h) ∙ ap (eq_in (Value-F.Fields (record { items = map tested xs.items; depth = xs.depth }))) b
    ∙ ap (λ tests. each_holds tests ys.items) (tests_of xs.items)

pub and_false : (b : Bool) → (b && false) ≡ false
and_false true = refl
and_false false = refl

module _ {X : Type 0} where
  pub each_apart : (tests : List (X → Bool)) (xs : List X) → length tests ≢ length xs → each_holds tests xs ≡ false
  each_apart [] [] apart = absurd (apart refl)
  each_apart [] (x ∷ xs) apart = refl
  each_apart (test ∷ tests) [] apart = refl
  each_apart (test ∷ tests) (x ∷ xs) apart = ap (λ b. test x && b) (each_apart tests xs (λ same. apart (ap suc same))) ∙ and_false (test x)

  pub lists_apart : (eq : X → X → Bool) (xs ys : List X) → length xs ≢ length ys → each_holds (map eq xs) ys ≡ false
  lists_apart eq xs ys apart = each_apart (map eq xs) ys (λ same. apart (sym (length-map xs eq) ∙ same))

  pub each_step : (eq : X → X → Bool) (xs ys : List X) (i : ℕ) (d e : X) → i < length xs → i < length ys
      → each_holds (map eq (drop i xs)) (drop i ys) ≡ eq (get_or xs i d) (get_or ys i e) && each_holds (map eq (drop (suc i) xs)) (drop (suc i) ys)
  each_step eq [] ys i d e a b = absurd (omega (arith, a))
  each_step eq (x ∷ xs) [] i d e a b = absurd (omega (arith, b))
  each_step eq (x ∷ xs) (y ∷ ys) zero d e a b = refl
  each_step eq (x ∷ xs) (y ∷ ys) (suc i) d e a b = each_step eq xs ys i d e (omega (arith, a)) (omega (arith, b))

-- one step along the fields
pub next_fields : (xs ys : List (Field Value)) (i : ℕ) (x y : Field Value) → slice_get xs i ≡ Some x
    → slice_get ys i ≡ Some y
    → each_holds (map field_eq (drop i xs)) (drop i ys)
    ≡ (bytes_eq (encode_utf8_all x.name.chars) (encode_utf8_all y.name.chars) && value_eq x.value y.value)
    && each_holds (map field_eq (drop (i + 1) xs)) (drop (i + 1) ys)
next_fields xs ys i x y left right =
    let one : suc i ≡ i + 1 = omega arith in
    each_step field_eq xs ys i x y (slice_get_within xs i x left) (slice_get_within ys i y right)
    ∙ (λ k. field_eq (get_or_from_slice_get xs i x x left k) (get_or_from_slice_get ys i y y right k)
    && each_holds (map field_eq (drop (one k) xs)) (drop (one k) ys))
