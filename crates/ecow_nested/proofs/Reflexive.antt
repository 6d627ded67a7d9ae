-- A value is equal to itself.
use Rattle.std.proofs.Common.{rules, ◌≡◌, ℕ, Bool, true, false, not, ◌&&◌, ◌||◌, List, [], ◌∷◌, map, refl, ap, ◌∙◌, sym, subst, inl, inr}
use Rattle.std.specs.Prelude.{if◌then◌else◌}
use Rattle.std.specs.Float.{NotNan}
use Rattle.std.specs.Float.Ieee.{Float, eq, is_nan}
use Rattle.std.proofs.Math.Dec.{T}
use Rattle.std.specs.Str.{bytes_eq, encode_utf8_all}
use Rattle.std.proofs.lemmas.Float.{le_refl, lt_irrefl, lt-or-eq}
use Rattle.std.proofs.lemmas.Slice.Eq.{bytes_eq-Decides}
use Rattle.std.proofs.lemmas.Bool.Decides.{Decides-int_eq}
use Rattle.ecow_nested.specs.Values.{value_step, field_test, eq_in, real_eq, each_holds, value_eq}
use Rattle.ecow_nested.specs.declared.fields.Field.{Field}
use Rattle.ecow_nested.specs.declared.value.Value.{Value, out-Value}
use Rattle.ecow_nested.specs.declared.value.Value.TheOpen.{Value-F}
use Rattle.ecow_nested.specs.declared.value.Value.TheViews.{roll-Value, the_lemmas}
use Rattle.ecow_nested.specs.declared.value.Value.TheFolds.{ind-Value, map-Value, fold-roll-Value}

abbrev IsSelfEqual : Value → Type 0
IsSelfEqual v = value_eq v v ≡ true

truth_same : (b : Bool) → (if b then b else not b) ≡ true
truth_same true = refl
truth_same false = refl

or_true : (b : Bool) → (b || true) ≡ true
or_true true = refl
or_true false = refl

is_true : (b : Bool) → T b → b ≡ true
is_true true t = refl
is_true false t = absurd t

number_same : (x : Float) → is_nan x ≡ false → eq x x ≡ true
number_same x e =
    let is : NotNan x = subst (λ b. T (not b)) (sym e) tt in
    elim (lt-or-eq x x (le_refl x is)) [ inl below ↦ absurd (lt_irrefl x below) | inr same ↦ is_true (eq x x) same ]

real_same : (x : Float) → real_eq x x ≡ true
real_same x =
    elim (is_nan x) as (λ b. is_nan x ≡ b → (eq x x || (b && b)) ≡ true) [
      | true ↦ λ e. or_true (eq x x)
      | false ↦ λ e. ap (λ b. b || false) (number_same x e)
    ] refl

text_same : (bytes : List ℕ) → bytes_eq bytes bytes ≡ true
text_same bytes = (bytes_eq-Decides bytes bytes).1 refl

module _ {E : Type 0} (val : E → Value) (same : (e : E) → IsSelfEqual (val e)) where
  each_same : (es : List E) → each_holds (map value_eq (map val es)) (map val es) ≡ true
  each_same [] = refl
  each_same (e ∷ es) = λ i. same e i && each_same es i

  abbrev on_field : {X Y : Type 0} → (X → Y) → Field X → Field Y
  on_field h f = record { name = f.name; value = h f.value }

  each_field_same : (fs : List (Field E))
      → each_holds (map field_test (map (on_field value_eq) (map (on_field val) fs))) (map (on_field val) fs) ≡ true
  each_field_same [] = refl
  each_field_same (f ∷ fs) = λ i. (text_same (encode_utf8_all f.name.chars) i && same f.value i) && each_field_same fs i

  all_same : (y : Value-F E)
      → eq_in (map-Value Value (Value → Bool) value_eq (map-Value E Value val y)) (map-Value E Value val y) ≡ true
  all_same Value-F.Nothing = refl
  all_same (Value-F.Truth truth) = truth_same truth
  all_same (Value-F.Number number) = (Decides-int_eq number number).1 refl
  all_same (Value-F.Real real) = real_same real
  all_same (Value-F.Text text) = text_same (encode_utf8_all text.chars)
  all_same (Value-F.List nested) = each_same nested.items
  all_same (Value-F.Fields nested) = each_field_same nested.items

out_of_roll : (x : Value-F Value) → out-Value (roll-Value x) ≡ x
out_of_roll x = search (rules, the_lemmas)

pub value_eq_self : (v : Value) → value_eq v v ≡ true
value_eq_self = ind-Value IsSelfEqual
    (λ x y is.
    let h = fold-roll-Value (Value → Bool) value_step x in
    ap (λ (test : Value → Bool). test (roll-Value x)) h
    ∙ ap (eq_in (map-Value Value (Value → Bool) value_eq x)) (out_of_roll x)
    ∙ subst (λ z. eq_in (map-Value Value (Value → Bool) value_eq z) z ≡ true) is
    (all_same (λ e. e.0) (λ e. e.1) y))
