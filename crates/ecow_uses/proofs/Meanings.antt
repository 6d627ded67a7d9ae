-- What a name means behind one more binding.
use Rattle.std.proofs.Common.{◌≡◌, ℕ, false, List, [], ◌∷◌, ◌++◌, Option, None, Some, cond, ap, ◌∙◌}
use Rattle.std.specs.Cmp.Lexicographic.{nat_list_eq_equiv}
use Rattle.std.specs.Str.{encode_utf8_all}
use Rattle.ecow_list.proofs.Views.{fold_push}
use Rattle.ecow_uses.specs.Scopes.{meaning, same_name}
use Rattle.ecow_uses.specs.declared.symbols.Binding.{Binding}

-- one more binding
one_more : (bindings : List Binding) (b : Binding) (name : List ℕ)
    → meaning (bindings ++ b ∷ []) name ≡ cond (same_name (encode_utf8_all b.name.chars) name) (Some b.value) (meaning bindings name)
one_more bindings b name =
    fold_push (λ (value : Option ℕ) (b : Binding). cond (same_name (encode_utf8_all b.name.chars) name) (Some b.value) value) None bindings b

pub bound : (bindings : List Binding) (b : Binding) → meaning (bindings ++ b ∷ []) (encode_utf8_all b.name.chars) ≡ Some b.value
bound bindings b =
    one_more bindings b (encode_utf8_all b.name.chars)
    ∙ ap (λ test. cond test (Some b.value) (meaning bindings (encode_utf8_all b.name.chars)))
    (nat_list_eq_equiv.refl (encode_utf8_all b.name.chars))

pub others : (bindings : List Binding) (b : Binding) (name : List ℕ) → same_name (encode_utf8_all b.name.chars) name ≡ false
    → meaning (bindings ++ b ∷ []) name ≡ meaning bindings name
others bindings b name differ = one_more bindings b name ∙ ap (λ test. cond test (Some b.value) (meaning bindings name)) differ
