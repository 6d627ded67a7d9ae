-- What names mean in a scope.
use Rattle.std.specs.Prelude.{ℕ, Bool, List, Option, None, Some, nat_eq, fold, if◌then◌else◌}
use Rattle.std.specs.Cmp.Lexicographic.{pointwise}
use Rattle.std.specs.Str.{encode_utf8_all}
use Rattle.ecow_uses.specs.declared.symbols.Binding.{Binding}

-- whether two names have the same bytes
abbrev pub same_name : List ℕ → List ℕ → Bool
same_name = pointwise nat_eq

-- the value of the last binding of the name, which is given by its bytes
abbrev pub meaning : List Binding → List ℕ → Option ℕ
meaning bindings name =
    fold
    (λ (value : Option ℕ) (b : Binding).
    if same_name (encode_utf8_all b.name.chars) name then Some b.value else value)
    None bindings
