-- What a container holds, as a search reads it.
use Rattle.std.proofs.Common.{rules, ◌≡◌, ℕ, List}
use Rattle.ecow_nested.specs.declared.fields.Field.{Field}
use Rattle.ecow_nested.specs.declared.value.Value.{Value, out-Value}
use Rattle.ecow_nested.specs.declared.value.Value.TheOpen.{Value-F}
use Rattle.ecow_nested.specs.declared.value.Value.TheViews as views
use Rattle.ecow_nested.specs.declared.value.Value.TheViews.{the_lemmas}

pub out_of_list : (items : List Value) (depth : ℕ)
    → out-Value (views.List (record { items = items; depth = depth }))
    ≡ Value-F.List (record { items = items; depth = depth })
out_of_list items depth = search (rules, the_lemmas)

pub out_of_fields : (fields : List (Field Value)) (depth : ℕ)
    → out-Value (views.Fields (record { items = fields; depth = depth }))
    ≡ Value-F.Fields (record { items = fields; depth = depth })
out_of_fields fields depth = search (rules, the_lemmas)
