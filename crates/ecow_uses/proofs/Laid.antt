-- Fields of a layer over what lies below, from the last to the first.
use Rattle.std.proofs.Common.{◌≡◌, ℕ, suc, ◌-◌, ◌<◌, Bool, true, false, cond, List, drop, slice_get, Option, Some, refl, sym, ap, ◌∙◌, arith}
use Rattle.std.specs.Option.{option_or}
use Rattle.ecow_nested.proofs.ByName.{look_up_from}
use Rattle.ecow_nested.specs.Names.{has_name}
use Rattle.ecow_nested.specs.Values.{look_up}
use Rattle.ecow_nested.specs.declared.fields.Field.{Field}
use Rattle.ecow_nested.specs.declared.value.Value.{Value}

-- one field more over the rest
pub laid : (query : List ℕ) (fields : List (Field Value)) (left : ℕ) (f : Field Value) (below before after : Option Value)
    → 0 < left → slice_get fields (left - 1) ≡ Some f
    → before ≡ option_or (look_up query (drop left fields)) below
    → after ≡ cond (has_name query f) (Some f.value) before
    → after ≡ option_or (look_up query (drop (left - 1) fields)) below
laid query fields left f below before after some there was is =
    let rest : suc (left - 1) ≡ left = omega (arith, some) in
    is ∙ ap (cond (has_name query f) (Some f.value)) was ∙ over (has_name query f) (look_up query (drop left fields))
    ∙ sym (ap (λ o. option_or o below) (look_up_from query fields (left - 1) f there
    ∙ ap (λ n. cond (has_name query f) (Some f.value) (look_up query (drop n fields))) rest))
  where
    over : (b : Bool) (o : Option Value) → cond b (Some f.value) (option_or o below) ≡ option_or (cond b (Some f.value) o) below
    over true o = refl
    over false o = refl
