-- At which place, and at which index, the first field of a name is.
use Rattle.std.proofs.Common.{rules, arith, ◌≡◌, ◌≤◌, ◌<◌, ◌+◌, ℕ, suc, Bool, true, false, cond, not, nat_lt, List, [], ◌∷◌, length, None, Some, refl, sym, ap, ◌∙◌}
use Rattle.std.specs.Prelude.{Option, position}
use Rattle.std.specs.List.{position_or_len}
use Rattle.std.specs.Option.{option_map}
use Rattle.std.specs.Str.{bytes_eq, encode_utf8_all}
use Rattle.std.proofs.lemmas.List.{length-map}
use Rattle.ecow_nested.specs.Names.{has_name}
use Rattle.ecow_nested.specs.Index.{bears, fields_before, fields_in, node_of, present, slots_in}
use Rattle.ecow_nested.specs.declared.fields.Entry.{Entry}
use Rattle.ecow_nested.specs.declared.fields.Field.{Field}
use Rattle.ecow_nested.proofs.Gaps.{before}
use Rattle.ecow_nested.proofs.Index.{first_along}
use Rattle.ecow_nested.proofs.Lookups.{placed}

one_more : (n : ℕ) → 1 + n ≡ suc n
one_more n = omega arith

module _ {T : Type 0} (name : List ℕ) where
  -- whether a field is there that has the name
  abbrev slot_bears : Option (Field T) → Bool
  slot_bears slot =
      elim (option_map (λ f. f.name) slot) [ None ↦ false | Some text ↦ bytes_eq (encode_utf8_all text.chars) name ]

  abbrev first : List (Option (Field T)) → ℕ
  first os = position_or_len slot_bears os

  abbrev index : List (Option (Field T)) → ℕ
  index os = position_or_len (has_name name) (present os)

  first_present : (os : List (Option (Field T))) → index os ≡ before os (first os)
  first_present [] = refl
  first_present (None ∷ os) = first_present os ∙ ap (before (None ∷ os)) (sym (one_more (first os)))
  first_present (Some f ∷ os) =
      elim (has_name name f) as (λ b. cond (not b) (1 + index os) 0 ≡ before (Some f ∷ os) (cond (not b) (1 + first os) 0)) [
        | true ↦ refl
        | false ↦ one_more (index os) ∙ ap suc (first_present os) ∙ ap (before (Some f ∷ os)) (sym (one_more (first os)))
      ]

  first_within : (os : List (Option (Field T))) → first os < length os
      → index os < length (present os)
  first_within [] low = absurd (omega (arith, low))
  first_within (None ∷ os) low = first_within os (omega (arith, low))
  first_within (Some f ∷ os) low =
      elim (has_name name f) as (λ b. cond (not b) (1 + first os) 0 < suc (length os)
      → cond (not b) (1 + index os) 0 < suc (length (present os))) [
        | true ↦ λ h. omega arith
        | false ↦ λ h. omega (arith, first_within os (omega (arith, h)))
      ] low

  first_past : (os : List (Option (Field T))) → length os ≤ first os
      → length (present os) ≤ index os
  first_past [] high = omega arith
  first_past (None ∷ os) high = first_past os (omega (arith, high))
  first_past (Some f ∷ os) high =
      elim (has_name name f) as (λ b. suc (length os) ≤ cond (not b) (1 + first os) 0
      → suc (length (present os)) ≤ cond (not b) (1 + index os) 0) [
        | true ↦ λ h. absurd (omega (arith, h))
        | false ↦ λ h. omega (arith, first_past os (omega (arith, h)))
      ] high

  module _ (es : List (Entry T)) where
    its_first : position_or_len (λ e. bears name (node_of e)) es ≡ first (slots_in es)
    its_first = first_along (λ (e : Entry T). e.field) slot_bears es

    long : length (slots_in es) ≡ length es
    long = length-map es (λ e. e.field)

    pub place_there : (place : ℕ) → Some place ≡ position (λ e. bears name (node_of e)) es
        → place < length es
    place_there place is =
        let p = placed (position_or_len (λ e. bears name (node_of e)) es) (length es) place is in
        omega (arith, p.0, p.1)

    pub index_there : (place : ℕ) → Some place ≡ position (λ e. bears name (node_of e)) es
        → Some (fields_before es place) ≡ position (has_name name) (fields_in es)
    index_there place is =
        let p = placed (position_or_len (λ e. bears name (node_of e)) es) (length es) place is in
        let there : place ≡ first (slots_in es) = p.0 ∙ its_first in
        let within = first_within (slots_in es) (omega (arith, p.0, p.1, its_first, long)) in
        let same : fields_before es place ≡ index (slots_in es) = ap (before (slots_in es)) there ∙ sym (first_present (slots_in es)) in
        search (rules, arith, same, within)

    pub index_missing : None ≡ position (λ e. bears name (node_of e)) es
        → None ≡ position (has_name name) (fields_in es)
    index_missing is =
        elim (nat_lt (position_or_len (λ e. bears name (node_of e)) es) (length es)) as (λ b.
        nat_lt (position_or_len (λ e. bears name (node_of e)) es) (length es) ≡ b
        → None ≡ cond b (Some (position_or_len (λ e. bears name (node_of e)) es)) None → None ≡ position (has_name name) (fields_in es)) [
          | true ↦ λ less none. absurd (search (rules, none))
          | false ↦ λ less none.
              let past = first_past (slots_in es) (search (rules, arith, less, its_first, long)) in
              search (rules, arith, past)
        ] refl is
