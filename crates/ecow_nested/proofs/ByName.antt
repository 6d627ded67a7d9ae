-- What a name means in fields: the value of the first field that has it.
use Rattle.std.proofs.Common.{◌≡◌, ◌≢◌, ℕ, zero, suc, ◌+◌, ◌≤◌, Bool, true, false, cond, List, [], ◌∷◌, ◌++◌, length, drop, slice_get, Ok, Option, Some, None, refl, sym, ap, ◌∙◌, arith, IsUtf8}
use Rattle.std.specs.Prelude.{find, filter, max}
use Rattle.std.specs.Cmp.Lexicographic.{bytes_decides}
use Rattle.std.specs.Option.{option_or, option_and_then, option_map}
use Rattle.std.specs.Str.{bytes_eq, encode_utf8_all}
use Rattle.std.proofs.lemmas.Bool.{false≢true}
use Rattle.std.proofs.lemmas.Option.{none-some, same_Some}
use Rattle.std.proofs.lemmas.Str.{encodes-chars}
use Rattle.ecow_nested.specs.Names.{has_name, how_many}
use Rattle.ecow_nested.specs.Values.{fields_of, field_of, look_up, value_in, new_field, with_field, without_field, EditsFields}
use Rattle.ecow_nested.specs.declared.fields.Field.{Field}
use Rattle.ecow_nested.specs.declared.value.Value.{Value}

other_bytes : (name other : List ℕ) → name ≢ other → bytes_eq name other ≡ false
other_bytes name other apart = fails (bytes_eq name other) (λ same. apart ((bytes_decides name other).0 same))
  where
    fails : (b : Bool) → (b ≡ true → ⊥) → b ≡ false
    fails true never = absurd (never refl)
    fails false never = refl

same_bytes : (name : List ℕ) → bytes_eq name name ≡ true
same_bytes name = (bytes_decides name name).1 refl

-- two names, of which one is set or taken out
module _ (name other : List ℕ) where
  -- a field of the one name has the other exactly if they are the same
  has_both : (f : Field Value) → has_name name f ≡ true → has_name other f ≡ bytes_eq name other
  has_both f has = ap (λ bytes. bytes_eq bytes other) ((bytes_decides (encode_utf8_all f.name.chars) name).0 has)

  has_neither : (f : Field Value) → has_name name f ≡ false → bytes_eq name other ≡ true → has_name other f ≡ false
  has_neither f lacks same = ap (λ n. has_name n f) (sym ((bytes_decides name other).0 same)) ∙ lacks

  -- a choice by the other name and then one by a field that lacks the one name, either way round
  module _ {X : Type 0} (set first : X → X) where
    passed : (b d : Bool) → (d ≡ true → b ≡ false) → (x : X)
        → cond b (first (cond d (set x) x)) (cond d (set x) x) ≡ cond d (set (cond b (first x) x)) (cond b (first x) x)
    passed b false never x = refl
    passed false true never x = refl
    passed true true never x = absurd (false≢true (sym (never refl)))

-- one field, and those behind it
pub look_up_first : (name : List ℕ) (f : Field Value) (fs : List (Field Value))
    → look_up name (f ∷ fs) ≡ cond (has_name name f) (Some f.value) (look_up name fs)
look_up_first name f fs = value_first (has_name name f)
  where
    value_first : (b : Bool) → value_in (cond b (Some f) (find (has_name name) fs)) ≡ cond b (Some f.value) (look_up name fs)
    value_first true = refl
    value_first false = refl

-- the fields from a place on: the one there, and those behind it
pub look_up_from : (name : List ℕ) (fs : List (Field Value)) (at : ℕ) (f : Field Value) → slice_get fs at ≡ Some f
    → look_up name (drop at fs) ≡ cond (has_name name f) (Some f.value) (look_up name (drop (suc at) fs))
look_up_from name [] at f there = absurd (none-some f there)
look_up_from name (g ∷ fs) zero f there = rw (same_Some g f there) (look_up_first name f fs)
look_up_from name (g ∷ fs) (suc at) f there = look_up_from name fs at f there

-- fields, and others behind them
pub look_up_append : (name : List ℕ) (fs gs : List (Field Value))
    → look_up name (fs ++ gs) ≡ option_or (look_up name fs) (look_up name gs)
look_up_append name [] gs = refl
look_up_append name (f ∷ fs) gs =
    elim (has_name name f) as (λ b. value_in (cond b (Some f) (find (has_name name) (fs ++ gs)))
    ≡ option_or (value_in (cond b (Some f) (find (has_name name) fs))) (look_up name gs)) [
      | true ↦ refl
      | false ↦ look_up_append name fs gs
    ]

module _ (name other : List ℕ) where
  -- after a set. The name of a new field is a text.
  pub look_up_with : (value : Value) (fs : List (Field Value)) → (look_up name fs ≡ None → IsUtf8 name)
      → look_up other (with_field name value fs) ≡ cond (bytes_eq name other) (Some value) (look_up other fs)
  look_up_with value [] text =
      look_up_first other (new_field name value) []
      ∙ ap (λ bytes. cond (bytes_eq bytes other) (Some value) None) (encodes-chars name (text refl))
  look_up_with value (f ∷ fs) text =
      elim (has_name name f) as (λ b. has_name name f ≡ b
      → look_up other (cond b (record { name = f.name; value = value } ∷ fs) (f ∷ with_field name value fs))
      ≡ cond (bytes_eq name other) (Some value) (look_up other (f ∷ fs))) [
        | true ↦ λ has. look_up_first other (record { name = f.name; value = value }) fs
            ∙ replaced (has_name other f) (bytes_eq name other) (has_both name other f has) f.value (look_up other fs)
            ∙ sym (ap (cond (bytes_eq name other) (Some value)) (look_up_first other f fs))
        | false ↦ λ lacks. look_up_first other f (with_field name value fs)
            ∙ ap (cond (has_name other f) (Some f.value)) (look_up_with value fs (λ none. text (look_up_first name f fs ∙ ap (λ b. cond b (Some f.value) (look_up name fs)) lacks ∙ none)))
            ∙ passed name other (λ _. Some value) (λ _. Some f.value) (has_name other f) (bytes_eq name other) (has_neither name other f lacks) (look_up other fs)
            ∙ sym (ap (cond (bytes_eq name other) (Some value)) (look_up_first other f fs))
      ] refl
    where
      replaced : (b d : Bool) → b ≡ d → (was : Value) (o : Option Value)
          → cond b (Some value) o ≡ cond d (Some value) (cond b (Some was) o)
      replaced true true e was o = refl
      replaced false false e was o = refl
      replaced true false e was o = absurd (false≢true (sym e))
      replaced false true e was o = absurd (false≢true e)

  -- another name, after one was taken out
  pub look_up_without : (fs : List (Field Value)) → name ≢ other → look_up other (without_field name fs) ≡ look_up other fs
  look_up_without [] apart = refl
  look_up_without (f ∷ fs) apart =
      elim (has_name name f) as (λ b. has_name name f ≡ b
      → look_up other (cond b fs (f ∷ without_field name fs)) ≡ look_up other (f ∷ fs)) [
        | true ↦ λ has. sym (look_up_first other f fs
            ∙ ap (λ b. cond b (Some f.value) (look_up other fs)) (has_both name other f has ∙ other_bytes name other apart))
        | false ↦ λ lacks. look_up_first other f (without_field name fs)
            ∙ ap (cond (has_name other f) (Some f.value)) (look_up_without fs apart)
            ∙ sym (look_up_first other f fs)
      ] refl

  how_many_first : (f : Field Value) (fs : List (Field Value))
      → how_many other (f ∷ fs) ≡ cond (has_name other f) (1 + how_many other fs) (how_many other fs)
  how_many_first f fs = counted (has_name other f)
    where
      counted : (b : Bool) → length (cond b (f ∷ filter (has_name other) fs) (filter (has_name other) fs))
          ≡ cond b (1 + how_many other fs) (how_many other fs)
      counted true = omega arith
      counted false = refl

  -- a set adds no second field of a name
  pub how_many_with : (value : Value) (fs : List (Field Value)) → IsUtf8 name
      → how_many other (with_field name value fs) ≡ cond (bytes_eq name other) (max 1 (how_many other fs)) (how_many other fs)
  how_many_with value [] text =
      how_many_first (new_field name value) [] ∙ ap (λ bytes. cond (bytes_eq bytes other) (1 + 0) 0) (encodes-chars name text)
  how_many_with value (f ∷ fs) text =
      elim (has_name name f) as (λ b. has_name name f ≡ b
      → how_many other (cond b (record { name = f.name; value = value } ∷ fs) (f ∷ with_field name value fs))
      ≡ cond (bytes_eq name other) (max 1 (how_many other (f ∷ fs))) (how_many other (f ∷ fs))) [
        | true ↦ λ has. how_many_first (record { name = f.name; value = value }) fs
            ∙ replaced (has_name other f) (bytes_eq name other) (has_both name other f has) (how_many other fs)
            ∙ sym (ap (λ n. cond (bytes_eq name other) (max 1 n) n) (how_many_first f fs))
        | false ↦ λ lacks. how_many_first f (with_field name value fs)
            ∙ ap (λ n. cond (has_name other f) (1 + n) n) (how_many_with value fs text)
            ∙ passed name other (max 1) (λ n. 1 + n) (has_name other f) (bytes_eq name other) (has_neither name other f lacks) (how_many other fs)
            ∙ sym (ap (λ n. cond (bytes_eq name other) (max 1 n) n) (how_many_first f fs))
      ] refl
    where
      replaced : (b d : Bool) → b ≡ d → (n : ℕ) → cond b (1 + n) n ≡ cond d (max 1 (cond b (1 + n) n)) (cond b (1 + n) n)
      replaced true true e n = omega arith
      replaced false false e n = refl
      replaced true false e n = absurd (false≢true (sym e))
      replaced false true e n = absurd (false≢true e)

pub once_after_set : (name other : List ℕ) (value : Value) (fs : List (Field Value)) → IsUtf8 name → how_many other fs ≤ 1
    → how_many other (with_field name value fs) ≤ 1
once_after_set name other value fs text once = rw (how_many_with name other value fs text) (still (bytes_eq name other))
  where
    still : (b : Bool) → cond b (max 1 (how_many other fs)) (how_many other fs) ≤ 1
    still true = omega (arith, once)
    still false = once

-- where one field at most has a name, none has it once that one is taken out
module _ (name : List ℕ) where
  none_has : (fs : List (Field Value)) → how_many name fs ≤ 0 → look_up name fs ≡ None
  none_has [] few = refl
  none_has (f ∷ fs) few =
      elim (has_name name f) as (λ b. length (cond b (f ∷ filter (has_name name) fs) (filter (has_name name) fs)) ≤ 0
      → value_in (cond b (Some f) (find (has_name name) fs)) ≡ None) [
        | true ↦ λ few. absurd (omega (arith, few))
        | false ↦ λ few. none_has fs few
      ] few

  pub look_up_gone : (fs : List (Field Value)) → how_many name fs ≤ 1 → look_up name (without_field name fs) ≡ None
  look_up_gone [] few = refl
  look_up_gone (f ∷ fs) few =
      elim (has_name name f) as (λ b. has_name name f ≡ b → length (cond b (f ∷ filter (has_name name) fs) (filter (has_name name) fs)) ≤ 1
      → look_up name (cond b fs (f ∷ without_field name fs)) ≡ None) [
        | true ↦ λ has few. none_has fs (omega (arith, few))
        | false ↦ λ lacks few. ap (λ b. value_in (cond b (Some f) (find (has_name name) (without_field name fs)))) lacks ∙ look_up_gone fs few
      ] refl few

-- at the name that was set, and at another
pub look_up_set : (name : List ℕ) (value : Value) (fs : List (Field Value)) → (look_up name fs ≡ None → IsUtf8 name)
    → look_up name (with_field name value fs) ≡ Some value
look_up_set name value fs text =
    look_up_with name name value fs text ∙ ap (λ b. cond b (Some value) (look_up name fs)) (same_bytes name)

pub look_up_other : (name other : List ℕ) (value : Value) (fs : List (Field Value)) → (look_up name fs ≡ None → IsUtf8 name)
    → name ≢ other → look_up other (with_field name value fs) ≡ look_up other fs
look_up_other name other value fs text apart =
    look_up_with name other value fs text ∙ ap (λ b. cond b (Some value) (look_up other fs)) (other_bytes name other apart)

-- a value, after a call set a field of it
pub field_set : {R : Type 0} (name : List ℕ) (value : Value) (old new : Value) (answer : R) → IsUtf8 name
    → EditsFields (with_field name value) old (Ok answer) new
    → (other : List ℕ) → field_of new other ≡ cond (bytes_eq name other) (Some value) (field_of old other)
field_set name value old new answer text edits other =
    elim (fields_of old) as (λ o. fields_of old ≡ o → fields_of new ≡ option_map (with_field name value) o
    → field_of new other ≡ cond (bytes_eq name other) (Some value) (option_and_then (look_up other) o)) [
      | Some fs ↦ λ is change. ap (option_and_then (look_up other)) change ∙ look_up_with name other value fs (λ _. text)
      | None ↦ λ is change. (let never = edits.kind.1 is in absurd cc)
    ] refl edits.ok

pub ruleset meanings = (look_up_first, look_up_append, look_up_set, look_up_other, look_up_gone, look_up_without, once_after_set)
