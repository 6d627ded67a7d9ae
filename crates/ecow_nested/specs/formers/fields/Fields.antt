-- `Fields` as a type that may hold the type that holds it.
use Rattle.std.specs.Prelude.{◌≡◌, ◌≤◌, ℕ, suc, Bool, List, [], ◌∷◌, map, Option, None, Some}
use mathlib.Core.Path.{refl, sym, ap, subst, ◌∙◌}
use mathlib.Core.Bool.{Bool-set}
use mathlib.Core.Logic.{◌⊎◌, inl, inr}
use mathlib.Core.HLevel.{Π_prop, ×_prop}
use mathlib.Core.Former.{Former, one_more, this, const, pair, or, list, via}
use native.Mathlib.Bridge.{le_prop}
use lib.ListN.{length-map}
use base.Stored.{gcons, code_map, coded_list, coded_ℕ, Coded-set}
use denote.Param.{number}
use denote.RattleType.{RattleType}
use denote.HoleLaws.{Alike}
use denote.HolePlaces.{Recodes, struct_places, enum_places, eachs, laid}
use denote.Hole.Fix.{over}
use denote.Param.Weighed.{Weighed, w_const, w_pair, w_list}
use denote.Model.Placed.{held, view_places}
use Rattle.ecow_base.specs.declared.plain.PlainText.{PlainText}
use Rattle.ecow_list.specs.formers.vec.EcoVec as vec
use Rattle.ecow_string.specs.contracts.string.SmallText as text_row
use Rattle.std.specs.contracts.option.Option as option
use Rattle.ecow_nested.specs.Index.{IsFoundFrom, IsIndexed, NotesGaps, is_dropped, fields_in, gaps_from, gaps_in, node_of, nodes_in, slots_in}
use Rattle.ecow_nested.specs.declared.fields.Field.{Field}
use Rattle.ecow_nested.specs.declared.fields.Entry.{Entry}
use Rattle.ecow_nested.specs.declared.fields.Fields.TheInside.{Inside}
use Rattle.ecow_nested.specs.declared.fields.Fields.TheView.{view, invariant}
use Rattle.ecow_nested.specs.contracts.fields.Field as field_row
use Rattle.ecow_nested.specs.contracts.fields.Entry as entry_row
use Rattle.ecow_nested.specs.contracts.fields.Fields as C
use Rattle.ecow_nested.specs.contracts.fields.Fields.TheInside as I

-- a field, and an entry, as containers of a value
abbrev field : Former {0} → Former {0}
field g = via (pair (const PlainText) g) (λ X. Field (g.Of X)) (λ X f. (f.name, f.value))
    (λ X v. record { name = v.0; value = v.1 }) (λ X f. refl) (λ X v. refl)

-- a field, or nothing
module _ {X : Type 0} where
  abbrev split : Option X → Unit {0} ⊎ X
  split None = inl tt
  split (Some x) = inr x

  abbrev join : Unit {0} ⊎ X → Option X
  join (inl u) = None
  join (inr x) = Some x

  join-split : (o : Option X) → join (split o) ≡ o
  join-split None = refl
  join-split (Some x) = refl

  split-join : (o : Unit {0} ⊎ X) → split (join o) ≡ o
  split-join (inl u) = refl
  split-join (inr x) = refl

abbrev slot : Former {0} → Former {0}
slot g = via (or (const (Unit {0})) (field g)) (λ X. Option (Field (g.Of X))) (λ X. split)
    (λ X. join) (λ X. join-split) (λ X. split-join)

abbrev entry : Former {0} → Former {0}
entry g = via (pair (slot g) (const (ℕ × (ℕ × (Bool × List ℕ))))) (λ X. Entry (g.Of X))
    (λ X e. (e.field, (e.left, (e.right, (e.again, e.gaps)))))
    (λ X v. record { field = v.0; left = v.1.0; right = v.1.1.0; again = v.1.1.1.0; gaps = v.1.1.1.1 })
    (λ X e. refl) (λ X v. refl)

abbrev pub the_former : Former {0} → Former {0}
the_former g = list (field g)

abbrev w_field : {g : Former {0}} → Weighed g → Weighed (field g)
w_field w =
    let v = w_pair (w_const PlainText) w in
    record { weight = λ X μ f. v.weight X μ (f.name, f.value); puts = λ X μ f. v.puts X μ (f.name, f.value) }

abbrev pub the_weighed : {g : Former {0}} → Weighed g → Weighed (the_former g)
the_weighed w = w_list (w_field w)

pub the_empty : List (Field ⊥)
the_empty = []

abbrev fields : Former {0}
fields = via (vec.the_former (entry this)) Inside (λ X a. a.entries) (λ X v. record { entries = v }) (λ X a. refl) (λ X v. refl)

module _ {X Y : Type 0} (h : X → Y) where
  abbrev on_field : Field X → Field Y
  on_field f = record { name = f.name; value = h f.value }

  abbrev on_slot : Option (Field X) → Option (Field Y)
  on_slot None = None
  on_slot (Some f) = Some (on_field f)

  abbrev on_entry : Entry X → Entry Y
  on_entry e =
      record { field = on_slot e.field; left = e.left; right = e.right; again = e.again; gaps = e.gaps }

  over_slot : (o : Option (Field X)) → (slot this).map X Y h o ≡ on_slot o
  over_slot None = refl
  over_slot (Some f) = refl

  over_entry : (e : Entry X) → (entry this).map X Y h e ≡ on_entry e
  over_entry e = λ i. record { field = over_slot e.field i; left = e.left; right = e.right; again = e.again; gaps = e.gaps }

  over_entries : (es : List (Entry X)) → map ((entry this).map X Y h) es ≡ map on_entry es
  over_entries [] = refl
  over_entries (e ∷ es) = λ i. over_entry e i ∷ over_entries es i

  fields_after : (e : Entry X) (es : List (Entry X))
      → fields_in (map on_entry es) ≡ map on_field (fields_in es)
      → fields_in (on_entry e ∷ map on_entry es) ≡ map on_field (fields_in (e ∷ es))
  fields_after e es rest =
      elim e.field as (λ o. fields_in (record { field = on_slot o; left = e.left; right = e.right; again = e.again; gaps = e.gaps } ∷ map on_entry es)
      ≡ map on_field (fields_in (record { field = o; left = e.left; right = e.right; again = e.again; gaps = e.gaps } ∷ es))) [
        | None ↦ rest
        | Some f ↦ ap (λ fs. on_field f ∷ fs) rest
      ]

  fields_along : (es : List (Entry X)) → fields_in (map on_entry es) ≡ map on_field (fields_in es)
  fields_along [] = refl
  fields_along (e ∷ es) = fields_after e es (fields_along es)

  node_along : (e : Entry X) → node_of (on_entry e) ≡ node_of e
  node_along e =
      elim e.field as (λ o. node_of (record { field = on_slot o; left = e.left; right = e.right; again = e.again; gaps = e.gaps })
      ≡ node_of (record { field = o; left = e.left; right = e.right; again = e.again; gaps = e.gaps })) [ None ↦ refl | Some f ↦ refl ]

  nodes_along : (es : List (Entry X)) → nodes_in (map on_entry es) ≡ nodes_in es
  nodes_along [] = refl
  nodes_along (e ∷ es) = λ i. node_along e i ∷ nodes_along es i

  places_along : (at : ℕ) (es : List (Entry X))
      → gaps_from at (slots_in (map on_entry es)) ≡ gaps_from at (slots_in es)
  places_along at [] = refl
  places_along at (e ∷ es) =
      elim e.field as (λ o. gaps_from at (on_slot o ∷ slots_in (map on_entry es)) ≡ gaps_from at (o ∷ slots_in es)) [
        | None ↦ ap (λ gs. at ∷ gs) (places_along (suc at) es)
        | Some f ↦ places_along (suc at) es
      ]

  gaps_along : (es : List (Entry X)) → gaps_in (map on_entry es) ≡ gaps_in es
  gaps_along [] = refl
  gaps_along (e ∷ es) = refl

  dropped_along : (es : List (Entry X)) → is_dropped (map on_entry es) ≡ is_dropped es
  dropped_along [] = refl
  dropped_along (e ∷ es) = refl

  found_along : (es : List (Entry X)) → IsFoundFrom 16 es → IsFoundFrom 16 (map on_entry es)
  found_along es is many there =
      subst IsIndexed (sym (nodes_along es)) (is (subst (λ n. 16 ≤ n) (length-map es on_entry) many) (sym (dropped_along es) ∙ there))

  found_back : (es : List (Entry X)) → IsFoundFrom 16 (map on_entry es) → IsFoundFrom 16 es
  found_back es is many there =
      subst IsIndexed (nodes_along es) (is (subst (λ n. 16 ≤ n) (sym (length-map es on_entry)) many) (dropped_along es ∙ there))

  noted_along : (es : List (Entry X)) → NotesGaps es → NotesGaps (map on_entry es)
  noted_along es is = gaps_along es ∙ is ∙ sym (places_along 0 es)

  noted_back : (es : List (Entry X)) → NotesGaps (map on_entry es) → NotesGaps es
  noted_back es is = sym (gaps_along es) ∙ is ∙ places_along 0 es

held_after : (X : Type 0) (e : Entry X) (es : List (Entry X))
    → held (list (field this)) X (fields_in es) ≡ held (list (entry this)) X es
    → held (list (field this)) X (fields_in (e ∷ es)) ≡ held (list (entry this)) X (e ∷ es)
held_after X e es rest =
    elim e.field as (λ o. held (list (field this)) X (fields_in (record { field = o; left = e.left; right = e.right; again = e.again; gaps = e.gaps } ∷ es))
    ≡ held (list (entry this)) X (record { field = o; left = e.left; right = e.right; again = e.again; gaps = e.gaps } ∷ es)) [
      | None ↦ rest
      | Some f ↦ λ i. (one_more (rest i).0, (f.value, (rest i).1))
    ]

fields_held : (X : Type 0) (es : List (Entry X))
    → held (list (field this)) X (fields_in es) ≡ held (list (entry this)) X es
fields_held X [] = refl
fields_held X (e ∷ es) = held_after X e es (fields_held X es)

abbrev Sound : {X : Type 0} → List (Entry X) → Type 0
Sound es = IsFoundFrom 16 es × NotesGaps es

module _ (R S : RattleType) (h : R.Denot → S.Denot) where
  field_places : Alike R S h → Alike (field_row.the_row R) (field_row.the_row S) (on_field h)
  field_places a = struct_places (field_row.the_type R) (field_row.the_type S) ((λ n. n), (h, tt)) _
      (λ d. refl) refl ((refl, (λ n. refl, λ n. refl)), (laid R S h a, tt))

  variant : (o : Option (Field R.Denot))
      → (option.enum (field_row.the_row S)).as_values (on_slot h o)
      ≡ eachs (option.enum (field_row.the_row R)).parts (option.enum (field_row.the_row S)).parts (tt, ((on_field h, tt), tt)) ((option.enum (field_row.the_row R)).as_values o)
  variant None = refl
  variant (Some f) = refl

  slot_places : Alike R S h
      → Alike (option.the_row (field_row.the_row R)) (option.the_row (field_row.the_row S)) (on_slot h)
  slot_places a = enum_places (option.enum (field_row.the_row R)) (option.enum (field_row.the_row S)) (tt, ((on_field h, tt), tt)) (on_slot h) variant refl
      (tt, ((laid (field_row.the_row R) (field_row.the_row S) (on_field h) (field_places a), tt), tt))

  entry_places : Alike R S h → Alike (entry_row.the_row R) (entry_row.the_row S) (on_entry h)
  entry_places a = struct_places (entry_row.the_type R) (entry_row.the_type S)
      (on_slot h, (λ n. n, (λ n. n, (λ b. b, (λ gs. gs, tt))))) _ (λ d. refl) refl (
        laid _ _ _ (slot_places a),
        (
          (refl, (λ n. refl, λ n. refl)),
          (
            (refl, (λ n. refl, λ n. refl)),
            ((refl, (λ n. refl, λ n. refl)), ((refl, (λ n. refl, λ n. refl)), tt)),
          ),
        ),
      )

  IsFound-prop : (X : Type 0) (es : List (Entry X)) → IsProp (Sound es)
  IsFound-prop X es =
      ×_prop (Π_prop (λ many. Π_prop (λ there. ×_prop
      (Π_prop (λ right. Π_prop (λ i. Π_prop (λ node. Π_prop (λ is. Π_prop (λ some. ×_prop le_prop le_prop))))))
      (Π_prop (λ i. Π_prop (λ node. Π_prop (λ name. Π_prop (λ is. Π_prop (λ has. ×_prop le_prop (Π_prop (λ before. Bool-set _ _))))))))))
      ) (Coded-set (coded_list coded_ℕ) _ _)

  pub the_places : Alike R S h
      → Alike (C.the_row R) (C.the_row S) ((the_former this).map R.Denot S.Denot h)
  the_places a = view_places fields (list (field this)) view (λ X Y k u. ap fields_in (over_entries k u.entries) ∙ fields_along k u.entries) (λ X u. fields_held X u.entries)
      R.Denot S.Denot h (C.the_row R).coded (C.the_row S).coded
      (invariant R.Denot) (invariant S.Denot) (λ u. IsFound-prop R.Denot u.entries) (λ u. IsFound-prop S.Denot u.entries)
      (λ u e. subst Sound (sym (over_entries h u.entries)) (found_along h u.entries e.0, noted_along h u.entries e.1))
      (λ u e. let t = subst Sound (over_entries h u.entries) e in (found_back h u.entries t.0, noted_back h u.entries t.1))
      (over (I.the_row R)) (over (I.the_row S))
      (struct_places (I.the_type R) (I.the_type S) (map (on_entry h), tt) _ (λ d i. (over_entries h d.entries i, tt)) refl
      (laid _ _ _ (vec.the_places (entry_row.the_row R) (entry_row.the_row S) (on_entry h) (entry_places a)), tt))

  pub the_codes_placed : Recodes R S h
      → Recodes (C.the_row R) (C.the_row S) ((the_former this).map R.Denot S.Denot h)
  the_codes_placed e d = sym (code_map _ _ (on_field h) (λ x i. gcons ((text_row.the_row (number 15)).coded.code x.name) (sym (e x.value) i)) d)
