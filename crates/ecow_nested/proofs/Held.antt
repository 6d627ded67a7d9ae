-- What entries hold at the place of an index, and what edits there make of it.
use Rattle.std.proofs.Common.{arith, ◌≡◌, ◌≤◌, ◌<◌, ◌+◌, ◌-◌, ℕ, zero, suc, Bool, true, false, cond, List, [], ◌∷◌, ◌++◌, length, get_or, take, slice_get, slice_set, None, Some, refl, sym, ap, subst, ◌∙◌}
use Rattle.std.specs.Prelude.{insert, remove}
use Rattle.std.proofs.lemmas.Option.{none-some, same_Some, slice_get-get_or, slice_get_within}
use Rattle.std.proofs.lemmas.List.{length-map, length-set, map-append, map-set}
use Rattle.std.specs.Option.{option_map}
use Rattle.std.specs.List.Retain.{RetainsInTurn}
use Rattle.ecow_nested.specs.Index.{IsFoundFrom, IsIndexed, is_there, IsPlaceOf, NotesGaps, fields_in, gaps_from, gaps_in, link_of, node_of, nodes_in, present, slots_in}
use Rattle.ecow_nested.specs.declared.fields.Entry.{Entry}
use Rattle.ecow_nested.specs.declared.fields.Field.{Field}
use Rattle.ecow_nested.proofs.Gaps.{all_places, before_low, before_high, gap_more, gaps_kept, gaps_pushed, present_gone, present_pushed, present_set, present_there, whole_there}
use Rattle.ecow_nested.proofs.Index.{dropped_set, found_same, gap_indexed, nodes_get, slot_there, slots_set}

gaps_set : {T : Type 0} (es : List (Entry T)) (i : ℕ) (x y : Entry T) → slice_get es i ≡ Some x
    → y.gaps ≡ x.gaps → gaps_in (slice_set es i y) ≡ gaps_in es
gaps_set [] i x y there same = refl
gaps_set (e ∷ es) zero x y there same = same ∙ ap (λ (z : Entry _). z.gaps) (sym (same_Some e x there))
gaps_set (e ∷ es) (suc i) x y there same = refl

first_gaps : {T : Type 0} (es : List (Entry T)) (e : Entry T) → e.gaps ≡ []
    → gaps_in (es ++ e ∷ []) ≡ gaps_in es
first_gaps [] e none = none
first_gaps (x ∷ es) e none = refl

module _ {T : Type 0} (es : List (Entry T)) where
  pub long : length (slots_in es) ≡ length es
  long = length-map es (λ e. e.field)

  -- how many fields there are
  pub gaps_within : (gaps : List ℕ) → gaps ≡ gaps_in es → NotesGaps es
      → length gaps ≤ length es
  gaps_within gaps is noted = omega (arith, ap length (is ∙ noted), all_places 0 (slots_in es), long)

  pub gaps_counted : (gaps : List ℕ) → gaps ≡ gaps_in es → NotesGaps es
      → length es - length gaps ≡ length (fields_in es)
  gaps_counted gaps is noted = omega (arith, ap length (is ∙ noted), all_places 0 (slots_in es), long)

  module _ (index place : ℕ) (is : IsPlaceOf es index place) where
    pub place_within : place < length es
    place_within = omega (arith, slice_get_within (slots_in es) place (Some is.0) is.1, long)

    pub entry_there : (d : Entry T) → slice_get es place ≡ Some (get_or es place d)
    entry_there d = slice_get-get_or es place d place_within

    -- the entry there has the field
    pub field_there : (d : Entry T) → (get_or es place d).field ≡ Some is.0
    field_there d =
        same_Some (get_or es place d).field (Some is.0)
        (sym (slot_there es place (get_or es place d) (entry_there d)) ∙ is.1)

    pub no_gap : (e : Entry T) → slice_get es place ≡ Some e → e.field ≡ Some is.0
    no_gap e there = same_Some e.field (Some is.0) (sym (slot_there es place e there) ∙ is.1)

    pub field_got : slice_get (fields_in es) index ≡ Some is.0
    field_got =
        ap (slice_get (fields_in es)) (sym is.2) ∙ present_there (slots_in es) place is.0 is.1

    pub field_read : (d : Entry T) (f : Field T) → (get_or es place d).field ≡ Some f
        → slice_get (fields_in es) index ≡ Some f
    field_read d f has = field_got ∙ sym (field_there d) ∙ has

    -- another field there
    pub fields_set : (y : Entry T) (f : Field T) → y.field ≡ Some f
        → fields_in (slice_set es place y) ≡ slice_set (fields_in es) index f
    fields_set y f has =
        ap present (slots_set es place y ∙ ap (slice_set (slots_in es) place) has)
        ∙ present_set (slots_in es) place is.0 f is.1
        ∙ ap (λ n. slice_set (fields_in es) n f) is.2

    pub slots_kept : (y : Entry T) (f : Field T) → y.field ≡ Some f
        → gaps_from 0 (slots_in (slice_set es place y)) ≡ gaps_from 0 (slots_in es)
    slots_kept y f has =
        ap (gaps_from 0) (slots_set es place y ∙ ap (slice_set (slots_in es) place) has)
        ∙ gaps_kept 0 (slots_in es) place is.0 f is.1

    pub noted_set : (x y : Entry T) (f : Field T) → slice_get es place ≡ Some x → y.field ≡ Some f
        → y.gaps ≡ x.gaps → NotesGaps es → NotesGaps (slice_set es place y)
    noted_set x y f there has same noted =
        gaps_set es place x y there same ∙ noted ∙ sym (slots_kept y f has)

    -- a gap there
    pub fields_gone : (y : Entry T) → y.field ≡ None
        → fields_in (slice_set es place y) ≡ remove (fields_in es) index
    fields_gone y none =
        ap present (slots_set es place y ∙ ap (slice_set (slots_in es) place) none)
        ∙ present_gone (slots_in es) place is.0 is.1
        ∙ ap (remove (fields_in es)) is.2

    pub gaps_more : (y : Entry T) → y.field ≡ None
        → gaps_from 0 (slots_in (slice_set es place y))
        ≡ insert (gaps_from 0 (slots_in es)) (place - index) place
    gaps_more y none =
        ap (gaps_from 0) (slots_set es place y ∙ ap (slice_set (slots_in es) place) none)
        ∙ gap_more 0 (slots_in es) place is.0 is.1
        ∙ ap (λ n. insert (gaps_from 0 (slots_in es)) (place - n) (0 + place)) is.2
        ∙ ap (insert (gaps_from 0 (slots_in es)) (place - index)) (omega arith)

    pub before_within : NotesGaps es → (index ≤ place) × (place - index ≤ length (gaps_in es))
    before_within noted = (
      omega (arith, is.2, before_low (slots_in es) place),
      omega (arith, is.2, ap length noted, before_high 0 (slots_in es) place (omega (arith, place_within, long))),
    )

one_side : {T : Type 0} (x y : Entry T) (side : Bool) → y.left ≡ x.left → y.right ≡ x.right
    → link_of side (node_of y) ≡ link_of side (node_of x)
one_side x y true left right = right
one_side x y false left right = left

-- the field at the place is taken out of entries that note the gap
module _ {T : Type 0} (es noted : List (Entry T)) (index place : ℕ) (is : IsPlaceOf es index place)
    (slots : slots_in noted ≡ slots_in es) (nodes : nodes_in noted ≡ nodes_in es)
    (gaps : gaps_in noted ≡ insert (gaps_in es) (place - index) place)
    (x y : Entry T) (there : slice_get noted place ≡ Some x) (none : y.field ≡ None)
    (same_gaps : y.gaps ≡ x.gaps) where
  abbrev gapped : List (Entry T)
  gapped = slice_set noted place y

  its_place : IsPlaceOf noted index place
  its_place = (
    is.0,
    ap (λ os. slice_get os place) slots ∙ is.1,
    ap (λ os. length (present (take place os))) slots ∙ is.2,
  )

  pub gapped_fields : fields_in gapped ≡ remove (fields_in es) index
  gapped_fields =
      fields_gone noted index place its_place y none ∙ ap (λ os. remove (present os) index) slots

  pub was_there : (d : Entry T) (f : Field T) → (get_or noted place d).field ≡ Some f
      → slice_get (fields_in es) index ≡ Some f
  was_there d f has =
      ap (λ os. slice_get (present os) index) (sym slots)
      ∙ field_read noted index place its_place d f has

  pub gapped_noted : NotesGaps es → NotesGaps gapped
  gapped_noted all =
      gaps_set noted place x y there same_gaps ∙ gaps
      ∙ ap (λ gs. insert gs (place - index) place) (all ∙ ap (gaps_from 0) (sym slots))
      ∙ sym (gaps_more noted index place its_place y none)

  pub gapped_found : IsFoundFrom 16 es → x.again ≡ false → y.left ≡ x.left → y.right ≡ x.right
      → IsFoundFrom 16 gapped
  gapped_found found once left right many kept =
      let node_there = nodes_get noted place x there in
      let was : IsFoundFrom 16 noted = found_same 16 noted es nodes found in
      let indexed = was (omega (arith, many, length-set noted place y)) (sym (dropped_set noted place x y there left) ∙ kept) in
      let none_there : (node_of y).name ≡ None = ap (option_map (λ f. f.name)) none in
      subst IsIndexed (sym (map-set node_of noted place y))
      (gap_indexed (nodes_in noted) place (node_of x) (node_of y) node_there once none_there
      (λ side. one_side x y side left right) indexed)

module _ {T : Type 0} where
  -- one more field at the end
  pub fields_pushed : (es : List (Entry T)) (e : Entry T) (f : Field T) → e.field ≡ Some f
      → fields_in (es ++ e ∷ []) ≡ fields_in es ++ f ∷ []
  fields_pushed es e f has =
      ap present (map-append (λ (x : Entry T). x.field) es (e ∷ []) ∙ ap (λ o. slots_in es ++ o ∷ []) has)
      ∙ present_pushed (slots_in es) f

  pub noted_pushed : (es : List (Entry T)) (e : Entry T) (f : Field T) → e.field ≡ Some f
      → e.gaps ≡ [] → NotesGaps es → NotesGaps (es ++ e ∷ [])
  noted_pushed es e f has none noted =
      first_gaps es e none ∙ noted ∙ sym (gaps_pushed 0 (slots_in es) f)
      ∙ sym (ap (gaps_from 0) (map-append (λ (x : Entry T). x.field) es (e ∷ []) ∙ ap (λ o. slots_in es ++ o ∷ []) has))

  -- what `retain` keeps is all that is there
  module _ {S : Type 0} (R : S → Entry T → Bool → S → Entry T → Type 0)
      (tests : (s : S) (x : Entry T) (b : Bool) (t : S) (y : Entry T) → R s x b t y → (b ≡ is_there x.field) × (y ≡ x)) where
    pub retained : (s : S) (xs ys : List (Entry T)) → RetainsInTurn R s xs ys
        → (fields_in ys ≡ fields_in xs) × ((k : ℕ) → gaps_from k (slots_in ys) ≡ [])
    retained s [] ys h = (ap fields_in h, λ k. ap (λ zs. gaps_from k (slots_in zs)) h)
    retained s (x ∷ xs) ys h =
        let k = tests s x h.0 h.1 h.2 h.3 in
        let rest = retained h.1 xs h.4 h.5 in
        let left : ys ≡ cond (is_there x.field) (x ∷ h.4) h.4 = h.6 ∙ (λ i. cond (k.0 i) (k.1 i ∷ h.4) h.4) in
        elim (x.field) as (λ o. x.field ≡ o → (fields_in ys ≡ fields_in (x ∷ xs)) × ((k : ℕ) → gaps_from k (slots_in ys) ≡ [])) [
          | None ↦ λ is.
              let all : ys ≡ h.4 = left ∙ ap (λ o. cond (is_there o) (x ∷ h.4) h.4) is in (
                ap fields_in all ∙ rest.0 ∙ ap (λ o. present (o ∷ slots_in xs)) (sym is),
                λ n. ap (λ zs. gaps_from n (slots_in zs)) all ∙ rest.1 n,
              )
          | Some f ↦ λ is.
              let all : ys ≡ x ∷ h.4 = left ∙ ap (λ o. cond (is_there o) (x ∷ h.4) h.4) is in (
                ap fields_in all ∙ ap (λ o. present (o ∷ slots_in h.4)) is ∙ ap (λ fs. f ∷ fs) rest.0 ∙ ap (λ o. present (o ∷ slots_in xs)) (sym is),
                λ n. ap (λ zs. gaps_from n (slots_in zs)) all ∙ ap (λ o. gaps_from n (o ∷ slots_in h.4)) is ∙ rest.1 (suc n),
              )
        ] refl

-- where there are no gaps, an entry that is read has the field of its index
module _ {T : Type 0} (es : List (Entry T)) (i : ℕ) (whole : gaps_from 0 (slots_in es) ≡ [])
    (within : i < length (fields_in es)) (e : Entry T) where
  pub whole_read : (f : Field T) → slice_get es i ≡ Some e → e.field ≡ Some f
      → slice_get (fields_in es) i ≡ Some f
  whole_read f there has =
      let at = whole_there 0 (slots_in es) i whole within in
      let same : Some at.0 ≡ Some f = sym (same_Some e.field (Some at.0) (sym (slot_there es i e there) ∙ at.1)) ∙ has in
      at.2 ∙ same

  pub whole_filled : slice_get es i ≡ Some e → e.field ≡ None → ⊥
  whole_filled there none =
      let at = whole_there 0 (slots_in es) i whole within in
      none-some at.0 (sym none ∙ same_Some e.field (Some at.0) (sym (slot_there es i e there) ∙ at.1))
