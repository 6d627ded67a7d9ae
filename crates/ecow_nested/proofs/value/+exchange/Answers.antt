use Rattle.std.proofs.Common.{rules, arith, ◌≡◌, ◌≤◌, ◌<◌, ◌+◌, ℕ, List, Some, max, length, get_or, slice_get, slice_set, refl, sym, ap, subst, ◌∙◌}
use Rattle.std.proofs.lemmas.Option.{none-some, slice_get-get_or}
use Rattle.std.specs.List.{refill}
use Rattle.std.specs.Option.{option_and_then}
use lib.ListN.{length-set}
use Rattle.std.specs.Prelude.{IfSome, Option}
use Rattle.ecow_nested.specs.Index.{IsFoundFrom, IsPlaceOf, NotesGaps, fields_in, node_of}
use Rattle.ecow_nested.specs.declared.fields.Field.{Field}
use Rattle.ecow_nested.specs.declared.fields.Entry.{Entry}
use Rattle.ecow_nested.specs.declared.value.Value.{Value}
use Rattle.ecow_nested.proofs.Held.{entry_there, field_read, field_there, fields_set, noted_set}
use Rattle.ecow_nested.proofs.Index.{found_kept}
use Rattle.ecow_block.specs.Contents.{Contents}
use Rattle.ecow_list.proofs.Views.{refilled}
use Rattle.ecow_nested.specs.Names.{named}
use Rattle.ecow_nested.proofs.Lookups.{missing, set_found, taken}
use Rattle.ecow_nested.proofs.Depths.{part_less, set_less}
use Rattle.ecow_nested.proofs.value.+exchange.Goals as goal
use Rattle.ecow_nested.specs.Paths.{value_at}
use Rattle.ecow_nested.specs.Values.{deepest, deepest_field, depth_of, field_depth}

-- a part that is lent, and what is left once it was written
there : {X : Type 0} (xs lent : List X) (i : ℕ) (d : X) → lent ≡ xs → i < length xs
    → slice_get xs i ≡ Some (get_or lent i d)
there xs lent i d same within =
    ap (λ l. slice_get l i) (sym same) ∙ slice_get-get_or lent i d (omega (arith, ap length same, within))

written : {X : Type 0} (xs block lent left : List X) (i : ℕ) (y : X)
    → left ≡ refill (length block) block (slice_set lent i y)
    → lent ≡ block → block ≡ xs → left ≡ slice_set xs i y
written xs block lent left i y is same was =
    is
    ∙ refilled (length block) block (slice_set lent i y) (omega (arith, length-set lent i y, ap length same))
    ∙ ap (λ l. slice_set l i y) (same ∙ was)

pub paths::exchange_in_item-returns-clause-set : goal.paths::exchange_in_item-returns-clause-set
paths::exchange_in_item-returns-clause-set t c =
    let was = c.in-Ok.ensures.value (λ x y same. same) in
    let same = c.as_mut_slice.ensures.value in (
      _,
      _,
      there _ _ _ c.index-as_mut_slice-index.result (same ∙ was) (omega (arith, c.if-index-len.false, c.len.ensures.len)),
      c.in_ok-exchange_at.ensures.set,
      written _ _ _ _ _ _ (c.own_mut.follows.holds _ (search rules)) same was,
    )

pub paths::exchange_in_item-returns-clause-other : goal.paths::exchange_in_item-returns-clause-other
paths::exchange_in_item-returns-clause-other t c =
    let was = c.in-Ok.ensures.value (λ x y same. same) in
    let found = there c.args.nested.now.items c.as_mut_slice.result.now c.args.index c.index-as_mut_slice-index.result
    (c.as_mut_slice.ensures.value ∙ was) (omega (arith, c.if-index-len.false, c.len.ensures.len)) in
    ap (option_and_then (λ part. value_at part c.args.rest.now)) found ∙ c.in_ok-exchange_at.ensures.other

pub paths::exchange_in_item-returns-clause-covers : goal.paths::exchange_in_item-returns-clause-covers
paths::exchange_in_item-returns-clause-covers t c covered =
    let xs = c.args.nested.now.items in
    let block = c.in-Ok.block.now.items in
    let lent = c.as_mut_slice.result.now in
    let i = c.args.index in
    let x = get_or lent i c.index-as_mut_slice-index.result in
    let y = c.exchange_at.new.self in
    let was : block ≡ xs = c.in-Ok.ensures.value (λ x y same. same) in
    let same : lent ≡ block = c.as_mut_slice.ensures.value in
    let left = c.own_mut.follows.lender (record { items = refill (length block) block (slice_set lent i y); capacity = c.in-Ok.block.now.capacity }) in
    let new : left ≡ slice_set xs i y = written xs block lent left i y (c.own_mut.follows.holds _ (search rules)) same was in
    let found = there xs lent i c.index-as_mut_slice-index.result (same ∙ was) (omega (arith, c.if-index-len.false, c.len.ensures.len)) in
    let low : depth_of y ≤ max (depth_of x) (length c.args.rest.now + depth_of c.args.other.now) = c.in_ok-exchange_at.ensures.bound in
    let part = part_less depth_of xs i x found in
    let set = set_less depth_of xs i y in
    let bound : deepest left < c.raise.new.depth = rw new (omega (arith, set, part, low, covered, c.raise.ensures, c.depth.ensures, c.requires)) in
    (rw c.as_slice-3.ensures at c.settle.ensures.covers) bound

pub paths::exchange_in_field-returns-in_default-clause-index : goal.paths::exchange_in_field-returns-in_default-clause-index
paths::exchange_in_field-returns-in_default-clause-index t c =
    let none = missing c.args.name.now c.args.nested.now.items c.position.result c.in_default.is c.position.ensures in
    search (rules, none)

pub paths::exchange_in_field-returns-in_err-exchange_in_place-clause-index : goal.paths::exchange_in_field-returns-in_err-exchange_in_place-clause-index
paths::exchange_in_field-returns-in_err-exchange_in_place-clause-index t c =
    let found = taken c.args.name.now c.args.nested.now.items c.in-Some.at c.field_at.result.now c.in-Some.ensures c.field_at.ensures in
    search (rules, found, c.field_at.ensures)

pub paths::exchange_in_field-returns-clause-set : goal.paths::exchange_in_field-returns-clause-set
paths::exchange_in_field-returns-clause-set t c =
    let e = c.in_ok-exchange_in_place.ensures.set in
    let found = taken c.args.name.now c.args.nested.now.items c.in-Some.at e.0 c.in-Some.ensures e.2 in
    let set = set_found c.args.name.now c.args.nested.now.items c.in-Some.at e.0 (named e.0.name e.1) c.in-Some.ensures e.2 refl in
    search (rules, e, found, set)

pub paths::exchange_in_field-returns-clause-other : goal.paths::exchange_in_field-returns-clause-other
paths::exchange_in_field-returns-clause-other t c =
    let e = c.in_ok-exchange_in_place.ensures.set in
    let found = taken c.args.name.now c.args.nested.now.items c.in-Some.at e.0 c.in-Some.ensures e.2 in
    search (rules, e, found, c.in_ok-exchange_in_place.ensures.other)

pub paths::exchange_in_field-returns-clause-covers : goal.paths::exchange_in_field-returns-clause-covers
paths::exchange_in_field-returns-clause-covers t c covered =
    let e = c.in_ok-exchange_in_place.ensures.set in
    let put = named e.0.name e.1 in
    let low : field_depth put ≤ max (field_depth e.0) (length c.args.rest.now + depth_of c.args.other.now) = e.5 in
    let part = part_less field_depth c.args.nested.now.items c.in-Some.at e.0 e.2 in
    let set = set_less field_depth c.args.nested.now.items c.in-Some.at put in
    let bound : deepest_field c.exchange_in_place.new.fields < c.raise.new.depth = rw e.4 (omega (arith, set, part, low, covered, c.raise.ensures, c.depth.ensures, c.requires)) in
    (rw c.entries.ensures.depths at c.settle.ensures.covers) bound

-- an entry with another field
abbrev with_one : Entry Value → Field Value → Entry Value
with_one e f = record { field = Some f; left = e.left; right = e.right; again = e.again; gaps = e.gaps }

-- the entry of a field that is lent, and what is left of the entries
module _ (es block lent left : List (Entry Value)) (index place : ℕ) (d : Entry Value) (f : Field Value) (value : Value)
    (is : left ≡ refill (length block) block (slice_set lent place (with_one (get_or lent place d) (named f.name value))))
    (same : lent ≡ block) (was : block ≡ es)
    (fields : List (Field Value)) (view : fields_in es ≡ fields) (at : IsPlaceOf es index place)
    (has : (get_or lent place d).field ≡ Some f) where
  abbrev x : Entry Value
  x = get_or lent place d

  abbrev y : Entry Value
  y = with_one x (named f.name value)

  new : left ≡ slice_set es place y
  new = written es block lent left place y is same was

  read : get_or es place d ≡ x
  read = ap (λ l. get_or l place d) (sym (same ∙ was))

  x_there : slice_get es place ≡ Some x
  x_there = entry_there es index place at d ∙ ap Some read

  field_at : slice_get fields index ≡ Some f
  field_at =
      ap (λ fs. slice_get fs index) (sym view) ∙ field_read es index place at d f (ap (λ (e : Entry Value). e.field) read ∙ has)

  fields_new : fields_in left ≡ slice_set fields index (named f.name value)
  fields_new =
      ap fields_in new ∙ fields_set es index place at y (named f.name value) refl
      ∙ ap (λ fs. slice_set fs index (named f.name value)) view

  sound_new : IsFoundFrom 16 es × NotesGaps es → IsFoundFrom 16 left × NotesGaps left
  sound_new sound =
      let node : node_of y ≡ node_of x = ap (λ (o : Option (Field Value)). node_of (record { field = o; left = x.left; right = x.right; again = x.again; gaps = x.gaps })) (sym has) in
      subst (λ zs. IsFoundFrom 16 zs × NotesGaps zs) (sym new) (
        found_kept es place x y x_there node sound.0,
        noted_set es index place at x y (named f.name value) x_there refl refl sound.1,
      )

pub paths::exchange_in_place-invariant_of-fields-2 : goal.paths::exchange_in_place-invariant_of-fields-2
paths::exchange_in_place-invariant_of-fields-2 t c =
    let at = subst (λ es. IsPlaceOf es c.args.at c.place_of_index-place.result) c.as_slice.ensures c.place_of_index-place.ensures.place in
    sound_new c.fields.inside.entries c.in-Ok.block.now.items c.as_mut_slice.result.now _ c.args.at c.place_of_index-place.result
    c.index-as_mut_slice-place.result c.in-Some.field c.exchange_at.new.self
    (c.own_mut.follows.holds _ (search rules)) c.as_mut_slice.ensures.value (c.in-Ok.ensures.value (λ x y same. same))
    c.args.fields.now c.fields.view_is at c.in-Some.is c.fields.invariant

pub paths::exchange_in_place-returns-clause-set : goal.paths::exchange_in_place-returns-clause-set
paths::exchange_in_place-returns-clause-set t c =
    let es = c.fields.inside.entries in
    let block = c.in-Ok.block.now.items in
    let lent = c.as_mut_slice.result.now in
    let i = c.args.at in
    let place = c.place_of_index-place.result in
    let d = c.index-as_mut_slice-place.result in
    let f = c.in-Some.field in
    let y = c.exchange_at.new.self in
    let at = subst (λ zs. IsPlaceOf zs i place) c.as_slice.ensures c.place_of_index-place.ensures.place in
    let after : Contents (Entry Value) = record { items = refill (length block) block (slice_set lent place (with_one (get_or lent place d) (named f.name y))); capacity = c.in-Ok.block.now.capacity } in
    let left = c.own_mut.follows.lender after in
    let is = c.own_mut.follows.holds after (search rules) in
    let same = c.as_mut_slice.ensures.value in
    let was = c.in-Ok.ensures.value (λ x y same. same) in (
      f,
      y,
      field_at es block lent left i place d f y is same was c.args.fields.now c.fields.view_is at c.in-Some.is,
      c.in_ok-exchange_at-in-Some.ensures.set,
      fields_new es block lent left i place d f y is same was c.args.fields.now c.fields.view_is at c.in-Some.is,
      c.in_ok-exchange_at-in-Some.ensures.bound,
    )

-- the field of a place that is read
module _ (es lent : List (Entry Value)) (index place : ℕ) (d : Entry Value) (f : Field Value) (whole : lent ≡ es)
    (fields : List (Field Value)) (view : fields_in es ≡ fields) (at : IsPlaceOf es index place)
    (has : (get_or lent place d).field ≡ Some f) where
  its_field : slice_get fields index ≡ Some f
  its_field =
      ap (λ fs. slice_get fs index) (sym view)
      ∙ field_read es index place at d f (ap (λ (l : List (Entry Value)). (get_or l place d).field) (sym whole) ∙ has)

pub paths::exchange_in_place-returns-clause-other : goal.paths::exchange_in_place-returns-clause-other
paths::exchange_in_place-returns-clause-other t c =
    let at = subst (λ es. IsPlaceOf es c.args.at c.place_of_index-place.result) c.as_slice.ensures c.place_of_index-place.ensures.place in
    let read = its_field c.fields.inside.entries c.as_mut_slice.result.now c.args.at c.place_of_index-place.result c.index-as_mut_slice-place.result c.in-Some.field
    (c.as_mut_slice.ensures.value ∙ c.in-Ok.ensures.value (λ x y same. same)) c.args.fields.now c.fields.view_is at c.in-Some.is in
    subst (λ o. IfSome o (λ field. value_at field.value c.args.rest.now ≡ Some c.exchange_at.new.other)) (sym read) c.in_ok-exchange_at-in-Some.ensures.other

pub paths::exchange_in_place-invariant_of-fields-in_err-exchange_at-in-Some : goal.paths::exchange_in_place-invariant_of-fields-in_err-exchange_at-in-Some
paths::exchange_in_place-invariant_of-fields-in_err-exchange_at-in-Some t c =
    let at = subst (λ es. IsPlaceOf es c.args.at c.place_of_index-place.result) c.as_slice.ensures c.place_of_index-place.ensures.place in
    sound_new c.fields.inside.entries c.in-Ok.block.now.items c.as_mut_slice.result.now _ c.args.at c.place_of_index-place.result
    c.index-as_mut_slice-place.result c.in-Some.field c.exchange_at.new.self
    (c.own_mut.follows.holds _ (search rules)) c.as_mut_slice.ensures.value (c.in-Ok.ensures.value (λ x y same. same))
    c.args.fields.now c.fields.view_is at c.in-Some.is c.fields.invariant

pub paths::exchange_in_place-unreachable-requires : goal.paths::exchange_in_place-unreachable-requires
paths::exchange_in_place-unreachable-requires t c =
    let at = subst (λ es. IsPlaceOf es c.args.at c.place_of_index-place.result) (c.as_slice.ensures ∙ sym (c.as_mut_slice.ensures.value ∙ c.in-Ok.ensures.value (λ x y same. same))) c.place_of_index-place.ensures.place in
    none-some at.0 (sym c.in-None.is ∙ field_there c.as_mut_slice.result.now c.args.at c.place_of_index-place.result at c.index-as_mut_slice-place.result)

pub paths::exchange_in_place-returns-in_err-exchange_at-in-Some-clause-index : goal.paths::exchange_in_place-returns-in_err-exchange_at-in-Some-clause-index
paths::exchange_in_place-returns-in_err-exchange_at-in-Some-clause-index t c =
    let at = subst (λ es. IsPlaceOf es c.args.at c.place_of_index-place.result) c.as_slice.ensures c.place_of_index-place.ensures.place in
    let read = its_field c.fields.inside.entries c.as_mut_slice.result.now c.args.at c.place_of_index-place.result c.index-as_mut_slice-place.result c.in-Some.field
    (c.as_mut_slice.ensures.value ∙ c.in-Ok.ensures.value (λ x y same. same)) c.args.fields.now c.fields.view_is at c.in-Some.is in
    search (rules, read)
