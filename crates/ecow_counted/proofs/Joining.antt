-- A name is put in the group of another: its entry, if there is one, counts one owner more.
use Rattle.std.proofs.Common.{◌≡◌, ◌≢◌, ℕ, ◌+◌, ◌≤◌, Bool, true, false, cond, ◌||◌, eqb, List, [], ◌∷◌, map, length, Option, Some, None, IsSome, refl, sym, ◌∙◌, ap, arith, add-zero, ⊎_elim}
use Rattle.std.specs.Prelude.{filter, is_some}
use Rattle.std.specs.FinMap as finite
use Rattle.std.specs.Option.{option_map}
use Rattle.std.proofs.lemmas.Bool.{ne_eqb, eq-eqb, true≢false, cases_eq}
use Rattle.std.proofs.lemmas.Option.{same_Some}
use Rattle.slab.specs.Slab.{Slab, get, slab_len}
use Rattle.ecow_model.specs.Names.{Holding, IsRising, is_member, with_name, enter, join, blocks}
use Rattle.ecow_counted.proofs.Sums.{same_nat}
use Rattle.ecow_counted.proofs.Kept.{is_member-with_name, rising-with_name, length-with_name}
use Rattle.ecow_counted.proofs.Joined.{get_join, blocks-join}
use Rattle.ecow_counted.specs.declared.blocks.Entry.{Entry}
use Rattle.ecow_counted.specs.Places.{Places, is_at, names_in, names_at, holding_together, holding_in, names_of, IsTable}
use Rattle.ecow_counted.proofs.Placing.{found_at, member-names_at, rising-names_at, rising_same, get_names_of, sharing-table}

-- no place has more names than there are
names_in_few : (p : ℕ) (es : List (ℕ × Option ℕ)) → length (names_in p es) ≤ length es
names_in_few p [] = omega arith
names_in_few p (e ∷ es) =
    elim (is_at p e.1) as (λ b.
    length (map (λ (e : ℕ × Option ℕ). e.0) (cond b (e ∷ filter (λ e. is_at p e.1) es) (filter (λ e. is_at p e.1) es))) ≤ length (e ∷ es)) [
      | true ↦ let later : length (names_in p es) ≤ length es = names_in_few p es in omega arith
      | false ↦ let later : length (names_in p es) ≤ length es = names_in_few p es in omega arith
    ]

pub length-names_at : (p : ℕ) (places : Places) → length (names_at p places) ≤ finite.len places
length-names_at p places = rw (finite.len-entries places) (names_in_few p (finite.entries places))

counted_with : (y : ℕ) (b : Bool) (group : List ℕ) → length (cond b (with_name y group) group) ≡ length group + cond b 1 0
counted_with y true group = length-with_name y group
counted_with y false group = omega arith

-- y is put at x's place w, and an entry there counts one owner more
module _ {X : Type 0} (places after : Places) (table left : Slab (Entry X)) (is : IsTable places table) (x y : ℕ) (w : Option ℕ)
    (source : finite.get places x ≡ Some w) (free : finite.get places y ≡ None)
    (found : (q : ℕ) → finite.get after q ≡ cond (eqb q y) (Some w) (finite.get places q))
    (same_blocks : (other : ℕ) (group : List ℕ) → holding_together group (get left other) ≡ holding_together group (get table other))
    (was : (other : ℕ) (e : Entry X) → get left other ≡ Some e → (old : Entry X) × (get table other ≡ Some old)
    × (e.block ≡ old.block) × (e.owners ≡ old.owners + cond (is_at other w) 1 0))
    (stays : (other : ℕ) → is_some (get left other) ≡ is_some (get table other))
    (len : slab_len left ≡ slab_len table) where
  abbrev h : Holding X
  h = holding_in places table w

  share_other : (q : ℕ) → q ≢ y → finite.get after q ≡ finite.get places q
  share_other q ne = found q ∙ ap (λ b. cond b (Some w) (finite.get places q)) (ne_eqb q y ne)

  share_here : (q : ℕ) → q ≡ y → finite.get after q ≡ Some w
  share_here q e = found q ∙ ap (λ b. cond b (Some w) (finite.get places q)) (eq-eqb q y e)

  -- the names at a place, with y where it is x's
  joined_group : (other : ℕ) → names_at other after ≡ cond (is_at other w) (with_name y (names_at other places)) (names_at other places)
  joined_group other = rising_same _ _ (rising-names_at other after)
      (elim (is_at other w) as (λ b. IsRising (cond b (with_name y (names_at other places)) (names_at other places))) [
        | true ↦ rising-with_name y (names_at other places) (member-names_at other y places ∙ ap (found_at other) free) (rising-names_at other places)
        | false ↦ rising-names_at other places
      ])
      (λ q. member-names_at other q after ∙ ⊎_elim
      (λ (e : q ≡ y). ap (found_at other) (share_here q e)
      ∙ elim (is_at other w) as (λ b. b ≡ is_member q (cond b (with_name y (names_at other places)) (names_at other places))) [
        | true ↦ sym (is_member-with_name q y (names_at other places) ∙ ap (λ b. b || is_member q (names_at other places)) (eq-eqb y q (sym e)))
        | false ↦ sym (member-names_at other q places ∙ ap (found_at other) (ap (λ z. finite.get places z) e ∙ free))
      ])
      (λ (ne : q ≢ y). ap (found_at other) (share_other q ne) ∙ sym (member-names_at other q places)
      ∙ elim (is_at other w) as (λ b. is_member q (names_at other places) ≡ is_member q
      (cond b (with_name y (names_at other places)) (names_at other places))) [
        | true ↦ sym (is_member-with_name q y (names_at other places) ∙ ap (λ b. b || is_member q (names_at other places)) (ne_eqb y q (λ e. ne (sym e))))
        | false ↦ refl
      ])
      (cases_eq q y))

  -- what a place shows after it is what was shown, entered
  shows : (v : Option ℕ) → holding_in after left v ≡ enter x y (holding_in places table v)
  shows None = refl
  shows (Some p) =
      ap (λ g. holding_together g (get left p)) (joined_group p) ∙ same_blocks p _
      ∙ elim (get table p) as (λ s. holding_together (cond (is_at p w) (with_name y (names_at p places)) (names_at p places)) s
      ≡ enter x y (holding_together (names_at p places) s)) [
        | None ↦ refl
        | Some entry ↦
            elim (is_at p w) as (λ b. is_at p w ≡ b
            → holding_together (cond b (with_name y (names_at p places)) (names_at p places)) (Some entry)
            ≡ enter x y (holding_together (names_at p places) (Some entry))) [
              | true ↦ λ t. sym (ap (λ b.
                  cond b (record {
                    items = entry.block.items;
                    group = with_name y (names_at p places);
                    capacity = entry.block.capacity;
                  }) (holding_together (names_at p places) (Some entry)))
                  (member-names_at p x places ∙ ap (found_at p) source ∙ t))
              | false ↦ λ t. sym (ap (λ b.
                  cond b (record {
                    items = entry.block.items;
                    group = with_name y (names_at p places);
                    capacity = entry.block.capacity;
                  }) (holding_together (names_at p places) (Some entry)))
                  (member-names_at p x places ∙ ap (found_at p) source ∙ t))
            ] refl
      ]

  pub source_is : finite.get (names_of places table) x ≡ Some h
  source_is = get_names_of places table x ∙ ap (option_map (holding_in places table)) source

  pub target_free : finite.get (names_of places table) y ≡ None
  target_free = get_names_of places table y ∙ ap (option_map (holding_in places table)) free

  pub shared_names : names_of after left ≡ join x y h (names_of places table)
  shared_names = same_nat _ _ (λ q. get_names_of after left q ∙ ⊎_elim
      (λ (e : q ≡ y). ap (option_map (holding_in after left)) (share_here q e) ∙ ap Some (shows w)
      ∙ sym (get_join (names_of places table) (sharing-table places table is) x y h source_is target_free q
      ∙ ap (λ b. cond b (Some (enter x y h)) (option_map (enter x y) (finite.get (names_of places table) q))) (eq-eqb q y e)))
      (λ (ne : q ≢ y). ap (option_map (holding_in after left)) (share_other q ne)
      ∙ elim (finite.get places q) as (λ o. option_map (holding_in after left) o ≡ option_map (enter x y)
      (option_map (holding_in places table) o)) [ None ↦ refl | Some v ↦ ap Some (shows v) ]
      ∙ ap (option_map (enter x y)) (sym (get_names_of places table q))
      ∙ sym (get_join (names_of places table) (sharing-table places table is) x y h source_is target_free q
      ∙ ap (λ b. cond b (Some (enter x y h)) (option_map (enter x y) (finite.get (names_of places table) q))) (ne_eqb q y ne)))
      (cases_eq q y))

  pub shared_table : IsTable after left
  shared_table = record {
    placed = λ q p f. stays p ∙ ⊎_elim
        (λ (e : q ≡ y). is.placed x p (source ∙ sym (share_here q e) ∙ f))
        (λ (ne : q ≢ y). is.placed q p (sym (share_other q ne) ∙ f))
        (cases_eq q y);
    owned = λ p e at.
        let old = was p e at in
        let own = is.owned p old.0 old.1 in
        record {
          counted =
              old.3 ∙ sym (ap length (joined_group p) ∙ counted_with y (is_at p w) (names_at p places)
              ∙ ap (λ n. n + cond (is_at p w) 1 0) (sym own.counted));
          some = rw old.3 (omega (arith, own.some));
          fits = rw old.2 own.fits;
          small = rw old.2 own.small;
          backed = rw old.2 own.backed;
        };
    blocks_are =
        len ∙ is.blocks_are ∙ sym (ap blocks shared_names
        ∙ blocks-join (names_of places table) (sharing-table places table is) x y h source_is target_free (λ items capacity. 1));
  }

-- y joins x where x has no block, and where the entry at x's place counts one owner more
module _ {X : Type 0} (places after : Places) (table : Slab (Entry X)) (is : IsTable places table) (x y : ℕ) (free : finite.get places y ≡ None) where
  module _ (source : finite.get places x ≡ Some None) (found : (q : ℕ) → finite.get after q ≡ cond (eqb q y) (Some None) (finite.get places q)) where
    was_same : (other : ℕ) (e : Entry X) → get table other ≡ Some e → (old : Entry X) × (get table other ≡ Some old)
        × (e.block ≡ old.block) × (e.owners ≡ old.owners + cond (is_at other None) 1 0)
    was_same other e at = (e, at, refl, sym (add-zero e.owners))

    pub bare_shared_names : names_of after table ≡ join x y (holding_in places table None) (names_of places table)
    bare_shared_names = shared_names places after table table is x y None source free found (λ other group. refl) was_same (λ other. refl) refl

    pub bare_shared_table : IsTable after table
    bare_shared_table = shared_table places after table table is x y None source free found (λ other group. refl) was_same (λ other. refl) refl

  module _ (left : Slab (Entry X)) (p : ℕ) (source : finite.get places x ≡ Some (Some p)) (found : (q : ℕ)
      → finite.get after q ≡ cond (eqb q y) (Some (Some p)) (finite.get places q))
      (counted : (entry : Entry X) → get table p ≡ Some entry → get left p ≡ Some (record { block = entry.block; owners = entry.owners + 1 }))
      (others : (other : ℕ) → other ≢ p → get left other ≡ get table other) (len : slab_len left ≡ slab_len table) where
    entry_there : (entry : Entry X) × (get table p ≡ Some entry)
    entry_there = elim (get table p) as (λ s. get table p ≡ s → IsSome s → (entry : Entry X) × (get table p ≡ Some entry)) [
      | None ↦ λ _ some. absurd (true≢false (sym some))
      | Some entry ↦ λ at _. (entry, at)
    ] refl (is.placed x p source)

    now_there : get left p ≡ Some (record { block = entry_there.0.block; owners = entry_there.0.owners + 1 })
    now_there = counted entry_there.0 entry_there.1

    same_block : (other : ℕ) (group : List ℕ) → holding_together group (get left other) ≡ holding_together group (get table other)
    same_block other group = ⊎_elim
        (λ (e : other ≡ p). ap (λ o. holding_together group (get left o)) e ∙ ap (holding_together group) now_there
        ∙ sym (ap (λ o. holding_together group (get table o)) e ∙ ap (holding_together group) entry_there.1))
        (λ (ne : other ≢ p). ap (holding_together group) (others other ne)) (cases_eq other p)

    was_one_less : (other : ℕ) (e : Entry X) → get left other ≡ Some e → (old : Entry X) × (get table other ≡ Some old)
        × (e.block ≡ old.block) × (e.owners ≡ old.owners + cond (is_at other (Some p)) 1 0)
    was_one_less other e at = ⊎_elim
        (λ (same : other ≡ p).
        let now : e ≡ record { block = entry_there.0.block; owners = entry_there.0.owners + 1 } = same_Some e _ (sym at ∙ ap (get left) same ∙ now_there) in (
          entry_there.0,
          ap (get table) same ∙ entry_there.1,
          ap (λ (e : Entry X). e.block) now,
          ap (λ (e : Entry X). e.owners) now
              ∙ ap (λ b. entry_there.0.owners + cond b 1 0) (sym (eq-eqb p other (sym same))),
        ))
        (λ (ne : other ≢ p). (
          e,
          sym (others other ne)
              ∙ at,
          refl,
          sym (ap (λ b. e.owners + cond b 1 0) (ne_eqb p other (λ i. ne (sym i))) ∙ add-zero e.owners),
        ))
        (cases_eq other p)

    still_there : (other : ℕ) → is_some (get left other) ≡ is_some (get table other)
    still_there other = ⊎_elim
        (λ (e : other ≡ p). ap (λ o. is_some (get left o)) e ∙ ap is_some now_there ∙ sym (ap (λ o. is_some (get table o)) e ∙ ap is_some entry_there.1))
        (λ (ne : other ≢ p). ap is_some (others other ne)) (cases_eq other p)

    pub block_shared_names : names_of after left ≡ join x y (holding_in places table (Some p)) (names_of places table)
    block_shared_names = shared_names places after table left is x y (Some p) source free found same_block was_one_less still_there len

    pub block_shared_table : IsTable after left
    block_shared_table = shared_table places after table left is x y (Some p) source free found same_block was_one_less still_there len
