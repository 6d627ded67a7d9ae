-- A name leaves its group: its entry counts one owner less, or is gone with the last.
use Rattle.std.proofs.Common.{◌≡◌, ◌≢◌, ℕ, ◌+◌, ◌-◌, ◌<◌, ◌≤◌, true, false, cond, not, ◌||◌, eqb, List, [], ◌∷◌, length, Some, None, refl, sym, ◌∙◌, ap, subst, arith, ⊎_elim}
use Rattle.std.specs.Prelude.{is_some}
use Rattle.std.specs.FinMap as finite
use Rattle.std.proofs.lemmas.Bool.{eqb-true, ne_eqb, eq-eqb, true≢false, cases_eq}
use Rattle.std.proofs.lemmas.Option.{none-some, same_Some}
use Rattle.slab.specs.Slab.{Slab, get, slab_len}
use Rattle.ecow_model.specs.Names.{IsRising, is_member, without, settle, blocks}
use Rattle.ecow_counted.proofs.Groups.{above_absent, without_absent}
use Rattle.ecow_counted.proofs.Kept.{is_member-without}
use Rattle.ecow_counted.proofs.Settled.{own_blocks}
use Rattle.ecow_counted.specs.declared.blocks.Entry.{Entry}
use Rattle.ecow_counted.specs.Places.{Places, names_at, holding_together, names_of, IsOwned, IsTable}
use Rattle.ecow_counted.proofs.Placing.{found_at, member-names_at, rising-names_at, names_of-bare, group_of_others}
use Rattle.ecow_counted.proofs.Changes.{shown_entry, left_blocks, settled_blocks}

-- a member that leaves makes a group one shorter
pub length-without : (x : ℕ) (group : List ℕ) → IsRising group → is_member x group ≡ true → length (without x group) + 1 ≡ length group
length-without x [] h m = absurd (true≢false (sym m))
length-without x (y ∷ group) h m =
    elim (eqb y x) as (λ b. eqb y x ≡ b → length (cond (not b) (y ∷ without x group) (without x group)) + 1 ≡ length (y ∷ group)) [
      | true ↦ λ t.
          let gone : without x group ≡ group = without_absent x group (ap (λ z. is_member z group) (sym (eqb-true y x t)) ∙ above_absent y group h.0) in
          let same : length (without x group) ≡ length group = ap length gone in omega arith
      | false ↦ λ t.
          let later : length (without x group) + 1 ≡ length group = length-without x group h.1 (ap (λ b. b || is_member x group) (sym t) ∙ m) in omega arith
    ] refl

one_at_least : (q : ℕ) (group : List ℕ) → is_member q group ≡ true → 1 ≤ length group
one_at_least q [] m = absurd (true≢false (sym m))
one_at_least q (y ∷ group) m = omega arith

module _ {X : Type 0} (places after : Places) (table left : Slab (Entry X)) (is : IsTable places table) (x : ℕ)
    (found : (q : ℕ) → finite.get after q ≡ cond (eqb q x) (Some None) (finite.get places q))
    (p : ℕ) (source : finite.get places x ≡ Some (Some p)) (entry : Entry X) (had : get table p ≡ Some entry)
    (last : entry.owners ≡ 1 → (get left p ≡ None) × (slab_len left + 1 ≡ slab_len table))
    (counted : 1 < entry.owners → (get left p ≡ Some (record { block = entry.block; owners = entry.owners - 1 })) × (slab_len left ≡ slab_len table))
    (others : (other : ℕ) → other ≢ p → get left other ≡ get table other) where
  own : IsOwned entry (names_at p places)
  own = is.owned p entry had

  x_member : is_member x (names_at p places) ≡ true
  x_member = member-names_at p x places ∙ ap (found_at p) source ∙ eq-eqb p p refl

  fewer : length (without x (names_at p places)) + 1 ≡ length (names_at p places)
  fewer = length-without x (names_at p places) (rising-names_at p places) x_member

  -- another name at the place: there are two at least
  two : (q : ℕ) → q ≢ x → finite.get places q ≡ Some (Some p) → 1 < entry.owners
  two q ne f =
      let m : is_member q (without x (names_at p places)) ≡ true =
      is_member-without q x (names_at p places) ∙ ap (λ b. cond b false (is_member q (names_at p places))) (ne_eqb q x ne)
      ∙ member-names_at p q places ∙ ap (found_at p) f ∙ eq-eqb p p refl in
      let some : 1 ≤ length (without x (names_at p places)) = one_at_least q (without x (names_at p places)) m in
      omega (arith, some, fewer, own.counted)

  same_block : (q other : ℕ) → q ≢ x → finite.get places q ≡ Some (Some other) → (group : List ℕ)
      → holding_together group (get left other) ≡ holding_together group (get table other)
  same_block q other ne f group = ⊎_elim
      (λ (e : other ≡ p). ap (λ o. holding_together group (get left o)) e
      ∙ ap (holding_together group) (counted (two q ne (f ∙ ap (λ o. Some (Some o)) e))).0
      ∙ sym (ap (λ o. holding_together group (get table o)) e ∙ ap (holding_together group) had))
      (λ (no_p : other ≢ p). ap (holding_together group) (others other no_p)) (cases_eq other p)

  pub left_names : names_of after left ≡ settle x [] 0 (names_of places table)
  left_names = names_of-bare places after table left x (Some None) found (λ q other ne f. refl) same_block refl

  group_after : (other : ℕ) → names_at other after ≡ without x (names_at other places)
  group_after other = group_of_others places after table left x (Some None) found (λ q other ne f. refl) same_block other refl

  sole : own_blocks (finite.get (names_of places table) x) ≡ cond (eqb entry.owners 1) 1 0
  sole = ap own_blocks (shown_entry places table x p entry source had) ∙ ap (λ n. cond (eqb n 1) 1 0) (sym own.counted)

  block_count : slab_len left ≡ blocks (settle x [] 0 (names_of places table))
  block_count =
      let split = left_blocks places after table left is x (Some None) found in
      let now = settled_blocks places after table left is x (Some None) found [] 0 (omega arith) (omega arith) in
      let before : slab_len table ≡ blocks (names_of places table) = is.blocks_are in
      ⊎_elim
      (λ (e : entry.owners ≡ 1).
      let one : ◌≡◌ {A = ℕ} (own_blocks (finite.get (names_of places table) x)) 1 = sole ∙ ap (λ b. cond {A = ℕ} b 1 0) (eq-eqb entry.owners 1 e) in
      omega (arith, split, now, before, one, (last e).1))
      (λ (ne : entry.owners ≢ 1).
      let none : ◌≡◌ {A = ℕ} (own_blocks (finite.get (names_of places table) x)) 0 = sole ∙ ap (λ b. cond {A = ℕ} b 1 0) (ne_eqb entry.owners 1 ne) in
      omega (arith, split, now, before, none, (counted (omega (arith, own.some, ne))).1))
      (cases_eq entry.owners 1)

  not_here : (q other : ℕ) → finite.get after q ≡ Some (Some other) → q ≢ x
  not_here q other f e = none-some other (same_Some None (Some other) (sym (found q ∙ ap (λ b. cond b (Some None) (finite.get places q)) (eq-eqb q x e)) ∙ f))

  pub left_table : IsTable after left
  left_table = record {
    placed = λ q other f.
        let ne : q ≢ x = not_here q other f in
        let was : finite.get places q ≡ Some (Some other) = sym (found q ∙ ap (λ b. cond b (Some None) (finite.get places q)) (ne_eqb q x ne)) ∙ f in
        ⊎_elim
        (λ (e : other ≡ p). ap (λ o. is_some (get left o)) e ∙ ap is_some (counted (two q ne (was ∙ ap (λ o. Some (Some o)) e))).0)
        (λ (no_p : other ≢ p). ap is_some (others other no_p) ∙ is.placed q other was)
        (cases_eq other p);
    owned = λ other e at. ⊎_elim
        (λ (same : other ≡ p). ⊎_elim
        (λ (one : entry.owners ≡ 1). absurd (none-some e (sym (last one).0 ∙ ap (get left) (sym same) ∙ at)))
        (λ (ne : entry.owners ≢ 1).
        let more : 1 < entry.owners = omega (arith, own.some, ne) in
        let e_is : record { block = entry.block; owners = entry.owners - 1 } ≡ e = same_Some _ e (sym (counted more).0 ∙ ap (get left) (sym same) ∙ at) in
        let left_over : length (names_at other after) + 1 ≡ entry.owners =
        ap (λ n. n + 1) (ap length (group_after other) ∙ ap (λ o. length (without x (names_at o places))) same) ∙ fewer ∙ sym own.counted in
        subst (λ (e : Entry X). IsOwned e (names_at other after)) e_is
        (record { counted = omega (arith, left_over); some = omega (arith, more); fits = own.fits; small = own.small; backed = own.backed }))
        (cases_eq entry.owners 1))
        (λ (no_p : other ≢ p).
        let old = is.owned other e (sym (others other no_p) ∙ at) in
        subst (λ g. IsOwned e g)
        (sym (group_after other ∙ without_absent x (names_at other places) (member-names_at other x places
        ∙ ap (found_at other) source ∙ ne_eqb p other (λ e. no_p (sym e))))) old)
        (cases_eq other p);
    blocks_are = block_count ∙ sym (ap blocks left_names);
  }
