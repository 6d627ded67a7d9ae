-- What a table stands for after a name is made, placed, taken from its group, put in one or taken out.
use Rattle.std.proofs.Common.{◌≡◌, ◌≢◌, ℕ, ◌+◌, ◌<◌, ◌≤◌, false, cond, eqb, ltb, List, [], ◌∷◌, length, Option, Some, None, IsSome, refl, sym, ◌∙◌, ap, subst, arith, ⊎_elim}
use Rattle.std.specs.Prelude.{is_some}
use Rattle.std.specs.FinMap as finite
use Rattle.std.specs.Option.{option_map}
use Rattle.std.proofs.lemmas.Bool.{ne_eqb, eq-eqb, true≢false, cases_eq, lt-ltb}
use Rattle.std.proofs.lemmas.Option.{none-some, same_Some}
use Rattle.slab.specs.Slab.{Slab, get, slab_len}
use Rattle.ecow_base.specs.Capacity.{MAX}
use Rattle.ecow_model.specs.CountedRun.{nothing}
use Rattle.ecow_model.specs.Names.{Holding, IsSharing, without, forget, settle, blocks}
use Rattle.ecow_counted.proofs.Groups.{without_absent}
use Rattle.ecow_counted.proofs.Kept.{blocks-settle}
use Rattle.ecow_counted.proofs.Settled.{own_blocks, blocks_left}
use Rattle.ecow_counted.specs.declared.blocks.Entry.{Entry}
use Rattle.ecow_counted.specs.Places.{Places, names_at, holding_together, holding_in, names_of, IsOwned, IsTable}
use Rattle.ecow_counted.proofs.Placing.{found_at, member-names_at, get_names_of, sharing-table, names_of-forget, names_of-bare, names_of-settle, own_group, group_of_others}

-- what a name shows, by its place
module _ {X : Type 0} (places : Places) (table : Slab (Entry X)) (x : ℕ) where
  pub shown_at : (w : Option ℕ) → finite.get places x ≡ Some w → finite.get (names_of places table) x ≡ Some (holding_in places table w)
  shown_at w f = get_names_of places table x ∙ ap (option_map (holding_in places table)) f

  pub shown_entry : (p : ℕ) (entry : Entry X) → finite.get places x ≡ Some (Some p) → get table p ≡ Some entry
      → finite.get (names_of places table) x ≡ Some (record { items = entry.block.items; group = names_at p places; capacity = entry.block.capacity })
  shown_entry p entry f e = shown_at (Some p) f ∙ ap (λ s. Some (holding_together (names_at p places) s)) e

  pub shown_none : finite.get places x ≡ None → finite.get (names_of places table) x ≡ None
  shown_none f = get_names_of places table x ∙ ap (option_map (holding_in places table)) f

  pub absent_place : finite.get (names_of places table) x ≡ None → finite.get places x ≡ None
  absent_place none = elim (finite.get places x) as (λ o. option_map (holding_in places table) o ≡ None → o ≡ None) [
    | None ↦ λ _. refl
    | Some w ↦ λ e. absurd (none-some (holding_in places table w) (sym e))
  ] (sym (get_names_of places table x) ∙ none)

  pub some_place : IsSome (finite.get (names_of places table) x) → IsSome (finite.get places x)
  some_place some = elim (finite.get places x) as (λ o. finite.get places x ≡ o → IsSome o) [
    | None ↦ λ f. absurd (true≢false (sym some ∙ ap is_some (shown_none f)))
    | Some w ↦ λ _. refl
  ] refl

  module _ (is : IsTable places table) where
    pub entry_at : (p : ℕ) → finite.get places x ≡ Some (Some p) → (entry : Entry X) × (get table p ≡ Some entry)
    entry_at p source = elim (get table p) as (λ s. get table p ≡ s → IsSome s → (entry : Entry X) × (get table p ≡ Some entry)) [
      | None ↦ λ _ some. absurd (true≢false (sym some))
      | Some entry ↦ λ at _. (entry, at)
    ] refl (is.placed x p source)

    pub some_owners : (p : ℕ) (entry : Entry X) → get table p ≡ Some entry → 0 < length (names_at p places)
    some_owners p entry e = let own = is.owned p entry e in omega (arith, own.counted, own.some)

    pub bare_place : finite.get (names_of places table) x ≡ Some nothing → finite.get places x ≡ Some None
    bare_place bare = elim (finite.get places x) as (λ o. finite.get places x ≡ o → o ≡ Some None) [
      | None ↦ λ f. absurd (none-some nothing (sym (shown_none f) ∙ bare))
      | Some w ↦ elim w as (λ w. finite.get places x ≡ Some w → Some w ≡ Some None) [
        | None ↦ λ f. refl
        | Some p ↦ λ f.
            let there = entry_at p f in
            let same = same_Some _ _ (sym (shown_entry p there.0 f there.1) ∙ bare) in
            let few : length (names_at p places) ≡ 0 = ap (λ (h : Holding X). length h.group) same in
            absurd (omega (arith, some_owners p there.0 there.1, few))
      ]
    ] refl

-- a name without a block goes from one place to another
module _ {X : Type 0} (places after : Places) (table left : Slab (Entry X)) (is : IsTable places table) (x : ℕ) (v : Option (Option ℕ))
    (found : (q : ℕ) → finite.get after q ≡ cond (eqb q x) v (finite.get places q)) where
  found_other : (q : ℕ) → q ≢ x → finite.get after q ≡ finite.get places q
  found_other q ne = found q ∙ ap (λ b. cond b v (finite.get places q)) (ne_eqb q x ne)

  found_here : (q : ℕ) → q ≡ x → finite.get after q ≡ v
  found_here q e = found q ∙ ap (λ b. cond b v (finite.get places q)) (eq-eqb q x e)

  before : IsSharing (names_of places table)
  before = sharing-table places table is

  pub left_blocks : blocks (names_of places table) ≡ blocks (forget x (names_of places table)) + own_blocks (finite.get (names_of places table) x)
  left_blocks = blocks_left (names_of places table) x before

  pub settled_blocks : (items : List X) (capacity : ℕ) → length items ≤ capacity → capacity ≤ MAX
      → blocks (settle x items capacity (names_of places table)) ≡ blocks (forget x (names_of places table)) + cond (ltb 0 capacity) 1 0
  settled_blocks items capacity fits small = blocks-settle (names_of places table) x before items capacity fits small (λ items capacity. 1)

  module _ (bare : (other : ℕ) → found_at other (finite.get places x) ≡ false) where
    no_block : own_blocks (finite.get (names_of places table) x) ≡ 0
    no_block =
        ap own_blocks (get_names_of places table x)
        ∙ elim (finite.get places x) as (λ o. ((other : ℕ) → found_at other o ≡ false)
        → own_blocks (option_map (holding_in places table) o) ≡ 0) [
          | None ↦ λ _. refl
          | Some w ↦ elim w as (λ w. ((other : ℕ) → found_at other (Some w) ≡ false) → own_blocks (option_map (holding_in places table) (Some w)) ≡ 0) [
            | None ↦ λ _. refl
            | Some p ↦ λ none. absurd (true≢false (sym (eq-eqb p p refl) ∙ none p))
          ]
        ] bare

    unmoved : (other : ℕ) → without x (names_at other places) ≡ names_at other places
    unmoved other = without_absent x (names_at other places) (member-names_at other x places ∙ bare other)

    -- it has no block there either
    module _ (bare_after : (other : ℕ) → found_at other v ≡ false) where
      same_group : (other : ℕ) → names_at other after ≡ names_at other places
      same_group other =
          group_of_others places after table table x v found (λ q p ne f. bare_after p)
          (λ q p ne f group. refl) other (bare_after other) ∙ unmoved other

      still_table : blocks (names_of after table) ≡ blocks (names_of places table) → IsTable after table
      still_table same = record {
        placed = λ q other f. ⊎_elim
            (λ (e : q ≡ x). absurd (true≢false (sym (eq-eqb other other refl) ∙ ap (found_at other) (sym f ∙ found_here q e) ∙ bare_after other)))
            (λ (ne : q ≢ x). is.placed q other (sym (found_other q ne) ∙ f))
            (cases_eq q x);
        owned = λ other e at. subst (λ g. IsOwned e g) (sym (same_group other)) (is.owned other e at);
        blocks_are = is.blocks_are ∙ sym same;
      }

      pub removed_names : v ≡ None → names_of after table ≡ forget x (names_of places table)
      removed_names gone = names_of-forget places after table table x v found (λ q p ne f. bare_after p) (λ q p ne f group. refl) gone

      pub removed_table : v ≡ None → IsTable after table
      removed_table gone = still_table (ap blocks (removed_names gone) ∙ (let e = left_blocks in omega (arith, e, no_block)))

      pub made_names : v ≡ Some None → names_of after table ≡ settle x [] 0 (names_of places table)
      made_names made = names_of-bare places after table table x v found (λ q p ne f. bare_after p) (λ q p ne f group. refl) made

      pub made_table : v ≡ Some None → IsTable after table
      made_table made =
          still_table (ap blocks (made_names made)
          ∙ (let e = left_blocks in let n = settled_blocks [] 0 (omega arith) (omega arith) in omega (arith, e, n, no_block)))

    -- it has a block of its own there
    module _ (p : ℕ) (entry : Entry X) (goes : v ≡ Some (Some p)) (vacant : get table p ≡ None)
        (here : get left p ≡ Some entry) (others : (other : ℕ) → other ≢ p → get left other ≡ get table other) (len : slab_len left ≡ slab_len table + 1)
        (one : entry.owners ≡ 1) (fits : length entry.block.items ≤ entry.block.capacity)
        (small : entry.block.capacity ≤ MAX) (backed : 0 < entry.block.capacity) where
      apart : (q other : ℕ) → finite.get places q ≡ Some (Some other) → other ≢ p
      apart q other f e = true≢false (sym (is.placed q other f) ∙ ap is_some (ap (get table) e ∙ vacant))

      elsewhere : (other : ℕ) → p ≢ other → found_at other v ≡ false
      elsewhere other ne = ap (found_at other) goes ∙ ne_eqb p other ne

      pub placed_names : names_of after left ≡ settle x entry.block.items entry.block.capacity (names_of places table)
      placed_names = names_of-settle places after table left x v found
          (λ q other ne f. elsewhere other (λ e. apart q other f (sym e)))
          (λ q other ne f group. ap (holding_together group) (others other (apart q other f)))
          p entry goes here backed

      own_is : names_at p after ≡ x ∷ []
      own_is = own_group places after table left x v found
          (λ q other ne f. elsewhere other (λ e. apart q other f (sym e)))
          (λ q other ne f group. ap (holding_together group) (others other (apart q other f)))
          p entry goes here

      group_is : (other : ℕ) → p ≢ other → names_at other after ≡ names_at other places
      group_is other ne = group_of_others places after table left x v found
          (λ q other ne f. elsewhere other (λ e. apart q other f (sym e)))
          (λ q other ne f group. ap (holding_together group) (others other (apart q other f)))
          other (elsewhere other ne) ∙ unmoved other

      one_more : blocks (settle x entry.block.items entry.block.capacity (names_of places table)) ≡ blocks (names_of places table) + 1
      one_more =
          let e = left_blocks in
          let n = settled_blocks entry.block.items entry.block.capacity fits small in
          let one : ◌≡◌ {A = ℕ} (cond (ltb 0 entry.block.capacity) 1 0) 1 = ap (λ b. cond {A = ℕ} b 1 0) (lt-ltb 0 entry.block.capacity backed) in
          omega (arith, e, n, no_block, one)

      pub placed_table : IsTable after left
      placed_table = record {
        placed = λ q other f. ⊎_elim
            (λ (e : q ≡ x). subst (λ z. IsSome (get left z))
            (same_Some p other (same_Some (Some p) (Some other) (sym goes ∙ sym (found_here q e) ∙ f))) (ap is_some here))
            (λ (ne : q ≢ x). let there : finite.get places q ≡ Some (Some other) = sym (found_other q ne) ∙ f in
            ap is_some (others other (apart q other there)) ∙ is.placed q other there)
            (cases_eq q x);
        owned = λ other e at. ⊎_elim
            (λ (same : other ≡ p).
            let entry_is : entry ≡ e = same_Some entry e (sym here ∙ ap (get left) (sym same) ∙ at) in
            subst (λ g. IsOwned e g) (sym own_is ∙ ap (λ z. names_at z after) (sym same))
            (subst (λ e. IsOwned e (x ∷ [])) entry_is
            (record { counted = one; some = rw one (omega arith); fits = fits; small = small; backed = backed })))
            (λ (ne : other ≢ p).
            subst (λ g. IsOwned e g) (sym (group_is other (λ e. ne (sym e)))) (is.owned other e (sym (others other ne) ∙ at)))
            (cases_eq other p);
        blocks_are = len ∙ ap (λ n. n + 1) is.blocks_are ∙ sym (ap blocks placed_names ∙ one_more);
      }
