-- The changes of a table, by what they write, where its names are seen as `names`.
use Rattle.std.proofs.Common.{◌≡◌, ◌≢◌, ℕ, ◌+◌, ◌-◌, ◌<◌, ◌≤◌, ◌^◌, true, false, cond, eqb, [], length, Option, Some, None, IsSome, refl, sym, ◌∙◌, ap, subst, arith, ⊎_elim}
use Rattle.std.specs.Prelude.{is_some, List, slice_index_or, count_by}
use Rattle.std.specs.Ordering.{nat_cmp}
use Rattle.std.specs.Cmp.{nat_cmp_total}
use Rattle.std.specs.FinMap as finite
use Rattle.std.specs.Option.{option_map, unwrap_or}
use Rattle.std.proofs.lemmas.Bool.{ne_eqb, eq-eqb, true≢false, lt-ltb, cases_eq}
use Rattle.std.proofs.lemmas.Option.{none-some}
use Rattle.slab.specs.Slab.{Slab, get, slab_len, HasRoomFor}
use Rattle.ecow_base.specs.Capacity.{MAX}
use Rattle.ecow_block.specs.Contents.{Contents}
use Rattle.ecow_model.specs.CountedRun.{nothing, holding_at}
use Rattle.ecow_model.specs.Names.{Names, Holding, IsSharing, forget, settle, join, blocks, one_block}
use Rattle.ecow_counted.proofs.Sums.{same_nat, total-empty, get-insert_nat, get-remove_nat}
use Rattle.ecow_counted.proofs.Settled.{settle_bare}
use Rattle.ecow_counted.specs.declared.blocks.Entry.{Entry}
use Rattle.ecow_counted.specs.Sizes.{size_of, sole_block}
use Rattle.ecow_counted.specs.Places.{Places, names_at, holding_in, names_of, entry_in, has_room, IsOwned, IsTable}
use Rattle.ecow_counted.proofs.Placing.{found_at, get_names_of, sharing-table}
use Rattle.ecow_counted.proofs.Changes.{shown_at, shown_entry, shown_none, absent_place, some_place, entry_at, bare_place, removed_names, removed_table, made_names, made_table, placed_names, placed_table}
use Rattle.ecow_counted.proofs.Leaving.{left_names, left_table}
use Rattle.ecow_counted.proofs.Joining.{length-names_at, bare_shared_names, bare_shared_table, block_shared_names, block_shared_table}

pub room_for_one : {X : Type 0} (table : Slab (Entry X)) → HasRoomFor table 1 → has_room table ≡ true
room_for_one table h = lt-ltb (slab_len table) table.capacity (omega arith)

-- a block that was given left room
pub taken_room : {X P : Type 0} (entry : Entry X) → 0 < entry.owners → (given : Option (Contents X))
    → IsSome given → (entry.owners ≡ 1 → P) → (1 < entry.owners → given ≡ None) → P
taken_room {P = P} entry some given is last kept = ⊎_elim
    (λ (one : entry.owners ≡ 1). last one)
    (λ (ne : entry.owners ≢ 1). let gone : given ≡ None = kept (omega (arith, some, ne)) in absurd (true≢false (sym is ∙ ap is_some gone)))
    (cases_eq entry.owners 1)

-- where an entry is found by a name
found_entry : {X : Type 0} (table : Slab (Entry X)) (o : Option (Option ℕ)) (entry : Entry X)
    → entry_in table o ≡ Some entry → (p : ℕ) × (o ≡ Some (Some p)) × (get table p ≡ Some entry)
found_entry table None entry e = absurd (none-some entry e)
found_entry table (Some None) entry e = absurd (none-some entry e)
found_entry table (Some (Some p)) entry e = (p, refl, e)

module _ {X : Type 0} (places : Places) (table : Slab (Entry X)) (is : IsTable places table) (names : Names X) (shown : names_of places table ≡ names) where
  pub shared_names_are : IsSharing names
  shared_names_are = subst IsSharing shown (sharing-table places table is)

  module _ (x : ℕ) where
    seen : (o : Option (Holding X)) → finite.get names x ≡ o → finite.get (names_of places table) x ≡ o
    seen o at = ap (λ n. finite.get n x) shown ∙ at

    pub contained : finite.contains_key places x ≡ finite.contains_key names x
    contained =
        sym (sym (ap (λ n. finite.contains_key n x) shown) ∙ ap is_some (get_names_of places table x)
        ∙ elim (finite.get places x) as (λ o. is_some (option_map (holding_in places table) o) ≡ is_some o) [ None ↦ refl | Some w ↦ refl ])

    -- what an entry shows
    held_entry : (entry : Entry X) → entry_in table (finite.get places x) ≡ Some entry
        → (p : ℕ) × (finite.get names x ≡ Some (record { items = entry.block.items; group = names_at p places; capacity = entry.block.capacity }))
        × IsOwned entry (names_at p places)
    held_entry entry e =
        let there = found_entry table (finite.get places x) entry e in
        (there.0, sym (ap (λ n. finite.get n x) shown) ∙ shown_entry places table x there.0 entry there.1 there.2, is.owned there.0 entry there.2)

    held_bare : entry_in table (finite.get places x) ≡ None → IsSome (finite.get places x) → finite.get names x ≡ Some nothing
    held_bare none some =
        elim (finite.get places x) as (λ o. finite.get places x ≡ o → entry_in table o ≡ None → IsSome o → finite.get names x ≡ Some nothing) [
          | None ↦ λ f none some. absurd (true≢false (sym some))
          | Some w ↦ elim w as (λ w. finite.get places x ≡ Some w → entry_in table (Some w) ≡ None → IsSome (Some w) → finite.get names x ≡ Some nothing) [
            | None ↦ λ f none some. sym (ap (λ n. finite.get n x) shown) ∙ shown_at places table x None f
            | Some p ↦ λ f none some. let there = entry_at places table x is p f in absurd (none-some there.0 (sym none ∙ there.1))
          ]
        ] refl none some

    absent : finite.get places x ≡ None → finite.get names x ≡ None
    absent f = sym (ap (λ n. finite.get n x) shown) ∙ shown_none places table x f

    -- the list of a name with a block, and of one without
    pub list_shown : (entry : Entry X) → entry_in table (finite.get places x) ≡ Some entry → entry.block.items ≡ (holding_at names x).items
    list_shown entry e = let there = held_entry entry e in sym (ap (λ o. (unwrap_or o nothing).items) there.1)

    pub no_list_shown : entry_in table (finite.get places x) ≡ None → [] ≡ (holding_at names x).items
    no_list_shown none = elim (finite.get places x) as (λ o. finite.get places x ≡ o → [] ≡ (holding_at names x).items) [
      | None ↦ λ f. sym (ap (λ o. (unwrap_or o nothing).items) (absent f))
      | Some w ↦ λ f. sym (ap (λ o. (unwrap_or o nothing).items) (held_bare none (ap is_some f)))
    ] refl

    pub size_shown : (entry : Entry X) → entry_in table (finite.get places x) ≡ Some entry
        → Some (record { len = length entry.block.items; capacity = entry.block.capacity; owners = entry.owners })
        ≡ option_map size_of (finite.get names x)
    size_shown entry e =
        let there = held_entry entry e in
        sym (ap (option_map size_of) there.1
        ∙ ap (λ n. Some (record { len = length entry.block.items; capacity = entry.block.capacity; owners = n })) (sym there.2.counted))

    pub backed_shown : (entry : Entry X) → entry_in table (finite.get places x) ≡ Some entry → 0 < entry.block.capacity
    backed_shown entry e = (held_entry entry e).2.backed

    pub bare_shown : entry_in table (finite.get places x) ≡ None → IsSome (finite.get places x)
        → Some (record { len = 0; capacity = 0; owners = 0 }) ≡ option_map size_of (finite.get names x)
    bare_shown none some = sym (ap (option_map size_of) (held_bare none some))

    pub is_there : finite.contains_key places x ≡ true → IsSome (finite.get places x)
    is_there e = e

    pub no_size : finite.contains_key places x ≡ false → None ≡ option_map size_of (finite.get names x)
    no_size gone =
        elim (finite.get names x) as (λ o. is_some o ≡ false
        → None ≡ option_map size_of o) [ None ↦ λ _. refl | Some h ↦ λ e. absurd (true≢false e) ] (sym contained ∙ gone)

    -- an empty list without a block, under a new name
    module _ (after : Places) (written : after ≡ finite.insert places x None) (free : finite.get names x ≡ None) where
      unplaced : (other : ℕ) → found_at other (finite.get places x) ≡ false
      unplaced other = ap (found_at other) (absent_place places table x (seen None free))

      pub begun_names : names_of after table ≡ settle x [] 0 names
      begun_names =
          made_names places after table table is x (Some None) (λ q. ap (λ m. finite.get m q) written
          ∙ get-insert_nat places x None q) unplaced (λ other. refl) refl ∙ ap (settle x [] 0) shown

      pub begun_table : IsTable after table
      begun_table =
          made_table places after table table is x (Some None) (λ q. ap (λ m. finite.get m q) written
          ∙ get-insert_nat places x None q) unplaced (λ other. refl) refl

    -- a name without a block
    module _ (bare : finite.get names x ≡ Some nothing) where
      bare_at : finite.get places x ≡ Some None
      bare_at = bare_place places table x is (seen (Some nothing) bare)

      no_place : (other : ℕ) → found_at other (finite.get places x) ≡ false
      no_place other = ap (found_at other) bare_at

      pub there_still : IsSome (finite.get places x)
      there_still = ap is_some bare_at

      pub out_names : (after : Places) → after ≡ finite.remove places x → names_of after table ≡ forget x names
      out_names after written =
          removed_names places after table table is x None (λ q. ap (λ m. finite.get m q) written
          ∙ get-remove_nat places x q) no_place (λ other. refl) refl ∙ ap (forget x) shown

      pub out_table : (after : Places) → after ≡ finite.remove places x → IsTable after table
      out_table after written =
          removed_table places after table table is x None (λ q. ap (λ m. finite.get m q) written
          ∙ get-remove_nat places x q) no_place (λ other. refl) refl

      module _ (after : Places) (left : Slab (Entry X)) (p : ℕ) (entry : Entry X)
          (written : after ≡ finite.insert places x (Some p)) (vacant : get table p ≡ None)
          (here : get left p ≡ Some entry) (others : (other : ℕ) → other ≢ p → get left other ≡ get table other) (len : slab_len left ≡ slab_len table + 1)
          (one : entry.owners ≡ 1) (fits : length entry.block.items ≤ entry.block.capacity)
          (small : entry.block.capacity ≤ MAX) (backed : 0 < entry.block.capacity) where
        pub own_names : names_of after left ≡ settle x entry.block.items entry.block.capacity names
        own_names =
            placed_names places after table left is x (Some (Some p)) (λ q. ap (λ m. finite.get m q) written
            ∙ get-insert_nat places x (Some p) q) no_place p entry refl vacant here others len one fits small backed
            ∙ ap (settle x entry.block.items entry.block.capacity) shown

        pub own_table : IsTable after left
        own_table =
            placed_table places after table left is x (Some (Some p)) (λ q. ap (λ m. finite.get m q) written
            ∙ get-insert_nat places x (Some p) q) no_place p entry refl vacant here others len one fits small backed

    -- a name that is seen has a place
    pub has_place : IsSome (finite.get names x) → IsSome (finite.get places x)
    has_place some = some_place places table x (ap (λ n. is_some (finite.get n x)) shown ∙ some)

    pub bare_taken : entry_in table (finite.get places x) ≡ None → IsSome (finite.get names x)
        → (names ≡ settle x [] 0 names) × (None ≡ sole_block (finite.get names x))
    bare_taken none some =
        let bare : finite.get names x ≡ Some nothing = held_bare none (has_place some) in
        (sym (settle_bare names x shared_names_are bare), sym (ap sole_block bare))

    -- a name leaves its group
    module _ (p : ℕ) (source : finite.get places x ≡ Some (Some p)) (after : Places) (left : Slab (Entry X))
        (written : after ≡ finite.insert places x None) (entry : Entry X) (had : get table p ≡ Some entry)
        (last : entry.owners ≡ 1 → (get left p ≡ None) × (slab_len left + 1 ≡ slab_len table))
        (counted : 1 < entry.owners → (get left p ≡ Some (record { block = entry.block; owners = entry.owners - 1 })) × (slab_len left ≡ slab_len table))
        (others : (other : ℕ) → other ≢ p → get left other ≡ get table other) where
      pub taken_names : names_of after left ≡ settle x [] 0 names
      taken_names =
          left_names places after table left is x (λ q. ap (λ m. finite.get m q) written
          ∙ get-insert_nat places x None q) p source entry had last counted others ∙ ap (settle x [] 0) shown

      pub taken_table : IsTable after left
      taken_table =
          left_table places after table left is x (λ q. ap (λ m. finite.get m q) written
          ∙ get-insert_nat places x None q) p source entry had last counted others

    pub sole_shown : (entry : Entry X) → entry_in table (finite.get places x) ≡ Some entry
        → sole_block (finite.get names x) ≡ cond (eqb entry.owners 1) (Some entry.block) None
    sole_shown entry e =
        let there = held_entry entry e in
        ap sole_block there.1 ∙ ap (λ n. cond (eqb n 1) (Some entry.block) None) (sym there.2.counted)

    -- the block is given with the last name
    pub taken_block : (entry : Entry X) → entry_in table (finite.get places x) ≡ Some entry → (given : Option (Contents X))
        → (entry.owners ≡ 1 → given ≡ Some entry.block) → (1 < entry.owners → given ≡ None) → given ≡ sole_block (finite.get names x)
    taken_block entry e given last kept =
        let some : 0 < entry.owners = (held_entry entry e).2.some in
        ⊎_elim
        (λ (one : entry.owners ≡ 1). last one ∙ sym (sole_shown entry e ∙ ap (λ b. cond b (Some entry.block) None) (eq-eqb entry.owners 1 one)))
        (λ (ne : entry.owners ≢ 1). kept (omega (arith, some, ne))
        ∙ sym (sole_shown entry e ∙ ap (λ b. cond b (Some entry.block) None) (ne_eqb entry.owners 1 ne)))
        (cases_eq entry.owners 1)

  -- y is put in x's group
  module _ (x y : ℕ) (free : finite.get names y ≡ None) (after : Places) where
    free_place : finite.get places y ≡ None
    free_place = absent_place places table y (seen y None free)

    held_is : (w : Option ℕ) → finite.get places x ≡ Some w → holding_in places table w ≡ holding_at names x
    held_is w f = sym (ap (λ o. unwrap_or o nothing) (sym (ap (λ n. finite.get n x) shown) ∙ shown_at places table x w f))

    module _ (source : finite.get places x ≡ Some None) (written : after ≡ finite.insert places y None) where
      pub bare_joined_names : names_of after table ≡ join x y (holding_at names x) names
      bare_joined_names = bare_shared_names places after table is x y free_place source (λ q. ap (λ m. finite.get m q) written ∙ get-insert_nat places y None q)
          ∙ (λ i. join x y (held_is None source i) (shown i))

      pub bare_joined_table : IsTable after table
      bare_joined_table = bare_shared_table places after table is x y free_place source (λ q. ap (λ m. finite.get m q) written ∙ get-insert_nat places y None q)

    module _ (left : Slab (Entry X)) (p : ℕ) (source : finite.get places x ≡ Some (Some p)) (written : after ≡ finite.insert places y (Some p))
        (counted : (entry : Entry X) → get table p ≡ Some entry → get left p ≡ Some (record { block = entry.block; owners = entry.owners + 1 }))
        (others : (other : ℕ) → other ≢ p → get left other ≡ get table other) (len : slab_len left ≡ slab_len table) where
      pub joined_names : names_of after left ≡ join x y (holding_at names x) names
      joined_names =
          block_shared_names places after table is x y free_place left p source
          (λ q. ap (λ m. finite.get m q) written ∙ get-insert_nat places y (Some p) q) counted others len
          ∙ (λ i. join x y (held_is (Some p) source i) (shown i))

      pub joined_table : IsTable after left
      joined_table =
          block_shared_table places after table is x y free_place left p source
          (λ q. ap (λ m. finite.get m q) written ∙ get-insert_nat places y (Some p) q) counted others len

  -- there is one name less before a free one is put in
  pub few_before : (y : ℕ) (v : Option ℕ) (after : Places) → finite.get names y ≡ None
      → after ≡ finite.insert places y v → finite.len after < 2 ^ 64 → finite.len places + 1 < 2 ^ 64
  few_before y v after free written few =
      let one_more = finite.len-insert nat_cmp_total places y v
      ∙ ap (λ b. cond b (finite.len places) (finite.len places + 1)) (contained y ∙ ap is_some free) in
      subst (λ n. n < 2 ^ 64) (ap finite.len written ∙ one_more) few

  -- an entry counts no more names than there are
  pub owners_fit : (p : ℕ) (entry : Entry X) → get table p ≡ Some entry → finite.len places + 1 < 2 ^ 64 → entry.owners + 1 < 2 ^ 64
  owners_fit p entry at small = let own = is.owned p entry at in omega (arith, own.counted, length-names_at p places)

-- a table with no names and no blocks
module _ {X : Type 0} (table : Slab (Entry X)) (none : table.slots ≡ []) where
  pub no_names : names_of finite.empty table ≡ finite.empty
  no_names =
      same_nat _ _ (λ q. get_names_of finite.empty table q
      ∙ ap (option_map (holding_in finite.empty table)) (finite.get-empty nat_cmp q) ∙ sym (finite.get-empty nat_cmp q))

  pub empty_table : IsTable finite.empty table
  empty_table = record {
    placed = λ x p f. absurd (none-some (Some p) (sym (finite.get-empty nat_cmp x) ∙ f));
    owned = λ p entry e. absurd (none-some entry (sym (ap (λ (s : List (Option (Entry X))). slice_index_or s p None) none) ∙ e));
    blocks_are = ap (λ (s : List (Option (Entry X))). count_by is_some s) none ∙ sym (ap blocks no_names ∙ total-empty {X = Holding X} one_block);
  }
