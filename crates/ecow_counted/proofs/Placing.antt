-- The names at a place, and what a table stands for after one name has gone to another place.
use Rattle.std.proofs.Common.{◌≡◌, ◌≢◌, ℕ, ◌<◌, ◌≤◌, Bool, true, false, cond, ◌||◌, T, eqb, ltb, List, [], ◌∷◌, map, length, Option, Some, None, IsSome, refl, sym, ◌∙◌, ap, subst, arith, ◌⊎◌, inl, inr, ⊎_elim}
use Rattle.std.specs.Prelude.{filter, slice_index_or, count_by, is_some}
use Rattle.std.specs.FinMap as finite
use Rattle.std.specs.FinMap.Entries.{find, is_sorted, below_all}
use Rattle.std.specs.Option.{option_map}
use Rattle.std.specs.Ordering.{nat_cmp, eq_by_cmp}
use Rattle.std.proofs.lemmas.Bool.{eqb-true, eqb-false, ne_eqb, eq-eqb, true≢false, cases_eq, lt-ltb, or_cases, false_from_ne_true}
use Rattle.std.proofs.lemmas.Option.{none-some, same_Some}
use Rattle.slab.specs.Slab.{Slab, get}
use Rattle.ecow_base.specs.Capacity.{MAX}
use Rattle.ecow_model.specs.CountedRun.{nothing}
use Rattle.ecow_model.specs.Names.{Holding, IsSharing, IsRising, is_member, without, leave, forget, settle, blocks}
use Rattle.ecow_model.proofs.Contents.{get-map_values}
use Rattle.ecow_counted.proofs.Sums.{ties, first, second, below, missed, same_nat, get-insert_nat}
use Rattle.ecow_counted.proofs.Groups.{above_absent}
use Rattle.ecow_counted.proofs.Kept.{is_member-without, rising-without, get_forget_other, get_forget_none, get_forget_itself}
use Rattle.ecow_counted.specs.declared.blocks.Entry.{Entry}
use Rattle.ecow_counted.specs.Places.{Places, is_at, names_in, names_at, holding_together, holding_in, names_of, IsOwned, IsTable}

-- whether the name found has this place
abbrev pub found_at : ℕ → Option (Option ℕ) → Bool
found_at p None = false
found_at p (Some v) = is_at p v

member-names_in : (p q : ℕ) (es : List (ℕ × Option ℕ)) → T (is_sorted nat_cmp es) → is_member q (names_in p es) ≡ found_at p (find nat_cmp q es)
member-names_in p q [] h = refl
member-names_in p q (e ∷ es) h =
    let later : is_member q (names_in p es) ≡ found_at p (find nat_cmp q es) = member-names_in p q es (second _ _ h) in
    elim (is_at p e.1) as (λ b. is_at p e.1 ≡ b
    → is_member q (map (λ (e : ℕ × Option ℕ). e.0) (cond b (e ∷ filter (λ e. is_at p e.1) es) (filter (λ e. is_at p e.1) es)))
    ≡ found_at p (cond (eq_by_cmp nat_cmp q e.0) (Some e.1) (find nat_cmp q es))) [
      | true ↦ λ t. elim (eqb q e.0) as (λ c. eqb q e.0 ≡ c
          → (eqb e.0 q || is_member q (names_in p es)) ≡ found_at p (cond (eq_by_cmp nat_cmp q e.0) (Some e.1) (find nat_cmp q es))) [
            | true ↦ λ c. ap (λ b. b || is_member q (names_in p es)) (eq-eqb e.0 q (sym (eqb-true q e.0 c))) ∙ sym t
                ∙ ap (λ b. found_at p (cond b (Some e.1) (find nat_cmp q es))) (sym (ties q e.0 ∙ c))
            | false ↦ λ c. ap (λ b. b || is_member q (names_in p es)) (ne_eqb e.0 q (λ i. eqb-false q e.0 c (sym i)))
                ∙ later ∙ ap (λ b. found_at p (cond b (Some e.1) (find nat_cmp q es))) (sym (ties q e.0 ∙ c))
          ] refl
      | false ↦ λ t. elim (eqb q e.0) as (λ c. eqb q e.0 ≡ c
          → is_member q (names_in p es) ≡ found_at p (cond (eq_by_cmp nat_cmp q e.0) (Some e.1) (find nat_cmp q es))) [
            | true ↦ λ c. later ∙ ap (found_at p) (missed q es (subst (λ k. T (below_all nat_cmp k es)) (sym (eqb-true q e.0 c)) (first _ _ h)))
                ∙ sym t ∙ ap (λ b. found_at p (cond b (Some e.1) (find nat_cmp q es))) (sym (ties q e.0 ∙ c))
            | false ↦ λ c. later ∙ ap (λ b. found_at p (cond b (Some e.1) (find nat_cmp q es))) (sym (ties q e.0 ∙ c))
          ] refl
    ] refl

-- a key below all others is below the names at a place
below_names : (p k : ℕ) (es : List (ℕ × Option ℕ)) → T (below_all nat_cmp k es) → (y : ℕ) → is_member y (names_in p es) ≡ true → k < y
below_names p k [] h y m = absurd (true≢false (sym m))
below_names p k (e ∷ es) h y m =
    elim (is_at p e.1) as (λ b.
    is_member y (map (λ (e : ℕ × Option ℕ). e.0) (cond b (e ∷ filter (λ e. is_at p e.1) es) (filter (λ e. is_at p e.1) es))) ≡ true → k < y) [
      | true ↦ λ m. ⊎_elim (λ (is : eqb e.0 y ≡ true). let lt : k < e.0 = below k e.0 (first _ _ h) in
          let same : e.0 ≡ y =
          eqb-true e.0 y is in omega arith) (λ (in' : is_member y (names_in p es) ≡ true). below_names p k es (second _ _ h) y in')
          (or_cases (eqb e.0 y) (is_member y (names_in p es)) m)
      | false ↦ λ m. below_names p k es (second _ _ h) y m
    ] m

rising-names_in : (p : ℕ) (es : List (ℕ × Option ℕ)) → T (is_sorted nat_cmp es) → IsRising (names_in p es)
rising-names_in p [] h = tt
rising-names_in p (e ∷ es) h =
    elim (is_at p e.1) as (λ b.
    IsRising (map (λ (e : ℕ × Option ℕ). e.0) (cond b (e ∷ filter (λ e. is_at p e.1) es) (filter (λ e. is_at p e.1) es)))) [
      | true ↦ (below_names p e.0 es (first _ _ h), rising-names_in p es (second _ _ h))
      | false ↦ rising-names_in p es (second _ _ h)
    ]

pub member-names_at : (p q : ℕ) (places : Places) → is_member q (names_at p places) ≡ found_at p (finite.get places q)
member-names_at p q places = member-names_in p q (finite.entries places) (finite.entries_sorted places) ∙ ap (found_at p) (sym (finite.get-entries places q))

pub rising-names_at : (p : ℕ) (places : Places) → IsRising (names_at p places)
rising-names_at p places = rising-names_in p (finite.entries places) (finite.entries_sorted places)

pub found_from : (p q : ℕ) (places : Places) → found_at p (finite.get places q) ≡ true → finite.get places q ≡ Some (Some p)
found_from p q places h = elim (finite.get places q) as (λ o. found_at p o ≡ true → o ≡ Some (Some p)) [
  | None ↦ λ e. absurd (true≢false (sym e))
  | Some v ↦ elim v as (λ v. is_at p v ≡ true → Some v ≡ Some (Some p)) [
    | None ↦ λ e.
        absurd (true≢false (sym e))
    | Some r ↦ λ e. ap (λ z. Some (Some z)) (eqb-true r p e)
  ]
] h

-- a member of a rising group is its head or past it
within : (x y : ℕ) (k : List ℕ) → IsRising (y ∷ k) → is_member x (y ∷ k) ≡ true → (y ≡ x) ⊎ (y < x)
within x y k h m = ⊎_elim (λ (e : eqb y x ≡ true). inl (eqb-true y x e)) (λ (e : is_member x k ≡ true). inr (h.0 x e)) (or_cases (eqb y x) (is_member x k) m)

-- rising groups with the same members are the same
pub rising_same : (g k : List ℕ) → IsRising g → IsRising k → ((q : ℕ) → is_member q g ≡ is_member q k) → g ≡ k
rising_same [] [] a b same = refl
rising_same [] (y ∷ k) a b same = absurd (true≢false (sym (same y ∙ ap (λ t. t || is_member y k) (eq-eqb y y refl))))
rising_same (x ∷ g) [] a b same = absurd (true≢false (sym (ap (λ t. t || is_member x g) (eq-eqb x x refl)) ∙ same x))
rising_same (x ∷ g) (y ∷ k) a b same =
    let x_in : (y ≡ x) ⊎ (y < x) = within x y k b (sym (same x) ∙ ap (λ t. t || is_member x g) (eq-eqb x x refl)) in
    let y_in : (x ≡ y) ⊎ (x < y) = within y x g a (same y ∙ ap (λ t. t || is_member y k) (eq-eqb y y refl)) in
    let head : x ≡ y = ⊎_elim (λ (e : y ≡ x). sym e) (λ (l : y < x). ⊎_elim (λ (e : x ≡ y). e) (λ (m : x < y). absurd (omega arith)) y_in) x_in in
    λ i. head i ∷ rising_same g k a.1 b.1 (λ q. ⊎_elim
    (λ (e : q ≡ x). ap (λ z. is_member z g) e ∙ above_absent x g a.0 ∙ sym (ap (λ z. is_member z k) (e ∙ head) ∙ above_absent y k b.0))
    (λ (ne : q ≢ x). sym (ap (λ t. t || is_member q g) (ne_eqb x q (λ e. ne (sym e)))) ∙ same q
    ∙ ap (λ t. t || is_member q k) (ne_eqb y q (λ e. ne (sym (head ∙ e)))))
    (cases_eq q x)) i

module _ {X : Type 0} where
  pub get_names_of : (places : Places) (table : Slab (Entry X)) (q : ℕ)
      → finite.get (names_of places table) q ≡ option_map (holding_in places table) (finite.get places q)
  get_names_of places table q = get-map_values (holding_in places table) places q

  -- what a name holds: nothing, or what its place's entry has
  holds : (places : Places) (table : Slab (Entry X)) → IsTable places table → (x : ℕ) (h : Holding X)
      → finite.get (names_of places table) x ≡ Some h → (P : Holding X → Type 0)
      → P nothing
      → ((p : ℕ) (entry : Entry X) → finite.get places x ≡ Some (Some p) → get table p ≡ Some entry
      → IsOwned entry (names_at p places)
      → P (record { items = entry.block.items; group = names_at p places; capacity = entry.block.capacity }))
      → P h
  holds places table is x h at P bare placed =
      elim (finite.get places x) as (λ o. finite.get places x ≡ o → option_map (holding_in places table) o ≡ Some h → P h) [
        | None ↦ λ f e. absurd (none-some h e)
        | Some v ↦ elim v as (λ v. finite.get places x ≡ Some v → option_map (holding_in places table) (Some v) ≡ Some h → P h) [
          | None ↦ λ f e. subst P (same_Some _ _ e) bare
          | Some p ↦ λ f e. subst P (same_Some _ _ e) (elim (get table p) as (λ s. get table p ≡ s → IsSome s → P (holding_together (names_at p places) s)) [
            | None ↦ λ _ some. absurd (true≢false (sym some))
            | Some entry ↦ λ have _. placed p entry f have (is.owned p entry have)
          ] refl (is.placed x p f))
        ]
      ] refl (sym (get_names_of places table x) ∙ at)

  -- a table's names hold blocks in groups
  pub sharing-table : (places : Places) (table : Slab (Entry X)) → IsTable places table → IsSharing (names_of places table)
  sharing-table places table is =
      record {
        common = λ x y h at m. holds places table is x h at (λ h. is_member y h.group ≡ true → finite.get (names_of places table) y ≡ Some h)
            (λ m. absurd (true≢false (sym m)))
            (λ p entry found have owned m.
            get_names_of places table y
            ∙ ap (option_map (holding_in places table)) (found_from p y places (sym (member-names_at p y places) ∙ m))
            ∙ ap (λ e. Some (holding_together (names_at p places) e)) have) m;
        itself = λ x h at. holds places table is x h at (λ h. (h.group ≡ []) ⊎ (is_member x h.group ≡ true))
            (inl refl)
            (λ p entry found have owned. inr (member-names_at p x places ∙ ap (found_at p) found ∙ eq-eqb p p refl));
        rising = λ x h at. holds places table is x h at (λ h. IsRising h.group) tt (λ p entry found have owned. rising-names_at p places);
        fits = λ x h at. holds places table is x h at (λ h. (length h.items ≤ h.capacity) × (h.capacity ≤ MAX))
            (omega arith, omega arith) (λ p entry found have owned. (owned.fits, owned.small));
        bare = λ x h at. holds places table is x h at (λ h. h.group ≡ [] → h.capacity ≡ 0) (λ e. refl) (λ p entry found have owned e.
            let none : length (names_at p places) ≡ 0 = ap length e in absurd (omega (arith, owned.counted, owned.some, none)));
      }

  leave_together : (x : ℕ) (group : List ℕ) (slot : Option (Entry X)) → leave x (holding_together group slot) ≡ holding_together (without x group) slot
  leave_together x group None = refl
  leave_together x group (Some entry) = refl

  -- x goes to the place v, and the entries of the other names' places show what they showed
  module _ (places after : Places) (table left : Slab (Entry X)) (x : ℕ) (v : Option (Option ℕ))
      (found : (q : ℕ) → finite.get after q ≡ cond (eqb q x) v (finite.get places q))
      (alone : (q other : ℕ) → q ≢ x → finite.get places q ≡ Some (Some other) → found_at other v ≡ false)
      (others : (q other : ℕ) → q ≢ x → finite.get places q ≡ Some (Some other) → (group : List ℕ)
      → holding_together group (get left other) ≡ holding_together group (get table other)) where
    found_other : (q : ℕ) → q ≢ x → finite.get after q ≡ finite.get places q
    found_other q ne = found q ∙ ap (λ b. cond b v (finite.get places q)) (ne_eqb q x ne)

    found_here : finite.get after x ≡ v
    found_here = found x ∙ ap (λ b. cond b v (finite.get places x)) (eq-eqb x x refl)

    pub group_of_others : (other : ℕ) → found_at other v ≡ false → names_at other after ≡ without x (names_at other places)
    group_of_others other apart =
        rising_same _ _ (rising-names_at other after) (rising-without x (names_at other places) (rising-names_at other places))
        (λ q. member-names_at other q after ∙ ⊎_elim
        (λ (e : q ≡ x). ap (λ z. found_at other (finite.get after z)) e ∙ ap (found_at other) found_here ∙ apart
        ∙ sym (is_member-without q x (names_at other places) ∙ ap (λ b. cond b false (is_member q (names_at other places))) (eq-eqb q x e)))
        (λ (ne : q ≢ x). ap (found_at other) (found_other q ne) ∙ sym (member-names_at other q places)
        ∙ sym (is_member-without q x (names_at other places) ∙ ap (λ b. cond b false (is_member q (names_at other places))) (ne_eqb q x ne)))
        (cases_eq q x))

    at_other : (q : ℕ) → q ≢ x → finite.get (names_of after left) q ≡ finite.get (forget x (names_of places table)) q
    at_other q ne = get_names_of after left q ∙ ap (option_map (holding_in after left)) (found_other q ne) ∙
        elim (finite.get places q) as (λ o. finite.get places q ≡ o → option_map (holding_in after left) o ≡ finite.get (forget x (names_of places table)) q) [
          | None ↦ λ is. sym (get_forget_none (names_of places table) x q (get_names_of places table q ∙ ap (option_map (holding_in places table)) is))
          | Some w ↦ elim w as (λ w. finite.get places q ≡ Some w
              → option_map (holding_in after left) (Some w) ≡ finite.get (forget x (names_of places table)) q) [
                | None ↦ λ is. sym (get_forget_other (names_of places table) x q nothing ne
                    (get_names_of places table q ∙ ap (option_map (holding_in places table)) is))
                | Some other ↦ λ is.
                    ap (λ g. Some (holding_together g (get left other))) (group_of_others other (alone q other ne is))
                    ∙ ap Some (others q other ne is (without x (names_at other places)))
                    ∙ ap Some (sym (leave_together x (names_at other places) (get table other)))
                    ∙ sym (get_forget_other (names_of places table) x q (holding_in places table (Some other)) ne
                    (get_names_of places table q ∙ ap (option_map (holding_in places table)) is))
              ]
        ] refl

    -- x is gone
    pub names_of-forget : v ≡ None → names_of after left ≡ forget x (names_of places table)
    names_of-forget gone = same_nat _ _ (λ q. ⊎_elim
        (λ (e : q ≡ x). ap (finite.get (names_of after left)) e ∙ get_names_of after left x
        ∙ ap (option_map (holding_in after left)) (found_here ∙ gone)
        ∙ sym (ap (finite.get (forget x (names_of places table))) e ∙ get_forget_itself (names_of places table) x))
        (λ (ne : q ≢ x). at_other q ne) (cases_eq q x))

    -- x is there with this list and capacity
    by_settle : (items : List X) (capacity : ℕ)
        → option_map (holding_in after left) v ≡ Some (record { items = items; group = cond (ltb 0 capacity) (x ∷ []) []; capacity = capacity })
        → names_of after left ≡ settle x items capacity (names_of places table)
    by_settle items capacity own = same_nat _ _ (λ q. ⊎_elim
        (λ (e : q ≡ x).
        ap (finite.get (names_of after left)) e ∙ get_names_of after left x ∙ ap (option_map (holding_in after left)) found_here ∙ own
        ∙ sym (get-insert_nat (forget x (names_of places table)) x _ q
        ∙ ap (λ b. cond b (Some (record { items = items; group = cond (ltb 0 capacity) (x ∷ []) []; capacity = capacity }))
        (finite.get (forget x (names_of places table)) q)) (eq-eqb q x e)))
        (λ (ne : q ≢ x). at_other q ne ∙ sym (get-insert_nat (forget x (names_of places table)) x _ q
        ∙ ap (λ b. cond b (Some (record { items = items; group = cond (ltb 0 capacity) (x ∷ []) []; capacity = capacity }))
        (finite.get (forget x (names_of places table)) q)) (ne_eqb q x ne)))
        (cases_eq q x))

    pub names_of-bare : v ≡ Some None → names_of after left ≡ settle x [] 0 (names_of places table)
    names_of-bare is = by_settle [] 0 (ap (option_map (holding_in after left)) is)

    module _ (p : ℕ) (entry : Entry X) (is : v ≡ Some (Some p)) (here : get left p ≡ Some entry) where
      pub own_group : names_at p after ≡ x ∷ []
      own_group =
          rising_same (names_at p after) (x ∷ []) (rising-names_at p after)
          (λ y m. absurd (true≢false (sym m)), tt) (λ q. member-names_at p q after ∙ ⊎_elim
          (λ (e : q ≡ x). ap (λ z. found_at p (finite.get after z)) e ∙ ap (found_at p) (found_here ∙ is)
          ∙ eq-eqb p p refl ∙ sym (ap (λ b. b || false) (eq-eqb x q (sym e))))
          (λ (ne : q ≢ x). ap (found_at p) (found_other q ne) ∙ false_from_ne_true (found_at p (finite.get places q))
          (λ t. true≢false (sym (eq-eqb p p refl) ∙ sym (ap (found_at p) is) ∙ alone q p ne (found_from p q places t)))
          ∙ sym (ap (λ b. b || false) (ne_eqb x q (λ e. ne (sym e)))))
          (cases_eq q x))

      pub names_of-settle : 0 < entry.block.capacity → names_of after left ≡ settle x entry.block.items entry.block.capacity (names_of places table)
      names_of-settle backed = by_settle entry.block.items entry.block.capacity (
          ap (option_map (holding_in after left)) is ∙ ap (λ s. Some (holding_together (names_at p after) s)) here
          ∙ ap (λ g. Some (record { items = entry.block.items; group = g; capacity = entry.block.capacity })) (own_group
          ∙ sym (ap (λ b. cond b (x ∷ []) []) (lt-ltb 0 entry.block.capacity backed))))

  pub same_names : (places : Places) (table left : Slab (Entry X)) → left.slots ≡ table.slots → names_of places table ≡ names_of places left
  same_names places table left same =
      same_nat _ _ (λ q. get_names_of places table q
      ∙ elim (finite.get places q) as (λ o. option_map (holding_in places table) o ≡ option_map (holding_in places left) o) [
        | None ↦ refl
        | Some w ↦ elim w as (λ w. Some (holding_in places table w)
            ≡ Some (holding_in places left w)) [
              | None ↦ refl
              | Some p ↦ ap (λ (s : List (Option (Entry X))). Some
                  (holding_together (names_at p places) (slice_index_or s p None))) (sym same)
            ]
      ] ∙ sym (get_names_of places left q))

  -- a table with the same entries
  pub same_table : (places : Places) (table left : Slab (Entry X)) → left.slots ≡ table.slots → IsTable places table → IsTable places left
  same_table places table left same is = record {
    placed = λ x p f. subst (λ (s : List (Option (Entry X))). IsSome (slice_index_or s p None)) (sym same) (is.placed x p f);
    owned = λ p entry e. is.owned p entry (ap (λ (s : List (Option (Entry X))). slice_index_or s p None) (sym same) ∙ e);
    blocks_are = ap (λ (s : List (Option (Entry X))). count_by is_some s) same ∙ is.blocks_are ∙ ap blocks (same_names places table left same);
  }
