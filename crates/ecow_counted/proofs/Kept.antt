-- Leaving, settling and joining keep what groups are.
use Rattle.std.proofs.Common.{◌≡◌, ◌≢◌, ℕ, ◌+◌, ◌<◌, ◌≤◌, Bool, true, false, cond, not, ◌||◌, eqb, ltb, List, [], ◌∷◌, length, Option, Some, None, refl, sym, ◌∙◌, ap, subst, arith, ◌⊎◌, inl, inr, ⊎_elim}
use Rattle.std.specs.FinMap as finite
use Rattle.std.specs.Option.{option_map}
use Rattle.std.proofs.lemmas.Bool.{eqb-true, eqb-false, ne_eqb, eq-eqb, true≢false, cases_eq, ltb-true, ltb-false, or_cases}
use Rattle.std.proofs.lemmas.Option.{none-some, same_Some}
use Rattle.ecow_base.specs.Capacity.{MAX}
use Rattle.ecow_model.specs.Names.{Names, Holding, IsSharing, IsRising, is_member, without, with_name, head_of, leave, forget, settle, total, debt, debt_of, past_head, at_head, block_number}
use Rattle.ecow_counted.proofs.Sums.{total-insert, get-remove_nat, get-insert_nat}
use Rattle.ecow_model.proofs.Contents.{get-map_values}
use Rattle.ecow_counted.proofs.Groups.{without_absent, kept_by_remove}

or_swap : (a b c : Bool) → (a || (b || c)) ≡ (b || (a || c))
or_swap true true c = refl
or_swap true false c = refl
or_swap false b c = refl

or_first : (a b : Bool) → (a || b) ≡ false → a ≡ false
or_first true b e = e
or_first false b e = refl

or_second : (a b : Bool) → (a || b) ≡ false → b ≡ false
or_second true b e = absurd (true≢false e)
or_second false b e = e

strictly : (z x y : ℕ) → z ≤ x → z ≢ x → x ≡ y → z < y
strictly z x y le apart is = omega arith

pub is_member-without : (y x : ℕ) (group : List ℕ) → is_member y (without x group) ≡ cond (eqb y x) false (is_member y group)
is_member-without y x [] = elim (eqb y x) as (λ b. false ≡ cond b false false) [ true ↦ refl | false ↦ refl ]
is_member-without y x (z ∷ group) =
    elim (eqb z x) as (λ b. eqb z x ≡ b
    → is_member y (cond (not b) (z ∷ without x group) (without x group)) ≡ cond (eqb y x) false (eqb z y || is_member y group)) [
      | true ↦ λ t. is_member-without y x group
          ∙ elim (eqb y x) as (λ c. eqb y x ≡ c → cond c false (is_member y group) ≡ cond c false (eqb z y || is_member y group)) [
            | true ↦ λ _. refl
            | false ↦ λ c. ap (λ b. b || is_member y group) (sym (ne_eqb z y (λ e. eqb-false y x c (sym e ∙ eqb-true z x t))))
          ] refl
      | false ↦ λ t. ap (λ b. eqb z y || b) (is_member-without y x group)
          ∙ elim (eqb y x) as (λ c. eqb y x ≡ c → (eqb z y || cond c false (is_member y group)) ≡ cond c false (eqb z y || is_member y group)) [
            | true ↦ λ c. ap (λ b. b || false) (ne_eqb z y (λ e. eqb-false z x t (e ∙ eqb-true y x c)))
            | false ↦ λ _. refl
          ] refl
    ] refl

member_of_without : (y x : ℕ) (group : List ℕ) → is_member y (without x group) ≡ true → is_member y group ≡ true
member_of_without y x group m = elim (eqb y x) as (λ b. cond b false (is_member y group) ≡ true → is_member y group ≡ true) [
  | true ↦ λ e. absurd (true≢false (sym e))
  | false ↦ λ e. e
] (sym (is_member-without y x group) ∙ m)

pub rising-without : (x : ℕ) (group : List ℕ) → IsRising group → IsRising (without x group)
rising-without x [] h = tt
rising-without x (z ∷ group) h = elim (eqb z x) as (λ b. IsRising (cond (not b) (z ∷ without x group) (without x group))) [
  | true ↦ rising-without x group h.1
  | false ↦ (λ y m. h.0 y (member_of_without y x group m), rising-without x group h.1)
]

pub is_member-with_name : (y x : ℕ) (group : List ℕ) → is_member y (with_name x group) ≡ (eqb x y || is_member y group)
is_member-with_name y x [] = refl
is_member-with_name y x (z ∷ group) =
    elim (ltb x z) as (λ b. is_member y (cond b (x ∷ z ∷ group) (z ∷ with_name x group)) ≡ (eqb x y || (eqb z y || is_member y group))) [
      | true ↦ refl
      | false ↦ ap (λ b. eqb z y || b) (is_member-with_name y x group) ∙ or_swap (eqb z y) (eqb x y) (is_member y group)
    ]

pub rising-with_name : (x : ℕ) (group : List ℕ) → is_member x group ≡ false → IsRising group → IsRising (with_name x group)
rising-with_name x [] absent h = (λ y m. absurd (true≢false (sym m)), tt)
rising-with_name x (z ∷ group) absent h =
    elim (ltb x z) as (λ b. ltb x z ≡ b → IsRising (cond b (x ∷ z ∷ group) (z ∷ with_name x group))) [
      | true ↦ λ t.
          let lt : x < z = ltb-true x z t in (
            λ y m. ⊎_elim (λ (e : eqb z y ≡ true). let is : z ≡ y = eqb-true z y e in omega arith)
                (λ (e : is_member y group ≡ true). let past : z < y = h.0 y e in omega arith) (or_cases (eqb z y) (is_member y group) m),
            h,
          )
      | false ↦ λ t.
          let le : z ≤ x = ltb-false x z t in
          let apart : z ≢ x = eqb-false z x (or_first (eqb z x) (is_member x group) absent) in (
            λ y m. ⊎_elim (λ (e : eqb x y ≡ true). let is : x ≡ y = eqb-true x y e in strictly z x y le apart is)
                (λ (e : is_member y group ≡ true). h.0 y e) (or_cases (eqb x y) (is_member y group) (sym (is_member-with_name y x group) ∙ m)),
            rising-with_name x group (or_second (eqb z x) (is_member x group) absent) h.1,
          )
    ] refl

pub without-with_name : (x : ℕ) (group : List ℕ) → is_member x group ≡ false → without x (with_name x group) ≡ group
without-with_name x [] absent = ap (λ b. cond (not b) (x ∷ []) []) (eq-eqb x x refl)
without-with_name x (z ∷ group) absent =
    elim (ltb x z) as (λ b. without x (cond b (x ∷ z ∷ group) (z ∷ with_name x group)) ≡ z ∷ group) [
      | true ↦ ap (λ b. cond (not b) (x ∷ without x (z ∷ group)) (without x (z ∷ group))) (eq-eqb x x refl) ∙ without_absent x (z ∷ group) absent
      | false ↦ ap (λ b. cond (not b) (z ∷ without x (with_name x group)) (without x (with_name x group)))
          (or_first (eqb z x) (is_member x group) absent)
          ∙ ap (λ g. z ∷ g) (without-with_name x group (or_second (eqb z x) (is_member x group) absent))
    ]

pub length-with_name : (x : ℕ) (group : List ℕ) → length (with_name x group) ≡ length group + 1
length-with_name x [] = omega arith
length-with_name x (z ∷ group) = elim (ltb x z) as (λ b. length (cond b (x ∷ z ∷ group) (z ∷ with_name x group)) ≡ length (z ∷ group) + 1) [
  | true ↦ omega arith
  | false ↦ let later : length (with_name x group) ≡ length group + 1 = length-with_name x group in omega arith
]

pub mapped : {A : Type 0} (f : A → A) (o : Option A) (k : A) → option_map f o ≡ Some k → (v : A) × (o ≡ Some v) × (f v ≡ k)
mapped f None k e = absurd (none-some k e)
mapped f (Some v) k e = (v, refl, same_Some (f v) k e)

module _ {T : Type 0} (names : Names T) (x : ℕ) where
  get_forget : (q : ℕ) → finite.get (forget x names) q ≡ option_map (leave x) (finite.get (finite.remove names x) q)
  get_forget q = get-map_values (leave x) (finite.remove names x) q

  pub get_forget_other : (q : ℕ) (k : Holding T) → q ≢ x → finite.get names q ≡ Some k → finite.get (forget x names) q ≡ Some (leave x k)
  get_forget_other q k ne is =
      get_forget q ∙ ap (option_map (leave x)) (get-remove_nat names x q ∙ ap (λ b. cond b None (finite.get names q)) (ne_eqb q x ne) ∙ is)

  pub get_forget_none : (q : ℕ) → finite.get names q ≡ None → finite.get (forget x names) q ≡ None
  get_forget_none q is =
      get_forget q ∙ ap (option_map (leave x)) (get-remove_nat names x q
      ∙ elim (eqb q x) as (λ b. cond b None (finite.get names q) ≡ None) [ true ↦ refl | false ↦ is ])

  pub get_forget_itself : finite.get (forget x names) x ≡ None
  get_forget_itself = get_forget x ∙ ap (option_map (leave x)) (get-remove_nat names x x ∙ ap (λ b. cond b None (finite.get names x)) (eq-eqb x x refl))

  pub from_forget : (q : ℕ) (k : Holding T) → finite.get (forget x names) q ≡ Some k
      → (v : Holding T) × (q ≢ x) × (finite.get names q ≡ Some v) × (leave x v ≡ k)
  from_forget q k is =
      let there : (v : Holding T) × (finite.get (finite.remove names x) q ≡ Some v) × (leave x v ≡ k) =
      mapped (leave x) (finite.get (finite.remove names x) q) k (sym (get_forget q) ∙ is) in
      let kept : (q ≢ x) × (finite.get names q ≡ Some (there.0)) = kept_by_remove names x q there.0 there.1 in
      (there.0, kept.0, kept.1, there.2)

  module _ (sharing : IsSharing names) where
    still_member : (q : ℕ) (v : Holding T) → q ≢ x → is_member q v.group ≡ true → is_member q (without x v.group) ≡ true
    still_member q v ne m = is_member-without q x v.group ∙ ap (λ b. cond b false (is_member q v.group)) (ne_eqb q x ne) ∙ m

    pub sharing-forget : IsSharing (forget x names)
    sharing-forget = record {
      common = λ q y k is m.
          let there = from_forget q k is in
          let has : is_member y (without x there.0.group) ≡ true = ap (λ (h : Holding T). is_member y h.group) there.3 ∙ m in
          let apart : y ≢ x =
          λ e. true≢false (sym has ∙ is_member-without y x there.0.group ∙ ap (λ b. cond b false (is_member y there.0.group)) (eq-eqb y x e)) in
          get_forget_other y there.0 apart (sharing.common q y there.0 there.2 (member_of_without y x there.0.group has)) ∙ ap Some there.3;
      itself = λ q k is.
          let there = from_forget q k is in
          ⊎_elim (λ (e : there.0.group ≡ []). inl (ap (λ (h : Holding T). h.group) (sym there.3) ∙ ap (without x) e))
          (λ (m : is_member q there.0.group ≡ true). inr (ap (λ (h : Holding T). is_member q h.group) (sym there.3) ∙ still_member q there.0 there.1 m))
          (sharing.itself q there.0 there.2);
      rising = λ q k is.
          let there = from_forget q k is in
          subst (λ (h : Holding T). IsRising h.group) there.3 (rising-without x there.0.group (sharing.rising q there.0 there.2));
      fits = λ q k is.
          let there = from_forget q k is in
          subst (λ (h : Holding T). (length h.items ≤ h.capacity) × (h.capacity ≤ MAX)) there.3 (sharing.fits q there.0 there.2);
      bare = λ q k is e.
          let there = from_forget q k is in
          let empty : without x there.0.group ≡ [] = ap (λ (h : Holding T). h.group) there.3 ∙ e in
          ap (λ (h : Holding T). h.capacity) (sym there.3) ∙ ⊎_elim
          (λ (none : there.0.group ≡ []). sharing.bare q there.0 there.2 none)
          (λ (m : is_member q there.0.group ≡ true). absurd (true≢false (sym (still_member q there.0 there.1 m) ∙ ap (is_member q) empty)))
          (sharing.itself q there.0 there.2);
    }

    module _ (items : List T) (capacity : ℕ) (fit : length items ≤ capacity) (small : capacity ≤ MAX) where
      abbrev own : Holding T
      own = record { items = items; group = cond (ltb 0 capacity) (x ∷ []) []; capacity = capacity }

      get_settle : (q : ℕ) → finite.get (settle x items capacity names) q ≡ cond (eqb q x) (Some own) (finite.get (forget x names) q)
      get_settle q = get-insert_nat (forget x names) x own q

      pub get_settle_itself : finite.get (settle x items capacity names) x ≡ Some own
      get_settle_itself = get_settle x ∙ ap (λ b. cond b (Some own) (finite.get (forget x names) x)) (eq-eqb x x refl)

      pub get_settle_other : (q : ℕ) → q ≢ x → finite.get (settle x items capacity names) q ≡ finite.get (forget x names) q
      get_settle_other q ne = get_settle q ∙ ap (λ b. cond b (Some own) (finite.get (forget x names) q)) (ne_eqb q x ne)

      from_settle : (q : ℕ) (k : Holding T) → finite.get (settle x items capacity names) q ≡ Some k
          → ((q ≡ x) × (own ≡ k)) ⊎ ((q ≢ x) × (finite.get (forget x names) q ≡ Some k))
      from_settle q k is = ⊎_elim
          (λ (e : q ≡ x). inl (e, same_Some own k (sym get_settle_itself ∙ ap (finite.get (settle x items capacity names)) (sym e) ∙ is)))
          (λ (ne : q ≢ x). inr (ne, sym (get_settle_other q ne) ∙ is))
          (cases_eq q x)

      own_member : (y : ℕ) → is_member y own.group ≡ true → y ≡ x
      own_member y m = elim (ltb 0 capacity) as (λ b. is_member y (cond b (x ∷ []) []) ≡ true → y ≡ x) [
        | true ↦ λ e. ⊎_elim (λ (t : eqb x y ≡ true). sym (eqb-true x y t)) (λ (f : false ≡ true). absurd (true≢false (sym f))) (or_cases (eqb x y) false e)
        | false ↦ λ e. absurd (true≢false (sym e))
      ] m

      own_bare : own.group ≡ [] → own.capacity ≡ 0
      own_bare e = elim (ltb 0 capacity) as (λ b. ltb 0 capacity ≡ b → cond b (x ∷ []) [] ≡ [] → capacity ≡ 0) [
        | true ↦ λ t e. absurd (let one : length (x ∷ []) ≡ 0 = ap length e in omega arith)
        | false ↦ λ t e. let le : capacity ≤ 0 = ltb-false 0 capacity t in omega arith
      ] refl e

      pub sharing-settle : IsSharing (settle x items capacity names)
      sharing-settle = record {
        common = λ q y k is m. ⊎_elim
            (λ (w : (q ≡ x) × (own ≡ k)).
            let itself : y ≡ x = own_member y (ap (λ (h : Holding T). is_member y h.group) w.1 ∙ m) in
            ap (finite.get (settle x items capacity names)) itself ∙ get_settle_itself ∙ ap Some w.1)
            (λ (w : (q ≢ x) × (finite.get (forget x names) q ≡ Some k)).
            let there : finite.get (forget x names) y ≡ Some k = sharing-forget.common q y k w.1 m in
            get_settle_other y (λ e. none-some k (sym (get_forget_itself) ∙ ap (finite.get (forget x names)) (sym e) ∙ there)) ∙ there)
            (from_settle q k is);
        itself = λ q k is. ⊎_elim
            (λ (w : (q ≡ x) × (own ≡ k)). subst (λ (h : Holding T). (h.group ≡ []) ⊎ (is_member q h.group ≡ true)) w.1
            (elim (ltb 0 capacity) as (λ b. (cond b (x ∷ []) [] ≡ [])
            ⊎ (is_member q (cond b (x ∷ []) []) ≡ true)) [ true ↦ inr (ap (λ b. b || false) (eq-eqb x q (sym w.0))) | false ↦ inl refl ]))
            (λ (w : (q ≢ x) × (finite.get (forget x names) q ≡ Some k)). sharing-forget.itself q k w.1)
            (from_settle q k is);
        rising = λ q k is. ⊎_elim
            (λ (w : (q ≡ x) × (own ≡ k)). subst (λ (h : Holding T). IsRising h.group) w.1
            (elim (ltb 0 capacity) as (λ b. IsRising (cond b (x ∷ []) [])) [ true ↦ (λ y m. absurd (true≢false (sym m)), tt) | false ↦ tt ]))
            (λ (w : (q ≢ x) × (finite.get (forget x names) q ≡ Some k)). sharing-forget.rising q k w.1)
            (from_settle q k is);
        fits = λ q k is. ⊎_elim
            (λ (w : (q ≡ x) × (own ≡ k)). subst (λ (h : Holding T). (length h.items ≤ h.capacity) × (h.capacity ≤ MAX)) w.1 (fit, small))
            (λ (w : (q ≢ x) × (finite.get (forget x names) q ≡ Some k)). sharing-forget.fits q k w.1)
            (from_settle q k is);
        bare = λ q k is e. ⊎_elim
            (λ (w : (q ≡ x) × (own ≡ k)). ap (λ (h : Holding T). h.capacity) (sym w.1) ∙ own_bare (ap (λ (h : Holding T). h.group) w.1 ∙ e))
            (λ (w : (q ≢ x) × (finite.get (forget x names) q ≡ Some k)). sharing-forget.bare q k w.1 e)
            (from_settle q k is);
      }

      -- x owes nothing, and its block has its own number
      pub debt-settle : debt (settle x items capacity names) ≡ debt (forget x names)
      debt-settle =
          let put : debt (settle x items capacity names) ≡ debt (forget x names) + debt_of x own =
          total-insert debt_of (forget x names) x own get_forget_itself in
          let mine : debt_of x own ≡ 0 =
          elim (ltb 0 capacity) as (λ b. cond (past_head x (head_of (cond b (x ∷ []) []))) (length items) 0
          ≡ 0) [ true ↦ ap (λ b. cond (not b) (length items) 0) (eq-eqb x x refl) | false ↦ refl ] in
          omega (arith, put, mine)

      pub blocks-settle : (number : List T → ℕ → ℕ) → total (block_number number) (settle x items capacity names)
          ≡ total (block_number number) (forget x names) + cond (ltb 0 capacity) (number items capacity) 0
      blocks-settle number =
          total-insert (block_number number) (forget x names) x own get_forget_itself
          ∙ ap (λ n. total (block_number number) (forget x names) + n)
          (elim (ltb 0 capacity) as (λ b. cond (at_head x (head_of (cond b (x ∷ []) []))) (number items capacity) 0
          ≡ cond b (number items capacity) 0) [ true ↦ ap (λ b. cond b (number items capacity) 0) (eq-eqb x x refl) | false ↦ refl ])
