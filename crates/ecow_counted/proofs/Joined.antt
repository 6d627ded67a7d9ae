-- A clone: y joins x, and forgetting y undoes it.
use Rattle.std.proofs.Common.{◌≡◌, ◌≢◌, ℕ, ◌+◌, ◌≤◌, Bool, true, false, cond, ◌||◌, eqb, List, [], ◌∷◌, length, Some, None, refl, sym, ◌∙◌, ap, subst, arith, ◌⊎◌, inl, inr, ⊎_elim}
use Rattle.std.specs.FinMap as finite
use Rattle.std.specs.Option.{option_map}
use Rattle.std.proofs.lemmas.Bool.{eqb-true, ne_eqb, eq-eqb, true≢false, cases_eq, cases_Bool, or_cases, false_from_ne_true}
use Rattle.std.proofs.lemmas.Option.{none-some, same_Some}
use Rattle.ecow_base.specs.Capacity.{MAX}
use Rattle.ecow_model.specs.Names.{Names, Holding, IsSharing, IsRising, is_member, with_name, leave, forget, enter, join, total, debt, block_number, is_shared}
use Rattle.ecow_counted.proofs.Sums.{get-insert_nat, same_nat}
use Rattle.ecow_model.proofs.Contents.{get-map_values}
use Rattle.ecow_counted.proofs.Groups.{is_sole_owner, without_absent, or_true, debt-forget, blocks-forget}
use Rattle.ecow_counted.proofs.Kept.{mapped, get_forget_itself, get_forget_other, get_forget_none, is_member-with_name, rising-with_name, without-with_name, length-with_name}

at_most : (b : Bool) (m n : ℕ) → m ≤ n → cond b m 0 ≤ n
at_most true m n le = le
at_most false m n le = omega arith

empty_at : (group : List ℕ) → length group ≡ 0 → group ≡ []
empty_at [] e = refl
empty_at (z ∷ group) e = absurd (omega arith)

module _ {T : Type 0} (names : Names T) (sharing : IsSharing names) (x y : ℕ) (h : Holding T)
    (at : finite.get names x ≡ Some h) (free : finite.get names y ≡ None) where
  pub get_join : (q : ℕ) → finite.get (join x y h names) q ≡ cond (eqb q y) (Some (enter x y h)) (option_map (enter x y) (finite.get names q))
  get_join q = get-insert_nat _ y (enter x y h) q ∙ ap (cond (eqb q y) (Some (enter x y h))) (get-map_values (enter x y) names q)

  pub get_join_new : finite.get (join x y h names) y ≡ Some (enter x y h)
  get_join_new = get_join y ∙ ap (λ b. cond b (Some (enter x y h)) (option_map (enter x y) (finite.get names y))) (eq-eqb y y refl)

  apart : (q : ℕ) (k : Holding T) → finite.get names q ≡ Some k → q ≢ y
  apart q k is e = none-some k (sym free ∙ ap (finite.get names) (sym e) ∙ is)

  pub get_join_other : (q : ℕ) (k : Holding T) → finite.get names q ≡ Some k → finite.get (join x y h names) q ≡ Some (enter x y k)
  get_join_other q k is =
      get_join q ∙ ap (λ b. cond b (Some (enter x y h)) (option_map (enter x y) (finite.get names q))) (ne_eqb q y (apart q k is))
      ∙ ap (option_map (enter x y)) is

  -- no group has the free name
  absent : (q : ℕ) (k : Holding T) → finite.get names q ≡ Some k → is_member y k.group ≡ false
  absent q k is = false_from_ne_true (is_member y k.group) (λ m. none-some k (sym free ∙ sharing.common q y k is m))

  -- who has x in the group holds what x holds
  held_with : (q : ℕ) (k : Holding T) → finite.get names q ≡ Some k → is_member x k.group ≡ true → h ≡ k
  held_with q k is m = same_Some h k (sym at ∙ sharing.common q x k is m)

  -- each entry after it is an entry that was there, entered; at y that of x
  from_join : (q : ℕ) (k : Holding T) → finite.get (join x y h names) q ≡ Some k → (p : ℕ) × (v : Holding T)
      × (finite.get names p ≡ Some v) × (enter x y v ≡ k) × (((q ≡ y) × (p ≡ x) × (v ≡ h)) ⊎ (q ≡ p))
  from_join q k is = ⊎_elim
      (λ (e : q ≡ y). (x, h, at, same_Some (enter x y h) k (sym get_join_new ∙ ap (finite.get (join x y h names)) (sym e) ∙ is), inl (e, refl, refl)))
      (λ (ne : q ≢ y).
      let there : (v : Holding T) × (finite.get names q ≡ Some v) × (enter x y v ≡ k) =
      mapped (enter x y) (finite.get names q) k
      (sym (get_join q ∙ ap (λ b. cond b (Some (enter x y h)) (option_map (enter x y) (finite.get names q))) (ne_eqb q y ne)) ∙ is) in
      (q, there.0, there.1, there.2, inr refl))
      (cases_eq q y)

  entered : (v : Holding T) → is_member x v.group ≡ true → enter x y v ≡ record { items = v.items; group = with_name y v.group; capacity = v.capacity }
  entered v m = ap (λ b. cond b (record { items = v.items; group = with_name y v.group; capacity = v.capacity }) v) m

  stayed : (v : Holding T) → is_member x v.group ≡ false → enter x y v ≡ v
  stayed v m = ap (λ b. cond b (record { items = v.items; group = with_name y v.group; capacity = v.capacity }) v) m

  -- a fact of the entered value, from the two cases
  by_entry : (P : Holding T → Type 0) (v : Holding T)
      → (is_member x v.group ≡ true → P (record { items = v.items; group = with_name y v.group; capacity = v.capacity }))
      → (is_member x v.group ≡ false → P v) → P (enter x y v)
  by_entry P v then_in none =
      ⊎_elim (λ m. subst P (sym (entered v m)) (then_in m)) (λ m. subst P (sym (stayed v m)) (none m)) (cases_Bool (is_member x v.group))

  common_entry : (q p z : ℕ) (v : Holding T) → finite.get names p ≡ Some v → (((q ≡ y) × (p ≡ x) × (v ≡ h)) ⊎ (q ≡ p))
      → is_member z (enter x y v).group ≡ true → finite.get (join x y h names) z ≡ Some (enter x y v)
  common_entry q p z v is place = by_entry (λ k. is_member z k.group ≡ true → finite.get (join x y h names) z ≡ Some (enter x y v)) v
      (λ has m. ⊎_elim
      (λ (e : eqb y z ≡ true). ap (finite.get (join x y h names)) (sym (eqb-true y z e)) ∙ get_join_new ∙ ap (λ k. Some (enter x y k)) (held_with p v is has))
      (λ (old : is_member z v.group ≡ true). get_join_other z v (sharing.common p z v is old))
      (or_cases (eqb y z) (is_member z v.group) (sym (is_member-with_name z y v.group) ∙ m)))
      (λ hasnt m. get_join_other z v (sharing.common p z v is m))

  pub sharing-join : IsSharing (join x y h names)
  sharing-join = record {
    common = λ q z k is m.
        let there = from_join q k is in
        common_entry q there.0 z there.1 there.2 there.4 (ap (λ (k : Holding T). is_member z k.group) there.3 ∙ m) ∙ ap Some there.3;
    itself = λ q k is.
        let there = from_join q k is in
        subst (λ (k : Holding T). (k.group ≡ []) ⊎ (is_member q k.group ≡ true)) there.3
        (by_entry (λ k. (k.group ≡ []) ⊎ (is_member q k.group ≡ true)) there.1
        (λ has. inr (is_member-with_name q y there.1.group ∙ ⊎_elim
        (λ (w : (q ≡ y) × (there.0 ≡ x) × (there.1 ≡ h)). ap (λ b. b || is_member q there.1.group) (eq-eqb y q (sym w.0)))
        (λ (e : q ≡ there.0). ⊎_elim
        (λ (none : there.1.group ≡ []). absurd (true≢false (sym has ∙ ap (is_member x) none)))
        (λ (m : is_member there.0 there.1.group ≡ true). ap (λ b. eqb y q || b) (ap (λ z. is_member z there.1.group) e ∙ m) ∙ or_true (eqb y q))
        (sharing.itself there.0 there.1 there.2))
        there.4))
        (λ hasnt. ⊎_elim
        (λ (w : (q ≡ y) × (there.0 ≡ x) × (there.1 ≡ h)). ⊎_elim
        (λ (none : there.1.group ≡ []). inl none)
        (λ (m : is_member there.0 there.1.group ≡ true). absurd (true≢false (sym m ∙ ap (λ z. is_member z there.1.group) w.1 ∙ hasnt)))
        (sharing.itself there.0 there.1 there.2))
        (λ (e : q ≡ there.0). subst (λ z. (there.1.group ≡ []) ⊎ (is_member z there.1.group ≡ true)) (sym e) (sharing.itself there.0 there.1 there.2))
        there.4));
    rising = λ q k is.
        let there = from_join q k is in
        subst (λ (k : Holding T). IsRising k.group) there.3 (by_entry (λ k. IsRising k.group) there.1
        (λ has. rising-with_name y there.1.group (absent there.0 there.1 there.2) (sharing.rising there.0 there.1 there.2))
        (λ hasnt. sharing.rising there.0 there.1 there.2));
    fits = λ q k is.
        let there = from_join q k is in
        let old = sharing.fits there.0 there.1 there.2 in
        subst (λ (k : Holding T). (length k.items ≤ k.capacity) × (k.capacity ≤ MAX)) there.3
        (by_entry (λ k. (length k.items ≤ k.capacity) × (k.capacity ≤ MAX)) there.1 (λ has. old) (λ hasnt. old));
    bare = λ q k is.
        let there = from_join q k is in
        subst (λ (k : Holding T). k.group ≡ [] → k.capacity ≡ 0) there.3 (by_entry (λ k. k.group ≡ [] → k.capacity ≡ 0) there.1
        (λ has e. absurd (let count : length (with_name y there.1.group) ≡ 0 = ap length e in
        let more : length (with_name y there.1.group) ≡ length there.1.group + 1 = length-with_name y there.1.group in omega arith))
        (λ hasnt. sharing.bare there.0 there.1 there.2));
  }

  -- forgetting the new name is to have it back as it was
  left_again : (v : Holding T) → is_member y v.group ≡ false → leave y (enter x y v) ≡ v
  left_again v none = by_entry (λ k. leave y k ≡ v) v
      (λ has. ap (λ g. record { items = v.items; group = g; capacity = v.capacity }) (without-with_name y v.group none))
      (λ hasnt. ap (λ g. record { items = v.items; group = g; capacity = v.capacity }) (without_absent y v.group none))

  pub forget-join : forget y (join x y h names) ≡ names
  forget-join = same_nat _ _ (λ q. ⊎_elim
      (λ (e : q ≡ y). ap (finite.get (forget y (join x y h names))) e ∙ get_forget_itself (join x y h names) y ∙ sym free ∙ ap (finite.get names) (sym e))
      (λ (ne : q ≢ y). elim (finite.get names q) as (λ o. finite.get names q ≡ o → finite.get (forget y (join x y h names)) q ≡ o) [
        | None ↦ λ is. get_forget_none (join x y h names) y q (get_join q
            ∙ ap (λ b. cond b (Some (enter x y h)) (option_map (enter x y) (finite.get names q))) (ne_eqb q y ne) ∙ ap (option_map (enter x y)) is)
        | Some v ↦ λ is. get_forget_other (join x y h names) y q (enter x y v) ne (get_join_other q v is) ∙ ap Some (left_again v (absent q v is))
      ] refl)
      (cases_eq q y))

  never_sole : is_sole_owner (enter x y h) ≡ false
  never_sole = by_entry (λ k. is_sole_owner k ≡ false) h
      (λ has. ne_eqb (length (with_name y h.group)) 1 (λ one.
      let more : length (with_name y h.group) ≡ length h.group + 1 = length-with_name y h.group in
      true≢false (sym has ∙ ap (is_member x) (empty_at h.group (omega arith)))))
      (λ hasnt. ⊎_elim
      (λ (none : h.group ≡ []). ap (λ (g : List ℕ). eqb (length g) 1) none)
      (λ (m : is_member x h.group ≡ true). absurd (true≢false (sym m ∙ hasnt)))
      (sharing.itself x h at))

  -- a clone puts the length of its list into the debt
  pub debt-join : debt (join x y h names) ≤ debt names + length h.items
  debt-join =
      let left : debt (join x y h names) ≡ debt (forget y (join x y h names)) + cond (is_shared (enter x y h)) (length (enter x y h).items) 0 =
      debt-forget (join x y h names) sharing-join y (enter x y h) get_join_new in
      let old : debt (forget y (join x y h names)) ≡ debt names = ap debt forget-join in
      let mine : cond (is_shared (enter x y h)) (length (enter x y h).items) 0 ≤ length h.items =
      at_most (is_shared (enter x y h)) _ _ (by_entry (λ k. length k.items ≤ length h.items) h (λ _. omega arith) (λ _. omega arith)) in
      omega (arith, left, old, mine)

  -- and makes no block
  pub blocks-join : (number : List T → ℕ → ℕ) → total (block_number number) (join x y h names) ≡ total (block_number number) names
  blocks-join number =
      let left : total (block_number number) (join x y h names) ≡ total (block_number number) (forget y (join x y h names))
      + cond (is_sole_owner (enter x y h)) (number (enter x y h).items (enter x y h).capacity) 0 =
      blocks-forget (join x y h names) sharing-join y (enter x y h) get_join_new number in
      let old : total (block_number number) (forget y (join x y h names)) ≡ total (block_number number) names = ap (total (block_number number)) forget-join in
      let mine : cond (is_sole_owner (enter x y h)) (number (enter x y h).items (enter x y h).capacity) 0 ≡ 0 =
      ap (λ b. cond b (number (enter x y h).items (enter x y h).capacity) 0) never_sole in
      omega (arith, left, old, mine)
