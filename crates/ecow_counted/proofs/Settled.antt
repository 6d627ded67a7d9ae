-- Names that settle, leave or come back: what follows one another, and what changes nothing.
use Rattle.std.proofs.Common.{◌≡◌, ◌≢◌, ℕ, ◌+◌, ◌<◌, ◌≤◌, true, false, cond, ◌||◌, eqb, ltb, List, [], ◌∷◌, length, Option, Some, None, refl, sym, ◌∙◌, ap, arith, add-zero, ⊎_elim}
use Rattle.std.specs.FinMap as finite
use Rattle.std.proofs.lemmas.Bool.{eqb-true, ne_eqb, eq-eqb, true≢false, cases_eq, lt-ltb, false_from_ne_true}
use Rattle.std.proofs.lemmas.Option.{none-some, same_Some}
use Rattle.ecow_model.specs.CountedRun.{nothing}
use Rattle.ecow_model.specs.Names.{Names, Holding, IsSharing, is_member, without, leave, forget, settle, blocks}
use Rattle.ecow_counted.proofs.Sums.{same_nat, get-insert_nat}
use Rattle.ecow_counted.proofs.Groups.{is_sole_owner, without_absent, blocks-forget}
use Rattle.ecow_counted.proofs.Kept.{get_forget_none, get_forget_other, get_forget_itself, is_member-without}

-- to leave a group twice is to leave it once
pub without_twice : (x : ℕ) (group : List ℕ) → without x (without x group) ≡ without x group
without_twice x group = without_absent x (without x group) (is_member-without x x group ∙ ap (λ b. cond b false (is_member x group)) (eq-eqb x x refl))

-- a group of one
pub alone_of : (x : ℕ) (group : List ℕ) → is_member x group ≡ true → length group ≡ 1 → group ≡ x ∷ []
alone_of x [] m one = absurd (true≢false (sym m))
alone_of x (y ∷ []) m one = elim (eqb y x) as (λ b. eqb y x ≡ b → (b || false) ≡ true → y ∷ [] ≡ x ∷ []) [
  | true ↦ λ e _. ap (λ z. z ∷ []) (eqb-true y x e)
  | false ↦ λ _ e. absurd (true≢false (sym e))
] refl m
alone_of x (y ∷ z ∷ group) m one = absurd (omega arith)

pub empty_of : (group : List ℕ) → length group ≡ 0 → group ≡ []
empty_of [] e = refl
empty_of (y ∷ group) e = absurd (omega arith)

-- how many blocks a name alone holds
abbrev pub own_blocks : {T : Type 0} → Option (Holding T) → ℕ
own_blocks None = 0
own_blocks (Some h) = cond (is_sole_owner h) 1 0

module _ {T : Type 0} (names : Names T) (x : ℕ) where
  left_twice : (k : Holding T) → leave x (leave x k) ≡ leave x k
  left_twice k = ap (λ g. record { items = k.items; group = g; capacity = k.capacity }) (without_twice x k.group)

  -- x leaves names that are as those without it
  forget_from : (after : Names T) → ((q : ℕ) → q ≢ x → finite.get after q ≡ finite.get (forget x names) q) → forget x after ≡ forget x names
  forget_from after same = same_nat _ _ (λ q. ⊎_elim
      (λ (e : q ≡ x). ap (finite.get (forget x after)) e ∙ get_forget_itself after x ∙ sym (ap (finite.get (forget x names)) e ∙ get_forget_itself names x))
      (λ (ne : q ≢ x). elim (finite.get names q) as (λ o. finite.get names q ≡ o → finite.get (forget x after) q ≡ finite.get (forget x names) q) [
        | None ↦ λ is. get_forget_none after x q (same q ne ∙ get_forget_none names x q is) ∙ sym (get_forget_none names x q is)
        | Some k ↦ λ is. get_forget_other after x q (leave x k) ne (same q ne ∙ get_forget_other names x q k ne is)
            ∙ ap Some (left_twice k) ∙ sym (get_forget_other names x q k ne is)
      ] refl)
      (cases_eq q x))

  pub forget-forget : forget x (forget x names) ≡ forget x names
  forget-forget = forget_from (forget x names) (λ q ne. refl)

  pub forget-settle : (items : List T) (capacity : ℕ) → forget x (settle x items capacity names) ≡ forget x names
  forget-settle items capacity =
      forget_from (settle x items capacity names) (λ q ne. get-insert_nat (forget x names) x _ q
      ∙ ap (λ b. cond b (Some (record { items = items; group = cond (ltb 0 capacity) (x ∷ []) []; capacity = capacity }))
      (finite.get (forget x names) q)) (ne_eqb q x ne))

  -- what was settled last counts
  pub settle-settle : (items later : List T) (capacity room : ℕ) → settle x later room (settle x items capacity names) ≡ settle x later room names
  settle-settle items later capacity room =
      ap (λ n. finite.insert n x (record { items = later; group = cond (ltb 0 room) (x ∷ []) []; capacity = room })) (forget-settle items capacity)

  pub get-settle : (items : List T) (capacity : ℕ) → finite.get (settle x items capacity names) x
      ≡ Some (record { items = items; group = cond (ltb 0 capacity) (x ∷ []) []; capacity = capacity })
  get-settle items capacity =
      get-insert_nat (forget x names) x _ x
      ∙ ap (λ b. cond b (Some (record { items = items; group = cond (ltb 0 capacity) (x ∷ []) []; capacity = capacity }))
      (finite.get (forget x names) x)) (eq-eqb x x refl)

  module _ (groups : IsSharing names) where
    -- a name that isn't there is forgotten already
    pub forget_absent : finite.get names x ≡ None → forget x names ≡ names
    forget_absent none = same_nat _ _ (λ q. elim (finite.get names q) as (λ o. finite.get names q ≡ o → finite.get (forget x names) q ≡ o) [
      | None ↦ λ is. get_forget_none names x q is
      | Some k ↦ λ is. get_forget_other names x q k (λ e. none-some k (sym none ∙ ap (finite.get names) (sym e) ∙ is)) is
          ∙ ap (λ g. Some (record { items = k.items; group = g; capacity = k.capacity }))
          (without_absent x k.group (false_from_ne_true (is_member x k.group) (λ m. none-some k (sym none ∙ groups.common q x k is m))))
    ] refl)

    pub blocks_left : blocks names ≡ blocks (forget x names) + own_blocks (finite.get names x)
    blocks_left = elim (finite.get names x) as (λ o. finite.get names x ≡ o → blocks names ≡ blocks (forget x names) + own_blocks o) [
      | None ↦ λ none. sym (ap blocks (forget_absent none)) ∙ sym (add-zero _)
      | Some h ↦ λ is. blocks-forget names groups x h is (λ items capacity. 1)
    ] refl

    module _ (h : Holding T) (at : finite.get names x ≡ Some h) (few : length h.group ≤ 1) (backed : 0 < length h.group → 0 < h.capacity) where
      group_is : h.group ≡ cond (ltb 0 h.capacity) (x ∷ []) []
      group_is = ⊎_elim
          (λ (none : h.group ≡ []). none ∙ sym (ap (λ c. cond (ltb 0 c) (x ∷ []) []) (groups.bare x h at none)))
          (λ (has : is_member x h.group ≡ true).
          let some : 0 < length h.group =
          elim h.group as (λ g. is_member x g ≡ true → 0 < length g) [ [] ↦ λ m. absurd (true≢false (sym m)) | y ∷ g ↦ λ m. omega arith ] has in
          let room : 0 < h.capacity = backed some in
          alone_of x h.group has (omega (arith, some, few)) ∙ sym (ap (λ b. cond b (x ∷ []) []) (lt-ltb 0 h.capacity room)))
          (groups.itself x h at)

      stays : (q : ℕ) (k : Holding T) → q ≢ x → finite.get names q ≡ Some k → is_member x k.group ≡ false
      stays q k ne is = false_from_ne_true (is_member x k.group) (λ m.
          let same : h ≡ k = same_Some h k (sym at ∙ groups.common q x k is m) in
          let one : length k.group ≡ 1 =
          elim k.group as (λ g. is_member x g ≡ true → length g ≤ 1
          → length g ≡ 1) [ [] ↦ λ m _. absurd (true≢false (sym m)) | y ∷ g ↦ λ m few. omega arith ] m (rw (sym same) few) in
          ⊎_elim
          (λ (none : k.group ≡ []). absurd (true≢false (sym m ∙ ap (is_member x) none)))
          (λ (has : is_member q k.group ≡ true). let both : x ∷ [] ≡ q ∷ [] = sym (alone_of x k.group m one) ∙ alone_of q k.group has one in ne (cc))
          (groups.itself q k is))

      -- a sole name that settles with what it had
      pub settle_same : settle x h.items h.capacity names ≡ names
      settle_same = same_nat _ _ (λ q. get-insert_nat (forget x names) x _ q ∙ ⊎_elim
          (λ (e : q ≡ x). ap (λ b.
          cond b (Some (record { items = h.items; group = cond (ltb 0 h.capacity) (x ∷ []) []; capacity = h.capacity }))
          (finite.get (forget x names) q)) (eq-eqb q x e)
          ∙ ap (λ g. Some (record { items = h.items; group = g; capacity = h.capacity })) (sym group_is) ∙ sym at ∙ ap (finite.get names) (sym e))
          (λ (ne : q ≢ x). ap (λ b.
          cond b (Some (record { items = h.items; group = cond (ltb 0 h.capacity) (x ∷ []) []; capacity = h.capacity }))
          (finite.get (forget x names) q)) (ne_eqb q x ne)
          ∙ elim (finite.get names q) as (λ o. finite.get names q ≡ o → finite.get (forget x names) q ≡ o) [
            | None ↦ λ is. get_forget_none names x q is
            | Some k ↦ λ is. get_forget_other names x q k ne is
                ∙ ap (λ g. Some (record { items = k.items; group = g; capacity = k.capacity })) (without_absent x k.group (stays q k ne is))
          ] refl)
          (cases_eq q x))

    -- a name without a block that settles without one
    pub settle_bare : finite.get names x ≡ Some nothing → settle x [] 0 names ≡ names
    settle_bare at = settle_same nothing at (omega arith) (λ some. absurd (omega arith))
