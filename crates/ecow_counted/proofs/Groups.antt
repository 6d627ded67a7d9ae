-- What leaving a group does to a sum that depends on the heads.
use Rattle.std.proofs.Common.{◌≡◌, ◌≢◌, ℕ, ◌+◌, ◌<◌, Bool, true, false, cond, not, ◌||◌, eqb, ltb, List, [], ◌∷◌, length, Option, Some, None, refl, sym, ◌∙◌, ap, subst, arith, ⊎_elim}
use Rattle.std.specs.Prelude.{◌==◌}
use Rattle.std.specs.FinMap as finite
use Rattle.std.proofs.lemmas.Bool.{eqb-true, eqb-false, ne_eqb, eq-eqb, true≢false, cases_eq, lt-ltb}
use Rattle.std.proofs.lemmas.Option.{none-some, same_Some}
use Rattle.ecow_model.specs.Names.{Names, Holding, IsSharing, IsRising, is_member, without, head_of, leave, forget, total, debt, debt_of, block_number, is_shared, past_head, at_head}
use Rattle.ecow_counted.proofs.Sums.{total-map_values, total_congr, total-remove, get-remove_nat}

-- whether the name alone holds its block
abbrev pub is_sole_owner : {T : Type 0} → Holding T → Bool
is_sole_owner h = length h.group == 1

-- a name that isn't in the group doesn't change it by leaving
pub without_absent : (x : ℕ) (group : List ℕ) → is_member x group ≡ false → without x group ≡ group
without_absent x [] h = refl
without_absent x (y ∷ group) h = elim (eqb y x) as (λ b. (b || is_member x group) ≡ false → cond (not b) (y ∷ without x group) (without x group) ≡ y ∷ group) [
  | true ↦ λ h. absurd (true≢false h)
  | false ↦ λ h. ap (λ g. y ∷ g) (without_absent x group h)
] h

-- below a rising group no name is its member
pub above_absent : (x : ℕ) (group : List ℕ) → ((y : ℕ) → is_member y group ≡ true → x < y) → is_member x group ≡ false
above_absent x group h = elim (is_member x group) as (λ b. is_member x group ≡ b → b ≡ false) [
  | true ↦ λ t. let lt : x < x = h x t in absurd (omega arith)
  | false ↦ λ t. refl
] refl

-- the head leaves
pub without_head : (x : ℕ) (group : List ℕ) → IsRising (x ∷ group) → without x (x ∷ group) ≡ group
without_head x group h = ap (λ b. cond (not b) (x ∷ without x group) (without x group)) (eq-eqb x x refl) ∙ without_absent x group (above_absent x group h.0)

pub is_member_head : (x : ℕ) (group : List ℕ) → is_member x (x ∷ group) ≡ true
is_member_head x group = ap (λ b. b || is_member x group) (eq-eqb x x refl)

-- a name other than the head leaves the head where it is
pub head_of-without : (x y : ℕ) (group : List ℕ) → y ≢ x → head_of (without x (y ∷ group)) ≡ Some y
head_of-without x y group ne = ap (λ b. head_of (cond (not b) (y ∷ without x group) (without x group))) (ne_eqb y x ne)

-- the one member of a group of one
only : (x q : ℕ) → is_member q (x ∷ []) ≡ true → x ≡ q
only x q h =
    elim (eqb x q) as (λ b. eqb x q ≡ b → (b || false) ≡ true
    → x ≡ q) [ true ↦ λ t _. eqb-true x q t | false ↦ λ _ e. absurd (true≢false (sym e)) ] refl h

pub or_true : (a : Bool) → (a || true) ≡ true
or_true true = refl
or_true false = refl

-- what is still there once x is gone
pub kept_by_remove : {T : Type 0} (names : Names T) (x q : ℕ) (k : Holding T)
    → finite.get (finite.remove names x) q ≡ Some k → (q ≢ x) × (finite.get names q ≡ Some k)
kept_by_remove names x q k is = elim (eqb q x) as (λ b. eqb q x ≡ b → cond b None (finite.get names q) ≡ Some k → (q ≢ x) × (finite.get names q ≡ Some k)) [
  | true ↦ λ t e. absurd (none-some k e)
  | false ↦ λ t e. (eqb-false q x t, e)
] refl (sym (get-remove_nat names x q) ∙ is)

module _ {T : Type 0} (names : Names T) (sharing : IsSharing names) (x : ℕ) (h : Holding T)
    (at : finite.get names x ≡ Some h) (f : ℕ → Option ℕ → List T → ℕ → ℕ) where
  abbrev weight : ℕ → Holding T → ℕ
  weight q k = f q (head_of k.group) k.items k.capacity

  kept : (q : ℕ) (k : Holding T) → finite.get (finite.remove names x) q ≡ Some k → (q ≢ x) × (finite.get names q ≡ Some k)
  kept q k is = kept_by_remove names x q k is

  -- who has x in the group holds what x holds
  held_with : (q : ℕ) (k : Holding T) → finite.get names q ≡ Some k → is_member x k.group ≡ true → h ≡ k
  held_with q k is m = same_Some h k (sym at ∙ sharing.common q x k is m)

  -- x is no head: the heads of the others stay
  same_heads : ((group : List ℕ) → h.group ≡ x ∷ group → ⊥) → (q : ℕ) (k : Holding T)
      → finite.get names q ≡ Some k → head_of (without x k.group) ≡ head_of k.group
  same_heads no_head q k is = elim k.group as (λ g. k.group ≡ g → head_of (without x g) ≡ head_of g) [
    | [] ↦ λ e. refl
    | y ∷ g ↦ λ e. ⊎_elim
        (λ (is_x : y ≡ x).
        let has : is_member x k.group ≡ true = ap (is_member x) e ∙ subst (λ z. is_member z (y ∷ g) ≡ true) is_x (is_member_head y g) in
        absurd (no_head g (ap (λ k. k.group) (held_with q k is has) ∙ e ∙ ap (λ z. z ∷ g) is_x)))
        (λ ne. head_of-without x y g ne) (cases_eq y x)
  ] refl

  pub total-forget_follower : ((group : List ℕ) → h.group ≡ x ∷ group → ⊥) → total weight names ≡ total weight (forget x names) + weight x h
  total-forget_follower no_head =
      let others : total weight (forget x names) ≡ total (λ q k. weight q (leave x k)) (finite.remove names x) =
      total-map_values (leave x) weight (finite.remove names x) in
      let same : total (λ q k. weight q (leave x k)) (finite.remove names x) ≡ total weight (finite.remove names x) =
      total_congr _ _ (finite.remove names x) (λ q k is. ap (λ o. f q o k.items k.capacity) (same_heads no_head q k (kept q k is).1)) in
      let split : total weight names ≡ total weight (finite.remove names x) + weight x h = total-remove weight names x h at in
      omega (arith, others, same, split)

  -- the others' groups where x is alone in its own
  alone_others : h.group ≡ x ∷ [] → (q : ℕ) (k : Holding T) → finite.get (finite.remove names x) q ≡ Some k → is_member x k.group ≡ false
  alone_others alone q k is = elim (is_member x k.group) as (λ b. is_member x k.group ≡ b → b ≡ false) [
    | true ↦ λ t.
        let there = kept q k is in
        let same : h ≡ k = held_with q k there.1 t in
        let group : k.group ≡ x ∷ [] = ap (λ k. k.group) (sym same) ∙ alone in
        ⊎_elim
        (λ (none : k.group ≡ []). absurd (true≢false (sym t ∙ ap (is_member x) none)))
        (λ (has : is_member q k.group ≡ true). absurd (there.0 (sym (only x q (ap (is_member q) (sym group) ∙ has)))))
        (sharing.itself q k there.1)
    | false ↦ λ t. refl
  ] refl

  pub total-forget_alone : h.group ≡ x ∷ [] → total weight names ≡ total weight (forget x names) + weight x h
  total-forget_alone alone =
      let others : total weight (forget x names) ≡ total (λ q k. weight q (leave x k)) (finite.remove names x) =
      total-map_values (leave x) weight (finite.remove names x) in
      let same : total (λ q k. weight q (leave x k)) (finite.remove names x) ≡ total weight (finite.remove names x) =
      total_congr _ _ (finite.remove names x)
      (λ q k is. ap (λ g. f q (head_of g) k.items k.capacity) (without_absent x k.group (alone_others alone q k is))) in
      let split : total weight names ≡ total weight (finite.remove names x) + weight x h = total-remove weight names x h at in
      omega (arith, others, same, split)

  -- the next name becomes the head in x's place
  module _ (y : ℕ) (rest : List ℕ) (group_is : h.group ≡ x ∷ y ∷ rest) (agree : (q p r : ℕ) (items : List T) (capacity : ℕ)
      → q ≢ p → q ≢ r → f q (Some p) items capacity ≡ f q (Some r) items capacity) where
    rises : IsRising (x ∷ y ∷ rest)
    rises = subst IsRising group_is (sharing.rising x h at)

    next_apart : y ≢ x
    next_apart e = let lt : x < y = rises.0 y (is_member_head y rest) in omega arith

    at_next : finite.get names y ≡ Some h
    at_next = sharing.common x y h at (ap (is_member y) group_is ∙ ap (λ b. (eqb x y) || b) (is_member_head y rest) ∙ or_true (eqb x y))

    at_next_kept : finite.get (finite.remove names x) y ≡ Some h
    at_next_kept = get-remove_nat names x y ∙ ap (λ b. cond b None (finite.get names y)) (ne_eqb y x next_apart) ∙ at_next

    others_agree : (q : ℕ) (k : Holding T) → finite.get (finite.remove (finite.remove names x) y) q ≡ Some k → weight q (leave x k) ≡ weight q k
    others_agree q k is =
        let past_y : (q ≢ y) × (finite.get (finite.remove names x) q ≡ Some k) = kept_by_remove (finite.remove names x) y q k is in
        let past_x : (q ≢ x) × (finite.get names q ≡ Some k) = kept q k past_y.1 in
        elim (is_member x k.group) as (λ b. is_member x k.group ≡ b → weight q (leave x k) ≡ weight q k) [
          | true ↦ λ t.
              let group : k.group ≡ x ∷ y ∷ rest = ap (λ k. k.group) (sym (held_with q k past_x.1 t)) ∙ group_is in
              ap (λ g. f q (head_of (without x g)) k.items k.capacity) group
              ∙ ap (λ g. f q (head_of g) k.items k.capacity) (without_head x (y ∷ rest) rises)
              ∙ agree q y x k.items k.capacity past_y.0 past_x.0
              ∙ ap (λ g. f q (head_of g) k.items k.capacity) (sym group)
          | false ↦ λ t. ap (λ g. f q (head_of g) k.items k.capacity) (without_absent x k.group t)
        ] refl

    pub total-forget_head : total weight names + f y (Some y) h.items h.capacity ≡ total weight (forget x names)
        + f x (Some x) h.items h.capacity + f y (Some x) h.items h.capacity
    total-forget_head =
        let others : total weight (forget x names) ≡ total (λ q k. weight q (leave x k)) (finite.remove names x) =
        total-map_values (leave x) weight (finite.remove names x) in
        let next : total (λ q k. weight q (leave x k)) (finite.remove names x) ≡ total (λ q k. weight q (leave x k))
        (finite.remove (finite.remove names x) y) + weight y (leave x h) =
        total-remove (λ q k. weight q (leave x k)) (finite.remove names x) y h at_next_kept in
        let before : total weight (finite.remove names x) ≡ total weight (finite.remove (finite.remove names x) y) + weight y h =
        total-remove weight (finite.remove names x) y h at_next_kept in
        let same : total (λ q k. weight q (leave x k)) (finite.remove (finite.remove names x) y) ≡ total weight
        (finite.remove (finite.remove names x) y) = total_congr _ _ (finite.remove (finite.remove names x) y) others_agree in
        let split : total weight names ≡ total weight (finite.remove names x) + weight x h = total-remove weight names x h at in
        let new_head : weight y (leave x h) ≡ f y (Some y) h.items h.capacity =
        ap (λ g. f y (head_of (without x g)) h.items h.capacity) group_is
        ∙ ap (λ g. f y (head_of g) h.items h.capacity) (without_head x (y ∷ rest) rises) in
        let old_head : weight y h ≡ f y (Some x) h.items h.capacity = ap (λ g. f y (head_of g) h.items h.capacity) group_is in
        let x_head : weight x h ≡ f x (Some x) h.items h.capacity = ap (λ g. f x (head_of g) h.items h.capacity) group_is in
        omega (arith, others, next, before, same, split, new_head, old_head, x_head)

module _ {T : Type 0} (names : Names T) (sharing : IsSharing names) (x : ℕ) (h : Holding T) (at : finite.get names x ≡ Some h) where
  -- the four places that a name can have
  group_cases : (P : Type 0)
      → (h.group ≡ [] → P)
      → (h.group ≡ x ∷ [] → P)
      → ((y : ℕ) (rest : List ℕ) → h.group ≡ x ∷ y ∷ rest → P)
      → ((z y : ℕ) (rest : List ℕ) → z ≢ x → h.group ≡ z ∷ y ∷ rest → P)
      → P
  group_cases P none alone head follower = elim h.group as (λ g. h.group ≡ g → P) [
    | [] ↦ λ e. none e
    | z ∷ g ↦ λ e. ⊎_elim
        (λ (is_x : z ≡ x). elim g as (λ t. h.group ≡ z ∷ t → P) [
          | [] ↦ λ e. alone (e ∙ ap (λ v. v ∷ []) is_x)
          | y ∷ rest ↦ λ e. head y rest (e ∙ ap (λ v. v ∷ y ∷ rest) is_x)
        ] e)
        (λ (ne : z ≢ x). elim g as (λ t. h.group ≡ z ∷ t → P) [
          | [] ↦ λ e. ⊎_elim
              (λ (no : h.group ≡ []). absurd (let one : length (z ∷ []) ≡ 0 = ap length (sym e ∙ no) in omega arith))
              (λ (has : is_member x h.group ≡ true). absurd (ne (only z x (ap (is_member x) (sym e) ∙ has))))
              (sharing.itself x h at)
          | y ∷ rest ↦ λ e. follower z y rest ne e
        ] e) (cases_eq z x)
  ] refl

  no_head : (z : ℕ) (g : List ℕ) → z ≢ x → h.group ≡ z ∷ g → (group : List ℕ) → h.group ≡ x ∷ group → ⊥
  no_head z g ne e group is = ne (same_Some z x (ap head_of (sym e ∙ is)))

  shared_at : (z y : ℕ) (rest : List ℕ) → h.group ≡ z ∷ y ∷ rest → is_shared h ≡ true
  shared_at z y rest e = ap (λ (g : List ℕ). ltb 1 (length g)) e ∙ lt-ltb 1 (length (z ∷ y ∷ rest)) (omega arith)

  sole_at : (z y : ℕ) (rest : List ℕ) → h.group ≡ z ∷ y ∷ rest → is_sole_owner h ≡ false
  sole_at z y rest e = ap (λ (g : List ℕ). eqb (length g) 1) e ∙ ne_eqb (length (z ∷ y ∷ rest)) 1 (λ bad. omega arith)

  abbrev by_past_head : ℕ → Option ℕ → List T → ℕ → ℕ
  by_past_head q o items capacity = cond (past_head q o) (length items) 0

  past_agree : (q p r : ℕ) (items : List T) (capacity : ℕ) → q ≢ p → q ≢ r → by_past_head q (Some p) items capacity ≡ by_past_head q (Some r) items capacity
  past_agree q p r items capacity np nr = λ i. cond (not ((ne_eqb p q (λ e. np (sym e)) ∙ sym (ne_eqb r q (λ e. nr (sym e)))) i)) (length items) 0

  -- a name that leaves a block to others pays the length of its list
  pub debt-forget : debt names ≡ debt (forget x names) + cond (is_shared h) (length h.items) 0
  debt-forget = group_cases _
      (λ none.
      let left : debt names ≡ debt (forget x names) + debt_of x h =
      total-forget_follower names sharing x h at by_past_head (λ g is. absurd (none-some x (ap head_of (sym none ∙ is)))) in
      let mine : debt_of x h ≡ 0 = ap (λ g. cond (past_head x (head_of g)) (length h.items) 0) none in
      let paid : cond (is_shared h) (length h.items) 0 ≡ 0 = ap (λ (g : List ℕ). cond (ltb 1 (length g)) (length h.items) 0) none in
      omega (arith, left, mine, paid))
      (λ alone.
      let left : debt names ≡ debt (forget x names) + debt_of x h = total-forget_alone names sharing x h at by_past_head alone in
      let mine : debt_of x h ≡ 0 =
      ap (λ g. cond (past_head x (head_of g)) (length h.items) 0) alone ∙ ap (λ b. cond (not b) (length h.items) 0) (eq-eqb x x refl) in
      let paid : cond (is_shared h) (length h.items) 0 ≡ 0 = ap (λ (g : List ℕ). cond (ltb 1 (length g)) (length h.items) 0) alone in
      omega (arith, left, mine, paid))
      (λ y rest e.
      let left : debt names + by_past_head y (Some y) h.items h.capacity ≡ debt (forget x names)
      + by_past_head x (Some x) h.items h.capacity + by_past_head y (Some x) h.items h.capacity =
      total-forget_head names sharing x h at by_past_head y rest e past_agree in
      let head_x : by_past_head x (Some x) h.items h.capacity ≡ 0 = ap (λ b. cond (not b) (length h.items) 0) (eq-eqb x x refl) in
      let head_y : by_past_head y (Some y) h.items h.capacity ≡ 0 = ap (λ b. cond (not b) (length h.items) 0) (eq-eqb y y refl) in
      let was : by_past_head y (Some x) h.items h.capacity ≡ length h.items =
      ap (λ b. cond (not b) (length h.items) 0) (ne_eqb x y (λ is. next_apart names sharing x h at by_past_head y rest e past_agree (sym is))) in
      let paid : cond (is_shared h) (length h.items) 0 ≡ length h.items = ap (λ b. cond b (length h.items) 0) (shared_at x y rest e) in
      omega (arith, left, head_x, head_y, was, paid))
      (λ z y rest ne e.
      let left : debt names ≡ debt (forget x names) + debt_of x h = total-forget_follower names sharing x h at by_past_head (no_head z (y ∷ rest) ne e) in
      let mine : debt_of x h ≡ length h.items =
      ap (λ g. cond (past_head x (head_of g)) (length h.items) 0) e ∙ ap (λ b. cond (not b) (length h.items) 0) (ne_eqb z x ne) in
      let paid : cond (is_shared h) (length h.items) 0 ≡ length h.items = ap (λ b. cond b (length h.items) 0) (shared_at z y rest e) in
      omega (arith, left, mine, paid))

  module _ (number : List T → ℕ → ℕ) where
    abbrev by_head : ℕ → Option ℕ → List T → ℕ → ℕ
    by_head q o items capacity = cond (at_head q o) (number items capacity) 0

    head_agree : (q p r : ℕ) (items : List T) (capacity : ℕ) → q ≢ p → q ≢ r → by_head q (Some p) items capacity ≡ by_head q (Some r) items capacity
    head_agree q p r items capacity np nr = λ i. cond ((ne_eqb p q (λ e. np (sym e)) ∙ sym (ne_eqb r q (λ e. nr (sym e)))) i) (number items capacity) 0

    -- a block's number goes with its last name
    pub blocks-forget : total (block_number number) names ≡ total (block_number number) (forget x names) + cond (is_sole_owner h) (number h.items h.capacity) 0
    blocks-forget = group_cases _
        (λ none.
        let left : total (block_number number) names ≡ total (block_number number) (forget x names) + block_number number x h =
        total-forget_follower names sharing x h at by_head (λ g is. absurd (none-some x (ap head_of (sym none ∙ is)))) in
        let mine : block_number number x h ≡ 0 = ap (λ g. cond (at_head x (head_of g)) (number h.items h.capacity) 0) none in
        let gone : cond (is_sole_owner h) (number h.items h.capacity) 0 ≡ 0 = ap (λ (g : List ℕ). cond (eqb (length g) 1) (number h.items h.capacity) 0) none in
        omega (arith, left, mine, gone))
        (λ alone.
        let left : total (block_number number) names ≡ total (block_number number) (forget x names) + block_number number x h =
        total-forget_alone names sharing x h at by_head alone in
        let mine : block_number number x h ≡ number h.items h.capacity =
        ap (λ g. cond (at_head x (head_of g)) (number h.items h.capacity) 0) alone
        ∙ ap (λ b. cond b (number h.items h.capacity) 0) (eq-eqb x x refl) in
        let gone : cond (is_sole_owner h) (number h.items h.capacity) 0 ≡ number h.items h.capacity =
        ap (λ (g : List ℕ). cond (eqb (length g) 1) (number h.items h.capacity) 0) alone in
        omega (arith, left, mine, gone))
        (λ y rest e.
        let left : total (block_number number) names + by_head y (Some y) h.items h.capacity ≡ total (block_number number) (forget x names)
        + by_head x (Some x) h.items h.capacity + by_head y (Some x) h.items h.capacity =
        total-forget_head names sharing x h at by_head y rest e head_agree in
        let head_x : by_head x (Some x) h.items h.capacity ≡ number h.items h.capacity = ap (λ b. cond b (number h.items h.capacity) 0) (eq-eqb x x refl) in
        let head_y : by_head y (Some y) h.items h.capacity ≡ number h.items h.capacity = ap (λ b. cond b (number h.items h.capacity) 0) (eq-eqb y y refl) in
        let was : by_head y (Some x) h.items h.capacity ≡ 0 =
        ap (λ b. cond b (number h.items h.capacity) 0)
        (ne_eqb x y (λ is. next_apart names sharing x h at by_head y rest e head_agree (sym is))) in
        let gone : cond (is_sole_owner h) (number h.items h.capacity) 0 ≡ 0 = ap (λ b. cond b (number h.items h.capacity) 0) (sole_at x y rest e) in
        omega (arith, left, head_x, head_y, was, gone))
        (λ z y rest ne e.
        let left : total (block_number number) names ≡ total (block_number number) (forget x names) + block_number number x h =
        total-forget_follower names sharing x h at by_head (no_head z (y ∷ rest) ne e) in
        let mine : block_number number x h ≡ 0 =
        ap (λ g. cond (at_head x (head_of g)) (number h.items h.capacity) 0) e ∙ ap (λ b. cond b (number h.items h.capacity) 0) (ne_eqb z x ne) in
        let gone : cond (is_sole_owner h) (number h.items h.capacity) 0 ≡ 0 = ap (λ b. cond b (number h.items h.capacity) 0) (sole_at z y rest e) in
        omega (arith, left, mine, gone))
