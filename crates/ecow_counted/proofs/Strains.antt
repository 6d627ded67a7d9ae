-- The arithmetic of capacities: each growth is paid by the strain, the copied elements and the input.
use Rattle.std.proofs.Common.{◌≡◌, ℕ, ◌+◌, ◌-◌, ◌*◌, ◌<◌, ◌≤◌, true, false, cond, eqb, ltb, leb, max, refl, ap, arith, ⊎_elim}
use Rattle.std.proofs.lemmas.Bool.{ne_eqb, cases_eq, leb-true, leb-false, ltb-false}
use Rattle.ecow_base.specs.Capacity.{MAX, fresh, grown, room}
use Rattle.ecow_model.specs.Names.{strain_at}

pub strain_le : (len capacity : ℕ) → strain_at len capacity ≤ 2 * len - capacity
strain_le len capacity = elim (eqb capacity MAX) as (λ b. cond b 0 (2 * len - capacity) ≤ 2 * len - capacity) [ true ↦ omega arith | false ↦ omega arith ]

pub strain_full : (len : ℕ) → strain_at len MAX ≡ 0
strain_full len = refl

pub strain_below : (len capacity : ℕ) → capacity < MAX → strain_at len capacity ≡ 2 * len - capacity
strain_below len capacity lt = ap (λ b. cond b 0 (2 * len - capacity)) (ne_eqb capacity MAX (λ e. omega arith))

-- a shorter list strains no more
pub strain_keep : (l n capacity : ℕ) → l ≤ n → strain_at l capacity ≤ strain_at n capacity
strain_keep l n capacity le =
    elim (eqb capacity MAX) as (λ b. cond b 0 (2 * l - capacity) ≤ cond b 0 (2 * n - capacity)) [ true ↦ omega arith | false ↦ omega arith ]

strain_more : (l n k capacity : ℕ) → l ≤ n + k → strain_at l capacity ≤ strain_at n capacity + 2 * k
strain_more l n k capacity le =
    elim (eqb capacity MAX) as (λ b. cond b 0 (2 * l - capacity) ≤ cond b 0 (2 * n - capacity) + 2 * k) [ true ↦ omega arith | false ↦ omega arith ]

pub le-fresh : (n : ℕ) → n ≤ fresh n
le-fresh n =
    elim (ltb 0 n) as (λ b. ltb 0 n ≡ b → n ≤ cond b (max n 4) 0) [
      | true ↦ λ _. omega arith
      | false ↦ λ e. let le : n
          ≤ 0 = ltb-false 0 n e in omega arith
    ] refl

pub fresh-le : (n : ℕ) → n ≤ MAX → fresh n ≤ MAX
fresh-le n le = elim (ltb 0 n) as (λ b. cond b (max n 4) 0 ≤ MAX) [ true ↦ omega arith | false ↦ omega arith ]

pub strain_fresh : (l n : ℕ) → l ≤ n → strain_at l (fresh n) ≤ n
strain_fresh l n le =
    let bound : strain_at l (fresh n) ≤ 2 * l - fresh n = strain_le l (fresh n) in
    let wide : n ≤ fresh n = le-fresh n in
    omega arith

pub le-room : (left k capacity : ℕ) → left + k ≤ MAX → left + k ≤ room left k capacity
le-room left k capacity fit = elim (leb (left + k) capacity) as (λ b. leb (left + k) capacity ≡ b → left + k ≤ cond b capacity (grown left k capacity)) [
  | true ↦ λ e. leb-true (left + k) capacity e
  | false ↦ λ e. omega arith
] refl

pub room-le : (left k capacity : ℕ) → capacity ≤ MAX → room left k capacity ≤ MAX
room-le left k capacity small = elim (leb (left + k) capacity) as (λ b. cond b capacity (grown left k capacity) ≤ MAX) [ true ↦ small | false ↦ omega arith ]

-- a grown block is at least half empty but for what comes in, or is the greatest
strain_grown : (l left k capacity : ℕ) → l ≤ left + k → left ≤ capacity → left + k ≤ MAX
    → capacity < left + k → strain_at l (grown left k capacity) + capacity ≤ left + 2 * k
strain_grown l left k capacity short small fit more = ⊎_elim
    (λ (top : grown left k capacity ≡ MAX). let none : strain_at l (grown left k capacity) ≡ 0 = ap (strain_at l) top in omega arith)
    (λ (ne : grown left k capacity ≡ MAX → ⊥). let bound : strain_at l (grown left k capacity)
    ≤ 2 * l - grown left k capacity = strain_le l (grown left k capacity) in
    omega arith)
    (cases_eq (grown left k capacity) MAX)

-- within a sole name's block or by its growth
pub paid_by_room : (n l left k capacity : ℕ) → left ≤ n → n ≤ capacity → capacity ≤ MAX → l ≤ left + k → left + k ≤ MAX
    → cond (leb (left + k) capacity) 0 left + strain_at l (room left k capacity) ≤ strain_at n capacity + 2 * k
paid_by_room n l left k capacity part fits small short fit =
    elim (leb (left + k) capacity) as (λ b. leb (left + k) capacity ≡ b
    → cond b 0 left + strain_at l (cond b capacity (grown left k capacity)) ≤ strain_at n capacity + 2 * k) [
      | true ↦ λ e. let within : strain_at l capacity ≤ strain_at n capacity + 2 * k = strain_more l n k capacity (omega arith) in omega arith
      | false ↦ λ e.
          let more : capacity < left + k = leb-false (left + k) capacity e in
          let bound : strain_at l (grown left k capacity) + capacity ≤ left + 2 * k = strain_grown l left k capacity short (omega arith) fit more in
          let had : strain_at n capacity ≡ 2 * n - capacity = strain_below n capacity (omega arith) in
          omega (arith, bound, had, more)
    ] refl

-- in the new block of a name that leaves its own
pub paid_by_copy : (n l left k capacity : ℕ) → left ≤ n → n ≤ capacity → l ≤ left + k → left + k ≤ MAX → strain_at l (room left k capacity) ≤ n + 2 * k
paid_by_copy n l left k capacity part fits short fit =
    elim (leb (left + k) capacity) as (λ b. leb (left + k) capacity ≡ b → strain_at l (cond b capacity (grown left k capacity)) ≤ n + 2 * k) [
      | true ↦ λ e. let bound : strain_at l capacity ≤ 2 * l - capacity =
          strain_le l capacity in let enough : left + k ≤ capacity = leb-true (left + k) capacity e in omega arith
      | false ↦ λ e.
          let more : capacity < left + k = leb-false (left + k) capacity e in
          let bound : strain_at l (grown left k capacity) + capacity ≤ left + 2 * k = strain_grown l left k capacity short (omega arith) fit more in
          omega arith
    ] refl
