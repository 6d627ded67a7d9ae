-- Sums over a finite map with numbers for keys, and a map whose values are changed.
use Rattle.std.proofs.Common.{◌≡◌, ℕ, ◌+◌, ◌<◌, Bool, true, false, cond, ◌&&◌, T, eqb, List, [], ◌∷◌, map, length, Some, None, refl, sym, ◌∙◌, ap, subst, arith, add_comm, Less, Equal, Greater}
use Rattle.std.specs.Prelude.{sum_by}
use Rattle.std.specs.Ordering.{nat_cmp, eq_by_cmp, is_lt, is_eq}
use Rattle.std.specs.Cmp.{unsigned_tied, nat_cmp_total}
use Rattle.std.specs.FinMap as finite
use Rattle.std.specs.FinMap.Entries.{find, put, is_sorted, below_all, by_order}
use Rattle.std.proofs.lemmas.Bool.{eqb-true, ne_eqb, eq-eqb}
use Rattle.std.proofs.lemmas.Option.{none-some}
use Rattle.std.proofs.lemmas.Bool.Decides.{nat_tests}
use Rattle.std.proofs.lemmas.List.Sums.{sum_by-cons}
use Rattle.ecow_model.specs.Names.{total, map_values}
use Rattle.ecow_model.proofs.Entries.{entries-map_values}

-- at numbers a key ties with itself alone
pub ties : (q k : ℕ) → eq_by_cmp nat_cmp q k ≡ eqb q k
ties q k = unsigned_tied q k

pub below : (q k : ℕ) → T (is_lt (nat_cmp q k)) → q < k
below q k h = grind (arith, nat_tests)

pub first : (a b : Bool) → T (a && b) → T a
first true b p = tt
first false b p = p

pub second : (a b : Bool) → T (a && b) → T b
second true b p = p
second false b p = absurd p

module _ {X : Type 0} where
  -- a key below all the others is none of them
  pub missed : (q : ℕ) (es : List (ℕ × X)) → T (below_all nat_cmp q es) → find nat_cmp q es ≡ None
  missed q [] h = refl
  missed q (e ∷ es) h =
      let lt : q < e.0 = below q e.0 (first _ _ h) in
      let ne : eqb q e.0 ≡ false = ne_eqb q e.0 (λ is. omega arith) in
      rw (ties q e.0, ne) (missed q es (second _ _ h))

  found_first : (e : ℕ × X) (es : List (ℕ × X)) → find nat_cmp e.0 (e ∷ es) ≡ Some e.1
  found_first e es = rw (ties e.0 e.0, eq-eqb e.0 e.0 refl) refl

  found_later : (q : ℕ) (e : ℕ × X) (es : List (ℕ × X)) (v : X) → T (is_sorted nat_cmp (e ∷ es)) → find nat_cmp q es ≡ Some v → find nat_cmp q (e ∷ es) ≡ Some v
  found_later q e es v h is =
      elim (eqb q e.0) as (λ b. eqb q e.0 ≡ b → find nat_cmp q (e ∷ es) ≡ Some v) [
        | true ↦ λ t. absurd (none-some v (sym (missed q es (subst (λ k. T (below_all nat_cmp k es)) (sym (eqb-true q e.0 t)) (first _ _ h))) ∙ is))
        | false ↦ λ t. rw (ties q e.0, t) is
      ] refl

  sum_congr : (w w' : ℕ → X → ℕ) (es : List (ℕ × X)) → T (is_sorted nat_cmp es)
      → ((q : ℕ) (v : X) → find nat_cmp q es ≡ Some v → w q v ≡ w' q v) → sum_by (λ e. w e.0 e.1) es ≡ sum_by (λ e. w' e.0 e.1) es
  sum_congr w w' [] h agree = refl
  sum_congr w w' (e ∷ es) h agree =
      let here = agree e.0 e.1 (found_first e es) in
      let later : sum_by (λ (e : ℕ × X). w e.0 e.1) es ≡ sum_by (λ (e : ℕ × X). w' e.0 e.1) es =
      sum_congr w w' es (second _ _ h) (λ q v is. agree q v (found_later q e es v h is)) in
      rw (sum_by-cons (λ (e : ℕ × X). w e.0 e.1) e es, sum_by-cons (λ (e : ℕ × X). w' e.0 e.1) e es) (omega (arith, here, later))

  sum_none : (f : ℕ × X → ℕ) (es : List (ℕ × X)) → length es ≡ 0 → sum_by f es ≡ 0
  sum_none f [] h = refl
  sum_none f (e ∷ es) h = absurd (omega arith)

  sum_put : (w : ℕ → X → ℕ) (k : ℕ) (v : X) (es : List (ℕ × X)) → find nat_cmp k es ≡ None
      → sum_by (λ e. w e.0 e.1) (put nat_cmp k v es) ≡ sum_by (λ e. w e.0 e.1) es + w k v
  sum_put w k v [] h = omega arith
  sum_put w k v (e ∷ es) h =
      let f : ℕ × X → ℕ = λ e. w e.0 e.1 in
      elim (nat_cmp k e.0) as (λ r. nat_cmp k e.0 ≡ r
      → sum_by f (by_order r ((k, v) ∷ e ∷ es) ((e.0, v) ∷ es) (e ∷ put nat_cmp k v es)) ≡ sum_by f (e ∷ es) + w k v) [
        | Less ↦ λ t. sum_by-cons f (k, v) (e ∷ es) ∙ add_comm (w k v) (sum_by f (e ∷ es))
        | Equal ↦ λ t. absurd (none-some e.1 (sym h ∙ ap (λ r. cond (is_eq r) (Some e.1) (find nat_cmp k es)) t))
        | Greater ↦ λ t.
            let later : sum_by f (put nat_cmp k v es) ≡ sum_by f es + w k v =
            sum_put w k v es (sym (ap (λ r. cond (is_eq r) (Some e.1) (find nat_cmp k es)) t) ∙ h) in
            rw (sum_by-cons f e (put nat_cmp k v es), sum_by-cons f e es) (omega (arith, later))
      ] refl

  sum_map : (f : X → X) (w : ℕ → X → ℕ) (es : List (ℕ × X))
      → sum_by (λ (e : ℕ × X). w e.0 e.1) (map (λ e. (e.0, f e.1)) es) ≡ sum_by (λ (e : ℕ × X). w e.0 (f e.1)) es
  sum_map f w [] = refl
  sum_map f w (e ∷ es) =
      let later : sum_by (λ (e : ℕ × X). w e.0 e.1) (map (λ e. (e.0, f e.1)) es) ≡ sum_by (λ (e : ℕ × X). w e.0 (f e.1)) es = sum_map f w es in
      rw (
        sum_by-cons (λ (e : ℕ × X). w e.0 e.1) (e.0, f e.1) (map (λ e. (e.0, f e.1)) es),
        sum_by-cons (λ (e : ℕ × X). w e.0 (f e.1)) e es,
      ) (omega (arith, later))

  pub total-map_values : (f : X → X) (w : ℕ → X → ℕ) (m : finite.FinMap nat_cmp X) → total w (map_values f m) ≡ total (λ q v. w q (f v)) m
  total-map_values f w m = ap (sum_by (λ (e : ℕ × X). w e.0 e.1)) (entries-map_values f m) ∙ sum_map f w (finite.entries m)

  pub total_congr : (w w' : ℕ → X → ℕ) (m : finite.FinMap nat_cmp X) → ((q : ℕ) (v : X) → finite.get m q ≡ Some v → w q v ≡ w' q v) → total w m ≡ total w' m
  total_congr w w' m agree = sum_congr w w' (finite.entries m) (finite.entries_sorted m) (λ q v is. agree q v (finite.get-entries m q ∙ is))

  -- at a name that isn't there
  pub total-insert : (w : ℕ → X → ℕ) (m : finite.FinMap nat_cmp X) (k : ℕ) (v : X) → finite.get m k ≡ None → total w (finite.insert m k v) ≡ total w m + w k v
  total-insert w m k v none =
      ap (sum_by (λ (e : ℕ × X). w e.0 e.1)) (finite.entries-insert nat_cmp_total m k v)
      ∙ sum_put w k v (finite.entries m) (sym (finite.get-entries m k) ∙ none)

  pub total-empty : (w : ℕ → X → ℕ) → total w (finite.empty {X = X} {R = nat_cmp}) ≡ 0
  total-empty w = sum_none (λ e. w e.0 e.1) (finite.entries finite.empty) (sym (finite.len-entries finite.empty) ∙ finite.len-empty nat_cmp X)

  pub get-insert_nat : (m : finite.FinMap nat_cmp X) (k : ℕ) (v : X) (q : ℕ) → finite.get (finite.insert m k v) q ≡ cond (eqb q k) (Some v) (finite.get m q)
  get-insert_nat m k v q = finite.get-insert nat_cmp_total m k v q ∙ ap (λ b. cond b (Some v) (finite.get m q)) (ties q k)

  pub get-remove_nat : (m : finite.FinMap nat_cmp X) (k q : ℕ) → finite.get (finite.remove m k) q ≡ cond (eqb q k) None (finite.get m q)
  get-remove_nat m k q = finite.get-remove nat_cmp_total m k q ∙ ap (λ b. cond b None (finite.get m q)) (ties q k)

  pub same_nat : (m n : finite.FinMap nat_cmp X) → ((q : ℕ) → finite.get m q ≡ finite.get n q) → m ≡ n
  same_nat m n is = finite.same_map nat_cmp_total finite.nat_cmp-IsAntisymmetric m n is

  -- what is put back where it was
  pub insert-remove : (m : finite.FinMap nat_cmp X) (k : ℕ) (v : X) → finite.get m k ≡ Some v → finite.insert (finite.remove m k) k v ≡ m
  insert-remove m k v is = same_nat _ _ (λ q. get-insert_nat (finite.remove m k) k v q ∙
      elim (eqb q k) as (λ b. eqb q k ≡ b → cond b (Some v) (finite.get (finite.remove m k) q) ≡ finite.get m q) [
        | true ↦ λ t. sym is ∙ ap (finite.get m) (sym (eqb-true q k t))
        | false ↦ λ t. get-remove_nat m k q ∙ ap (λ b. cond b None (finite.get m q)) t
      ] refl)

  -- the name's number, and the others'
  pub total-remove : (w : ℕ → X → ℕ) (m : finite.FinMap nat_cmp X) (k : ℕ) (v : X) → finite.get m k ≡ Some v → total w m ≡ total w (finite.remove m k) + w k v
  total-remove w m k v is =
      ap (total w) (sym (insert-remove m k v is))
      ∙ total-insert w (finite.remove m k) k v (get-remove_nat m k k ∙ ap (λ b. cond b None (finite.get m k)) (eq-eqb k k refl))
