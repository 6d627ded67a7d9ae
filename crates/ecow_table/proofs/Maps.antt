-- What a table has under each name, and the map that it is after a change.
use Rattle.std.proofs.Common.{arith, ◌≡◌, ℕ, Result, Ok, Err, OnErr, suc, ◌+◌, ◌<◌, ◌≤◌, ◌^◌, List, [], ◌∷◌, ◌++◌, Bool, true, false, cond, not, Option, Some, None, refl, sym, ap, ◌∙◌, subst, inl, inr, length, get_or, slice_set, take, nat_lt, ◌≢◌, Ordering, Less, Equal, Greater}
use Rattle.std.specs.Prelude.{nat_eq}
use lib.Dec.{eqb-zero-suc, eqb-suc-zero, eqb-suc-suc}
use Rattle.std.specs.Ordering.{nat_cmp, eq_by_cmp, is_eq}
use Rattle.std.specs.Cmp.{eq_by_cmp_equiv, nat_cmp_total, tied_itself, unsigned_ties}
use Rattle.std.specs.Map.{lookup}
use borrow.Follows.Closed.{read_of}
use Rattle.std.specs.Option.{ghost_name_of, option_copied_mut, option_or, IsSome}
use Rattle.std.specs.Borrow.{MutBor}
use Rattle.std.proofs.lemmas.Bool.{false≢true, lt-ltb, le-ltb, ltb-true, ltb-false}
use Rattle.std.proofs.lemmas.List.{get_or-set_same, get_or-set_other, get_or-take, get_or_past, length-take, length-append}
use Rattle.std.specs.BTreeMap.{is_at}
use Rattle.std.specs.FinMap.{FinMap, get, insert, remove, contains_key, len, from_entries, same_map, get-insert, get-remove, get-from_entries, len-insert, len-empty, nat_cmp-IsAntisymmetric}
use Rattle.std.specs.FinMap.Entries.{find, where_key, find-where_key}
use Rattle.ecow_table.specs.Tables.{SLOTS, has_slot, shifted, filled, values_of}

-- equality of names, as a finite map asks for it
same_name : (k q : ℕ) → nat_eq k q ≡ is_at (nat_cmp q) k
same_name k q = unsigned_ties k q ∙ (eq_by_cmp_equiv nat_cmp_total).symm k q

ties : (r : Ordering) → is_eq r ≡ true → r ≡ Equal
ties Less e = absurd (false≢true e)
ties Equal e = refl
ties Greater e = absurd (false≢true e)

tied : (q k : ℕ) → is_at (nat_cmp q) k ≡ true → q ≡ k
tied q k is = nat_cmp-IsAntisymmetric q k (ties (nat_cmp q k) is)

apart : (q k : ℕ) → is_at (nat_cmp q) k ≡ false → q ≢ k
apart q k is same = false≢true (sym is ∙ subst (λ x. is_at (nat_cmp q) x ≡ true) same (ap is_eq (tied_itself nat_cmp_total q)))

module _ {V : Type 0} where
  -- what entries have under a name
  abbrev pub at : List (ℕ × V) → ℕ → Option V
  at es q = lookup (is_at (nat_cmp q)) es

  find-at : (es : List (ℕ × V)) (q : ℕ) → find nat_cmp q es ≡ at es q
  find-at [] q = refl
  find-at (e ∷ es) q = ap (cond (is_at (nat_cmp q) e.0) (Some e.1)) (find-at es q)

  abbrev by_name : List (ℕ × V) → ℕ → Option V
  by_name es q = lookup (nat_eq q) es

  at-by_name : (es : List (ℕ × V)) (q : ℕ) → at es q ≡ by_name es q
  at-by_name [] q = refl
  at-by_name (e ∷ es) q = ap (λ b. cond b (Some e.1) (at es q)) (sym (unsigned_ties q e.0)) ∙ ap (cond (nat_eq q e.0) (Some e.1)) (at-by_name es q)

  first-shifted : (es : List (ℕ × V)) → by_name (shifted es) 0 ≡ None
  first-shifted [] = refl
  first-shifted (e ∷ es) = ap (λ b. cond b (Some e.1) (by_name (shifted es) 0)) (eqb-zero-suc e.0) ∙ first-shifted es

  next-shifted : (es : List (ℕ × V)) (q : ℕ) → by_name (shifted es) (suc q) ≡ by_name es q
  next-shifted [] q = refl
  next-shifted (e ∷ es) q =
      ap (λ b. cond b (Some e.1) (by_name (shifted es) (suc q))) (eqb-suc-suc q e.0) ∙ ap (cond (nat_eq q e.0) (Some e.1)) (next-shifted es q)

  in_slot : (slots : List (Option V)) (q : ℕ) → by_name (filled slots) q ≡ get_or slots q None
  in_slot [] q = refl
  in_slot (None ∷ slots) Prim.Native.Nat.zero = first-shifted (filled slots)
  in_slot (None ∷ slots) (suc q) = next-shifted (filled slots) q ∙ in_slot slots q
  in_slot (Some v ∷ slots) Prim.Native.Nat.zero = refl
  in_slot (Some v ∷ slots) (suc q) =
      ap (λ b. cond b (Some v) (by_name (shifted (filled slots)) (suc q))) (eqb-suc-zero q) ∙ next-shifted (filled slots) q ∙ in_slot slots q

  find-append : (xs ys : List (ℕ × V)) (q : ℕ) → find nat_cmp q (xs ++ ys) ≡ option_or (find nat_cmp q xs) (find nat_cmp q ys)
  find-append [] ys q = refl
  find-append (x ∷ xs) ys q =
      ap (cond (eq_by_cmp nat_cmp q x.0) (Some x.1)) (find-append xs ys q)
      ∙ elim (eq_by_cmp nat_cmp q x.0) as (λ b. cond b (Some x.1) (option_or (find nat_cmp q xs) (find nat_cmp q ys))
      ≡ option_or (cond b (Some x.1) (find nat_cmp q xs)) (find nat_cmp q ys)) [ true ↦ refl | false ↦ refl ]

  or_none : (o : Option V) → option_or o None ≡ o
  or_none None = refl
  or_none (Some v) = refl

  either : (b : Bool) (o p : Option V) → option_or (cond b o None) (cond (not b) p None) ≡ cond b o p
  either true o p = or_none o
  either false o p = refl

  in_taken : (slots : List (Option V)) (n q : ℕ) → get_or (take n slots) q None ≡ cond (nat_lt q n) (get_or slots q None) None
  in_taken slots n q = elim (nat_lt q n) as (λ b. nat_lt q n ≡ b → get_or (take n slots) q None ≡ cond b (get_or slots q None) None) [
    | true ↦ λ is. get_or-take n slots q None (ltb-true q n is)
    | false ↦ λ is. get_or_past (take n slots) q None (let long = length-take n slots in let past = ltb-false q n is in omega (arith, long, past))
  ] refl

  kept-where : (p : ℕ → Bool) (q : ℕ) (es : List (ℕ × V)) → find nat_cmp q (where_key nat_cmp p es) ≡ cond (p q) (find nat_cmp q es) None
  kept-where p q es = find-where_key nat_cmp p q (λ x tied. ap p (sym (nat_cmp-IsAntisymmetric q x tied))) es

  -- what a table has under a name
  pub get-values : (slots : List (Option V)) (es : List (ℕ × V)) (q : ℕ) → get (values_of slots es) q ≡ cond (has_slot q) (get_or slots q None) (at es q)
  get-values slots es q =
      let near = take SLOTS slots in
      get-from_entries nat_cmp_total _ q
      ∙ find-append (filled near) (where_key nat_cmp (λ k. not (has_slot k)) es) q
      ∙ (λ i. option_or ((find-at (filled near) q ∙ at-by_name (filled near) q ∙ in_slot near q ∙ in_taken slots SLOTS q) i)
      ((kept-where (λ k. not (has_slot k)) q es ∙ ap (λ o. cond (not (has_slot q)) o None) (find-at es q)) i))
      ∙ either (has_slot q) (get_or slots q None) (at es q)

  length-shifted : (es : List (ℕ × V)) → length (shifted es) ≡ length es
  length-shifted [] = refl
  length-shifted (e ∷ es) = ap suc (length-shifted es)

  -- a table has at most a name for each slot and each entry
  length-filled : (slots : List (Option V)) → length (filled slots) ≤ length slots
  length-filled [] = omega arith
  length-filled (None ∷ slots) = let rest = length-filled slots in let same = length-shifted (filled slots) in omega (arith, rest, same)
  length-filled (Some v ∷ slots) = let rest = length-filled slots in let same = length-shifted (filled slots) in omega (arith, rest, same)

  length-where : (p : ℕ → Bool) (es : List (ℕ × V)) → length (where_key nat_cmp p es) ≤ length es
  length-where p [] = omega arith
  length-where p (e ∷ es) =
      let rest =
      length-where p es in elim (p e.0) as (λ b. length (cond b (e ∷ where_key nat_cmp p es) (where_key nat_cmp p es))
      ≤ suc (length es)) [ true ↦ omega (arith, rest) | false ↦ omega (arith, rest) ]

  len-made : (es : List (ℕ × V)) → len (from_entries {R = nat_cmp} es) ≤ length es
  len-made [] = let none = len-empty nat_cmp V in omega (arith, none)
  len-made (e ∷ es) =
      let m = from_entries {R = nat_cmp} es in
      let rest = len-made es in
      let one = len-insert nat_cmp_total m e.0 e.1 in
      let more : cond (contains_key m e.0) (len m) (len m + 1) ≤ len m + 1 =
      elim (contains_key m e.0) as (λ b. cond b (len m) (len m + 1) ≤ len m + 1) [ true ↦ omega arith | false ↦ omega arith ] in
      omega (arith, rest, one, more)

  pub len-values : (slots : List (Option V)) (es : List (ℕ × V)) → len (values_of slots es) ≤ SLOTS + length es
  len-values slots es =
      let near = filled (take SLOTS slots) in
      let far = where_key nat_cmp (λ k. not (has_slot k)) es in
      let all = len-made (near ++ far) in
      let both = length-append near far in
      let few = length-filled (take SLOTS slots) in
      let taken = length-take SLOTS slots in
      let others = length-where (λ k. not (has_slot k)) es in
      omega (arith, all, both, few, taken, others)

  -- a table whose tree has n names, fewer than 2^63, has countable ones
  pub few-values : (slots : List (Option V)) (es : List (ℕ × V)) (m : FinMap nat_cmp V) (n : ℕ)
      → values_of slots es ≡ m → n ≡ length es → n < 2 ^ 63 → len m + 1 < 2 ^ 64
  few-values slots es m n view size small = subst (λ x. len x + 1 < 2 ^ 64) view (let few = len-values slots es in omega (arith, few, size, small))

  -- and so has what it is where nothing changes, or where one is put in
  pub few-kept : (m n : FinMap nat_cmp V) → len m + 1 < 2 ^ 64 → n ≡ m → len n < 2 ^ 64
  few-kept m n few same = subst (λ x. len x < 2 ^ 64) (sym same) (omega (arith, few))

  pub few-inserted : (m n : FinMap nat_cmp V) (k : ℕ) (v : V) → len m + 1 < 2 ^ 64 → n ≡ insert m k v → len n < 2 ^ 64
  few-inserted m n k v few same =
      let one = len-insert nat_cmp_total m k v in
      let more : cond (contains_key m k) (len m) (len m + 1) ≤ len m + 1 =
      elim (contains_key m k) as (λ b. cond b (len m) (len m + 1) ≤ len m + 1) [ true ↦ omega arith | false ↦ omega arith ] in
      subst (λ x. len x < 2 ^ 64) (sym same) (omega (arith, few, one, more))

  -- an empty slot more holds nothing
  pub one_more : (slots : List (Option V)) (q : ℕ) → get_or (slots ++ None ∷ []) q None ≡ get_or slots q None
  one_more [] Prim.Native.Nat.zero = refl
  one_more [] (suc q) = refl
  one_more (slot ∷ slots) Prim.Native.Nat.zero = refl
  one_more (slot ∷ slots) (suc q) = one_more slots q

  -- two maps that have the same under each name, but for one name
  inserted : (m n : FinMap nat_cmp V) (k : ℕ) (v : V) → ((q : ℕ) → get n q ≡ cond (is_at (nat_cmp q) k) (Some v) (get m q)) → n ≡ insert m k v
  inserted m n k v h = same_map nat_cmp_total nat_cmp-IsAntisymmetric _ _ (λ q. h q ∙ sym (get-insert nat_cmp_total m k v q))

  removed : (m n : FinMap nat_cmp V) (k : ℕ) → ((q : ℕ) → get n q ≡ cond (is_at (nat_cmp q) k) None (get m q)) → n ≡ remove m k
  removed m n k h = same_map nat_cmp_total nat_cmp-IsAntisymmetric _ _ (λ q. h q ∙ sym (get-remove nat_cmp_total m k q))

  -- a name with a slot
  module _ (slots : List (Option V)) (es : List (ℕ × V)) (k : ℕ) (small : k < SLOTS) where
    slotted : has_slot k ≡ true
    slotted = lt-ltb k SLOTS small

    pub get-slot : get (values_of slots es) k ≡ get_or slots k None
    get-slot = get-values slots es k ∙ ap (λ b. cond b (get_or slots k None) (at es k)) slotted

    in_one_slot : (new : List (Option V)) (o : Option V) → get_or new k None ≡ o → ((q : ℕ) → q ≢ k → get_or new q None ≡ get_or slots q None)
        → (q : ℕ) → get (values_of new es) q ≡ cond (is_at (nat_cmp q) k) o (get (values_of slots es) q)
    in_one_slot new o same others q =
        elim (is_at (nat_cmp q) k) as (λ b. is_at (nat_cmp q) k ≡ b → get (values_of new es) q ≡ cond b o (get (values_of slots es) q)) [
          | true ↦ λ is. subst (λ x. get (values_of new es) x ≡ o) (sym (tied q k is)) (get-values new es k
              ∙ ap (λ b. cond b (get_or new k None) (at es k)) slotted ∙ same)
          | false ↦ λ is. get-values new es q ∙ ap (λ v. cond (has_slot q) v (at es q)) (others q (apart q k is)) ∙ sym (get-values slots es q)
        ] refl

    pub put-slot : (v : V) → k < length slots → values_of (slice_set slots k (Some v)) es ≡ insert (values_of slots es) k v
    put-slot v within =
        inserted _ _ k v (in_one_slot (slice_set slots k (Some v)) (Some v) (get_or-set_same slots k (Some v) None within)
        (λ q other. get_or-set_other slots k q (Some v) None other))

    pub clear-slot : k < length slots → values_of (slice_set slots k None) es ≡ remove (values_of slots es) k
    clear-slot within =
        removed _ _ k (in_one_slot (slice_set slots k None) None (get_or-set_same slots k None None within)
        (λ q other. get_or-set_other slots k q None None other))

    pub no-slot : get_or slots k None ≡ None → values_of slots es ≡ remove (values_of slots es) k
    no-slot none = removed _ _ k (in_one_slot slots None none (λ q other. refl))

  -- a name without one
  module _ (slots : List (Option V)) (es : List (ℕ × V)) (k : ℕ) (large : SLOTS ≤ k) where
    unslotted : has_slot k ≡ false
    unslotted = le-ltb k SLOTS large

    pub get-entry : get (values_of slots es) k ≡ at es k
    get-entry = get-values slots es k ∙ ap (λ b. cond b (get_or slots k None) (at es k)) unslotted

    in_one_entry : (new : List (ℕ × V)) (o : Option V) → ((q : ℕ) → at new q ≡ cond (is_at (nat_cmp k) q) o (at es q))
        → (q : ℕ) → get (values_of slots new) q ≡ cond (is_at (nat_cmp q) k) o (get (values_of slots es) q)
    in_one_entry new o all q =
        get-values slots new q ∙ ap (cond (has_slot q) (get_or slots q None)) (all q)
        ∙ elim (is_at (nat_cmp q) k) as (λ b. is_at (nat_cmp q) k ≡ b
        → cond (has_slot q) (get_or slots q None) (cond (is_at (nat_cmp k) q) o (at es q)) ≡ cond b o (get (values_of slots es) q)) [
          | true ↦ λ is. ap (λ b. cond b (get_or slots q None) (cond (is_at (nat_cmp k) q) o (at es q))) (ap has_slot (tied q k is) ∙ unslotted)
              ∙ ap (λ b. cond b o (at es q)) ((eq_by_cmp_equiv nat_cmp_total).symm k q ∙ is)
          | false ↦ λ is. ap (λ b. cond (has_slot q) (get_or slots q None) (cond b o (at es q)))
              ((eq_by_cmp_equiv nat_cmp_total).symm k q ∙ is) ∙ sym (get-values slots es q)
        ] refl

    pub put-entry : (new : List (ℕ × V)) (v : V) → ((q : ℕ) → at new q ≡ cond (is_at (nat_cmp k) q) (Some v) (at es q))
        → values_of slots new ≡ insert (values_of slots es) k v
    put-entry new v all = inserted _ _ k v (in_one_entry new (Some v) all)

    pub cut-entry : (new : List (ℕ × V)) → ((q : ℕ) → at new q ≡ cond (is_at (nat_cmp k) q) None (at es q))
        → values_of slots new ≡ remove (values_of slots es) k
    cut-entry new all = removed _ _ k (in_one_entry new None all)

  -- slots that hold the same, however many are made
  pub same-slots : (slots new : List (Option V)) (es : List (ℕ × V))
      → ((q : ℕ) → get_or new q None ≡ get_or slots q None) → values_of new es ≡ values_of slots es
  same-slots slots new es same =
      same_map nat_cmp_total nat_cmp-IsAntisymmetric _ _ (λ q. get-values new es q
      ∙ ap (λ o. cond (has_slot q) o (at es q)) (same q) ∙ sym (get-values slots es q))

-- what lends a value ends alike, where it does so at each value that is left
pub same_loan : {E D : Type 0} (r : Option (MutBor E)) (F G : E → D) (u v : D) → (IsSome r → (w : E) → F w ≡ G w)
    → u ≡ v → read_of (ghost_name_of r) F u ≡ read_of (ghost_name_of r) G v
same_loan None F G u v some none = ap inr none
same_loan (Some x) F G u v some none = let same = some refl in λ i. inl (x.ghost_name, λ w. same w i)

pub found : {E : Type 0} (r : Option (MutBor E)) (o : Option E) → option_copied_mut r ≡ o → IsSome r → IsSome o
found None o e h = absurd (false≢true h)
found (Some x) o e h = subst IsSome e refl

-- what holds in any case holds at an error
pub on_err : {A E P : Type 0} (r : Result A E) → P → OnErr r P
on_err (Ok x) p = tt
on_err (Err e) p = p
