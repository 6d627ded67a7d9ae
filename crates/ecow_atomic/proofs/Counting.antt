-- One step on the count of owners, under its invariant. P is what the last owner gets, at the count b, o,
-- and a the lifetime for which owners share it. Assumes `Logic`.
--     raises      one owner more, unless the count is full
--     drops       one owner fewer, and the last one gets what was lent
--     claims      a sole owner gets it too, and any other keeps its part
use mathlib.Core.Path.{◌≡◌, refl}
use mathlib.Core.Logic.{dite}
use mathlib.Core.Bool.{Bool, true, false}
use mathlib.Core.List.{List, [], ◌∷◌, Mem, not-mem-nil}
use Prim.Native.Nat.{ℕ, ◌+◌, ◌-◌, ◌%◌, ◌<◌, ◌≤◌, ◌^◌}
use native.Mathlib.Decide.{ℕ_discrete, dec_le}
use native.Mathlib.Omega.{arith}
use seplogic.Ra.Ura.{Ura}
use base.Fraction.{full_share}
use base.Logic.{SProp, ent, sep, wand, ex, all, guard, upd, emp, never, never_e, via, mono_r, emp∗, comm∗, apply∗, ex_i, upd_i, mono∗}
use base.Fml.{Share, Fml, fsep, fex, fall, flft, fdead, flent, finv, fnamed}
use prog.Atomic.{bump}
use types.Logic.{Logic, sem}
use types.Kit.{‵, raw, ◌⊛◌, some, given, ◌$◌, ◌∵◌, !, qed, by, move, split, fsplit3, fjoin, fjoin3, fpick, fpack, pick, learn, show, check, frame, each, assume, suffices, use1, use2, rewrite, updating, now, done}
use types.RcWeak.{part, rest, Fine, takes, gives, whole}
use types.Tokens.{lent_back}
use denote.RawPtr.{block_ptr}
use Rattle.core.specs.Sync.RawAtomic.{Shift, rests, ends, enters, leaves, word, if_none, along, shifted, back, found, asks, always}
use Rattle.core.specs.Thread.Scope.{refcount_state, refcount_if_alive, refcount_invariant, after_increment}

module _ {M : Type 1} {𝓤 : Ura M} (𝓛 : Logic 𝓤) where
  open 𝓛 use {H, A}

  abbrev Pr : Type 2
  Pr = SProp 𝓤

  abbrev ◌⊢◌ : Pr → Pr → Type 1
  P ⊢ Q = ent 𝓤 P Q

  abbrev ◌∗◌ : Pr → Pr → Pr
  P ∗ Q = sep 𝓤 P Q

  abbrev ◌-∗◌ : Pr → Pr → Pr
  P -∗ Q = wand 𝓤 P Q

  abbrev ⟦◌⟧ : Fml → Pr
  ⟦ P ⟧ = sem 𝓛 P

  infix 26 ◌⊢◌
  infixr 35 ◌∗◌
  infixr 30 ◌-∗◌
  -- ---- an invariant that a step opens by itself
  module _ (I : Fml) where
    -- it is given back
    shuts_with : (j : ℕ) (T : Pr) → ⟦ I ⟧ ∗ T ⊢ shifted 𝓛 (if_none 𝓛 T) ((j, I) ∷ [])
    shuts_with j T = let L : List (ℕ × Fml) = (j, I) ∷ [] in
        qed 𝓛 (‵ I ∷ raw T ∷ []) ∵ suffices ! _ (ex_i 𝓤 (λ (s : Shift). along 𝓛 s (if_none 𝓛 T) L) (leaves rests)) $
        suffices ! _ (upd_i 𝓤 (⟦ I ⟧ ∗ upd 𝓤 T)) $ frame ! $ suffices ! _ (upd_i 𝓤 T) $ done !

    -- a lifetime ends before
    ends_with : (j a : ℕ) (T : Pr) → A.lft (a ∷ []) full_share ∗ (A.dead (a ∷ []) -∗ ⟦ I ⟧ ∗ T)
        ⊢ shifted 𝓛 (if_none 𝓛 T) ((j, I) ∷ [])
    ends_with j a T = let L : List (ℕ × Fml) = (j, I) ∷ [] in let D : Pr = A.dead (a ∷ []) in
        let Z : Pr = upd 𝓤 (⟦ I ⟧ ∗ upd 𝓤 T) in
        qed 𝓛 (‵ (flft (a ∷ []) full_share) ∷ raw (D -∗ ⟦ I ⟧ ∗ T) ∷ []) ∵
        suffices ! _ (ex_i 𝓤 (λ (s : Shift). along 𝓛 s (if_none 𝓛 T) L) (ends a (leaves rests))) $
        suffices ! _ (upd_i 𝓤 (A.lft (a ∷ []) full_share ∗ (D -∗ Z))) $ frame ! $ assume ! (‵ (fdead (a ∷ []))) $
        use2 𝓛 (‵ I ⊛ raw T) (apply∗ 𝓤 D (⟦ I ⟧ ∗ T)) $ split ! $
        suffices ! _ (upd_i 𝓤 (⟦ I ⟧ ∗ upd 𝓤 T)) $ frame ! $ suffices ! _ (upd_i 𝓤 T) $ done !

    module _ (b o : ℕ) (f : ℕ → ℕ) (after : ℕ → Fml) where
      opens_for : (X : Pr) → ((j : ℕ) → ⟦ I ⟧ ∗ X ⊢ ex 𝓤 (found 𝓛 ((j, I) ∷ []) b o f always after))
          → A.inv I ∗ X ⊢ asks 𝓛 (block_ptr b o) f always after
      opens_for X h = let K : List (ℕ × Fml) → Pr = λ l. ex 𝓤 (found 𝓛 l b o f always after) in
          qed 𝓛 (‵ (finv I) ∷ raw X ∷ []) ∵ use1 𝓛 (some (λ (j : ℕ). ‵ (fnamed j I))) (𝓛.invs.inv_named I) $ pick ! (λ j.
          let F : Pr = upd 𝓤 (K ((j, I) ∷ [])) in
          suffices ! _ (ex_i 𝓤 (λ (s : Shift). along 𝓛 s K []) (enters j I rests)) $
          suffices ! _ (upd_i 𝓤 (guard 𝓤 (¬ Mem j []) (A.named j I ∗ (⟦ I ⟧ -∗ F)))) $ check ! (λ m. not-mem-nil m) $ frame ! $
          assume ! (‵ I) $ suffices ! _ (upd_i 𝓤 (K ((j, I) ∷ []))) $ by ! (h j))

  -- ---- the count of owners
  module _ (P : Fml) (b o a : ℕ) where
    abbrev I : Fml
    I = refcount_invariant P b o a

    abbrev st : ℕ → Fml
    st = refcount_state P b o a

    abbrev alive : Bool → Fml
    alive = refcount_if_alive P b o a

    -- whoever can tell that a has not ended finds the count
    found_alive : (X G : Pr) → A.dead (a ∷ []) ∗ X ⊢ never 𝓤 → ((n : ℕ) → ⟦ st n ⟧ ∗ X ⊢ G) → ⟦ I ⟧ ∗ X ⊢ G
    found_alive X G ended k = qed 𝓛 (‵ I ∷ raw X ∷ []) ∵ fpick ! (λ y. by ! (each_way y)) where
      each_way : (y : Bool) → ⟦ alive y ⟧ ∗ X ⊢ G
      each_way true = qed 𝓛 (‵ (fex ℕ st) ∷ raw X ∷ []) ∵ fpick ! (λ n. by ! (k n))
      each_way false = via 𝓤 (never 𝓤) ended (never_e 𝓤 G)

    dead_token : (s : Share) → A.dead (a ∷ []) ∗ A.lft (a ∷ []) s ⊢ never 𝓤
    dead_token s = via 𝓤 _ (comm∗ 𝓤 (A.dead (a ∷ [])) (A.lft (a ∷ []) s)) (𝓛.lfts.lft-dead (a ∷ []) s)

    dead_part : A.dead (a ∷ []) ∗ ⟦ part 63 a ⟧ ⊢ never 𝓤
    dead_part = qed 𝓛 (‵ (fdead (a ∷ [])) ∷ ‵ (part 63 a) ∷ []) ∵ move ! (1 ∷ []) $ fpick ! (λ e. fpick ! (λ c. by ! (𝓛.lfts.lft-dead (a ∷ []) e)))

    below : (n : ℕ) → ⟦ rest 63 a n ⟧ ⊢ guard 𝓤 ((0 < n) × (n < 2 ^ 63)) ⟦ rest 63 a n ⟧
    below n = qed 𝓛 (‵ (rest 63 a n) ∷ []) ∵ fpick ! (λ r. fpick ! (λ c. check ! (c.0, c.1) $
        fpack ! (Fine 63 n r) (λ _. flft (a ∷ []) r) c $ fpack ! Share (λ s. fex (Fine 63 n s) (λ _. flft (a ∷ []) s)) r $ done !))

    counted : (n : ℕ) → ⟦ st n ⟧ ⊢ ⟦ I ⟧
    counted n = qed 𝓛 (‵ (st n) ∷ []) ∵ fpack ! ℕ st n $ fpack ! Bool alive true $ done !

    -- ---- one owner more
    module _ (s : Share) where
      Token : Pr
      Token = A.lft (a ∷ []) s

      abbrev more : ℕ → Fml
      more = after_increment a s

      absent : (φ : Type 0) → (φ → ⊥) → (Q : Pr) → emp 𝓤 ⊢ all 𝓤 (λ (_ : φ). Q)
      absent φ not Q = record { apply = λ r h y. absurd (not y) }

      unchanged : (n : ℕ) → 2 ^ 63 ≤ n + 1 → ⟦ flft (a ∷ []) s ⟧ ⊢ ⟦ more n ⟧
      unchanged n full = via 𝓤 (⟦ flft (a ∷ []) s ⟧ ∗ emp 𝓤)
          (via 𝓤 _ (emp∗ 𝓤 ⟦ flft (a ∷ []) s ⟧) (comm∗ 𝓤 (emp 𝓤) ⟦ flft (a ∷ []) s ⟧))
          (mono_r 𝓤 ⟦ flft (a ∷ []) s ⟧ (absent (n + 1 < 2 ^ 63) (λ room. omega arith) ⟦ part 63 a ⟧))

      raised : (j n : ℕ) (d : Dec (2 ^ 63 ≤ n + 1)) → n < 2 ^ 63
          → ⟦ rest 63 a n ⟧ ∗ ⟦ flent (a ∷ []) P ⟧ ∗ ⟦ flft (a ∷ []) s ⟧
          ⊢ back 𝓛 ((j, I) ∷ []) b o (λ _. dite d (λ _. n) (λ _. n + 1)) more n
      raised j n (yes full) small =
          qed 𝓛 (‵ (rest 63 a n) ∷ ‵ (flent (a ∷ []) P) ∷ ‵ (flft (a ∷ []) s) ∷ []) ∵ assume ! (‵ (word b o n)) $
          suffices ! _ (shuts_with I j ⟦ more n ⟧) $ fjoin3 ! $ use1 𝓛 (‵ I) (counted n) $ frame ! $ by ! (unchanged n full)
      raised j n (no room) small =
          qed 𝓛 (‵ (rest 63 a n) ∷ ‵ (flent (a ∷ []) P) ∷ ‵ (flft (a ∷ []) s) ∷ []) ∵ assume ! (‵ (word b o (n + 1))) $
          suffices ! _ (shuts_with I j ⟦ more n ⟧) $ move ! (1 ∷ []) $
          use1 𝓛 (‵ (rest 63 a (n + 1)) ⊛ ‵ (part 63 a)) (takes 63 𝓛 a n (omega arith)) $ split ! $ move ! (2 ∷ 0 ∷ 3 ∷ []) $
          fjoin3 ! $ use1 𝓛 (‵ I) (counted (n + 1)) $ frame ! $ move ! (1 ∷ []) $ frame ! $ each ! (λ (_ : n + 1 < 2 ^ 63). ⟦ part 63 a ⟧) (λ _. done !)

      pub raises : A.inv I ∗ ⟦ flft (a ∷ []) s ⟧ ⊢ asks 𝓛 (block_ptr b o) bump always more
      raises = opens_for I b o bump more ⟦ flft (a ∷ []) s ⟧ (λ j. let G : Pr = ex 𝓤 (found 𝓛 ((j, I) ∷ []) b o bump always more) in
          found_alive ⟦ flft (a ∷ []) s ⟧ G (dead_token s) (λ n. qed 𝓛 (‵ (st n) ∷ ‵ (flft (a ∷ []) s) ∷ []) ∵ fsplit3 ! $
          show ! (found 𝓛 ((j, I) ∷ []) b o bump always more) n $ frame ! $ use1 𝓛 (given ((0 < n) × (n < 2 ^ 63)) (‵ (rest 63 a n))) (below n) $
          learn ! (λ small. each ! (λ (_ : always n). back 𝓛 ((j, I) ∷ []) b o bump more n) (λ _. by ! (raised j n (dec_le (2 ^ 63) (n + 1)) small.1)))))

    -- ---- one owner fewer
    -- what the last one has
    abbrev pub ended_at : ℕ → Fml
    ended_at m = fsep (word b o m) (fsep (fdead (a ∷ [])) (flent (a ∷ []) P))

    -- it gets what was lent
    pub gets : (m : ℕ) → ⟦ ended_at m ⟧ ⊢ H.⇛ ⟦ fsep (word b o m) P ⟧
    gets m = qed 𝓛 (‵ (ended_at m) ∷ []) ∵ updating ! $ fsplit3 ! $ move ! (1 ∷ 2 ∷ []) $ lent_back ! tt $ now ! $ move ! (1 ∷ 0 ∷ []) $ fjoin ! $ done !

    abbrev pub fewer : ℕ → Fml
    fewer n = fall (n ≡ 1) (λ _. ended_at 0)

    less : ℕ → ℕ
    less n = (n + (2 ^ 64 - 1)) % 2 ^ 64

    ends_as : (j m : ℕ) (T : Pr) → ⟦ ended_at m ⟧ ⊢ T → ⟦ word b o m ⟧ ∗ ⟦ rest 63 a 1 ⟧ ∗ ⟦ flent (a ∷ []) P ⟧ ∗ ⟦ part 63 a ⟧
        ⊢ shifted 𝓛 (if_none 𝓛 T) ((j, I) ∷ [])
    ends_as j m T k = qed 𝓛 (‵ (word b o m) ∷ ‵ (rest 63 a 1) ∷ ‵ (flent (a ∷ []) P) ∷ ‵ (part 63 a) ∷ []) ∵ suffices ! _ (ends_with I j a T) $
        move ! (1 ∷ 3 ∷ []) $ use2 𝓛 (‵ (flft (a ∷ []) full_share)) (whole 63 𝓛 a) $ frame ! $ assume ! (‵ (fdead (a ∷ []))) $
        use1 𝓛 (‵ (fdead (a ∷ [])) ⊛ ‵ (fdead (a ∷ []))) (𝓛.lfts.dead_dup (a ∷ [])) $ split ! $ fpack ! Bool alive false $ frame ! $
        move ! (1 ∷ 0 ∷ 2 ∷ []) $ fjoin3 ! $ by ! k

    dropped : (j n : ℕ) → Dec (n ≡ 1) → 0 < n → n < 2 ^ 63 → ⟦ rest 63 a n ⟧ ∗ ⟦ flent (a ∷ []) P ⟧ ∗ ⟦ part 63 a ⟧
        ⊢ back 𝓛 ((j, I) ∷ []) b o (λ m. (m + (2 ^ 64 - 1)) % 2 ^ 64) fewer n
    dropped j n (yes one) positive small = let w : ℕ = (n + 18446744073709551615) % 18446744073709551616 in
        qed 𝓛 (‵ (rest 63 a n) ∷ ‵ (flent (a ∷ []) P) ∷ ‵ (part 63 a) ∷ []) ∵ assume ! (‵ (word b o w)) $
        let e : w ≡ 0 = omega arith in rewrite ! 0 (λ (m : ℕ). ‵ (word b o m)) e refl $ rewrite ! 1 (λ (m : ℕ). ‵ (rest 63 a m)) one refl $
        by ! (ends_as j 0 ⟦ fewer n ⟧ (qed 𝓛 (‵ (ended_at 0) ∷ []) ∵ each ! (λ (_ : n ≡ 1). ⟦ ended_at 0 ⟧) (λ _. done !)))
    dropped j n (no many) positive small = let w : ℕ = (n + 18446744073709551615) % 18446744073709551616 in
        qed 𝓛 (‵ (rest 63 a n) ∷ ‵ (flent (a ∷ []) P) ∷ ‵ (part 63 a) ∷ []) ∵ assume ! (‵ (word b o w)) $
        let e : w ≡ n - 1 = omega arith in rewrite ! 0 (λ (m : ℕ). ‵ (word b o m)) e refl $ suffices ! _ (shuts_with I j ⟦ fewer n ⟧) $
        move ! (1 ∷ 3 ∷ []) $ use2 𝓛 (‵ (rest 63 a (n - 1))) (gives 63 𝓛 a n (omega arith)) $ move ! (1 ∷ []) $ fjoin3 ! $ use1 𝓛 (‵ I) (counted (n - 1)) $
        by ! (via 𝓤 (⟦ I ⟧ ∗ emp 𝓤) (via 𝓤 _ (emp∗ 𝓤 ⟦ I ⟧) (comm∗ 𝓤 (emp 𝓤) ⟦ I ⟧))
        (mono_r 𝓤 ⟦ I ⟧ {Q = emp 𝓤} {Q' = all 𝓤 (λ (_ : n ≡ 1). ⟦ ended_at 0 ⟧)} (record { apply = λ r h y. absurd (many y) })))

    pub drops : A.inv I ∗ ⟦ part 63 a ⟧ ⊢ asks 𝓛 (block_ptr b o) (λ n. (n + (2 ^ 64 - 1)) % 2 ^ 64) always fewer
    drops = let f : ℕ → ℕ = λ n. (n + (2 ^ 64 - 1)) % 2 ^ 64 in opens_for I b o f fewer ⟦ part 63 a ⟧ (λ j.
        let G : Pr = ex 𝓤 (found 𝓛 ((j, I) ∷ []) b o f always fewer) in
        found_alive ⟦ part 63 a ⟧ G dead_part (λ n. qed 𝓛 (‵ (st n) ∷ ‵ (part 63 a) ∷ []) ∵ fsplit3 ! $
        show ! (found 𝓛 ((j, I) ∷ []) b o f always fewer) n $ frame ! $ use1 𝓛 (given ((0 < n) × (n < 2 ^ 63)) (‵ (rest 63 a n))) (below n) $
        learn ! (λ small. each ! (λ (_ : always n). back 𝓛 ((j, I) ∷ []) b o f fewer n) (λ _. by ! (dropped j n (ℕ_discrete n 1) small.0 small.1)))))

    -- ---- whether an owner is the only one
    abbrev pub sole_or_part : ℕ → Fml
    sole_or_part n = fsep (fall (n ≡ 1) (λ _. ended_at 1)) (fall (¬ (n ≡ 1)) (λ _. part 63 a))

    on_left : (φ ψ : Type 0) (U Y : Pr) → (ψ → ⊥) → U ⊢ all 𝓤 (λ (_ : φ). U) ∗ all 𝓤 (λ (_ : ψ). Y)
    on_left φ ψ U Y not = via 𝓤 (U ∗ emp 𝓤) (via 𝓤 _ (emp∗ 𝓤 U) (comm∗ 𝓤 (emp 𝓤) U))
        (mono∗ 𝓤 {P = U} {P' = all 𝓤 (λ (_ : φ). U)} {Q = emp 𝓤} {Q' = all 𝓤 (λ (_ : ψ). Y)}
        (record { apply = λ r h _. h }) (record { apply = λ r h y. absurd (not y) }))

    on_right : (φ ψ : Type 0) (U Y : Pr) → (φ → ⊥) → Y ⊢ all 𝓤 (λ (_ : φ). U) ∗ all 𝓤 (λ (_ : ψ). Y)
    on_right φ ψ U Y not = via 𝓤 _ (on_left ψ φ Y U not) (comm∗ 𝓤 (all 𝓤 (λ (_ : ψ). Y)) (all 𝓤 (λ (_ : φ). U)))

    claimed : (j n : ℕ) → Dec (n ≡ 1) → n < 2 ^ 63 → ⟦ rest 63 a n ⟧ ∗ ⟦ flent (a ∷ []) P ⟧ ∗ ⟦ part 63 a ⟧
        ⊢ back 𝓛 ((j, I) ∷ []) b o (λ m. m) sole_or_part n
    claimed j n (yes one) small =
        qed 𝓛 (‵ (rest 63 a n) ∷ ‵ (flent (a ∷ []) P) ∷ ‵ (part 63 a) ∷ []) ∵ assume ! (‵ (word b o n)) $
        rewrite ! 0 (λ (m : ℕ). ‵ (word b o m)) one refl $ rewrite ! 1 (λ (m : ℕ). ‵ (rest 63 a m)) one refl $
        by ! (ends_as j 1 ⟦ sole_or_part n ⟧ (on_left (n ≡ 1) (¬ (n ≡ 1)) ⟦ ended_at 1 ⟧ ⟦ part 63 a ⟧ (λ many. many one)))
    claimed j n (no many) small =
        qed 𝓛 (‵ (rest 63 a n) ∷ ‵ (flent (a ∷ []) P) ∷ ‵ (part 63 a) ∷ []) ∵ assume ! (‵ (word b o n)) $
        suffices ! _ (shuts_with I j ⟦ sole_or_part n ⟧) $ fjoin3 ! $ use1 𝓛 (‵ I) (counted n) $ frame ! $
        by ! (on_right (n ≡ 1) (¬ (n ≡ 1)) ⟦ ended_at 1 ⟧ ⟦ part 63 a ⟧ many)

    pub claims : A.inv I ∗ ⟦ part 63 a ⟧ ⊢ asks 𝓛 (block_ptr b o) (λ n. n) always sole_or_part
    claims = opens_for I b o (λ n. n) sole_or_part ⟦ part 63 a ⟧ (λ j.
        let G : Pr = ex 𝓤 (found 𝓛 ((j, I) ∷ []) b o (λ n. n) always sole_or_part) in
        found_alive ⟦ part 63 a ⟧ G dead_part (λ n. qed 𝓛 (‵ (st n) ∷ ‵ (part 63 a) ∷ []) ∵ fsplit3 ! $
        show ! (found 𝓛 ((j, I) ∷ []) b o (λ n. n) always sole_or_part) n $ frame ! $ use1 𝓛 (given ((0 < n) × (n < 2 ^ 63)) (‵ (rest 63 a n))) (below n) $
        learn ! (λ small. each ! (λ (_ : always n). back 𝓛 ((j, I) ∷ []) b o (λ n. n) sole_or_part n) (λ _. by ! (claimed j n (ℕ_discrete n 1) small.1)))))
