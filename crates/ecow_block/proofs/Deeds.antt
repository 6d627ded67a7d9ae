-- A deed is taken apart and made, and a block is handed out with its base, its room and its deed, at any element type and allocator. Assumes `Logic`.
use mathlib.Core.Path.{◌≡◌, refl, sym, ap, subst, ◌∙◌}
use mathlib.Core.Bool.{Bool, true, false, not}
use Prim.Native.Nat.{ℕ, ◌+◌, ◌-◌, ◌*◌, ◌≤◌, ◌<◌, ◌^◌}
use native.Mathlib.Nat.{zero-mul}
use native.Mathlib.Omega.{arith}
use mathlib.Core.List.{List, [], ◌∷◌}
use lib.ListN.{length}
use lib.Dec.{T, eqb, eqb→eq}
use seplogic.Ra.Ura.{Ura}
use base.Logic.{ent, emp, sep, wand}
use prog.Memory.{size, align}
use prog.Align.{dv_self}
use base.Stored.{Gv}
use base.Fraction.{full_share}
use base.Fml.{Lft, GName, Share, froom, flft, fobs, fauth, fbor, fobor}
use types.SemTy.{Body}
use denote.Memory.{cell_at, part_at, mem}
use denote.Array.{Array}
use Rattle.core.proofs.ptr.Rows.{add_times}
use Rattle.core.specs.Allocator.{block_with_items}
use mir.Syntax.{ty_array}
use mir.Val.{Val, vstruct, vcons, vnil}
use types.Logic.{Logic, sem}
use types.Kit.{fsplit3, fjoin3, Soaks, keep, Goal, Step, step, Seq, Item, ‵, ◌$◌, ◌∵◌, !, qed, move, use0, use1, split, rewrite, fsplit, fjoin, fpack, feq_i, done, ◌⊛◌, raw}
use denote.RattleType.{RattleType, Valss}
use denote.RawPtr.{Ptr, block_ptr, ptr_val}
use denote.Steps.{nothing, opens, closes}
use denote.Struct.Struct.{within}
use denote.Struct.Declared as Declared
use denote.Struct.Tuple.{Tuple, tuple_type}
use Rattle.core.proofs.mem.Param.{El, R, elτ}
use Rattle.core.proofs.alloc.Calls.{Al, token}
use Rattle.core.proofs.slots.Leases.{block_ty, P}
use Rattle.std_alloc.proofs.RawLayout.{as_raw}
use Rattle.std_alloc.proofs.RcSteps.{word}
use Rattle.std.specs.Vec.Ownership.{owns_if}
use Rattle.ecow_block.specs.Ownership.{has_bytes, deed_owns}
use Rattle.ecow_block.proofs.Memory.{Bs, Mark, room_d, sz, Small, mark, mark_made, mark_had, held_of, spare_of, Held, Spare}
use Rattle.ecow_block.proofs.Places.{none_held}
use Rattle.ecow_block.specs.contracts.room.Base as Base-type
use Rattle.ecow_block.specs.contracts.room.Deed as Deed-type

pub yes_true : (y : Bool) → T y → y ≡ true
yes_true true t = refl
yes_true false t = absurd t

pub no_bytes : (n : ℕ) → not (eqb n 0) ≡ false → n ≡ 0
no_bytes n e = by (eqb n 0) refl e
  where
    by : (y : Bool) → eqb n 0 ≡ y → not y ≡ false → n ≡ 0
    by true is e' = eqb→eq n 0 (subst T (sym is) tt)
    by false is e' = absurd (subst T e' tt)

abbrev pub three_val : Val → Val → Val → Val
three_val u v w = vstruct (vcons u (vcons v (vcons w vnil)))

pub three_of : {M : Type 1} {𝓤 : Ura M} (𝓛 : Logic 𝓤) (R S T : RattleType) (x : R.Denot) (y : S.Denot) (z : T.Denot) (u v w : Val)
    → ent 𝓤 (sep 𝓤 (sem 𝓛 (R.own_val x (u ∷ []))) (sep 𝓤 (sem 𝓛 (S.own_val y (v ∷ []))) (sem 𝓛 (T.own_val z (w ∷ [])))))
    (sem 𝓛 ((Tuple (R ∷ S ∷ T ∷ [])).own_val (x, y, z) (three_val u v w ∷ [])))
three_of 𝓛 R S T x y z u v w =
    qed 𝓛 (‵ (R.own_val x (u ∷ [])) ∷ ‵ (S.own_val y (v ∷ [])) ∷ ‵ (T.own_val z (w ∷ [])) ∷ []) ∵ nothing ! $
    move ! (3 ∷ 0 ∷ []) $ fjoin ! $ move ! (2 ∷ 0 ∷ []) $ fjoin ! $ move ! (1 ∷ 0 ∷ []) $ fjoin ! $
    feq_i ! (List Val) (three_val u v w ∷ []) (three_val u v w ∷ []) refl $ fjoin ! $
    fpack ! (Valss (R ∷ S ∷ T ∷ [])) (within (Declared.shape (tuple_type (R ∷ S ∷ T ∷ []))) (x, (y, (z, tt))) (three_val u v w ∷ []))
    (u ∷ [], (v ∷ [], (w ∷ [], tt))) $ done !

module _ (E : El) {M : Type 1} {𝓤 : Ura M} {𝓛 : Logic 𝓤} {K : Type 0} {Γ : List (Item 𝓤)} {G : Goal 𝓤 𝓛.H} where
  pub base_made : K → (p : Ptr) → Step K 𝓛 (‵ ((Bs E).own_val (record { ptr = p }) (word p ∷ [])) ∷ Γ) G Γ G
  base_made t p = step (λ s.
      let Plain = Declared.shape (Base-type.the_type (R E)) in
      nothing t $ feq_i t (List Val) (ptr_val p ∷ []) (ptr_val p ∷ []) refl $ fjoin t $ feq_i t (List Val) (word p ∷ []) (word p ∷ []) refl $ fjoin t $
      fpack t (Valss Plain.fields) (within Plain (p, tt) (word p ∷ [])) (ptr_val p ∷ [], tt) $ s)

module _ (E : El) (Z : Al) where
  abbrev pub Dd : RattleType
  Dd = Deed-type.the_row (R E) (P E Z) Z.g

  -- the right to give back, where there are bytes
  abbrev pub Right : Z.row.Denot → Ptr → ℕ → base.Fml.Fml
  Right a p c = deed_owns (token Z a) (R E) p c

module _ (E : El) (Z : Al) {M : Type 1} {𝓤 : Ura M} {𝓛 : Logic 𝓤} {K : Type 0} {Γ : List (Item 𝓤)} {G : Goal 𝓤 𝓛.H} where
  pub deed_had : K → (d : (Dd E Z).Denot) (vs : List Val) → (vs ≡ mark ∷ [] → Seq K 𝓛 (‵ (Right E Z d.alloc d.at d.capacity) ∷ Γ) G)
      → Seq K 𝓛 (‵ ((Dd E Z).own_val d vs) ∷ Γ) G
  deed_had t d vs k = fsplit t $ mark_had E t vs k

  pub deed_made : K → (d : (Dd E Z).Denot) → Step K 𝓛 (‵ ((Dd E Z).own_val d (mark ∷ [])) ∷ Γ) G (‵ (Right E Z d.alloc d.at d.capacity) ∷ Γ) G
  deed_made t d = step (λ s. use0 𝓛 (‵ ((Mark E).own_val (tt, tt) (mark ∷ []))) (mark_made E 𝓛) $ fjoin t $ s)

abbrev ty_array_size : El → ℕ → ℕ
ty_array_size E c = size (ty_array (elτ E) c)

-- a new room: no items, and as many empty places as there are
abbrev pub fresh : (E : El) → ℕ → ℕ → ℕ → room_d E
fresh E b o c = record { mark = record {}; at = block_ptr b o; start = 0; items = []; capacity = c; within = omega arith }

module _ (E : El) {M : Type 1} {𝓤 : Ura M} {𝓛 : Logic 𝓤} {K : Type 0} {Γ : List (Item 𝓤)} {G : Goal 𝓤 𝓛.H} (b o c : ℕ) where
  pub all_fresh : K → Step K 𝓛 (‵ (held_of E (fresh E b o c) b o) ∷ ‵ (spare_of E (fresh E b o c) b o) ∷ Γ) G (‵ (Spare E b o c) ∷ Γ) G
  all_fresh t = step (λ s.
      let s₁ = sz E in let none = zero-mul s₁ in let here : o ≡ o + 0 * s₁ + 0 * s₁ = omega arith in let all : c ≡ c - 0 = omega arith in
      rewrite t 0 (λ (k : ℕ). ‵ (Spare E b k c)) here refl $ rewrite t 0 (λ (k : ℕ). ‵ (Spare E b (o + 0 * s₁ + 0 * s₁) k)) all refl $
      use0 𝓛 (‵ (Held E b (o + 0 * s₁) [])) (none_held E 𝓛 b (o + 0 * s₁)) $ s)

pub fresh_small : (E : El) (b o c : ℕ) → c * sz E < 2 ^ 63 → Small E (fresh E b o c)
fresh_small E b o c h = let all : c ≡ 0 + c = omega arith in subst (λ (k : ℕ). k * sz E < 2 ^ 63) all h

-- room for items that take no bytes is made of nothing, anywhere
pub no_bytes_room : (E : El) {M : Type 1} {𝓤 : Ura M} (𝓛 : Logic 𝓤) (b o c : ℕ) → c * sz E ≡ 0 → ent 𝓤 (emp 𝓤) (sem 𝓛 (Spare E b o c))
no_bytes_room E {𝓤 = 𝓤} 𝓛 b o c none =
    let none_at_all : ty_array_size E c ≡ ty_array_size E 0 = none ∙ sym (zero-mul (sz E)) in
    qed 𝓛 [] ∵ use0 𝓛 (‵ (froom (ty_array (elτ E) 0) b o)) (𝓛.laws.room_nil (elτ E) b o) $
    use1 𝓛 (‵ (froom (ty_array (elτ E) c) b o) ⊛ raw (wand 𝓤 (𝓛.H.room (ty_array (elτ E) c) b o) (𝓛.H.room (ty_array (elτ E) 0) b o)))
    (𝓛.laws.room_as (ty_array (elτ E) 0) (ty_array (elτ E) c) b o none_at_all (dv_self (align (elτ E)))) $
    split ! $ as_raw ! (ty_array (elτ E) c) b o $ keep ! (0 ∷ []) $ done !

module _ (E : El) (Z : Al) {M : Type 1} {𝓤 : Ura M} {𝓛 : Logic 𝓤} {K : Type 0} {Γ : List (Item 𝓤)} {G : Goal 𝓤 𝓛.H} where
  -- a `&mut` to a deed is opened: [the right to give back; the mark's cell; the open borrow; obs; auth]; and it is closed
  pub deed_opens : K → Soaks G → {κ : Lft} {q : Share} {γ : GName} (d : (Dd E Z).Denot) (rb ro : ℕ)
      → Step K 𝓛 (‵ (Right E Z d.alloc d.at d.capacity) ∷ ‵ (cell_at full_share (Dd E Z).mir (mark ∷ []) rb ro)
      ∷ ‵ (fobor κ q (Body (mem (Dd E Z)) rb ro γ)) ∷ ‵ (fobs γ ((Dd E Z).coded.code d)) ∷ ‵ (fauth γ ((Dd E Z).coded.code d)) ∷ Γ) G
      (‵ (fobs γ ((Dd E Z).coded.code d)) ∷ ‵ (fbor κ (Body (mem (Dd E Z)) rb ro γ)) ∷ ‵ (flft κ q) ∷ Γ) G
  deed_opens t z d rb ro = step (λ k.
      opens t z (Dd E Z) {h = d} rb ro (λ vs. move t (1 ∷ []) $
      deed_had E Z t d vs (λ is. rewrite t 1 (λ (ws : List Val). ‵ (cell_at full_share (Dd E Z).mir ws rb ro)) is refl $ k)))

  pub deed_closes : K → Soaks G → {κ : Lft} {q : Share} {u v : Gv} {γ : GName} (d : (Dd E Z).Denot) (rb ro : ℕ)
      → Step K 𝓛 (‵ (fobs γ ((Dd E Z).coded.code d)) ∷ ‵ (fbor κ (Body (mem (Dd E Z)) rb ro γ)) ∷ ‵ (flft κ q) ∷ Γ) G
      (‵ (Right E Z d.alloc d.at d.capacity) ∷ ‵ (cell_at full_share (Dd E Z).mir (mark ∷ []) rb ro)
      ∷ ‵ (fobor κ q (Body (mem (Dd E Z)) rb ro γ)) ∷ ‵ (fobs γ u) ∷ ‵ (fauth γ v) ∷ Γ) G
  deed_closes t z d rb ro = step (λ s. deed_made E Z t d $ move t (1 ∷ 0 ∷ []) $ closes t z (Dd E Z) d (mark ∷ []) rb ro $ s)

pub some_bytes : (n m s : ℕ) → n ≤ m → not (eqb (n * s) 0) ≡ true → not (eqb (m * s) 0) ≡ true
some_bytes n m s le e = by (eqb (m * s) 0) refl
  where
    by : (y : Bool) → eqb (m * s) 0 ≡ y → not y ≡ true
    by false is = refl
    by true is =
        let none : m * s ≡ 0 = eqb→eq (m * s) 0 (subst T (sym is) tt) in
        let whole : m ≡ n + (m - n) = omega arith in let parts = ap (λ k. k * s) whole ∙ add_times n (m - n) s in
        let gone : n * s ≡ 0 = omega arith in absurd (subst T (sym (ap (λ k. not (eqb k 0)) (sym gone) ∙ e)) tt)

-- a room that is a whole block, with its deed, is what an allocator calls a block with items
module _ (E : El) (Z : Al) {M : Type 1} {𝓤 : Ura M} (𝓛 : Logic 𝓤) (r : room_d E) (d : (Dd E Z).Denot) (a : Z.row.Denot) (b o len c : ℕ)
    (begins : r.start ≡ 0) (long : len ≡ length r.items) (many : c ≡ r.capacity) (by : d.alloc ≡ a)
    (at : d.at ≡ block_ptr b o) (same : d.capacity ≡ r.capacity) (bytes : has_bytes (R E) c ≡ true) where
  here : o + r.start * sz E ≡ o
  here = let e = ap (λ k. k * sz E) begins in let none = zero-mul (sz E) in omega arith

  pub to_block : ent 𝓤 (sep 𝓤 (sem 𝓛 (held_of E r b o)) (sep 𝓤 (sem 𝓛 (spare_of E r b o)) (sem 𝓛 (Right E Z d.alloc d.at d.capacity))))
      (sem 𝓛 (block_with_items (token Z a) (R E) (block_ptr b o) len c r.items))
  to_block = qed 𝓛 (‵ (held_of E r b o) ∷ ‵ (spare_of E r b o) ∷ ‵ (Right E Z d.alloc d.at d.capacity) ∷ []) ∵
      rewrite ! 2 (λ (w : Z.row.Denot × Ptr × ℕ). ‵ (Right E Z w.0 w.1 w.2)) (λ i. (by i, at i, (same ∙ sym many) i)) refl $
      rewrite ! 2 (λ (w : Bool). ‵ (owns_if w (token Z a (block_ty E c) (block_ptr b o)))) bytes refl $
      rewrite ! 0 (λ (k : ℕ). ‵ (Held E b k r.items)) here refl $ rewrite ! 0 (λ (k : ℕ). ‵ (part_at (Array (R E) k) full_share r.items b o)) (sym long) refl $
      rewrite ! 1 (λ (w : ℕ × ℕ × ℕ). ‵ (Spare E b (w.0 + w.1 * sz E) (w.2 - w.1))) (λ i. (here i, sym long i, sym many i)) refl $ fjoin3 ! $ done !

  pub of_block : ent 𝓤 (sem 𝓛 (block_with_items (token Z a) (R E) (block_ptr b o) len c r.items))
      (sep 𝓤 (sem 𝓛 (held_of E r b o)) (sep 𝓤 (sem 𝓛 (spare_of E r b o)) (sem 𝓛 (Right E Z d.alloc d.at d.capacity))))
  of_block = qed 𝓛 (‵ (block_with_items (token Z a) (R E) (block_ptr b o) len c r.items) ∷ []) ∵ fsplit3 ! $
      rewrite ! 2 (λ (w : Bool). ‵ (owns_if w (token Z a (block_ty E c) (block_ptr b o)))) (sym bytes) refl $
      rewrite ! 2 (λ (w : Z.row.Denot × Ptr × ℕ). ‵ (Right E Z w.0 w.1 w.2)) (λ i. (sym by i, sym at i, (many ∙ sym same) i)) refl $
      rewrite ! 0 (λ (k : ℕ). ‵ (part_at (Array (R E) k) full_share r.items b o)) long refl $ rewrite ! 0 (λ (k : ℕ). ‵ (Held E b k r.items)) (sym here) refl $
      rewrite ! 1 (λ (w : ℕ × ℕ × ℕ). ‵ (Spare E b (w.0 + w.1 * sz E) (w.2 - w.1))) (λ i. (sym here i, long i, many i)) refl $ done !
