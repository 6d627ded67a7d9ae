-- An owner is taken apart and made, at any element type. Assumes `Logic`.
--     laid-Good      the one machine value of an owner at p
--     data_had, data_made      the fields of an owner
--     owner_had, owner_made      an owner by value
--     block_seen      what a `&` to an owner holds, and what it sees, is what a `&` to the block holds
use mathlib.Core.Path.{◌≡◌, refl, sym, ◌∙◌}
use Prim.Native.Nat.{ℕ, ◌+◌}
use mathlib.Core.List.{List, [], ◌∷◌, ◌++◌}
use seplogic.Ra.Ura.{Ura}
use base.Fml.{Lft, ftrue, fsep}
use mir.Syntax.{Ty}
use mir.Val.{Val, vstruct, of_list}
use types.Logic.{Logic}
use types.Kit.{Goal, Step, step, Seq, Item, ‵, ◌$◌, move, drop, use0, rewrite, fsplit, fjoin, fpick, fpack, feq_l, feq_i}
use denote.Memory.{lone, shared_of, hidden_shr}
use denote.RattleType.{RattleType, Valss}
use denote.RawPtr.{Ptr}
use denote.Opens.{hide, unhide}
use denote.Sharing.{beside, nothing as nothing_held}
use denote.Steps.{nothing}
use denote.Struct.Owning.{shape, to}
use denote.Struct.Struct.{Shape, Struct, within, as_fields}
use Rattle.core.proofs.mem.Param.{El, R}
use Rattle.std.specs.contracts.alloc.Global as heap
use Rattle.std_alloc.proofs.RcSteps.{Good, word, word-Good}
use Rattle.ecow_block.specs.Fields.{IsBlock, shown}
use Rattle.ecow_block.specs.Heads.{title_shares}
use Rattle.ecow_block.specs.Kept.{IsOwner, seen}
use Rattle.ecow_block.specs.contracts.room.Top as top_type
use Rattle.ecow_block.proofs.Kept.{Bk, Bi, laid, heap_val, heap_had, heap_made}
use Rattle.ecow_block.proofs.Memory.{Mark, mark, mark_had, mark_made}
use Rattle.ecow_block.proofs.Heads.{Tp, top_had, top_made}
use Rattle.ecow_shared.specs.Owners.{owner_owns}
use Rattle.ecow_shared.specs.contracts.shared.Shared as S
use Rattle.ecow_shared.specs.contracts.shared.Shared.TheInside as SI

module _ (E : El) where
  abbrev pub Sh : RattleType
  Sh = S.the_row (R E)

  abbrev pub Si : RattleType
  Si = SI.the_row (R E)

  -- the fields of an owner that are there when the program runs
  abbrev pub Data : RattleType
  Data = Struct (shape (SI.the_type (R E)))

  abbrev pub data_of : Si.Denot → Data.Denot
  data_of s = to (SI.the_type (R E)) s

  abbrev pub data_ty : Ty
  data_ty = lone Data.mir

  pub laid-Good : (p : Ptr) → Good data_ty (laid p)
  laid-Good p =
      as_fields (lone (Tp E).mir ∷ lone (Mark E).mir ∷ lone (Mark E).mir ∷ lone (Mark E).mir ∷ lone heap.the_row.mir ∷ [])
      (word p ∷ mark ∷ mark ∷ mark ∷ heap_val ∷ [])
      (word-Good [] p, ((tt, (tt, tt)), ((tt, (tt, tt)), ((tt, (tt, tt)), ((tt, ((tt, tt), tt)), tt)))))

module _ (E : El) {M : Type 1} {𝓤 : Ura M} {𝓛 : Logic 𝓤} {K : Type 0} {Γ : List (Item 𝓤)} {G : Goal 𝓤 𝓛.H} where
  pub data_had : K → (s : (Si E).Denot) (vs : List Val) → (vs ≡ laid s.top.ptr ∷ [] → Seq K 𝓛 Γ G) → Seq K 𝓛 (‵ ((Data E).own_val (data_of E s) vs) ∷ Γ) G
  data_had t s vs k = fpick t (λ vss. fsplit t $ feq_l t (λ whole.
      fsplit t $ top_had E t s.top vss.0
      (λ e₀. fsplit t $ mark_had E t vss.1.0 (λ e₁. fsplit t $ mark_had E t vss.1.1.0 (λ e₂. fsplit t $ mark_had E t vss.1.1.1.0 (λ e₃.
      fsplit t $ heap_had t s.alloc vss.1.1.1.1.0
      (λ e₄. drop t $ k (whole ∙ (λ j. vstruct (of_list (e₀ j ++ (e₁ j ++ (e₂ j ++ (e₃ j ++ (e₄ j ++ [])))))) ∷ [])))))))))

  pub data_made : K → (s : (Si E).Denot) → Step K 𝓛 (‵ ((Data E).own_val (data_of E s) (laid s.top.ptr ∷ [])) ∷ Γ) G Γ G
  data_made t s = step (λ k.
      let Plain : Shape = shape (SI.the_type (R E)) in let v : Val = laid s.top.ptr in
      nothing t $ heap_made t s.alloc $ fjoin t $ use0 𝓛 (‵ ((Mark E).own_val (tt, tt) (mark ∷ []))) (mark_made E 𝓛) $ fjoin t $
      use0 𝓛 (‵ ((Mark E).own_val (tt, tt) (mark ∷ []))) (mark_made E 𝓛) $ fjoin t $
      use0 𝓛 (‵ ((Mark E).own_val (tt, tt) (mark ∷ []))) (mark_made E 𝓛) $ fjoin t $
      top_made E t s.top.ptr $ fjoin t $ feq_i t (List Val) (v ∷ []) (v ∷ []) refl $ fjoin t $
      fpack t (Valss Plain.fields) (within Plain (data_of E s) (v ∷ [])) (word s.top.ptr ∷ [], (mark ∷ [], (mark ∷ [], (mark ∷ [], (heap_val ∷ [], tt))))) $ k)

module _ (E : El) {M : Type 1} {𝓤 : Ura M} {𝓛 : Logic 𝓤} {K : Type 0} {Γ : List (Item 𝓤)} {G : Goal 𝓤 𝓛.H} where
  -- [what is owned beside the fields]
  pub owner_had : K → (d : (Sh E).Denot) (vs : List Val)
      → ((s : (Si E).Denot) → shown s.inside ≡ d → IsOwner s.top s.alloc s.inside
      → vs ≡ laid s.top.ptr ∷ [] → Seq K 𝓛 (‵ (owner_owns (R E) s.inside) ∷ Γ) G)
      → Seq K 𝓛 (‵ ((Sh E).own_val d vs) ∷ Γ) G
  owner_had t d vs k = fpick t (λ x. fsplit t $ move t (1 ∷ []) $ drop t $ fsplit t $ data_had E t x.0 vs (λ e. k x.0 x.1.0 x.1.1 e))

  pub owner_made : K → (s : (Si E).Denot) → IsOwner s.top s.alloc s.inside
      → Step K 𝓛 (‵ ((Sh E).own_val (shown s.inside) (laid s.top.ptr ∷ [])) ∷ Γ) G (‵ (owner_owns (R E) s.inside) ∷ Γ) G
  owner_made t s is = step (λ k. let d : (Sh E).Denot = shown s.inside in
      data_made E t s $ fjoin t $ nothing t $ move t (1 ∷ 0 ∷ []) $ fjoin t $
      fpack t ((a : (Si E).Denot) × ((shown a.inside ≡ d) × IsOwner a.top a.alloc a.inside))
      (λ x. fsep ((Si E).own_val x.0 (laid s.top.ptr ∷ [])) ftrue) (s, (refl, is)) $ k)

-- what a `&` to an owner holds, and what it sees, is what a `&` to the block holds
module _ (E : El) (s : (Si E).Denot) (is : IsOwner s.top s.alloc s.inside) (κ : Lft)
    (b o : ℕ) {M : Type 1} {𝓤 : Ura M} {𝓛 : Logic 𝓤} {K : Type 0} {Γ : List (Item 𝓤)} {G : Goal 𝓤 𝓛.H} where
  pub block_seen : K → Step K 𝓛 (‵ (hidden_shr (Bk E) κ (shown s.inside) b o) ∷ Γ) G
      (‵ (hidden_shr (Data E) κ (data_of E s) b o) ∷ ‵ (seen (R E) s.inside κ) ∷ Γ) G
  block_seen t = step (λ k. let i = s.inside in let d : (Bk E).Denot = shown i in
      unhide t $ move t (1 ∷ []) $ fsplit t $ rewrite t 0 (λ (p : Ptr). ‵ (title_shares (R E) p i.title.fields κ)) (sym is.is_block.head.at) refl $
      -- [the fields of the head; the items; the owner's fields]
      move t (2 ∷ []) $ fsplit t $ fsplit t $ rewrite t 0 (λ (p : Ptr). ‵ (shared_of (top_type.the_field (R E)).row (p, tt) b (o + 0) κ)) (sym is.top_is) refl $
      move t (1 ∷ []) $ fsplit t $ move t (0 ∷ 5 ∷ []) $ fjoin t $ move t (1 ∷ []) $ fsplit t $ move t (0 ∷ 5 ∷ []) $ fjoin t $
      move t (1 ∷ []) $ fsplit t $ nothing t $ move t (1 ∷ 0 ∷ []) $ fjoin t $ fjoin t $ move t (1 ∷ 0 ∷ []) $
      fjoin t $ move t (1 ∷ 0 ∷ []) $ fjoin t $ move t (1 ∷ 0 ∷ []) $ fjoin t $ fjoin t $
      nothing t $ move t (1 ∷ 0 ∷ []) $ fjoin t $
      fpack t ((a : (Bi E).Denot) × ((shown a ≡ d) × IsBlock a))
      (λ x. beside ((Bi E).shr_at x.0 b o) nothing_held κ) (i, (refl, is.is_block)) $ hide t $ k)
