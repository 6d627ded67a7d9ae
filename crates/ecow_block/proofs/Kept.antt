-- A block is taken apart and made, at any element type. Assumes `Logic`.
--     heap_val, heap_had, heap_made      the allocator's handle, which is one value
--     laid      the one machine value of a block at p, and of its owners
--     block_had, block_made      a block by value: [the deed's right; the title's; the room's]
--     to_sole, of_sole      a block with a head is what a sole owner has
--     no_contents      a block without a head is empty
use mathlib.Core.Path.{◌≡◌, refl, sym, ◌∙◌}
use Prim.Native.Nat.{ℕ, ◌≤◌}
use native.Mathlib.Omega.{arith}
use lib.ListN.{length}
use mathlib.Core.List.{List, [], ◌∷◌, ◌++◌}
use seplogic.Ra.Ura.{Ura}
use base.Fml.{Fml, ftrue, fsep}
use mir.Val.{Val, vstruct, vcons, vnil, vunit, of_list}
use types.Logic.{Logic}
use types.Kit.{Goal, Step, step, Seq, Item, ‵, ◌$◌, move, drop, use0, rewrite, fsplit, fjoin, fpick, fpack, feq_l, feq_i}
use denote.Laws.{Is, Tells, shows}
use denote.RattleType.{RattleType, Valss}
use denote.RawPtr.{Ptr, block_ptr, null_ptr}
use denote.Steps.{nothing, peeks}
use denote.Struct.Declared as Declared
use denote.Struct.Laws as LL
use denote.Struct.Struct.{Shape, within}
use Rattle.core.proofs.mem.Param.{El, R}
use Rattle.core.specs.contracts.rt.Memory as memory
use Rattle.std.proofs.alloc.Global.TheLaws as heap_laws
use Rattle.std.specs.contracts.alloc.Global as heap
use Rattle.std.specs.contracts.impls.GlobalAllocator.TheImpl.{ghosts}
use Rattle.std_alloc.proofs.RcSteps.{word}
use Rattle.std_alloc.specs.Rc.Ownership.{counter_at}
use Rattle.ecow_block.specs.Contents.{contents}
use Rattle.ecow_block.specs.Fields.{IsBlock, shown}
use Rattle.ecow_block.specs.Heads.{head_rest, title_owns}
use Rattle.ecow_block.specs.Kept.{sole_owns}
use Rattle.ecow_block.specs.Ownership.{room_owns, deed_owns}
use Rattle.ecow_block.specs.contracts.block.Block as B
use Rattle.ecow_block.specs.contracts.block.Block.TheInside as BI
use Rattle.ecow_block.specs.Parts.{capacity_of}
use Rattle.ecow_block.proofs.Memory.{Mark, mark, mark_had, mark_made}
use Rattle.ecow_block.proofs.Heads.{top_had, top_made}

abbrev pub memory_val : Val
memory_val = vstruct (vcons vunit vnil)

abbrev pub heap_val : Val
heap_val = vstruct (vcons memory_val vnil)

heap_Tells : Tells heap.the_row (Is heap.the_row) (λ _. heap_val ∷ [])
heap_Tells = LL.tells heap.the_type heap_laws.the_laws

module _ {M : Type 1} {𝓤 : Ura M} {𝓛 : Logic 𝓤} {K : Type 0} {Γ : List (Item 𝓤)} {G : Goal 𝓤 𝓛.H} where
  pub heap_had : K → (h : heap.the_row.Denot) (vs : List Val) → (vs ≡ heap_val ∷ [] → Seq K 𝓛 Γ G) → Seq K 𝓛 (‵ (heap.the_row.own_val h vs) ∷ Γ) G
  heap_had t h vs k = peeks t heap.the_row (Is heap.the_row) (shows 𝓛 heap.the_row) h vs (λ is. drop t $ k (heap_Tells h vs is))

  pub heap_made : K → (h : heap.the_row.Denot) → Step K 𝓛 (‵ (heap.the_row.own_val h (heap_val ∷ [])) ∷ Γ) G Γ G
  heap_made t h = step (λ s.
      let Plain = Declared.shape heap.the_type in let Inner = Declared.shape memory.the_type in
      nothing t $ nothing t $ feq_i t (List Val) (vunit ∷ []) (vunit ∷ []) refl $ fjoin t $
      feq_i t (List Val) (memory_val ∷ []) (memory_val ∷ []) refl $ fjoin t $
      fpack t (Valss Inner.fields) (within Inner (tt, tt) (memory_val ∷ [])) (vunit ∷ [], tt) $
      fjoin t $ feq_i t (List Val) (heap_val ∷ []) (heap_val ∷ []) refl $ fjoin t $
      fpack t (Valss Plain.fields) (within Plain ((tt, tt), tt) (heap_val ∷ [])) (memory_val ∷ [], tt) $ s)

-- the machine value of a block at p, and of its owners
abbrev pub laid : Ptr → Val
laid p = vstruct (vcons (word p) (vcons mark (vcons mark (vcons mark (vcons heap_val vnil)))))

module _ (E : El) where
  abbrev pub Bk : RattleType
  Bk = B.the_row (R E)

  abbrev pub Bi : RattleType
  Bi = BI.the_row (R E)

-- what a block owns beside its fields
module _ (E : El) (i : (Bi E).Denot) where
  abbrev pub titled : Fml
  titled = title_owns (ghosts.dealloc_token i.title.alloc) (R E) i.title.at i.title.fields i.title.places

  abbrev pub rest_at : Ptr → Fml
  rest_at p = head_rest (ghosts.dealloc_token i.title.alloc) (R E) p i.title.fields i.title.places

  abbrev pub title_at : Ptr → Fml
  title_at p = title_owns (ghosts.dealloc_token i.title.alloc) (R E) p i.title.fields i.title.places

  abbrev pub roomed : Fml
  roomed = room_owns (R E) i.room.at i.room.start i.room.capacity i.room.items

  abbrev pub deeded : Fml
  deeded = deed_owns (ghosts.dealloc_token i.deed.alloc) (R E) i.deed.at i.deed.capacity

module _ (E : El) {M : Type 1} {𝓤 : Ura M} {𝓛 : Logic 𝓤} {K : Type 0} {Γ : List (Item 𝓤)} {G : Goal 𝓤 𝓛.H} where
  pub block_had : K → (d : (Bk E).Denot) (vs : List Val)
      → ((i : (Bi E).Denot) → shown i ≡ d → IsBlock i → vs ≡ laid i.top.ptr ∷ []
      → Seq K 𝓛 (‵ (deeded E i) ∷ ‵ (titled E i) ∷ ‵ (roomed E i) ∷ Γ) G)
      → Seq K 𝓛 (‵ ((Bk E).own_val d vs) ∷ Γ) G
  block_had t d vs k = fpick t (λ x. fsplit t $ move t (1 ∷ []) $ drop t $ let i = x.0 in fpick t (λ vss. fsplit t $ feq_l t (λ whole.
      fsplit t $ top_had E t i.top vss.0 (λ e₀. fsplit t $ fsplit t $
      mark_had E t vss.1.0 (λ e₁. move t (1 ∷ []) $ fsplit t $ fsplit t $ mark_had E t vss.1.1.0 (λ e₂. move t (1 ∷ []) $
      fsplit t $ fsplit t $ mark_had E t vss.1.1.1.0 (λ e₃. move t (1 ∷ []) $ fsplit t $ heap_had t i.alloc vss.1.1.1.1.0 (λ e₄. drop t $
      k i x.1.0 x.1.1 (whole ∙ (λ j. vstruct (of_list (e₀ j ++ (e₁ j ++ (e₂ j ++ (e₃ j ++ (e₄ j ++ [])))))) ∷ []))))))))))

  pub block_made : K → (i : (Bi E).Denot) → IsBlock i
      → Step K 𝓛 (‵ ((Bk E).own_val (shown i) (laid i.top.ptr ∷ [])) ∷ Γ) G
      (‵ (deeded E i) ∷ ‵ (titled E i) ∷ ‵ (roomed E i) ∷ Γ) G
  block_made t i is = step (λ k.
      let Plain : Shape = Declared.shape (BI.the_type (R E)) in let v : Val = laid i.top.ptr in let d : (Bk E).Denot = shown i in
      nothing t $ heap_made t i.alloc $ fjoin t $ move t (1 ∷ []) $ use0 𝓛 (‵ ((Mark E).own_val (tt, tt) (mark ∷ []))) (mark_made E 𝓛) $ fjoin t $ fjoin t $
      move t (1 ∷ []) $ use0 𝓛 (‵ ((Mark E).own_val (tt, tt) (mark ∷ []))) (mark_made E 𝓛) $ fjoin t $ fjoin t $
      move t (1 ∷ []) $ use0 𝓛 (‵ ((Mark E).own_val (tt, tt) (mark ∷ []))) (mark_made E 𝓛) $ fjoin t $ fjoin t $
      top_made E t i.top.ptr $ fjoin t $ feq_i t (List Val) (v ∷ []) (v ∷ []) refl $ fjoin t $
      fpack t (Valss Plain.fields) (within Plain ((i.top.ptr, tt), (i.room, (i.title, (i.deed, (((tt, tt), tt), tt))))) (v ∷ []))
      (word i.top.ptr ∷ [], (mark ∷ [], (mark ∷ [], (mark ∷ [], (heap_val ∷ [], tt))))) $
      nothing t $ move t (1 ∷ 0 ∷ []) $ fjoin t $
      fpack t ((a : (Bi E).Denot) × ((shown a ≡ d) × IsBlock a))
      (λ x. fsep ((Bi E).own_val x.0 (v ∷ [])) ftrue) (i, (refl, is)) $ k)

-- a block with a head is what a sole owner has
module _ (E : El) (i : (Bi E).Denot) (is : IsBlock i) (b o : ℕ)
    (at_b : i.top.ptr ≡ block_ptr b o) {M : Type 1} {𝓤 : Ura M} {𝓛 : Logic 𝓤} {K : Type 0} {Γ : List (Item 𝓤)} {G : Goal 𝓤 𝓛.H} where
  pub to_sole : K → Step K 𝓛 (‵ (sole_owns (R E) i) ∷ Γ) G (‵ (deeded E i) ∷ ‵ (titled E i) ∷ ‵ (roomed E i) ∷ Γ) G
  to_sole t = step (λ s.
      rewrite t 1 (λ (p : Ptr). ‵ (title_at E i p)) (is.head.at ∙ at_b) refl $ move t (1 ∷ []) $ fsplit t $
      -- [the head; the count; the deed; the room]
      rewrite t 0 (λ (p : Ptr). ‵ (rest_at E i p)) (sym at_b) refl $ rewrite t 1 (λ (p : Ptr). ‵ (counter_at p 0 1)) (sym at_b) refl $
      move t (0 ∷ 3 ∷ []) $ fjoin t $ move t (0 ∷ 2 ∷ []) $ fjoin t $ move t (1 ∷ 0 ∷ []) $ fjoin t $ s)

  pub of_sole : K → Step K 𝓛 (‵ (deeded E i) ∷ ‵ (titled E i) ∷ ‵ (roomed E i) ∷ Γ) G (‵ (sole_owns (R E) i) ∷ Γ) G
  of_sole t = step (λ s.
      fsplit t $ move t (1 ∷ []) $ fsplit t $ fsplit t $
      -- [the head; the room; the deed; the count]
      rewrite t 0 (λ (p : Ptr). ‵ (rest_at E i p)) at_b refl $ rewrite t 3 (λ (p : Ptr). ‵ (counter_at p 0 1)) at_b refl $
      move t (0 ∷ 3 ∷ []) $ fjoin t $ rewrite t 0 (λ (p : Ptr). ‵ (title_at E i p)) (sym (is.head.at ∙ at_b)) refl $ move t (2 ∷ 0 ∷ 1 ∷ []) $ s)

-- a block without a head is empty
empty : {X : Type 0} (xs : List X) (c : ℕ) → length xs ≤ c → c ≡ 0 → xs ≡ []
empty [] c le e = refl
empty (x ∷ xs) c le e = absurd (omega arith)

pub no_contents : (E : El) (i : (Bi E).Denot) → IsBlock i → i.top.ptr ≡ null_ptr → shown i ≡ contents [] 0
no_contents E i is e = let none = is.head.none e in let within = is.head.within in
    let zero : capacity_of i.title.fields.capacity ≡ 0 = omega arith in
    λ j. contents (empty i.room.items i.room.capacity i.room.within none j) (zero j)
