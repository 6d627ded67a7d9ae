-- A head, and the places behind it, are taken apart and put together, at any element type and allocator. Assumes `Logic`.
--     whole_out, whole_in      the memory, as a count, the fields and the places, with the way back;  the way back
--     fields_made, fields_room      the fields are written, and done with
--     title_had, title_made      a title by value, at a block, is taken apart and made
--     has_layout      the memory's size and alignment, as an allocator is asked for them
use mathlib.Core.Path.{◌≡◌, refl, sym, ap, subst, ◌∙◌}
use Prim.Native.Nat.{ℕ, max, ◌+◌, ◌*◌, ◌<◌, ◌^◌}
use mathlib.Core.List.{List, [], ◌∷◌, ◌++◌}
use seplogic.Ra.Ura.{Ura}
use base.Fraction.{full_share}
use base.Logic.{SProp, ent, wand, apply∗}
use base.Fml.{Fml, ftrue, fsep, fat, froom}
use mir.Syntax.{Ty, Tys, Width, w8, w16, w32, w64, w128, ty_int, ty_array, tcons, tnil}
use mir.Val.{Val, vint, vstruct, vcons, vnil, of_list, bytes}
use mir.Raw.{raw as bare}
use prog.Memory.{align, aligns, size, end_of, up, capped}
use prog.Align.{align_w, align-bytes, align_pos}
use prog.Capped.{capped_is}
use native.Mathlib.Omega.{arith}
use prog.Model.{rooms_at}
use prog.RawLaws.{size-raw, align-raw}
use lib.Dec.{lit<}
use types.Logic.{Logic, sem}
use types.Kit.{Goal, Step, step, Seq, Item, ‵, raw, ◌⊛◌, ◌$◌, ◌∵◌, !, qed, by, move, drop, use0, use1, use2, split, split3, group, rewrite, fsplit, fsplit3, fjoin, fjoin3, fpick, fpack, feq_l, feq_i, flt_i, assume}
use Rattle.core.specs.Allocator.{HasLayout}
use denote.RattleType.{RattleType, Valss}
use denote.Memory.{lone, cell_at, part_at, part_of}
use denote.Steps.{nothing}
use denote.RawPtr.{Ptr, InBlock, block_ptr, null_ptr, block_of, count_of, ptr_val, at_block}
use denote.Struct.Struct.{within}
use denote.Struct.Declared as Declared
use Rattle.core.proofs.mem.Param.{El, R, elτ}
use Rattle.core.proofs.alloc.Calls.{Al, token}
use Rattle.core.proofs.slots.Leases.{P}
use Rattle.std_alloc.proofs.RcSteps.{word}
use Rattle.ecow_block.specs.Heads.{whole_type, whole_size, whole_align, fields_type, places_offset, parts_room, parts_rejoin, title_owns}
use Rattle.ecow_block.specs.contracts.room.Title as Title-type
use Rattle.ecow_block.specs.contracts.room.Top as Top-type
use Rattle.ecow_block.specs.contracts.room.Fields as Fields-type
use Rattle.ecow_block.proofs.Memory.{sz, Mark, Spare, mark, mark_had, mark_made}
use Rattle.ecow_block.proofs.Deeds.{base_made}

abbrev pub cell : ℕ → ℕ → ℕ → Fml
cell b o n = fat full_share (ty_int w64) b o (vint w64 n)

abbrev pub count_room : ℕ → ℕ → Fml
count_room b o = froom (ty_int w64) b o

-- the places begin 32 bytes behind a head, whatever they are aligned to
pub begins_at : (τ : Ty) → up (align τ) 32 ≡ 32
begins_at τ = subst (λ (k : ℕ). up k 32 ≡ 32) (sym (align-bytes τ)) (each (align_w τ))
  where
    each : (w : Width) → up (bytes w) 32 ≡ 32
    each w8 = refl
    each w16 = refl
    each w32 = refl
    each w64 = refl
    each w128 = refl

module _ (E : El) where
  abbrev pub Tp : RattleType
  Tp = Top-type.the_row (R E)

  abbrev pub Fl : RattleType
  Fl = Fields-type.the_row (R E)

  -- the fields' type as it is written, and as the machine sees it
  abbrev pub written : Ty
  written = lone Fl.mir

  abbrev pub fields_room : ℕ → ℕ → Fml
  fields_room b o = froom (fields_type (R E)) b o

  abbrev pub whole_ty : ℕ → Ty
  whole_ty c = whole_type (R E) c

  abbrev pub parts : ℕ → Tys
  parts c = tcons (ty_int w64) (tcons (fields_type (R E)) (tcons (bare (ty_array (elτ E) c)) tnil))

  -- the machine value of the fields
  abbrev pub fields_val : Ptr → ℕ → ℕ → Val
  fields_val p n c = vstruct (vcons (word p) (vcons (vint w64 n) (vcons (vint w64 c) vnil)))

  abbrev pub Shown : ℕ → ℕ → Fl.Denot → Fml
  Shown b o x = part_at Fl full_share x b (o + 8)

module _ (E : El) (Z : Al) where
  abbrev pub Tt : RattleType
  Tt = Title-type.the_row (R E) (P E Z) Z.g

  abbrev pub Owned : Tt.Denot → Ptr → Fml
  Owned d p = title_owns (token Z d.alloc) (R E) p d.fields d.places

module _ (E : El) {M : Type 1} {𝓤 : Ura M} (𝓛 : Logic 𝓤) (b o c : ℕ) where
  open 𝓛 use {H}

  abbrev pub Joins : SProp 𝓤
  Joins = wand 𝓤 (rooms_at 𝓤 H (parts E c) 0 b o) (H.room (whole_ty E c) b o)

  abbrev pub Rejoins : Fml
  Rejoins = parts_rejoin (R E) (block_ptr b o) c

  abbrev off : ℕ
  off = places_offset (R E)

  there : o + up (align (bare (ty_array (elτ E) c))) 32 ≡ o + off
  there = ap (λ (k : ℕ). o + up k 32) (align-raw (ty_array (elτ E) c))

  pub behind : o + off ≡ o + 32
  behind = ap (λ (k : ℕ). o + k) (begins_at (elτ E))

  rejoins : ent 𝓤 Joins (sem 𝓛 Rejoins)
  rejoins =
      qed 𝓛 (raw Joins ∷ []) ∵ assume ! (‵ (count_room b (o + 0)) ⊛ ‵ (fields_room E b (o + 8)) ⊛ ‵ (Spare E b (o + off) c)) $ split3 ! $
      move ! (2 ∷ []) $ rewrite ! 0 (λ (k : ℕ). ‵ (Spare E b k c)) (sym there) refl $ nothing ! $ move ! (2 ∷ 3 ∷ 1 ∷ 0 ∷ []) $ group ! 4 $
      by ! (apply∗ 𝓤 (rooms_at 𝓤 H (parts E c) 0 b o) (H.room (whole_ty E c) b o))

module _ (E : El) {M : Type 1} {𝓤 : Ura M} {𝓛 : Logic 𝓤} {K : Type 0} {Γ : List (Item 𝓤)} {G : Goal 𝓤 𝓛.H} (b o c : ℕ) where
  open 𝓛 use {H}

  -- [the count; the fields; the places; the way back]
  pub whole_out : K → Step K 𝓛 (‵ (count_room b (o + 0)) ∷ ‵ (fields_room E b (o + 8)) ∷ ‵ (Spare E b (o + 32) c) ∷ ‵ (Rejoins E 𝓛 b o c) ∷ Γ) G
      (‵ (froom (whole_ty E c) b o) ∷ Γ) G
  whole_out t = step (λ s. let arr : Ty = bare (ty_array (elτ E) c) in
      use1 𝓛 ((‵ (count_room b (o + 0)) ⊛ ‵ (fields_room E b (o + 8)) ⊛ ‵ (froom arr b (o + up (align arr) 32)) ⊛ ‵ ftrue)
      ⊛ raw (Joins E 𝓛 b o c)) (𝓛.laws.room_fields [] (parts E c) b o) $
      split t $ split3 t $ move t (2 ∷ []) $ split t $ move t (1 ∷ []) $ drop t $
      rewrite t 0 (λ (k : ℕ). ‵ (Spare E b k c)) (there E 𝓛 b o c ∙ behind E 𝓛 b o c) refl $
      move t (3 ∷ []) $ use1 𝓛 (‵ (Rejoins E 𝓛 b o c)) (rejoins E 𝓛 b o c) $ move t (2 ∷ 3 ∷ 1 ∷ 0 ∷ []) $ s)

  pub whole_in : K → Step K 𝓛 (‵ (froom (whole_ty E c) b o) ∷ Γ) G
      (‵ (count_room b (o + 0)) ∷ ‵ (fields_room E b (o + 8)) ∷ ‵ (Spare E b (o + 32) c) ∷ ‵ (Rejoins E 𝓛 b o c) ∷ Γ) G
  whole_in t = step (λ s. rewrite t 2 (λ (k : ℕ). ‵ (Spare E b k c)) (sym (behind E 𝓛 b o c)) refl $ fjoin3 t $
      use2 𝓛 (‵ (froom (whole_ty E c) b o)) (apply∗ 𝓤 (sem 𝓛 (parts_room (R E) (block_ptr b o) c)) (sem 𝓛 (froom (whole_ty E c) b o))) $ s)

-- the fields
module _ (E : El) {M : Type 1} {𝓤 : Ura M} {𝓛 : Logic 𝓤} {K : Type 0} {Γ : List (Item 𝓤)} {G : Goal 𝓤 𝓛.H} where
  pub fields_own : K → (p : Ptr) (n c : ℕ) → n < 2 ^ 64 → c < 2 ^ 64
      → Step K 𝓛 (‵ ((Fl E).own_val (record { base = record { ptr = p }; len = n; capacity = c }) (fields_val E p n c ∷ [])) ∷ Γ) G Γ G
  fields_own t p n c fn fc = step (λ s.
      let Plain = Declared.shape (Fields-type.the_type (R E)) in
      nothing t $ flt_i t c (2 ^ 64) fc $ feq_i t (List Val) (vint w64 c ∷ []) (vint w64 c ∷ []) refl $ fjoin t $ fjoin t $
      flt_i t n (2 ^ 64) fn $ feq_i t (List Val) (vint w64 n ∷ []) (vint w64 n ∷ []) refl $ fjoin t $ fjoin t $ base_made E t p $ fjoin t $
      feq_i t (List Val) (fields_val E p n c ∷ []) (fields_val E p n c ∷ []) refl $ fjoin t $
      fpack t (Valss Plain.fields) (within Plain ((p, tt), (n, (c, tt))) (fields_val E p n c ∷ [])) (word p ∷ [], (vint w64 n ∷ [], (vint w64 c ∷ [], tt))) $ s)

module _ (E : El) {M : Type 1} {𝓤 : Ura M} {𝓛 : Logic 𝓤} {K : Type 0} {Γ : List (Item 𝓤)} {G : Goal 𝓤 𝓛.H} where
  pub fields_made : K → (p : Ptr) (n c b o : ℕ) → n < 2 ^ 64 → c < 2 ^ 64
      → Step K 𝓛 (‵ (Shown E b o (record { base = record { ptr = p }; len = n; capacity = c })) ∷ Γ) G
      (‵ (fat full_share (written E) b (o + 8) (fields_val E p n c)) ∷ Γ) G
  unfolding part_of
  fields_made t p n c b o fn fc = step (λ s. let x : (Fl E).Denot = record { base = record { ptr = p }; len = n; capacity = c } in
      use1 𝓛 (‵ (fat full_share (bare (written E)) b (o + 8) (fields_val E p n c))) (𝓛.laws.at_raw full_share (written E) b (o + 8) (fields_val E p n c)) $
      fields_own E t p n c fn fc $ move t (1 ∷ 0 ∷ []) $ fjoin t $
      fpack t (List Val) (λ vs. fsep (cell_at full_share (Fl E).mir vs b (o + 8)) ((Fl E).own_val x vs)) (fields_val E p n c ∷ []) $ s)

  pub fields_gone : K → (b o : ℕ) (x : (Fl E).Denot) → Step K 𝓛 (‵ (fields_room E b (o + 8)) ∷ Γ) G (‵ (Shown E b o x) ∷ Γ) G
  unfolding part_of
  fields_gone t b o x = step (λ s.
      fpick t (λ vs. fsplit t $ move t (1 ∷ []) $ fpick t (λ vss. fsplit t $ feq_l t (λ whole. drop t $
      let v : Val = vstruct (of_list (vss.0 ++ (vss.1.0 ++ (vss.1.1.0 ++ [])))) in
      rewrite t 0 (λ (us : List Val). ‵ (cell_at full_share (Fl E).mir us b (o + 8))) whole refl $
      use1 𝓛 (‵ (fields_room E b (o + 8))) (𝓛.laws.at_room (fields_type (R E)) b (o + 8) v) $ s))))

module _ (E : El) (Z : Al) {M : Type 1} {𝓤 : Ura M} {𝓛 : Logic 𝓤} {K : Type 0} {Γ : List (Item 𝓤)} {G : Goal 𝓤 𝓛.H} where
  -- [the count; the fields; the right to the memory; the way back]
  pub title_had : K → (d : (Tt E Z).Denot) (vs : List Val) → InBlock d.at
      → ((b o : ℕ) → d.at ≡ block_ptr b o → vs ≡ mark ∷ []
      → Seq K 𝓛 (‵ (cell b (o + 0) 1) ∷ ‵ (Shown E b o d.fields)
      ∷ ‵ (token Z d.alloc (whole_ty E d.places) (block_ptr b o)) ∷ ‵ (Rejoins E 𝓛 b o d.places) ∷ Γ) G)
      → Seq K 𝓛 (‵ ((Tt E Z).own_val d vs) ∷ Γ) G
  title_had t d vs there k = fsplit t $ mark_had E t vs (λ is.
      rewrite t 0 (λ (p : Ptr). ‵ (Owned E Z d p)) (at_block d.at there) refl $ fsplit t $ fsplit3 t $
      move t (3 ∷ []) $ fsplit t $ drop t $ k (block_of d.at) (count_of d.at) (at_block d.at there) is)

  pub title_made : K → (d : (Tt E Z).Denot) (b o : ℕ) → d.at ≡ block_ptr b o
      → Step K 𝓛 (‵ ((Tt E Z).own_val d (mark ∷ [])) ∷ Γ) G
      (‵ (cell b (o + 0) 1) ∷ ‵ (Shown E b o d.fields) ∷ ‵ (token Z d.alloc (whole_ty E d.places) (block_ptr b o)) ∷ ‵ (Rejoins E 𝓛 b o d.places) ∷ Γ) G
  title_made t d b o at_b = step (λ s.
      flt_i t 1 (2 ^ 64) (lit< tt) $ fjoin t $ move t (1 ∷ 2 ∷ 3 ∷ []) $ fjoin3 t $ fjoin t $
      rewrite t 0 (λ (p : Ptr). ‵ (Owned E Z d p)) (sym at_b) refl $ use0 𝓛 (‵ ((Mark E).own_val (tt, tt) (mark ∷ []))) (mark_made E 𝓛) $ fjoin t $ s)

module _ (E : El) {M : Type 1} {𝓤 : Ura M} {𝓛 : Logic 𝓤} {K : Type 0} {Γ : List (Item 𝓤)} {G : Goal 𝓤 𝓛.H} where
  pub top_had : K → (top : (Tp E).Denot) (vs : List Val) → (vs ≡ word top.ptr ∷ [] → Seq K 𝓛 Γ G) → Seq K 𝓛 (‵ ((Tp E).own_val top vs) ∷ Γ) G
  top_had t top vs k =
      fpick t (λ vss. fsplit t $
      feq_l t (λ whole. fsplit t $
      feq_l t (λ field. drop t $ k (subst (λ (ws : List Val). vs ≡ vstruct (of_list (ws ++ [])) ∷ []) field whole))))

  pub top_made : K → (p : Ptr) → Step K 𝓛 (‵ ((Tp E).own_val (record { ptr = p }) (word p ∷ [])) ∷ Γ) G Γ G
  top_made t p = step (λ s.
      let Plain = Declared.shape (Top-type.the_type (R E)) in
      nothing t $ feq_i t (List Val) (ptr_val p ∷ []) (ptr_val p ∷ []) refl $ fjoin t $ feq_i t (List Val) (word p ∷ []) (word p ∷ []) refl $ fjoin t $
      fpack t (Valss Plain.fields) (within Plain (p, tt) (word p ∷ [])) (ptr_val p ∷ [], tt) $ s)

-- the memory's size and alignment, as an allocator is asked for them
module _ (E : El) (c : ℕ) where
  abbrev arr : Ty
  arr = ty_array (elτ E) c

  same_align : aligns (parts E c) ≡ whole_align (R E)
  same_align =
      let a = align (elτ E) in let pos : 0 < a = align_pos (elτ E) in
      let plain : max 8 (max 8 (max a 1)) ≡ max 8 a = omega arith in
      ap (λ (k : ℕ). max 8 (max 8 (max k 1))) (align-raw arr) ∙ plain

  same_end : end_of 0 (parts E c) ≡ places_offset (R E) + c * sz E
  same_end = λ i. up (align-raw arr i) 32 + size-raw arr i

  pub has_layout : (s a : ℕ) → s ≡ whole_size (R E) c → a ≡ whole_align (R E) → s < 2 ^ 64 → a < 2 ^ 64 → HasLayout (whole_ty E c) s a
  has_layout s a es ea fs fa =
      let size_is : size (whole_ty E c) ≡ s = (λ i. up (same_align i) (same_end i)) ∙ sym es in
      let align_is : align (whole_ty E c) ≡ a = same_align ∙ sym ea in
      (ap capped size_is ∙ capped_is s fs, ap capped align_is ∙ capped_is a fa)

-- a pointer is null, or it is not
module _ {M : Type 1} {𝓤 : Ura M} {𝓛 : Logic 𝓤} {K : Type 0} {Γ : List (Item 𝓤)} {G : Goal 𝓤 𝓛.H} where
  pub in_case : K → (p : Ptr) → (p ≡ null_ptr → Seq K 𝓛 Γ G) → ((b o : ℕ) → p ≡ block_ptr b o → Seq K 𝓛 Γ G) → Seq K 𝓛 Γ G
  in_case t null_ptr n k = n refl
  in_case t (block_ptr b o) n k = k b o refl
