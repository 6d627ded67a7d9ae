-- What the walks share, at any element type. The record i has the block's parts. Assumes `Logic`.
--     lent_cases, cases      an owner of no block, or of one with a head
--     kept_count      the count's invariant, for the owners of the lifetime a
--     counted_had, is_counted, counted_made      one of several owners is taken apart and made; a sole one becomes one of several
--     counter_made      the count of a sole owner
--     reads, read      an owner's machine value, through a `&`
--     lent_out, lent_back      an owner behind a `&`, as a share of its token and the invariant
use mathlib.Core.Path.{◌≡◌, refl, sym}
use mathlib.Core.Bool.{Bool, false}
use Prim.Native.Nat.{ℕ, ◌+◌, ◌^◌}
use mathlib.Core.List.{List, [], ◌∷◌}
use seplogic.Ra.Ura.{Ura}
use lib.Dec.{lit<}
use base.Share
use base.Fml.{Fml, Lft, Incl, Share, fhide, fat, flft, fobor, finv}
use mir.Val.{Val}
use mir.Raw.{raw as bare}
use types.Logic.{Logic}
use types.Kit.{Item, Goal, Seq, Step, Soaks, step, ‵, later, ◌⊛◌, ◌$◌, move, drop, use1, use2, await, split, join, fsplit3, fjoin, fjoin3, fpick, fpack, flt_i, rewrite}
use types.RcWeak.{part}
use types.Tokens.{shr_bor-open, obor_close}
use types.Within.{tokens_halve}
use denote.Copied.{Copied, Struct-Copied}
use denote.Memory.{cell_at, part_at, hidden_shr}
use denote.Opens.{Shut, unhide}
use denote.Param.Laws.{param_laws}
use denote.RawPtr.{Ptr, RawPtr, block_ptr, null_ptr, block_of, count_of}
use denote.Steps.{looks, shuts}
use denote.Struct.Laws.{field_copy, RawPtr-copy}
use denote.Struct.Owning.{shape}
use Rattle.core.proofs.mem.Param.{El, R}
use Rattle.core.specs.contracts.marker.PhantomData as marker
use Rattle.core.specs.Sync.RawAtomic.{word as count_at}
use Rattle.std.proofs.alloc.Global.TheLaws as heap_laws
use Rattle.std.specs.contracts.alloc.Global as heap
use Rattle.std_alloc.specs.Arc.Ownership.{owner_owns as part_owns}
use Rattle.std_alloc.specs.Owners.{sole_or_counted}
use Rattle.std_alloc.specs.Rc.Ownership.{counter_at}
use Rattle.ecow_block.specs.Heads.{unless_null, lent_unless_null}
use Rattle.ecow_block.specs.Kept.{head_at, kept, seen, sole_owns}
use Rattle.ecow_atomic.specs.Owners.{count_block, count_offset, count_kept, counted_owns, shared_owns, shared_lends}
use Rattle.ecow_block.specs.contracts.room.Top as top
use Rattle.ecow_atomic.specs.contracts.shared.Nil as nil
use Rattle.ecow_atomic.specs.contracts.shared.Shared.TheInside as SI
use Rattle.ecow_block.proofs.Kept.{Bi, laid}
use Rattle.ecow_atomic.proofs.Owners.{Si, Data, data_of, data_ty, data_had, data_made}
use Rattle.ecow_atomic.proofs.Settling.{settles}

module _ (E : El) (i : (Bi E).Denot) where
  abbrev pub kept_count : ℕ → Fml
  kept_count a = finv (count_kept (R E) i a)

module _ (E : El) (s : (Si E).Denot) where
  abbrev pub Back : {M : Type 1} {𝓤 : Ura M} (𝓛 : Logic 𝓤) → Lft → Share → ℕ → ℕ → ℕ → Share → Share → Item 𝓤
  Back 𝓛 κ q b o a r q' = ‵ (fobor κ (Share.left q) (flft (a ∷ []) r)) ⊛ Shut 𝓛 κ (Share.right q) (part_at (Data E) q' (data_of E s) b o)

module _ (E : El) (i : (Bi E).Denot) {M : Type 1} {𝓤 : Ura M} {𝓛 : Logic 𝓤} {K : Type 0} {Γ : List (Item 𝓤)} {G : Goal 𝓤 𝓛.H} where
  -- an owner of no block, or of one with a head
  pub cases : K → (p : Ptr) → (p ≡ null_ptr → Seq K 𝓛 Γ G)
      → (p ≡ block_ptr (block_of p) (count_of p) → Seq K 𝓛 (‵ (shared_owns (R E) i) ∷ Γ) G) → Seq K 𝓛 (‵ (unless_null p (shared_owns (R E) i)) ∷ Γ) G
  cases t null_ptr n k = drop t $ n refl
  cases t (block_ptr b o) n k = k refl

  pub lent_cases : K → (κ : Lft) (p : Ptr) → (p ≡ null_ptr → Seq K 𝓛 Γ G)
      → (p ≡ block_ptr (block_of p) (count_of p) → Seq K 𝓛 (‵ (fhide (shared_lends (R E) i κ)) ∷ Γ) G)
      → Seq K 𝓛 (‵ (fhide (lent_unless_null p (shared_lends (R E) i) κ)) ∷ Γ) G
  lent_cases t κ null_ptr n k = unhide t $ drop t $ n refl
  lent_cases t κ (block_ptr b o) n k = k refl

  count_twice : K → (a : ℕ) → Step K 𝓛 (‵ (kept_count E i a) ∷ ‵ (kept_count E i a) ∷ Γ) G (‵ (kept_count E i a) ∷ Γ) G
  count_twice t a = step (λ s. use1 𝓛 (‵ (kept_count E i a) ⊛ ‵ (kept_count E i a)) (𝓛.invs.inv_dup (count_kept (R E) i a)) $ split t $ s)

module _ (E : El) (i : (Bi E).Denot) {M : Type 1} {𝓤 : Ura M} {𝓛 : Logic 𝓤} {K : Type 0} {Γ : List (Item 𝓤)} {G : Goal 𝓤 𝓛.H} where
  -- [the invariant; the part; the invariant; what every owner sees]
  pub counted_had : K → ((a : ℕ) → Seq K 𝓛 (‵ (kept_count E i a) ∷ ‵ (part 63 a) ∷ ‵ (kept_count E i a) ∷ ‵ (seen (R E) i (a ∷ [])) ∷ Γ) G)
      → Seq K 𝓛 (‵ (counted_owns (R E) i) ∷ Γ) G
  counted_had t k = fpick t (λ a. fsplit3 t $ move t (1 ∷ []) $ count_twice E i t a $ move t (0 ∷ 2 ∷ []) $ k a)

  pub is_counted : K → Soaks G → (κ : Lft) (r : Share) → Incl κ E.row.lives
      → Step K 𝓛 (‵ (counted_owns (R E) i) ∷ ‵ (flft κ r) ∷ Γ) G (‵ (shared_owns (R E) i) ∷ ‵ (flft κ r) ∷ Γ) G
  is_counted t z κ r inc = step (λ next.
      use2 𝓛 (later (‵ (counted_owns (R E) i) ⊛ ‵ (flft κ r)))
      (settles (R E) (param_laws 0 E.row E.laws) i 𝓛 κ inc κ r (λ a m. m)) $ await t z $ split t $ next)

  pub counted_made : K → (a : ℕ) → Step K 𝓛 (‵ (shared_owns (R E) i) ∷ Γ) G (‵ (part 63 a) ∷ ‵ (kept_count E i a) ∷ ‵ (seen (R E) i (a ∷ [])) ∷ Γ) G
  counted_made t a = step (λ s. fjoin3 t $ fpack t ℕ (λ c. part_owns (kept (R E) i) (count_block (R E) i) (count_offset (R E) i) c (seen (R E) i)) a $
      fpack t Bool (sole_or_counted (sole_owns (R E) i) (counted_owns (R E) i)) false $ s)

  pub counter_made : K → (b o : ℕ) → head_at (R E) i ≡ block_ptr b o
      → Step K 𝓛 (‵ (sole_owns (R E) i) ∷ Γ) G (‵ (count_at b (o + 0) 1) ∷ ‵ (kept (R E) i) ∷ Γ) G
  counter_made t b o e = step (λ s. flt_i t 1 (2 ^ 64) (lit< tt) $ fjoin t $ rewrite t 0 (λ (p : Ptr). ‵ (counter_at p 0 1)) (sym e) refl $ fjoin t $ s)

-- an owner's machine value, through a `&`
module _ (E : El) (s : (Si E).Denot) {M : Type 1} {𝓤 : Ura M} {𝓛 : Logic 𝓤} {K : Type 0} {Γ : List (Item 𝓤)} {G : Goal 𝓤 𝓛.H} where
  -- [the value; what shuts; what the `&` holds]
  pub reads : K → Soaks G → {κ : Lft} {q : Share} (b o : ℕ)
      → ((q' : Share) → Seq K 𝓛 (‵ (fat q' (data_ty E) b o (laid s.top.ptr))
      ∷ Shut 𝓛 κ q (part_at (Data E) q' (data_of E s) b o) ∷ ‵ (hidden_shr (Data E) κ (data_of E s) b o) ∷ Γ) G)
      → Seq K 𝓛 (‵ (hidden_shr (Data E) κ (data_of E s) b o) ∷ ‵ (flft κ q) ∷ Γ) G
  reads t z b o k =
      let none = (field_copy (nil.the_type (R E)) (field_copy (marker.the_type RawPtr) tt, tt)).copied M 𝓤 𝓛 in
      let copied : Copied 𝓛 (Data E) = Struct-Copied 𝓛 (shape (SI.the_type (R E))) (refl, (refl, (refl, (refl, (refl, tt))))) (
        (field_copy (top.the_type (R E)) (RawPtr-copy, tt)).copied M 𝓤 𝓛,
        (none, (none, (none, ((field_copy heap.the_type heap_laws.the_copy).copied M 𝓤 𝓛, tt)))),
      ) in
      looks t z (Data E) copied.opens (data_of E s) b o (λ q' vs. move t (1 ∷ []) $ data_had E t s vs (λ e.
      rewrite t 0 (λ (us : List Val). ‵ (cell_at q' (Data E).mir us b o)) e refl $
      use1 𝓛 (‵ (fat q' (data_ty E) b o (laid s.top.ptr))) (𝓛.laws.raw_at q' (data_ty E) b o (laid s.top.ptr)) $ k q'))

  pub read : K → Soaks G → {κ : Lft} {q : Share} (b o : ℕ) (q' : Share)
      → Step K 𝓛 (‵ (flft κ q) ∷ Γ) G (‵ (fat q' (data_ty E) b o (laid s.top.ptr)) ∷ Shut 𝓛 κ q (part_at (Data E) q' (data_of E s) b o) ∷ Γ) G
  read t z b o q' = step (λ k.
      use1 𝓛 (‵ (fat q' (bare (data_ty E)) b o (laid s.top.ptr))) (𝓛.laws.at_raw q' (data_ty E) b o (laid s.top.ptr)) $
      data_made E t s $ move t (1 ∷ 0 ∷ []) $ shuts t z (Data E) q' (data_of E s) (laid s.top.ptr ∷ []) b o $ k)

-- an owner behind a `&`
module _ (E : El) (s : (Si E).Denot) (κ : Lft) (q : Share)
    (b o : ℕ) {M : Type 1} {𝓤 : Ura M} {𝓛 : Logic 𝓤} {K : Type 0} {Γ : List (Item 𝓤)} {G : Goal 𝓤 𝓛.H} where
  -- [the invariant; the share; the value; the way back; the invariant; what every owner sees]
  pub lent_out : K → Soaks G
      → ((a : ℕ) (r q' : Share)
      → Seq K 𝓛 (‵ (kept_count E s.inside a) ∷ ‵ (flft (a ∷ []) r) ∷ ‵ (fat q' (data_ty E) b o (laid s.top.ptr))
      ∷ Back E s 𝓛 κ q b o a r q' ∷ ‵ (kept_count E s.inside a) ∷ ‵ (seen (R E) s.inside (a ∷ [])) ∷ Γ) G)
      → Seq K 𝓛 (‵ (hidden_shr (Data E) κ (data_of E s) b o) ∷ ‵ (fhide (shared_lends (R E) s.inside κ)) ∷ ‵ (flft κ q) ∷ Γ) G
  lent_out t z k =
      move t (2 ∷ []) $ use1 𝓛 (‵ (flft κ (Share.left q)) ⊛ ‵ (flft κ (Share.right q))) (𝓛.lfts.lft_split κ q) $
      split t $ move t (2 ∷ 1 ∷ []) $ reads E s t z b o (λ q'. move t (2 ∷ []) $ drop t $
      move t (3 ∷ []) $ unhide t $ fpick t (λ a. fsplit3 t $ move t (0 ∷ 5 ∷ []) $ shr_bor-open t z (tokens_halve 𝓛 (a ∷ [])) (λ r.
      move t (0 ∷ 5 ∷ []) $ join t $ move t (2 ∷ []) $ count_twice E s.inside t a $ move t (0 ∷ 3 ∷ 5 ∷ 2 ∷ 1 ∷ 4 ∷ []) $ k a r q')))

  pub lent_back : K → Soaks G → (a : ℕ) (r q' : Share)
      → Step K 𝓛 (‵ (flft κ q) ∷ Γ) G (‵ (flft (a ∷ []) r) ∷ ‵ (fat q' (data_ty E) b o (laid s.top.ptr)) ∷ Back E s 𝓛 κ q b o a r q' ∷ Γ) G
  lent_back t z a r q' = step (λ next.
      move t (2 ∷ []) $ split t $ move t (0 ∷ 2 ∷ []) $ obor_close t z $ drop t $ move t (2 ∷ 1 ∷ []) $
      read E s t z b o q' $ move t (1 ∷ 0 ∷ []) $ use2 𝓛 (‵ (flft κ q)) (𝓛.lfts.lft_join κ q) $ next)
