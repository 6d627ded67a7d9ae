-- The steps of a plain count of owners, at any element type. The record i has the block's parts. Assumes `Logic`.
--     lent_cases, cases      an owner of no block, or of one with a head
--     box, value, weaks, lent      `Types/RcWeak.antt`'s words
--     counted_had, is_counted, counted_made      one of several owners is taken apart and made; a sole one becomes one of several
--     reads, read      an owner's machine value, through a `&`
--     lent_out, lent_back      an owner behind a `&`, as a share of its token and the invariant
--     opens, shut, more, less, alone      the invariant is opened to the count, and shut; an owner more, and one less; a sole one gets all
use mathlib.Core.Path.{◌≡◌, refl, sym}
use mathlib.Core.Bool.{Bool, true, false}
use Prim.Native.Nat.{ℕ, ◌+◌, ◌-◌, ◌<◌, ◌^◌}
use native.Mathlib.Omega.{arith}
use mathlib.Core.List.{List, [], ◌∷◌}
use seplogic.Ra.Ura.{Ura}
use lib.Dec.{lit<}
use base.Fraction.{full_share}
use base.FractionLaws.{Counts}
use base.Share
use base.Mask.{every}
use base.Logic.{never, id⊢, apply∗}
use base.Fml.{Fml, Lft, Incl, Share, ftrue, fhide, fat, flft, fdead, fobor, ftok}
use mir.Val.{Val}
use mir.Raw.{raw as bare}
use types.Logic.{Logic, sem}
use types.Kit.{Item, Goal, Seq, Step, Soaks, step, ‵, raw, some, later, given, ◌⊛◌, ◌$◌, move, drop, use1, use2, use3, pick, learn, await, group, split, split3, join, fsplit, fsplit3, fjoin, fjoin3, fpick, fpack, flt_i, flt_l, rewrite}
use types.Tokens.{shr_bor-open, obor_close, lft_end, lent_back as had_back}
use types.Within.{tokens_halve}
use types.Na.{na_inv_dup}
use types.RcWeak as rc
use denote.Copied.{Copied, Struct-Copied}
use denote.Memory.{cell_at, part_at, hidden_shr}
use denote.Opens.{Shut, unhide}
use denote.Param.Laws.{param_laws}
use denote.RawPtr.{Ptr, RawPtr, block_ptr, null_ptr, in_a_block}
use denote.RcWeak as handles
use denote.Steps.{looks, shuts}
use denote.Struct.Laws.{field_copy, RawPtr-copy}
use denote.Struct.Owning.{shape}
use Rattle.core.proofs.mem.Param.{El, R}
use Rattle.core.specs.contracts.marker.PhantomData as marker
use Rattle.std.proofs.alloc.Global.TheLaws as heap_laws
use Rattle.std.specs.contracts.alloc.Global as heap
use Rattle.std_alloc.specs.Owners.{sole_or_counted}
use Rattle.std_alloc.specs.Rc.Ownership.{counter_at}
use Rattle.ecow_block.specs.Heads.{unless_null, lent_unless_null}
use Rattle.ecow_block.specs.Kept.{head_at, kept, seen, sole_owns}
use Rattle.ecow_shared.specs.Owners.{one_weak, key, counts, counted_owns, shared_owns, shared_lends}
use Rattle.ecow_block.specs.contracts.room.Top as top
use Rattle.ecow_shared.specs.contracts.shared.Nil as nil
use Rattle.ecow_shared.specs.contracts.shared.Shared.TheInside as SI
use Rattle.ecow_block.proofs.Heads.{cell}
use Rattle.ecow_block.proofs.Kept.{Bi, laid}
use Rattle.ecow_shared.proofs.Owners.{Si, Data, data_of, data_ty, data_had, data_made}
use Rattle.ecow_shared.proofs.Settling.{settles}

abbrev pub Id : Type 0
Id = ℕ × ℕ

module _ (E : El) (i : (Bi E).Denot) where
  abbrev pub box : Id → Fml
  box = rc.box 64 (key (R E) i) (counts (R E) i) one_weak (kept (R E) i) ftrue ftrue

  abbrev pub value : Id → ℕ → Fml
  value a = rc.value 64 (key (R E) i) (counts (R E) i) one_weak (kept (R E) i) ftrue ftrue a true

  abbrev pub weaks : Id → ℕ → Fml
  weaks = rc.weaks 64 (key (R E) i) (counts (R E) i) one_weak (kept (R E) i) ftrue ftrue

  abbrev pub handle : Id → Fml
  handle = handles.handle 64 (key (R E) i) (counts (R E) i) one_weak (kept (R E) i) ftrue ftrue (seen (R E) i) (λ c. c.0)

  abbrev pub Closes : {M : Type 1} {𝓤 : Ura M} (𝓛 : Logic 𝓤) → Id → Item 𝓤
  Closes 𝓛 a = raw (rc.Shut 64 (key (R E) i) (counts (R E) i) one_weak (kept (R E) i) ftrue ftrue 𝓛 a every)

  -- [the count's cell; the value; the weak part; what shuts]
  abbrev pub Opened : {M : Type 1} {𝓤 : Ura M} (𝓛 : Logic 𝓤) → Id → ℕ → ℕ → ℕ → List (Item 𝓤) → List (Item 𝓤)
  Opened 𝓛 a n b o Γ = ‵ (cell b (o + 0) n) ∷ ‵ (value a n) ∷ ‵ (weaks a 1) ∷ Closes 𝓛 a ∷ Γ

module _ (E : El) (s : (Si E).Denot) where
  abbrev pub Back : {M : Type 1} {𝓤 : Ura M} (𝓛 : Logic 𝓤) → Lft → Share → ℕ → ℕ → ℕ → Share → Share → Item 𝓤
  Back 𝓛 κ q b o i r q' = ‵ (fobor κ (Share.left q) (flft (i ∷ []) r)) ⊛ Shut 𝓛 κ (Share.right q) (part_at (Data E) q' (data_of E s) b o)

module _ (E : El) (i : (Bi E).Denot) {M : Type 1} {𝓤 : Ura M} {𝓛 : Logic 𝓤} {K : Type 0} {Γ : List (Item 𝓤)} {G : Goal 𝓤 𝓛.H} where
  -- an owner of no block, or of one with a head
  pub cases : K → (p : Ptr) → (p ≡ null_ptr → Seq K 𝓛 Γ G) → ((b o : ℕ) → p ≡ block_ptr b o → Seq K 𝓛 (‵ (shared_owns (R E) i) ∷ Γ) G)
      → Seq K 𝓛 (‵ (unless_null p (shared_owns (R E) i)) ∷ Γ) G
  cases t null_ptr n k = drop t $ n refl
  cases t (block_ptr b o) n k = k b o refl

  pub lent_cases : K → (κ : Lft) (p : Ptr) → (p ≡ null_ptr → Seq K 𝓛 Γ G) → ((b o : ℕ) → p ≡ block_ptr b o → Seq K 𝓛 (‵ (fhide (shared_lends (R E) i κ)) ∷ Γ) G)
      → Seq K 𝓛 (‵ (fhide (lent_unless_null p (shared_lends (R E) i) κ)) ∷ Γ) G
  lent_cases t κ null_ptr n k = unhide t $ drop t $ n refl
  lent_cases t κ (block_ptr b o) n k = k b o refl

  box_twice : K → (a : Id) → Step K 𝓛 (‵ (box E i a) ∷ ‵ (box E i a) ∷ Γ) G (‵ (box E i a) ∷ Γ) G
  box_twice t a =
      step (λ s. use1 𝓛 (‵ (box E i a) ⊛ ‵ (box E i a))
      (na_inv_dup 𝓛 (key (R E) i) (rc.Inv 64 (key (R E) i) (counts (R E) i) one_weak (kept (R E) i) ftrue ftrue a)) $ split t $ s)

-- an owner's machine value, through a `&`
module _ (E : El) (s : (Si E).Denot) {M : Type 1} {𝓤 : Ura M} {𝓛 : Logic 𝓤} {K : Type 0} {Γ : List (Item 𝓤)} {G : Goal 𝓤 𝓛.H} where
  -- [the value; what shuts; what the `&` holds]
  pub reads : K → Soaks G → {κ : Lft} {q : Share} (b o : ℕ)
      → ((q' : Share) → Seq K 𝓛 (‵ (fat q' (data_ty E) b o (laid s.top.ptr))
      ∷ Shut 𝓛 κ q (part_at (Data E) q' (data_of E s) b o) ∷ ‵ (hidden_shr (Data E) κ (data_of E s) b o) ∷ Γ) G)
      → Seq K 𝓛 (‵ (hidden_shr (Data E) κ (data_of E s) b o) ∷ ‵ (flft κ q) ∷ Γ) G
  reads t z b o k =
      let none = (field_copy (nil.the_type (R E)) (field_copy (marker.the_type RawPtr) tt, tt)).copied M 𝓤 𝓛 in
      let copied : Copied 𝓛 (Data E) = Struct-Copied 𝓛 (shape (SI.the_type (R E))) (refl, (refl, (refl, (refl, (refl, tt))))) (
        (field_copy (top.the_type (R E)) (RawPtr-copy, tt)).copied M 𝓤 𝓛,
        (none, (none, (none, ((field_copy heap.the_type heap_laws.the_copy).copied M 𝓤 𝓛, tt)))),
      ) in
      looks t z (Data E) copied.opens (data_of E s) b o (λ q' vs. move t (1 ∷ []) $ data_had E t s vs (λ e.
      rewrite t 0 (λ (us : List Val). ‵ (cell_at q' (Data E).mir us b o)) e refl $
      use1 𝓛 (‵ (fat q' (data_ty E) b o (laid s.top.ptr))) (𝓛.laws.raw_at q' (data_ty E) b o (laid s.top.ptr)) $ k q'))

  pub read : K → Soaks G → {κ : Lft} {q : Share} (b o : ℕ) (q' : Share)
      → Step K 𝓛 (‵ (flft κ q) ∷ Γ) G (‵ (fat q' (data_ty E) b o (laid s.top.ptr)) ∷ Shut 𝓛 κ q (part_at (Data E) q' (data_of E s) b o) ∷ Γ) G
  read t z b o q' = step (λ k.
      use1 𝓛 (‵ (fat q' (bare (data_ty E)) b o (laid s.top.ptr))) (𝓛.laws.at_raw q' (data_ty E) b o (laid s.top.ptr)) $
      data_made E t s $ move t (1 ∷ 0 ∷ []) $ shuts t z (Data E) q' (data_of E s) (laid s.top.ptr ∷ []) b o $ k)

module _ (E : El) (i : (Bi E).Denot) {M : Type 1} {𝓤 : Ura M} {𝓛 : Logic 𝓤} {K : Type 0} {Γ : List (Item 𝓤)} {G : Goal 𝓤 𝓛.H} where
  open 𝓛 use {H}

  -- [the share; the invariant, twice; what every owner sees]
  pub counted_had : K → ((a : Id) (s : Share) → Counts 64 s 1
      → Seq K 𝓛 (‵ (flft (a.0 ∷ []) s) ∷ ‵ (box E i a) ∷ ‵ (box E i a) ∷ ‵ (seen (R E) i (a.0 ∷ [])) ∷ Γ) G)
      → Seq K 𝓛 (‵ (counted_owns (R E) i) ∷ Γ) G
  counted_had t k = fpick t (λ a. fsplit3 t $ fpick t (λ s. fpick t (λ one. move t (1 ∷ []) $ box_twice E i t a $ move t (2 ∷ []) $ k a s one)))

  pub is_counted : K → Soaks G → (κ : Lft) (r : Share) → Incl κ E.row.lives
      → Step K 𝓛 (‵ (counted_owns (R E) i) ∷ ‵ (flft κ r) ∷ Γ) G (‵ (shared_owns (R E) i) ∷ ‵ (flft κ r) ∷ Γ) G
  is_counted t z κ r inc = step (λ next.
      use2 𝓛 (later (‵ (counted_owns (R E) i) ⊛ ‵ (flft κ r)))
      (settles (R E) (param_laws 0 E.row E.laws) i 𝓛 κ inc κ r (λ a m. m)) $ await t z $ split t $ next)

  pub counted_made : K → (a : Id) → Step K 𝓛 (‵ (shared_owns (R E) i) ∷ Γ) G (‵ (rc.part 64 a.0) ∷ ‵ (box E i a) ∷ ‵ (seen (R E) i (a.0 ∷ [])) ∷ Γ) G
  counted_made t a = step (λ s. fjoin3 t $ fpack t Id (handle E i) a $ fpack t Bool (sole_or_counted (sole_owns (R E) i) (counted_owns (R E) i)) false $ s)

  module _ (a : Id) where
    pub opens : K → Soaks G → (s : Share) → ((n b o : ℕ) → head_at (R E) i ≡ block_ptr b o → n < 2 ^ 64
        → 0 < n → Seq K 𝓛 (Opened E i 𝓛 a n b o (‵ (flft (a.0 ∷ []) s) ∷ Γ)) G)
        → Seq K 𝓛 (‵ (box E i a) ∷ ‵ (flft (a.0 ∷ []) s) ∷ ‵ (ftok every) ∷ Γ) G
    opens t z s k =
        use3 𝓛 (later (some (λ (u : ℕ × ℕ). ‵ (counts (R E) i u.0) ⊛ ‵ (one_weak u.1) ⊛ ‵ (value E i a u.0)
        ⊛ ‵ (weaks E i a u.1) ⊛ ‵ (flft (a.0 ∷ []) s) ⊛ Closes E i 𝓛 a)))
        (rc.open_strong 64 (key (R E) i) (counts (R E) i) one_weak (kept (R E) i) ftrue ftrue 𝓛 a every refl s) $
        await t z $ pick t (λ u. let n = u.0 in let m = u.1 in
        split3 t $ move t (1 ∷ []) $ flt_l t (λ below. move t (1 ∷ []) $ split3 t $ move t (2 ∷ []) $ split t $
        -- [the token; what shuts; the value; the weak part; the count]
        move t (3 ∷ []) $ use1 𝓛 (given (0 < m) (‵ (weaks E i a m)))
        (rc.weak_some 64 (key (R E) i) (counts (R E) i) one_weak (kept (R E) i) ftrue ftrue 𝓛 a m) $ learn t (λ some_m.
        let one : m ≡ 1 = omega arith in rewrite t 0 (λ (j : ℕ). ‵ (weaks E i a j)) one refl $
        move t (3 ∷ []) $ use1 𝓛 (given (0 < n) (‵ (value E i a n)))
        (rc.strong_some 64 (key (R E) i) (counts (R E) i) one_weak (kept (R E) i) ftrue ftrue 𝓛 a n) $ learn t (λ some_n.
        move t (4 ∷ []) $ in_a_block t (head_at (R E) i) (λ p. counter_at p 0 n) (id⊢ 𝓤 (never 𝓤)) (λ b o e. fsplit t $ flt_l t (λ fits.
        move t (0 ∷ 1 ∷ 2 ∷ 4 ∷ 3 ∷ []) $ k n b o e fits some_n))))))

    pub shut : K → Soaks G → (n b o : ℕ) → head_at (R E) i ≡ block_ptr b o → n < 2 ^ 64 → Step K 𝓛 (‵ (ftok every) ∷ Γ) G (Opened E i 𝓛 a n b o Γ) G
    shut t z n b o e fits = step (λ next.
        flt_i t n (2 ^ 64) fits $ fjoin t $ rewrite t 0 (λ (p : Ptr). ‵ (counter_at p 0 n)) (sym e) refl $
        flt_i t 1 2 (lit< tt) $ move t (1 ∷ 0 ∷ []) $ group t 5 $
        use1 𝓛 (later (‵ (ftok every))) (rc.shut 64 (key (R E) i) (counts (R E) i) one_weak (kept (R E) i) ftrue ftrue 𝓛 a every true n 1) $ await t z $ next)

    pub more : K → (n : ℕ) → n + 1 < 2 ^ 64 → Step K 𝓛 (‵ (value E i a (n + 1)) ∷ ‵ (rc.part 64 a.0) ∷ Γ) G (‵ (value E i a n) ∷ Γ) G
    more t n room =
        step (λ next. use1 𝓛 (‵ (value E i a (n + 1)) ⊛ ‵ (rc.part 64 a.0))
        (rc.more 64 (key (R E) i) (counts (R E) i) one_weak (kept (R E) i) ftrue ftrue 𝓛 a n room) $ split t $ next)

    pub less : K → (n : ℕ) → 1 < n → Step K 𝓛 (‵ (value E i a (n - 1)) ∷ Γ) G (‵ (value E i a n) ∷ ‵ (rc.part 64 a.0) ∷ Γ) G
    less t n many = use2 𝓛 (‵ (value E i a (n - 1))) (rc.less 64 (key (R E) i) (counts (R E) i) one_weak (kept (R E) i) ftrue ftrue 𝓛 a n many)

    -- the last owner gets the block for itself
    pub alone : K → Soaks G
        → Step K 𝓛 (‵ (ftok every) ∷ ‵ (kept (R E) i) ∷ Γ) G (‵ (value E i a 1) ∷ ‵ (rc.part 64 a.0) ∷ ‵ (weaks E i a 1) ∷ Closes E i 𝓛 a ∷ Γ) G
    alone t z = let I : Fml = rc.Inv 64 (key (R E) i) (counts (R E) i) one_weak (kept (R E) i) ftrue ftrue a in step (λ next.
        fsplit3 t $ move t (0 ∷ 3 ∷ []) $ use2 𝓛 (‵ (flft (a.0 ∷ []) full_share)) (rc.whole 64 𝓛 a.0) $ lft_end t z $
        use1 𝓛 (‵ (fdead (a.0 ∷ [])) ⊛ ‵ (fdead (a.0 ∷ []))) (𝓛.lfts.dead_dup (a.0 ∷ [])) $ split t $ move t (0 ∷ 2 ∷ []) $ had_back t z $
        move t (3 ∷ []) $ fsplit t $ move t (0 ∷ 4 ∷ []) $ use2 𝓛 (‵ (flft (a.1 ∷ []) full_share)) (rc.whole 64 𝓛 a.1) $
        lft_end t z $ move t (3 ∷ 0 ∷ []) $ fjoin t $
        fpack t Bool (rc.state 64 (key (R E) i) (counts (R E) i) one_weak (kept (R E) i) ftrue ftrue a) false $ move t (0 ∷ 3 ∷ []) $
        use2 𝓛 (later (‵ (ftok every))) (apply∗ 𝓤 (sem 𝓛 I) (H.⇛ (𝓛.A.tok every))) $ await t z $ move t (1 ∷ []) $ drop t $ next)

-- an owner behind a `&`
module _ (E : El) (s : (Si E).Denot) (κ : Lft) (q : Share)
    (b o : ℕ) {M : Type 1} {𝓤 : Ura M} {𝓛 : Logic 𝓤} {K : Type 0} {Γ : List (Item 𝓤)} {G : Goal 𝓤 𝓛.H} where
  -- [the share; the invariant; the value; the way back; the invariant; what every owner sees]
  pub lent_out : K → Soaks G
      → ((a : Id) (r q' : Share)
      → Seq K 𝓛 (‵ (flft (a.0 ∷ []) r) ∷ ‵ (box E s.inside a) ∷ ‵ (fat q' (data_ty E) b o (laid s.top.ptr))
      ∷ Back E s 𝓛 κ q b o a.0 r q' ∷ ‵ (box E s.inside a) ∷ ‵ (seen (R E) s.inside (a.0 ∷ [])) ∷ Γ) G)
      → Seq K 𝓛 (‵ (hidden_shr (Data E) κ (data_of E s) b o) ∷ ‵ (fhide (shared_lends (R E) s.inside κ)) ∷ ‵ (flft κ q) ∷ Γ) G
  lent_out t z k =
      move t (2 ∷ []) $ use1 𝓛 (‵ (flft κ (Share.left q)) ⊛ ‵ (flft κ (Share.right q))) (𝓛.lfts.lft_split κ q) $
      split t $ move t (2 ∷ 1 ∷ []) $ reads E s t z b o (λ q'. move t (2 ∷ []) $ drop t $
      move t (3 ∷ []) $ unhide t $ fpick t (λ a. fsplit3 t $ move t (0 ∷ 5 ∷ []) $ shr_bor-open t z (tokens_halve 𝓛 (a.0 ∷ [])) (λ r.
      move t (0 ∷ 5 ∷ []) $ join t $ move t (2 ∷ []) $ box_twice E s.inside t a $ move t (3 ∷ 0 ∷ 5 ∷ 2 ∷ 1 ∷ 4 ∷ []) $ k a r q')))

  pub lent_back : K → Soaks G → (i : ℕ) (r q' : Share)
      → Step K 𝓛 (‵ (flft κ q) ∷ Γ) G (‵ (flft (i ∷ []) r) ∷ ‵ (fat q' (data_ty E) b o (laid s.top.ptr)) ∷ Back E s 𝓛 κ q b o i r q' ∷ Γ) G
  lent_back t z i r q' = step (λ next.
      move t (2 ∷ []) $ split t $ move t (0 ∷ 2 ∷ []) $ obor_close t z $ drop t $ move t (2 ∷ 1 ∷ []) $
      read E s t z b o q' $ move t (1 ∷ 0 ∷ []) $ use2 𝓛 (‵ (flft κ q)) (𝓛.lfts.lft_join κ q) $ next)
