-- `get_mut` lends the owner's own word as the block, which may end as another one, for every element type. Assumes `Logic`.
use mathlib.Core.Path.{◌≡◌, refl, sym, subst, ap, ◌∙◌}
use mathlib.Core.Bool.{Bool, true}
use Prim.Native.Nat.{ℕ, ◌+◌}
use mathlib.Core.List.{List, [], ◌∷◌, ◌++◌}
use seplogic.Ra.Ura.{Ura}
use lib.Dec.{lit<}
use base.Fraction.{full_share}
use base.Logic.{SProp, ent, sep, all_e, id⊢, via}
use base.Fml.{Lft, GName, Share, Fml, ftrue, fsep, flft, fobs, fauth, fobor, fres}
use mir.Syntax.{Fn, named}
use mir.MapTy.{inst_fn}
use mir.Val.{Val, vptr, vcons, vnil}
use prog.Model.{Model}
use prog.Wired.{Wired}
use prog.Wp.{Env, WpFn}
use types.Logic.{Logic, sem}
use contract.BorrowLft.{◌⊑◌}
use contract.CodeStep
use contract.Monad.{fact}
use contract.Running.{Running, MachineTables, tables, tables_of}
use sound.WpLaws.{WpFn-mono}
use types.Kit.{Item, Goal, Soaks, Step, step, ‵, raw, some, later, mean, ◌⊛◌, at_ret, ◌$◌, ◌∵◌, !, qed, move, keep, drop, use0, use1, use2, split, split3, join, group, pick, await, rewrite, fsplit, fsplit3, fjoin, fpick, fpack, feq_l, suffices, frame, done}
use types.Match.{live}
use types.Part.{look_in, sub, whole, agg}
use types.RcWeak.{part}
use types.Run.{stop, fld, addr, load, lit, bin, of_opd, and_then, no_more, first, blocks, skips, branches, exec, returns, returns_within, enter, Calls-last}
use types.SemTy.{Body as Borrowed}
use types.ByLocal.{alloc_all, pass_all, free_all, look_at, get, through, sets, sets_last, lands_last, is, env}
use denote.Exit.{no}
use denote.Follow.{follows, follows_by, lends_Part}
use denote.Memory.{mem, cell_at, part_of}
use denote.RattleType.{RattleType, owns}
use denote.RawPtr.{Ptr, block_ptr, null_ptr, ptr_val, block_of, count_of, tests_null}
use denote.Ref.{MutRef, MutBor}
use denote.Signature.{mut_ref_to, plain, types_at}
use denote.Steps.{nothing, heard, opens, closes}
use denote.Triple.Clauses.{Clauses, Ended, closing}
use denote.Triple.Spec.{Meets, triple_of}
use denote.Triple.Table.{entered}
use denote.Triple.Walked.{says, Stays, stay_dropped, walk_of, ends_at, Goes-spent_ref, walk_Meets}
use Rattle.core.proofs.mem.Param.{El, R, args as layouts}
use Rattle.core.specs.Sync.RawAtomic.{word as count_at}
use Rattle.core.specs.contracts.option.Option as Opt
use Rattle.core.specs.declared.option.Option.TheVariants.{None, Some}
use Rattle.atomic_table.proofs.Calls.{fm, seq_cst, found, finds, loads}
use Rattle.std_alloc.specs.Owners.{sole_or_counted}
use Rattle.std_alloc.proofs.RcSteps.{is_so, is_not, Some-of, none_of}
use Rattle.std_alloc.proofs.VecSteps.Shapes.{after}
use Rattle.ecow_block.specs.Fields.{shown}
use Rattle.ecow_block.specs.Heads.{unless_null}
use Rattle.ecow_block.specs.Kept.{IsOwner, kept, sole_owns}
use Rattle.ecow_atomic.specs.Owners.{counted_owns, shared_owns, owner_owns}
use Rattle.ecow_atomic.specs.contracts.shared.Shared.get_mut as F
use Rattle.ecow_atomic.specs.contracts.shared.Shared.get_mut.Key.{name as #self}
use Rattle.ecow_atomic.proofs.shared.Shared.get_mut.Statement.{statement}
use Rattle.ecow_atomic.proofs.shared.Shared.get_mut.Code as code
use Rattle.ecow_block.proofs.Heads.{in_case}
use Rattle.ecow_block.proofs.Kept.{Bi, Bk, laid, block_had, block_made, to_sole, of_sole}
use Rattle.ecow_atomic.proofs.Owners.{Sh, Si, owner_had, owner_made}
use Rattle.ecow_atomic.proofs.Counting.{gets, ended_at, sole_or_part, claims}
use Rattle.ecow_atomic.proofs.Steps.{cases, counted_had, is_counted, counted_made, counter_made}

-- a block, whatever block it ends as, is an owner
module _ (E : El) {M : Type 1} {𝓤 : Ura M} (𝓛 : Logic 𝓤) (b o : ℕ) where
  back : (w : (Bk E).Denot) → ent 𝓤 (sep 𝓤 (sem 𝓛 ((mem (Bk E)).own_at w b o)) (sem 𝓛 ftrue)) (sem 𝓛 ((mem (Sh E)).own_at w b o))
  unfolding part_of
  back w =
      qed 𝓛 (‵ ((mem (Bk E)).own_at w b o) ∷ ‵ ftrue ∷ []) ∵ fpick ! (λ vs. fsplit ! $ move ! (1 ∷ []) $
      block_had E ! w vs (λ i same facts ev.
      -- [the deed's right; the title's; the room's; the cell; nothing]
      let s : (Si E).Denot =
      record {
        top = i.top;
        room = record { mark = record {} };
        title = record { mark = record {} };
        deed = record { mark = record {} };
        alloc =
            i.alloc;
        inside = i;
      } in let owner : IsOwner i.top i.alloc i = record { top_is = refl; alloc_is = refl; is_block = facts } in
      rewrite ! 3 (λ (us : List Val). ‵ (cell_at full_share (Bk E).mir us b o)) ev refl $
      in_case ! i.top.ptr
      (λ e. nothing ! $ rewrite ! 0 (λ (p : Ptr). ‵ (unless_null p (shared_owns (R E) i))) (sym e) refl $
      owner_made E ! s owner $ rewrite ! 0 (λ (d : (Sh E).Denot). ‵ ((Sh E).own_val d (laid i.top.ptr ∷ []))) same refl $
      move ! (4 ∷ 0 ∷ []) $ fjoin ! $
      fpack ! (List Val) (λ us. fsep (cell_at full_share (Sh E).mir us b o) ((Sh E).own_val w us)) (laid i.top.ptr ∷ []) $ keep ! (0 ∷ []) $ done !)
      (λ cb co e. to_sole E i facts cb co e ! $ fpack ! Bool (sole_or_counted (sole_owns (R E) i) (counted_owns (R E) i)) true $
      rewrite ! 0 (λ (p : Ptr). ‵ (unless_null p (shared_owns (R E) i))) (sym e) refl $ owner_made E ! s owner $
      rewrite ! 0 (λ (d : (Sh E).Denot). ‵ ((Sh E).own_val d (laid i.top.ptr ∷ []))) same refl $
      move ! (1 ∷ 0 ∷ []) $ fjoin ! $
      fpack ! (List Val) (λ us. fsep (cell_at full_share (Sh E).mir us b o) ((Sh E).own_val w us)) (laid i.top.ptr ∷ []) $ keep ! (0 ∷ []) $ done !)))

abbrev ended : El → Ended
ended E = F.ended E.row

module _ (E : El) where
  abbrev Self : RattleType
  Self = Sh E

  abbrev Lent : Lft → RattleType
  Lent κ = MutRef (named 0) κ (Bk E)

  module _ {M : Type 1} {𝓤 : Ura M} (𝓛 : Logic 𝓤) (s : (Si E).Denot) (owner : IsOwner s.top s.alloc s.inside) (b o : ℕ) where
    open 𝓛 use {H}

    abbrev handle : Fml
    handle = cell_at full_share Self.mir (laid s.top.ptr ∷ []) b o

    -- an owner that lends nothing is put back as it was
    module _ (me : Self.Denot) (same : shown s.inside ≡ me) (κ : Lft)
        (q : Share) (γ : GName) (others : Item 𝓤) {K : Type 0} {Γ : List (Item 𝓤)} {G : Goal 𝓤 H} where
      put_back : K → Soaks G
          → Step K 𝓛 (‵ ((Opt.the_row (Lent κ)).own_val None (live 0 vnil ∷ [])) ∷ (‵ (flft κ q) ⊛ others) ∷ ‵ (fres γ (Self.coded.code me)) ∷ Γ) G
          (‵ (owner_owns (R E) s.inside) ∷ others ∷ ‵ handle ∷ ‵ (fobor κ q (Borrowed (mem Self) b o γ))
          ∷ ‵ (fobs γ (Self.coded.code me)) ∷ ‵ (fauth γ (Self.coded.code me)) ∷ Γ) G
      put_back t z = step (λ next.
          owner_made E t s owner $ rewrite t 0 (λ (d : Self.Denot). ‵ (Self.own_val d (laid s.top.ptr ∷ []))) same refl $
          move t (2 ∷ 0 ∷ 3 ∷ 4 ∷ 5 ∷ []) $ closes t z Self me (laid s.top.ptr ∷ []) b o $
          use1 𝓛 (‵ (fres γ (Self.coded.code me))) (𝓛.names.obs-res γ (Self.coded.code me)) $ move t (1 ∷ []) $ drop t $ move t (1 ∷ 2 ∷ []) $ join t $
          use0 𝓛 (‵ ((Opt.the_row (Lent κ)).own_val None (live 0 vnil ∷ []))) (none_of 𝓛 (Lent κ)) $ next)

module _ (E : El) {M : Type 1} {𝓤 : Ura M} (𝓛 : Logic 𝓤) (𝓜 : Model 𝓤 𝓛.H) (𝓡 : Running 𝓤 𝓛.H 𝓜) (wired : Wired 𝓡.env code.code) where
  open 𝓛 use {H}

  abbrev here : Fn
  here = inst_fn (layouts E) code.function

  abbrev stayed : Stays (ended E).signature.params (ended E).kept
  stayed = (stay_dropped (mut_ref_to (0 ∷ []) tt (plain (λ _. Self E))) no, tt)

  abbrev 𝓣 : MachineTables 𝓤 H 𝓜
  𝓣 = tables 𝓤 H 𝓜 𝓡 𝓡.env

  abbrev held : Clauses 𝓤 (ended E)
  held = F.clauses E.row 𝓛 𝓜.mem 𝓡.returns

  walk : (z : (walk_of 𝓛 (ended E) stayed held).Ghost)
      → ent 𝓤 ((walk_of 𝓛 (ended E) stayed held).pre z)
      (WpFn 𝓤 H 𝓣.C 𝓣.Λ here ((walk_of 𝓛 (ended E) stayed held).args z) ((walk_of 𝓛 (ended E) stayed held).post z))
  unfolding follows_by part_of
  walk z =
      let κ = z.0.0.0 in let κ₁ = z.0.0.1.0 in let q = z.0.1.0 in let q₁ = z.0.1.1.0 in let args = z.0.3 in let vss = z.0.4 in
      let b = args.0.ref_ptr.0 in let o = args.0.ref_ptr.1 in let γ = args.0.ghost_name in let me : (Self E).Denot = args.0.now in
      let Lent' : RattleType = Lent E κ in let others : Item 𝓤 = ‵ (flft κ₁ q₁) ⊛ ‵ ftrue in
      let Post : Val → SProp 𝓤 = (walk_of 𝓛 (ended E) stayed held).post z in
      qed 𝓛 (((‵ (flft κ q) ⊛ others) ⊛ ‵ (owns (types_at (ended E).signature.params z.0.0) args vss)) ∷ (raw (fact 𝓤 (κ₁ ⊑ E.row.lives)) ⊛ ‵ ftrue) ∷ []) ∵
      move ! (1 ∷ []) $ split ! $ heard ! (κ₁ ⊑ E.row.lives) (λ within. drop ! $ split ! $ split ! $ move ! (2 ∷ []) $
      fsplit ! $ fsplit3 ! $ feq_l ! (λ e₀. keep ! (0 ∷ 1 ∷ 3 ∷ 4 ∷ []) $
      let us : List Val = vptr b o ∷ [] in
      let Run : List Val → SProp 𝓤 = λ ws. WpFn 𝓤 H 𝓣.C 𝓣.Λ here ws Post in
      suffices ! (Run us) (subst (λ (ws : List Val). ent 𝓤 (Run us) (Run ws)) (sym (λ k. e₀ k ++ [])) (id⊢ 𝓤 (Run us))) $
      enter ! 𝓣.C 𝓣.Λ here us Post $ alloc_all ! (λ l. pass_all ! refl ((tt, tt), tt) $
      let En : Env 𝓤 H = env here.locals l in
      opens ! tt (Self E) {h = me} b o (λ vs. move ! (1 ∷ []) $ owner_had E ! me vs (λ s same owner ev.
      let i : (Bi E).Denot = s.inside in let c = s.top.ptr in let facts = owner.is_block in let cb = block_of i.top.ptr in
      let co = count_of i.top.ptr in let place : Ptr = block_ptr cb (co + 0) in
      rewrite ! 1 (λ (ws : List Val). ‵ (cell_at full_share (Self E).mir ws b o)) ev refl $
      cases E i ! i.top.ptr
      -- [the owner's cell; the open borrow; obs; auth; the other tokens]
      (λ e. let none : c ≡ null_ptr = sym owner.top_is ∙ e in
      sets ! (is ! (of_opd ! (load ! (through ! refl (fld ! refl (fld ! refl (stop !)))) (look_in ! 0 (sub ! 0 refl (sub ! 0 refl (whole !))))))
      (ap ptr_val none)) refl (tt, record { fits = lit< tt }) $
      sets ! (of_opd ! (get ! refl)) refl (tt, record { fits = lit< tt }) $
      sets ! (bin ! (get ! refl) (lit ! tt) tt) refl (tt, tt) $ first ! $ branches ! (get ! refl)
      (λ null. sets ! (agg ! (and_then ! (lit ! tt) (no_more !))) refl (tt, (record { fits = lit< tt }, tt)) $
      nothing ! $ rewrite ! 0 (λ (p : Ptr). ‵ (unless_null p (shared_owns (R E) i))) (sym e) refl $
      move ! (0 ∷ 5 ∷ []) $ put_back E 𝓛 s owner b o me same κ q γ others ! tt $
      returns_within ! Post refl (look_at ! 0 refl) $ free_all ! refl $ keep ! (0 ∷ 1 ∷ 2 ∷ []) $
      suffices ! _ (ends_at 𝓛 (ended E) stayed held z (live 0 vnil) None (tt, tt) (tt, tt)) $ nothing ! $
      nothing ! $ fjoin ! $ join ! $ move ! (1 ∷ 0 ∷ []) $ join ! $ frame ! $ says ! tt $ done !)
      (λ null. absurd null))
      (λ e. let there : c ≡ block_ptr cb co = sym owner.top_is ∙ e in let V : Fml = kept (R E) i in let apart = sole_or_part 𝓛 V cb (co + 0) in
      move ! (5 ∷ []) $ split ! $ move ! (2 ∷ 0 ∷ []) $ is_counted E i ! tt κ₁ q₁ within $
      move ! (1 ∷ 2 ∷ []) $ join ! $ move ! (1 ∷ []) $ counted_had E i ! (λ a.
      -- [the invariant; the part; the invariant; what is seen; the other tokens; the owner's cell; the open borrow; obs; auth]
      sets ! (is ! (of_opd ! (load ! (through ! refl (fld ! refl (fld ! refl (stop !)))) (look_in ! 5 (sub ! 0 refl (sub ! 0 refl (whole !))))))
      (ap ptr_val there)) refl (tt, tt) $
      sets ! (of_opd ! (get ! refl)) refl (tt, tt) $
      sets ! (bin ! (get ! refl) (lit ! tt) (tests_null (block_ptr cb co) facts.head.testable)) refl (tt, tt) $ first ! $ branches ! (get ! refl)
      (λ null. absurd null)
      (λ null. skips ! $ exec ! 𝓣.C 𝓣.Λ En (after 4 here.body) (at_ret En Post) $ first ! $ blocks ! $
      sets_last ! (addr ! (through ! refl (fld ! refl (stop !)))) refl (tt, tt) $ exec ! 𝓣.C 𝓣.Λ En (after 5 here.body) (at_ret En Post) $
      sets ! (of_opd ! (get ! refl)) refl (tt, tt) $ first ! $ blocks ! $ sets ! (of_opd ! (get ! refl)) refl (tt, tt) $
      use2 𝓛 (raw (𝓣.C _ (ptr_val place ∷ seq_cst ∷ []) (λ u. mean 𝓛 (found (apart a) u))))
      (via 𝓤 _ (claims 𝓛 V cb (co + 0) a) (loads 𝓛 𝓜 𝓡 (code.calls-core::raw_atomic::load 𝓡.env wired) place (apart a))) $
      sets ! (agg ! (and_then ! (lit ! tt) (no_more !))) refl (tt, (record { fits = lit< tt }, tt)) $
      Calls-last ! (fm 𝓛 𝓜 𝓡) (found (apart a)) (and_then ! (get ! refl) (and_then ! (get ! refl) (no_more !))) (λ u. finds ! (apart a) (λ n fits.
      lands_last ! refl (tt, record { fits = fits }) $ exec ! 𝓣.C 𝓣.Λ En (after 7 here.body) (at_ret En Post) $ fsplit ! $
      -- [what a sole owner has; what another has; the invariant; what is seen; the other tokens; the owner's cell; the open borrow; obs; auth]
      sets ! (of_opd ! (get ! refl)) refl (tt, record { fits = fits }) $ sets ! (of_opd ! (get ! refl)) refl (tt, record { fits = fits }) $
      sets ! (bin ! (get ! refl) (lit ! tt) tt) refl (tt, tt) $ first ! $ branches ! (get ! refl)
      (λ many. sets ! (agg ! (and_then ! (lit ! tt) (no_more !))) refl (tt, (record { fits = lit< tt }, tt)) $ drop ! $
      use1 𝓛 (‵ (part 63 a)) (all_e 𝓤 (λ (_ : ¬ (n ≡ 1)). sem 𝓛 (part 63 a)) (is_not n 1 many)) $ counted_made E i ! a $
      rewrite ! 0 (λ (p : Ptr). ‵ (unless_null p (shared_owns (R E) i))) (sym e) refl $ put_back E 𝓛 s owner b o me same κ q γ others ! tt $
      returns_within ! Post refl (look_at ! 0 refl) $ free_all ! refl $ keep ! (0 ∷ 1 ∷ 2 ∷ []) $
      suffices ! _ (ends_at 𝓛 (ended E) stayed held z (live 0 vnil) None (tt, tt) (tt, tt)) $ nothing ! $
      nothing ! $ fjoin ! $ join ! $ move ! (1 ∷ 0 ∷ []) $ join ! $ frame ! $ says ! tt $ done !)
      (λ last. let at : Val = vptr b o in let one : Fml = ended_at 𝓛 V cb (co + 0) a 1 in
      skips ! $ exec ! 𝓣.C 𝓣.Λ En (after 11 here.body) (at_ret En Post) $
      move ! (1 ∷ []) $ drop ! $ move ! (1 ∷ []) $ drop ! $ move ! (1 ∷ []) $ drop ! $ use1 𝓛 (‵ one) (all_e 𝓤 (λ (_ : n ≡ 1). sem 𝓛 one) (is_so n 1 last)) $
      use1 𝓛 (later (‵ (fsep (count_at cb (co + 0) 1) V))) (gets 𝓛 V cb (co + 0) a 1) $ await ! tt $ fsplit ! $
      -- [the count; what is kept; the other tokens; the owner's cell; the open borrow; obs; auth]
      first ! $ blocks ! $ sets ! (addr ! (through ! refl (stop !))) refl (tt, tt) $ sets_last ! (addr ! (through ! refl (stop !))) refl (tt, tt) $
      exec ! 𝓣.C 𝓣.Λ En (after 12 here.body) (at_ret En Post) $ sets ! (of_opd ! (get ! refl)) refl (tt, tt) $
      sets ! (agg ! (and_then ! (lit ! tt) (and_then ! (get ! refl) (no_more !)))) refl (tt, (record { fits = lit< tt }, (tt, tt))) $
      let w : (Bk E).Denot = shown i in
      counter_made E i ! cb co e $ of_sole E i facts cb co e ! $ block_made E ! i facts $
      rewrite ! 0 (λ (p : Ptr). ‵ ((Bk E).own_val w (laid p ∷ []))) owner.top_is refl $ move ! (2 ∷ 0 ∷ []) $ fjoin ! $
      fpack ! (List Val) (λ us. fsep (cell_at full_share (Bk E).mir us b o) ((Bk E).own_val w us)) (laid c ∷ []) $ nothing ! $
      -- [nothing; the block in the owner's place; the other tokens; the open borrow; obs; auth]
      move ! (3 ∷ 4 ∷ 5 ∷ 1 ∷ 0 ∷ []) $ group ! 5 $
      use1 𝓛 (later (some (λ (γ' : GName). ‵ (Lent'.own_val (record { ref_ptr = (b, o); ghost_name = γ'; now = w }) (at ∷ []))
      ⊛ ‵ (flft κ q) ⊛ ‵ (follows (Self E) (Bk E) γ γ' (λ d. d)))))
      (lends_Part 𝓛 (Self E) (Bk E) (λ d. d) (named 0) κ q b o b o γ (sem 𝓛 ftrue) (back E 𝓛 b o)
      ((Self E).coded.code me) ((Self E).coded.code me) w) $ await ! tt $ pick ! (λ γ'.
      let m : MutBor (Bk E).Denot = record { ref_ptr = (b, o); ghost_name = γ'; now = w } in
      split3 ! $ use1 𝓛 (‵ ((Opt.the_row Lent').own_val (Some m) (live 1 (vcons at vnil) ∷ []))) (Some-of 𝓛 Lent' m at) $ move ! (1 ∷ 3 ∷ []) $ join ! $
      returns ! (look_at ! 0 refl) $ free_all ! refl $ keep ! (1 ∷ 0 ∷ 2 ∷ []) $
      suffices ! _ (ends_at 𝓛 (ended E) stayed held z (live 1 (vcons at vnil)) (Some m) (tt, tt) (tt, tt)) $ nothing ! $
      nothing ! $ fjoin ! $ join ! $ move ! (1 ∷ 0 ∷ []) $ join ! $ frame ! $ says ! (sym same) $ done !))))))))))))

  meets : Meets 𝓛 (ended E).signature (WpFn 𝓤 H 𝓣.C 𝓣.Λ here) (closing 𝓛 (ended E) held)
  unfolding tables_of contract.CodeStep.c_Tables
  meets =
      walk_Meets 𝓛 (ended E) stayed (Goes-spent_ref 𝓛 2 (0 ∷ []) tt (plain (λ _. Self E)), tt) held
      (WpFn 𝓤 H 𝓣.C 𝓣.Λ here) (WpFn-mono 𝓤 H 𝓛.laws (tables_of 𝓤 H 𝓜 𝓣) here) walk

pub get_mut_spec : {M : Type 1} → statement M
get_mut_spec 𝓤 𝓛 𝓜 𝓡 wired X L =
    let E : El = record { row = X; laws = L } in let 𝓣' = tables 𝓤 𝓛.H 𝓜 𝓡 𝓡.env in
    entered 𝓤 𝓛.H (triple_of 𝓛 (ended E).signature (closing 𝓛 (ended E) (held E 𝓛 𝓜 𝓡 wired))) 𝓣'.C 𝓣'.Λ (#self (layouts E)) (here E 𝓛 𝓜 𝓡 wired)
    (code.unfolded 𝓤 𝓛.H 𝓜 𝓡 wired (X, tt)) (meets E 𝓛 𝓜 𝓡 wired)
