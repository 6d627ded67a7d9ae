-- `get_mut` lends the owner's own word as the block, which may end as another one, for every element type. Assumes `Logic`.
use mathlib.Core.Path.{◌≡◌, refl, sym, subst, ap, ◌∙◌}
use mathlib.Core.Bool.{Bool, true}
use Prim.Native.Nat.{ℕ, ◌+◌, ◌<◌, ◌^◌}
use mathlib.Core.List.{List, [], ◌∷◌, ◌++◌}
use seplogic.Ra.Ura.{Ura}
use lib.Dec.{lit<}
use base.Fraction.{full_share}
use base.Mask.{every}
use base.Logic.{SProp, ent, sep, id⊢}
use base.Fml.{Lft, GName, Share, Fml, ftrue, fsep, flft, fobs, fauth, fobor, fres, ftok}
use mir.Syntax.{Fn, named}
use mir.MapTy.{inst_fn}
use mir.Val.{Val, vptr, vcons, vnil}
use prog.Memory.{Memory}
use prog.Routine.{Routine}
use prog.Wp.{Env, WpFn, Tables, Wp, after_block, after_seq, at_return}
use types.Logic.{Logic, sem}
use contract.Beside.{Carries}
use contract.BorrowLft.{◌⊑◌}
use contract.Monad.{Fun, fact}
use contract.Named.{bare_unfolds}
use contract.Running.{bare_tables, tables_of}
use sound.WpLaws.{WpFn-mono}
use types.Kit.{Item, Goal, Soaks, Step, step, ‵, raw, some, later, ◌⊛◌, at_ret, any_q, ◌$◌, ◌∵◌, !, qed, move, keep, drop, use0, use1, split, split3, join, group, pick, await, rewrite, fsplit, fsplit3, fjoin, fpick, fpack, flt_i, feq_l, suffices, frame, done}
use types.Match.{live}
use types.Part.{look_in, sub, whole, agg}
use types.RcWeak.{part, part_in}
use types.Run.{look, stop, fld, addr, load, lit, bin, of_opd, and_then, no_more, first, blocks, skips, branches, exec, returns, returns_within, enter}
use types.SemTy.{Body as Borrowed}
use types.ByLocal.{alloc_all, pass_all, free_all, look_at, get, through, sets, sets_last, is, env}
use denote.Exit.{no}
use denote.Follow.{follows, follows_by, lends_Part}
use denote.Memory.{mem, cell_at, part_of}
use denote.RattleType.{RattleType, owns}
use denote.RawPtr.{Ptr, block_ptr, null_ptr, ptr_val, count_of, tests_null}
use denote.Ref.{MutRef, MutBor}
use denote.Signature.{mut_ref_to, plain, types_at}
use denote.Steps.{nothing, heard, opens, closes}
use denote.Triple.Clauses.{Clauses, Ended, closing}
use denote.Triple.Handed.{holding, hands}
use denote.Triple.Spec.{Meets, triple_of}
use denote.Triple.Table.{entered}
use denote.Triple.Walked.{says, Stays, stay_dropped, walk_of, ends_at, Goes-spent_ref, walk_Meets}
use Rattle.core.specs.contracts.option.Option as Opt
use Rattle.core.specs.declared.option.Option.TheVariants.{None, Some}
use Rattle.std_alloc.specs.Owners.{sole_or_counted}
use Rattle.std_alloc.specs.Rc.Ownership.{counter_at}
use Rattle.std_alloc.proofs.RcSteps.{is_so, Some-of, none_of}
use Rattle.std_alloc.proofs.VecSteps.Shapes.{after, head, inside}
use Rattle.core.proofs.mem.Param.{El, R, args}
use Rattle.ecow_block.specs.Fields.{shown}
use Rattle.ecow_block.specs.Heads.{unless_null}
use Rattle.ecow_block.specs.Kept.{IsOwner, sole_owns}
use Rattle.ecow_shared.specs.Owners.{counted_owns, shared_owns, owner_owns}
use Rattle.ecow_shared.specs.contracts.shared.Shared.get_mut as F
use Rattle.ecow_shared.specs.contracts.shared.Shared.get_mut.Key.{name as #self}
use Rattle.ecow_shared.proofs.shared.Shared.get_mut.Statement.{statement}
use Rattle.ecow_shared.proofs.shared.Shared.get_mut.Code as code
use Rattle.ecow_shared.proofs.shared.Shared.get_mut.Code.{code as body}
use Rattle.ecow_block.proofs.Heads.{cell, in_case}
use Rattle.ecow_block.proofs.Kept.{Bi, Bk, laid, block_had, block_made, to_sole, of_sole}
use Rattle.ecow_shared.proofs.Owners.{Sh, Si, owner_had, owner_made}
use Rattle.ecow_shared.proofs.Counting.{cases, value, counted_had, is_counted, counted_made, shut, alone}
use Rattle.ecow_shared.proofs.Counting as steps

-- a block, whatever block it ends as, is an owner
module _ (E : El) {M : Type 1} {𝓤 : Ura M} (𝓛 : Logic 𝓤) (b o : ℕ) where
  back : (w : (Bk E).Denot) → ent 𝓤 (sep 𝓤 (sem 𝓛 ((mem (Bk E)).own_at w b o)) (sem 𝓛 ftrue)) (sem 𝓛 ((mem (Sh E)).own_at w b o))
  unfolding part_of
  back w =
      qed 𝓛 (‵ ((mem (Bk E)).own_at w b o) ∷ ‵ ftrue ∷ []) ∵ fpick ! (λ vs. fsplit ! $ move ! (1 ∷ []) $
      block_had E ! w vs (λ i same facts ev.
      -- [the deed's right; the title's; the room's; the cell; nothing]
      let s : (Si E).Denot =
      record {
        top = i.top;
        room = record { mark = record {} };
        title = record { mark = record {} };
        deed = record { mark = record {} };
        alloc =
            i.alloc;
        inside = i;
      } in let owner : IsOwner i.top i.alloc i = record { top_is = refl; alloc_is = refl; is_block = facts } in
      rewrite ! 3 (λ (us : List Val). ‵ (cell_at full_share (Bk E).mir us b o)) ev refl $
      in_case ! i.top.ptr
      (λ e. nothing ! $ rewrite ! 0 (λ (p : Ptr). ‵ (unless_null p (shared_owns (R E) i))) (sym e) refl $
      owner_made E ! s owner $ rewrite ! 0 (λ (d : (Sh E).Denot). ‵ ((Sh E).own_val d (laid i.top.ptr ∷ []))) same refl $
      move ! (4 ∷ 0 ∷ []) $ fjoin ! $
      fpack ! (List Val) (λ us. fsep (cell_at full_share (Sh E).mir us b o) ((Sh E).own_val w us)) (laid i.top.ptr ∷ []) $ keep ! (0 ∷ []) $ done !)
      (λ cb co e. to_sole E i facts cb co e ! $ fpack ! Bool (sole_or_counted (sole_owns (R E) i) (counted_owns (R E) i)) true $
      rewrite ! 0 (λ (p : Ptr). ‵ (unless_null p (shared_owns (R E) i))) (sym e) refl $ owner_made E ! s owner $
      rewrite ! 0 (λ (d : (Sh E).Denot). ‵ ((Sh E).own_val d (laid i.top.ptr ∷ []))) same refl $
      move ! (1 ∷ 0 ∷ []) $ fjoin ! $
      fpack ! (List Val) (λ us. fsep (cell_at full_share (Sh E).mir us b o) ((Sh E).own_val w us)) (laid i.top.ptr ∷ []) $ keep ! (0 ∷ []) $ done !)))

module _ (E : El) where
  abbrev here : Fn
  here = inst_fn (args E) code.function

  abbrev ended : Ended
  ended = F.ended E.row

  abbrev Self : RattleType
  Self = Sh E

  abbrev Lent : Lft → RattleType
  Lent κ = MutRef (named 0) κ (Bk E)

  abbrev stayed : Stays ended.signature.params ended.kept
  stayed = (stay_dropped (mut_ref_to (0 ∷ []) tt (plain (λ _. Self))) no, tt)

  module _ {M : Type 1} {𝓤 : Ura M} (𝓛 : Logic 𝓤) (s : (Si E).Denot) (owner : IsOwner s.top s.alloc s.inside) (b o : ℕ) where
    open 𝓛 use {H}

    abbrev handle : Fml
    handle = cell_at full_share Self.mir (laid s.top.ptr ∷ []) b o

    -- an owner that lends nothing is put back as it was
    module _ (me : Self.Denot) (same : shown s.inside ≡ me) (κ : Lft)
        (q : Share) (γ : GName) (others : Item 𝓤) {K : Type 0} {Γ : List (Item 𝓤)} {G : Goal 𝓤 H} where
      put_back : K → Soaks G
          → Step K 𝓛 (‵ ((Opt.the_row (Lent κ)).own_val None (live 0 vnil ∷ [])) ∷ (‵ (flft κ q) ⊛ others)
          ∷ ‵ (ftok every) ∷ ‵ (fres γ (Self.coded.code me)) ∷ Γ) G
          (‵ (owner_owns (R E) s.inside) ∷ ‵ (ftok every) ∷ others ∷ ‵ handle ∷ ‵ (fobor κ q (Borrowed (mem Self) b o γ))
          ∷ ‵ (fobs γ (Self.coded.code me)) ∷ ‵ (fauth γ (Self.coded.code me)) ∷ Γ) G
      put_back t z = step (λ next.
          owner_made E t s owner $ rewrite t 0 (λ (d : Self.Denot). ‵ (Self.own_val d (laid s.top.ptr ∷ []))) same refl $
          move t (3 ∷ 0 ∷ 4 ∷ 5 ∷ 6 ∷ []) $ closes t z Self me (laid s.top.ptr ∷ []) b o $
          use1 𝓛 (‵ (fres γ (Self.coded.code me))) (𝓛.names.obs-res γ (Self.coded.code me)) $
          move t (1 ∷ []) $ drop t $ move t (1 ∷ 3 ∷ []) $ join t $ move t (0 ∷ 2 ∷ []) $
          use0 𝓛 (‵ ((Opt.the_row (Lent κ)).own_val None (live 0 vnil ∷ []))) (none_of 𝓛 (Lent κ)) $ next)

  module _ {M : Type 1} {𝓤 : Ura M} (𝓛 : Logic 𝓤) (at_mem : Memory → SProp 𝓤) (run : Routine → Fun 𝓤) (𝓣 : Tables 𝓤 𝓛.H) where
    open 𝓛 use {H, A}

    abbrev held : Clauses 𝓤 ended
    held = holding 𝓤 ended (A.tok every) (F.clauses E.row 𝓛 at_mem run)

    walk : (z : (walk_of 𝓛 ended stayed held).Ghost)
        → ent 𝓤 ((walk_of 𝓛 ended stayed held).pre z)
        (WpFn 𝓤 H 𝓣.C 𝓣.Λ here ((walk_of 𝓛 ended stayed held).args z) ((walk_of 𝓛 ended stayed held).post z))
    unfolding follows_by part_of
    walk z =
        let κ = z.0.0.0 in let κ₁ = z.0.0.1.0 in let q = z.0.1.0 in let q₁ = z.0.1.1.0 in let args = z.0.3 in let vss = z.0.4 in
        let b = args.0.ref_ptr.0 in let o = args.0.ref_ptr.1 in let γ = args.0.ghost_name in let me : Self.Denot = args.0.now in
        let Lent' : RattleType = Lent κ in let others : Item 𝓤 = ‵ (flft κ₁ q₁) ⊛ ‵ ftrue in
        let Post : Val → SProp 𝓤 = (walk_of 𝓛 ended stayed held).post z in
        qed 𝓛 (((‵ (flft κ q) ⊛ others) ⊛ ‵ (owns (types_at ended.signature.params z.0.0) args vss))
        ∷ (‵ (ftok every) ⊛ raw (fact 𝓤 (κ₁ ⊑ E.row.lives)) ⊛ ‵ ftrue) ∷ []) ∵
        move ! (1 ∷ []) $ split3 ! $ move ! (1 ∷ []) $ heard ! (κ₁ ⊑ E.row.lives)
        (λ within. move ! (1 ∷ []) $ drop ! $ move ! (1 ∷ []) $ split ! $ split ! $ move ! (2 ∷ []) $
        fsplit ! $ fsplit3 ! $ feq_l ! (λ e₀. keep ! (0 ∷ 1 ∷ 3 ∷ 4 ∷ 5 ∷ []) $
        let us : List Val = vptr b o ∷ [] in
        let Run : List Val → SProp 𝓤 = λ ws. WpFn 𝓤 H 𝓣.C 𝓣.Λ here ws Post in
        suffices ! (Run us) (subst (λ (ws : List Val). ent 𝓤 (Run us) (Run ws)) (sym (λ k. e₀ k ++ [])) (id⊢ 𝓤 (Run us))) $
        enter ! 𝓣.C 𝓣.Λ here us Post $ alloc_all ! (λ l. pass_all ! refl ((tt, tt), tt) $
        let En : Env 𝓤 H = env here.locals l in
        opens ! tt Self {h = me} b o (λ vs. move ! (1 ∷ []) $ owner_had E ! me vs (λ s same owner ev.
        let i : (Bi E).Denot = s.inside in let c = s.top.ptr in let facts = owner.is_block in
        rewrite ! 1 (λ (ws : List Val). ‵ (cell_at full_share Self.mir ws b o)) ev refl $
        cases E i ! i.top.ptr
        -- [the owner's cell; the open borrow; obs; auth; the other tokens; the thread's token]
        (λ e. let none : c ≡ null_ptr = sym owner.top_is ∙ e in
        sets ! (is ! (of_opd ! (load ! (through ! refl (fld ! refl (fld ! refl (stop !)))) (look_in ! 0 (sub ! 0 refl (sub ! 0 refl (whole !))))))
        (ap ptr_val none)) refl (tt, record { fits = lit< tt }) $
        sets ! (bin ! (get ! refl) (lit ! tt) tt) refl (tt, tt) $ first ! $ branches ! (get ! refl)
        (λ null. sets ! (agg ! (and_then ! (lit ! tt) (no_more !))) refl (tt, (record { fits = lit< tt }, tt)) $
        nothing ! $ rewrite ! 0 (λ (p : Ptr). ‵ (unless_null p (shared_owns (R E) i))) (sym e) refl $
        move ! (0 ∷ 6 ∷ 5 ∷ []) $ put_back 𝓛 s owner b o me same κ q γ others ! tt $
        returns_within ! Post refl (look_at ! 0 refl) $ free_all ! refl $ keep ! (0 ∷ 1 ∷ 2 ∷ 3 ∷ []) $
        suffices ! _ (ends_at 𝓛 ended stayed held z (live 0 vnil) None (tt, tt) (tt, tt)) $ nothing ! $ nothing ! $
        fjoin ! $ join ! $ move ! (1 ∷ 0 ∷ []) $ join ! $ frame ! $ frame ! $ says ! tt $ done !)
        (λ null. absurd null))
        (λ _ _ _. move ! (5 ∷ []) $ split ! $ move ! (2 ∷ 0 ∷ []) $ is_counted E i ! tt κ₁ q₁ within $
        move ! (1 ∷ 2 ∷ []) $ join ! $ move ! (1 ∷ []) $ counted_had E i ! (λ a r one.
        move ! (1 ∷ 0 ∷ 9 ∷ []) $ steps.opens E i a ! tt r (λ n cb co e fits some_n.
        let there : c ≡ block_ptr cb co = sym owner.top_is ∙ e in
        let low : count_of (block_ptr cb co) < 2 ^ 63 = subst (λ (p : Ptr). count_of p < 2 ^ 63) e facts.head.testable in
        move ! (4 ∷ []) $ use1 𝓛 (‵ (part 64 a.0)) (part_in 64 𝓛 a.0 r one) $ move ! (1 ∷ 2 ∷ 3 ∷ 4 ∷ []) $
        -- [the count; the value; the weak part; what shuts; the part; the invariant; what is seen; the other
        -- tokens; the owner's cell; the open borrow; obs; auth]
        sets ! (is ! (of_opd ! (load ! (through ! refl (fld ! refl (fld ! refl (stop !)))) (look_in ! 8 (sub ! 0 refl (sub ! 0 refl (whole !))))))
        (ap ptr_val there)) refl (tt, tt) $
        sets ! (bin ! (get ! refl) (lit ! tt) (tests_null (block_ptr cb co) low)) refl (tt, tt) $ first ! $ branches ! (get ! refl)
        (λ null. absurd null)
        (λ null. skips ! $ exec ! 𝓣.C 𝓣.Λ En (after 3 here.body) (at_ret En Post) $ first ! $ blocks ! $
        sets ! (of_opd ! (load ! (through ! refl (fld ! refl (stop !))) (look ! 0 refl))) refl (tt, record { fits = fits }) $
        sets ! (bin ! (get ! refl) (lit ! tt) tt) refl (tt, tt) $ first ! $ branches ! (get ! refl)
        (λ shared. sets ! (agg ! (and_then ! (lit ! tt) (no_more !))) refl (tt, (record { fits = lit< tt }, tt)) $
        shut E i a ! tt n cb co e fits $ move ! (1 ∷ 2 ∷ 3 ∷ []) $ counted_made E i ! a $
        rewrite ! 0 (λ (p : Ptr). ‵ (unless_null p (shared_owns (R E) i))) (sym e) refl $ put_back 𝓛 s owner b o me same κ q γ others ! tt $
        returns_within ! Post refl (look_at ! 0 refl) $ free_all ! refl $ keep ! (0 ∷ 1 ∷ 2 ∷ 3 ∷ []) $
        suffices ! _ (ends_at 𝓛 ended stayed held z (live 0 vnil) None (tt, tt) (tt, tt)) $ nothing ! $ nothing ! $
        fjoin ! $ join ! $ move ! (1 ∷ 0 ∷ []) $ join ! $ frame ! $ frame ! $ says ! tt $ done !)
        (λ last. let at : Val = vptr b o in let one_n : n ≡ 1 = is_so n 1 last in
        skips ! $ exec ! 𝓣.C 𝓣.Λ En (after 3 (inside (head (after 3 here.body))))
        (any_q (after_block 𝓤 H (after_seq 𝓤 H (Wp 𝓤 H 𝓣.C 𝓣.Λ En (after 4 here.body) (at_return 𝓤 H En Post)) (at_return 𝓤 H En Post)))) $
        sets ! (addr ! (through ! refl (stop !))) refl (tt, tt) $ sets ! (addr ! (through ! refl (stop !))) refl (tt, tt) $
        sets_last ! (agg ! (and_then ! (lit ! tt) (and_then ! (get ! refl) (no_more !)))) refl (tt, (record { fits = lit< tt }, (tt, tt))) $
        exec ! 𝓣.C 𝓣.Λ En (after 4 here.body) (at_ret En Post) $ sets ! (of_opd ! (get ! refl)) refl (tt, (record { fits = lit< tt }, (tt, tt))) $
        rewrite ! 0 (λ (j : ℕ). ‵ (cell cb (co + 0) j)) one_n refl $ rewrite ! 1 (λ (j : ℕ). ‵ (value E i a j)) one_n refl $
        move ! (1 ∷ 4 ∷ 2 ∷ 3 ∷ []) $ alone E i a ! tt $
        -- [the thread's token; what is kept; the count; the invariant; what is seen; the other tokens; the owner's cell; the open borrow; obs; auth]
        move ! (2 ∷ 1 ∷ []) $ flt_i ! 1 (2 ^ 64) (lit< tt) $ fjoin ! $ rewrite ! 0 (λ (p : Ptr). ‵ (counter_at p 0 1)) (sym e) refl $ fjoin ! $
        let w : (Bk E).Denot = shown i in
        of_sole E i facts cb co e ! $ block_made E ! i facts $
        rewrite ! 0 (λ (p : Ptr). ‵ ((Bk E).own_val w (laid p ∷ []))) owner.top_is refl $ move ! (5 ∷ 0 ∷ []) $ fjoin ! $
        fpack ! (List Val) (λ us. fsep (cell_at full_share (Bk E).mir us b o) ((Bk E).own_val w us)) (laid c ∷ []) $ nothing ! $
        -- [nothing; the block in the owner's place; the thread's token; the invariant; what is seen; the other tokens; the open borrow; obs; auth]
        move ! (6 ∷ 7 ∷ 8 ∷ 1 ∷ 0 ∷ []) $ group ! 5 $
        use1 𝓛 (later (some (λ (γ' : GName). ‵ (Lent'.own_val (record { ref_ptr = (b, o); ghost_name = γ'; now = w }) (at ∷ []))
        ⊛ ‵ (flft κ q) ⊛ ‵ (follows Self (Bk E) γ γ' (λ d. d)))))
        (lends_Part 𝓛 Self (Bk E) (λ d. d) (named 0) κ q b o b o γ (sem 𝓛 ftrue) (back E 𝓛 b o)
        (Self.coded.code me) (Self.coded.code me) w) $ await ! tt $ pick ! (λ γ'.
        let m : MutBor (Bk E).Denot = record { ref_ptr = (b, o); ghost_name = γ'; now = w } in
        split3 ! $ use1 𝓛 (‵ ((Opt.the_row Lent').own_val (Some m) (live 1 (vcons at vnil) ∷ []))) (Some-of 𝓛 Lent' m at) $ move ! (1 ∷ 6 ∷ []) $ join ! $
        returns ! (look_at ! 0 refl) $ free_all ! refl $ keep ! (1 ∷ 0 ∷ 3 ∷ 2 ∷ []) $
        suffices ! _ (ends_at 𝓛 ended stayed held z (live 1 (vcons at vnil)) (Some m) (tt, tt) (tt, tt)) $ nothing ! $
        nothing ! $ fjoin ! $ join ! $ move ! (1 ∷ 0 ∷ []) $ join ! $ frame ! $ frame ! $ says ! (sym same) $ done !)))))))))))

    meets : Meets 𝓛 ended.signature (WpFn 𝓤 H 𝓣.C 𝓣.Λ here) (closing 𝓛 ended held)
    meets =
        walk_Meets 𝓛 ended stayed (Goes-spent_ref 𝓛 2 (0 ∷ []) tt (plain (λ _. Self)), tt) held
        (WpFn 𝓤 H 𝓣.C 𝓣.Λ here) (WpFn-mono 𝓤 H 𝓛.laws 𝓣 here) walk

pub get_mut_spec : {M : Type 1} → statement M
unfolding tables_of body
get_mut_spec 𝓤 𝓛 𝓜 𝓡 wired X L =
    let E : El = record { row = X; laws = L } in
    let A = 𝓛.A in
    let c = F.clauses X 𝓛 𝓜.mem 𝓡.returns in
    let 𝓒 : Carries 𝓤 𝓛.H 𝓜 (A.tok every) = subst (Carries 𝓤 𝓛.H 𝓜) 𝓛.turn_is 𝓡.carries in
    let 𝓣 : Tables 𝓤 𝓛.H = tables_of 𝓤 𝓛.H 𝓒.inner (bare_tables 𝓤 𝓛.H 𝓒.inner 𝓡.allowed 𝓡.how 𝓡.env) in
    let k = #self (args E) in
    hands 𝓛 (ended E) (A.tok every) c 𝓜 𝓒 𝓡 (𝓡.env k)
    (entered 𝓤 𝓛.H (triple_of 𝓛 (ended E).signature (closing 𝓛 (ended E) (holding 𝓤 (ended E) (A.tok every) c))) 𝓣.C 𝓣.Λ k (here E)
    (bare_unfolds 𝓤 𝓛.H 𝓒.inner 𝓡.allowed 𝓡.how 𝓡.env k (here E) (wired.0.0 k refl))
    (meets E 𝓛 𝓜.mem 𝓡.returns 𝓣))
