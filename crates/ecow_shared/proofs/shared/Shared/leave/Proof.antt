-- `leave` gives up one of several owners, and hands the block out to the last, for every element type. Assumes `Logic`.
use mathlib.Core.Path.{◌≡◌, refl, sym, subst, ap, ◌∙◌}
use Prim.Native.Nat.{ℕ, ◌+◌, ◌-◌, ◌≤◌, ◌<◌, ◌^◌}
use native.Mathlib.Omega.{arith}
use mathlib.Core.List.{List, [], ◌∷◌, ◌++◌}
use seplogic.Ra.Ura.{Ura}
use lib.Dec.{lit<}
use base.Mask.{every}
use base.Logic.{SProp, ent, id⊢}
use base.Fml.{ftrue, flft, ftok}
use mir.Syntax.{Fn}
use mir.MapTy.{inst_fn}
use mir.Val.{Val, vcons, vnil}
use prog.Memory.{Memory}
use prog.Routine.{Routine}
use prog.Wp.{Env, WpFn, Tables}
use types.Logic.{Logic}
use contract.Beside.{Carries}
use contract.BorrowLft.{◌⊑◌}
use contract.Monad.{Fun, fact}
use contract.Named.{bare_unfolds}
use contract.Running.{bare_tables, tables_of}
use sound.WpLaws.{WpFn-mono}
use types.Kit.{‵, raw, ◌⊛◌, at_ret, ◌$◌, ◌∵◌, !, qed, move, keep, drop, use0, use1, split, split3, join, rewrite, fsplit, fjoin, flt_i, suffices, frame, done}
use types.Match.{live}
use types.Part.{sub, whole, agg}
use types.RcWeak.{part, part_in}
use types.Run.{look, store, stop, fld, load, lit, bin, of_opd, and_then, no_more, assigns, first, blocks, skips, branches, exec, returns, returns_within, enter}
use types.ByLocal.{alloc_all, pass_all, free_all, look_at, get, get_in, through, sets, is, env}
use denote.Exit.{no}
use denote.Memory.{lone}
use denote.RattleType.{owns}
use denote.RawPtr.{Ptr, block_ptr, null_ptr, ptr_val, count_of, tests_null}
use denote.Signature.{plain, types_at}
use denote.Steps.{heard, nothing}
use denote.Triple.Clauses.{Clauses, Ended, closing}
use denote.Triple.Handed.{holding, hands}
use denote.Triple.Spec.{Meets, triple_of}
use denote.Triple.Table.{entered}
use denote.Triple.Walked.{says, Stays, stay_dropped, walk_of, ends_at, Goes-dropped, walk_Meets}
use Rattle.core.proofs.mem.Param.{El, args}
use Rattle.core.specs.contracts.option.Option as Opt
use Rattle.core.specs.declared.option.Option.TheVariants.{None, Some}
use Rattle.std_alloc.proofs.RcSteps.{is_so, is_not, some_Good, Some-of, none_of, word-Good}
use Rattle.std_alloc.proofs.VecSteps.Shapes.{after}
use Rattle.std_alloc.specs.Rc.Ownership.{counter_at}
use Rattle.ecow_shared.specs.contracts.shared.Shared.leave as F
use Rattle.ecow_shared.specs.contracts.shared.Shared.leave.Key.{name as #self}
use Rattle.ecow_shared.proofs.shared.Shared.leave.Statement.{statement}
use Rattle.ecow_shared.proofs.shared.Shared.leave.Code as code
use Rattle.ecow_shared.proofs.shared.Shared.leave.Code.{code as body}
use Rattle.ecow_block.proofs.Heads.{cell}
use Rattle.ecow_block.proofs.Kept.{Bi, Bk, laid, block_made, of_sole}
use Rattle.ecow_shared.proofs.Owners.{Sh, laid-Good, owner_had}
use Rattle.ecow_block.specs.Fields.{shown}
use Rattle.ecow_shared.proofs.Counting.{cases, value, counted_had, is_counted, opens, shut, less, alone}

module _ (E : El) where
  abbrev here : Fn
  here = inst_fn (args E) code.function

  abbrev ended : Ended
  ended = F.ended E.row

  abbrev stayed : Stays ended.signature.params ended.kept
  stayed = (stay_dropped (plain (λ _. Sh E)) no, tt)

  module _ {M : Type 1} {𝓤 : Ura M} (𝓛 : Logic 𝓤) (at_mem : Memory → SProp 𝓤) (run : Routine → Fun 𝓤) (𝓣 : Tables 𝓤 𝓛.H) where
    open 𝓛 use {H, A}

    abbrev held : Clauses 𝓤 ended
    held = holding 𝓤 ended (A.tok every) (F.clauses E.row 𝓛 at_mem run)

    walk : (z : (walk_of 𝓛 ended stayed held).Ghost)
        → ent 𝓤 ((walk_of 𝓛 ended stayed held).pre z)
        (WpFn 𝓤 H 𝓣.C 𝓣.Λ here ((walk_of 𝓛 ended stayed held).args z) ((walk_of 𝓛 ended stayed held).post z))
    walk z =
        let κ = z.0.0.0 in let q = z.0.1.0 in let a = z.0.3 in let vss = z.0.4 in
        let Post : Val → SProp 𝓤 = (walk_of 𝓛 ended stayed held).post z in
        qed 𝓛 (((‵ (flft κ q) ⊛ ‵ ftrue) ⊛ ‵ (owns (types_at ended.signature.params z.0.0) a vss))
        ∷ (‵ (ftok every) ⊛ raw (fact 𝓤 (κ ⊑ E.row.lives)) ⊛ ‵ ftrue) ∷ []) ∵
        move ! (1 ∷ []) $ split3 ! $ move ! (1 ∷ []) $
        heard ! (κ ⊑ E.row.lives) (λ within. move ! (1 ∷ []) $ drop ! $ move ! (1 ∷ []) $ split ! $ move ! (1 ∷ []) $
        fsplit ! $ owner_had E ! a.0 vss.0 (λ s same owner e₀. keep ! (0 ∷ 2 ∷ 3 ∷ []) $ move ! (1 ∷ []) $ split ! $ move ! (2 ∷ 0 ∷ []) $
        let i : (Bi E).Denot = s.inside in let c = s.top.ptr in let facts = owner.is_block in
        let us : List Val = laid c ∷ [] in
        let Run : List Val → SProp 𝓤 = λ ws. WpFn 𝓤 H 𝓣.C 𝓣.Λ here ws Post in
        suffices ! (Run us) (subst (λ (ws : List Val). ent 𝓤 (Run us) (Run ws)) (sym (λ k. e₀ k ++ [])) (id⊢ 𝓤 (Run us))) $
        enter ! 𝓣.C 𝓣.Λ here us Post $ alloc_all ! (λ l. pass_all ! refl (laid-Good E c, tt) $
        let En : Env 𝓤 H = env here.locals l in
        sets ! (of_opd ! (get_in ! (fld ! refl (stop !)) (sub ! 0 refl (whole !)))) refl (word-Good [] c) $
        sets ! (of_opd ! (get_in ! (fld ! refl (stop !)) (sub ! 4 refl (whole !)))) refl (tt, ((tt, tt), tt)) $
        cases E i ! i.top.ptr
        -- [the token; the other tokens; the thread's token]
        (λ e. let none : c ≡ null_ptr = sym owner.top_is ∙ e in
        sets ! (is ! (of_opd ! (get_in ! (fld ! refl (stop !)) (sub ! 0 refl (whole !)))) (ap ptr_val none)) refl
        (tt, record { fits = lit< tt }) $ sets ! (bin ! (get ! refl) (lit ! tt) tt) refl (tt, tt) $ first ! $ branches ! (get ! refl)
        (λ null. sets ! (agg ! (and_then ! (lit ! tt) (no_more !))) refl (tt, (record { fits = lit< tt }, tt)) $
        use0 𝓛 (‵ ((Opt.the_row (Bk E)).own_val None (live 0 vnil ∷ []))) (none_of 𝓛 (Bk E)) $
        returns_within ! Post refl (look_at ! 0 refl) $ free_all ! refl $ move ! (1 ∷ 2 ∷ []) $ join ! $ move ! (1 ∷ 0 ∷ 2 ∷ []) $
        suffices ! _ (ends_at 𝓛 ended stayed held z (live 0 vnil) None (tt, tt) (tt, tt)) $ nothing ! $ nothing ! $
        fjoin ! $ join ! $ move ! (1 ∷ 0 ∷ []) $ join ! $ frame ! $ says ! tt $ done !)
        (λ null. absurd null))
        (λ _ _ _. is_counted E i ! tt κ q within $ counted_had E i ! (λ a r one. move ! (1 ∷ 0 ∷ 6 ∷ []) $ opens E i a ! tt r (λ n cb co e fits some_n.
        let there : c ≡ block_ptr cb co = sym owner.top_is ∙ e in
        let low : count_of (block_ptr cb co) < 2 ^ 63 = subst (λ (p : Ptr). count_of p < 2 ^ 63) e facts.head.testable in
        move ! (4 ∷ []) $ use1 𝓛 (‵ (part 64 a.0)) (part_in 64 𝓛 a.0 r one) $ move ! (1 ∷ 2 ∷ 3 ∷ 4 ∷ []) $
        -- [the count; the value; the weak part; what shuts; the part; the invariant; what is seen; the token; the other tokens]
        sets ! (is ! (of_opd ! (get_in ! (fld ! refl (stop !)) (sub ! 0 refl (whole !)))) (ap ptr_val there)) refl (tt, tt) $
        sets ! (bin ! (get ! refl) (lit ! tt) (tests_null (block_ptr cb co) low)) refl (tt, tt) $ first ! $ branches ! (get ! refl)
        (λ null. absurd null)
        (λ null. skips ! $ exec ! 𝓣.C 𝓣.Λ En (after 5 here.body) (at_ret En Post) $ first ! $ blocks ! $
        sets ! (of_opd ! (load ! (through ! refl (fld ! refl (stop !))) (look ! 0 refl))) refl (tt, record { fits = fits }) $
        sets ! (bin ! (get ! refl) (lit ! tt) tt) refl (tt, tt) $ branches ! (get ! refl)
        (λ many. let fewer : n - 1 < 2 ^ 64 = omega arith in let more : 1 < n = omega (arith, is_not n 1 many, some_n) in let least : 1 ≤ n = omega arith in
        sets ! (bin ! (get ! refl) (lit ! tt) least) refl (tt, record { fits = fewer }) $
        assigns ! (of_opd ! (get ! refl)) (through ! refl (fld ! refl (stop !))) (store ! 0 refl (tt, record { fits = fewer })) $
        sets ! (agg ! (and_then ! (lit ! tt) (no_more !))) refl (tt, (record { fits = lit< tt }, tt)) $
        move ! (1 ∷ 4 ∷ []) $ less E i a ! n more $ move ! (1 ∷ 0 ∷ 2 ∷ 3 ∷ []) $ shut E i a ! tt (n - 1) cb co e fewer $
        use0 𝓛 (‵ ((Opt.the_row (Bk E)).own_val None (live 0 vnil ∷ []))) (none_of 𝓛 (Bk E)) $
        returns_within ! Post refl (look_at ! 0 refl) $ free_all ! refl $ keep ! (4 ∷ 5 ∷ 0 ∷ 1 ∷ []) $ join ! $ move ! (1 ∷ 0 ∷ 2 ∷ []) $
        suffices ! _ (ends_at 𝓛 ended stayed held z (live 0 vnil) None (tt, tt) (tt, tt)) $ nothing ! $ nothing ! $
        fjoin ! $ join ! $ move ! (1 ∷ 0 ∷ []) $ join ! $ frame ! $ says ! tt $ done !)
        (λ last. let one_n : n ≡ 1 = is_so n 1 last in skips ! $ exec ! 𝓣.C 𝓣.Λ En (after 6 here.body) (at_ret En Post) $
        sets ! (agg ! (no_more !)) refl (tt, tt) $ sets ! (agg ! (and_then ! (get ! refl) (no_more !))) refl (tt, (tt, tt)) $
        sets ! (agg ! (no_more !)) refl (tt, tt) $ sets ! (agg ! (and_then ! (get ! refl) (no_more !))) refl (tt, (tt, tt)) $
        sets ! (agg ! (no_more !)) refl (tt, tt) $ sets ! (agg ! (and_then ! (get ! refl) (no_more !))) refl (tt, (tt, tt)) $
        sets ! (agg ! (and_then ! (get ! refl)
        (and_then ! (get ! refl) (and_then ! (get ! refl) (and_then ! (get ! refl) (and_then ! (get ! refl) (no_more !))))))) refl
        (laid-Good E c) $
        sets ! (agg ! (and_then ! (lit ! tt) (and_then ! (get ! refl) (no_more !)))) refl (some_Good (lone (Bk E).mir) (laid c) (laid-Good E c)) $
        rewrite ! 0 (λ (j : ℕ). ‵ (cell cb (co + 0) j)) one_n refl $ rewrite ! 1 (λ (j : ℕ). ‵ (value E i a j)) one_n refl $
        move ! (1 ∷ 4 ∷ 2 ∷ 3 ∷ []) $ alone E i a ! tt $
        -- [the thread's token; what is kept; the count; the invariant; what is seen; the token; the other tokens]
        move ! (2 ∷ 1 ∷ []) $ flt_i ! 1 (2 ^ 64) (lit< tt) $ fjoin ! $ rewrite ! 0 (λ (p : Ptr). ‵ (counter_at p 0 1)) (sym e) refl $ fjoin ! $
        of_sole E i facts cb co e ! $ block_made E ! i facts $
        rewrite ! 0 (λ (p : Ptr). ‵ ((Bk E).own_val (shown i) (laid p ∷ []))) owner.top_is refl $
        use1 𝓛 (‵ ((Opt.the_row (Bk E)).own_val (Some (shown i)) (live 1 (vcons (laid c) vnil) ∷ [])))
        (Some-of 𝓛 (Bk E) (shown i) (laid c)) $
        returns ! (look_at ! 0 refl) $ free_all ! refl $ keep ! (4 ∷ 5 ∷ 0 ∷ 1 ∷ []) $ join ! $ move ! (1 ∷ 0 ∷ 2 ∷ []) $
        suffices ! _ (ends_at 𝓛 ended stayed held z (live 1 (vcons (laid c) vnil)) (Some (shown i))
        (tt, tt) (tt, tt)) $ nothing ! $ nothing ! $ fjoin ! $ join ! $ move ! (1 ∷ 0 ∷ []) $ join ! $ frame ! $ says ! same $ done !))))))))

    meets : Meets 𝓛 ended.signature (WpFn 𝓤 H 𝓣.C 𝓣.Λ here) (closing 𝓛 ended held)
    meets =
        walk_Meets 𝓛 ended stayed (Goes-dropped 𝓛 1 (plain (λ _. Sh E)) no (λ κs x f. refl), tt) held
        (WpFn 𝓤 H 𝓣.C 𝓣.Λ here) (WpFn-mono 𝓤 H 𝓛.laws 𝓣 here) walk

pub leave_spec : {M : Type 1} → statement M
unfolding tables_of body
leave_spec 𝓤 𝓛 𝓜 𝓡 wired X L =
    let E : El = record { row = X; laws = L } in
    let A = 𝓛.A in
    let c = F.clauses X 𝓛 𝓜.mem 𝓡.returns in
    let 𝓒 : Carries 𝓤 𝓛.H 𝓜 (A.tok every) = subst (Carries 𝓤 𝓛.H 𝓜) 𝓛.turn_is 𝓡.carries in
    let 𝓣 : Tables 𝓤 𝓛.H = tables_of 𝓤 𝓛.H 𝓒.inner (bare_tables 𝓤 𝓛.H 𝓒.inner 𝓡.allowed 𝓡.how 𝓡.env) in
    let k = #self (args E) in
    hands 𝓛 (ended E) (A.tok every) c 𝓜 𝓒 𝓡 (𝓡.env k)
    (entered 𝓤 𝓛.H (triple_of 𝓛 (ended E).signature (closing 𝓛 (ended E) (holding 𝓤 (ended E) (A.tok every) c))) 𝓣.C 𝓣.Λ k (here E)
    (bare_unfolds 𝓤 𝓛.H 𝓒.inner 𝓡.allowed 𝓡.how 𝓡.env k (here E) (wired.0.0 k refl))
    (meets E 𝓛 𝓜.mem 𝓡.returns 𝓣))
