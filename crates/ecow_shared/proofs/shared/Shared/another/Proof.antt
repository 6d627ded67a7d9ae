-- `another` makes one more owner, or finds the count full, for every element type. Assumes `Logic`.
use mathlib.Core.Path.{◌≡◌, refl, sym, subst, ap, ◌∙◌}
use Prim.Native.Nat.{◌+◌, ◌-◌, ◌<◌, ◌^◌}
use native.Mathlib.Omega.{arith}
use mathlib.Core.List.{List, [], ◌∷◌, ◌++◌}
use seplogic.Ra.Ura.{Ura}
use lib.Dec.{lit<}
use base.Mask.{every}
use base.Logic.{SProp, ent, id⊢}
use base.Fml.{ftrue, flft, ftok}
use mir.Syntax.{Fn, Body, skip, seq, assign, block, loop, cond, switch, exit, return, call, call_v, unreachable, lend_static}
use mir.MapTy.{inst_fn}
use mir.Val.{Val, vptr, vcons, vnil}
use prog.Memory.{Memory}
use prog.Routine.{Routine}
use prog.Wp.{Env, WpFn, Tables, Wp, after_block, after_seq, at_return}
use types.Logic.{Logic}
use contract.Beside.{Carries}
use contract.Monad.{Fun}
use contract.Named.{bare_unfolds}
use contract.Running.{bare_tables, tables_of}
use sound.WpLaws.{WpFn-mono}
use types.Kit.{‵, raw, ◌⊛◌, at_ret, any_q, ◌$◌, ◌∵◌, !, qed, move, keep, drop, use0, use1, split, join, rewrite, fsplit, fjoin, fpick, feq_l, suffices, frame, done}
use types.Match.{live}
use types.Part.{look_in, sub, whole, agg}
use types.Run.{look, store, stop, fld, load, lit, neg_lit, bin, un, of_opd, and_then, no_more, assigns_last, first, blocks, skips, branches, exec, returns, returns_within, enter}
use types.ByLocal.{alloc_all, pass_all, free_all, look_at, get, get_in, through, sets, is, env}
use denote.Builtin.{RefOf}
use denote.Exit.{yes}
use denote.Memory.{lone}
use denote.Opens.{hide, unhide}
use denote.RattleType.{owns}
use denote.RawPtr.{Ptr, block_ptr, null_ptr, ptr_val, count_of, tests_null}
use denote.Signature.{plain, types_at}
use denote.Steps.{nothing}
use denote.Triple.Clauses.{Clauses, Ended, closing}
use denote.Triple.Handed.{holding, hands}
use denote.Triple.Spec.{Meets, triple_of}
use denote.Triple.Table.{entered}
use denote.Triple.Walked.{says, Stays, stay_dropped, walk_of, ends_at, Goes-dropped, walk_Meets}
use Rattle.core.proofs.mem.Param.{El, R, args}
use Rattle.core.specs.contracts.option.Option as Opt
use Rattle.core.specs.declared.option.Option.TheVariants.{None, Some}
use Rattle.std_alloc.proofs.RcSteps.{is_not, some_Good, Some-of, none_of, word-Good}
use Rattle.std_alloc.proofs.VecSteps.Shapes.{after, head, inside}
use Rattle.ecow_block.specs.Fields.{shown}
use Rattle.ecow_block.specs.Heads.{unless_null}
use Rattle.ecow_shared.specs.Owners.{shared_owns}
use Rattle.ecow_shared.specs.contracts.shared.Shared.another as F
use Rattle.ecow_shared.specs.contracts.shared.Shared.another.Key.{name as #self}
use Rattle.ecow_shared.proofs.shared.Shared.another.Statement.{statement}
use Rattle.ecow_shared.proofs.shared.Shared.another.Code as code
use Rattle.ecow_shared.proofs.shared.Shared.another.Code.{code as body}
use Rattle.ecow_block.proofs.Kept.{Bi, laid}
use Rattle.ecow_shared.proofs.Owners.{Sh, Si, laid-Good, owner_made}
use Rattle.ecow_shared.proofs.Counting.{lent_cases, counted_made, lent_out, lent_back, reads, read, opens, shut, more}

-- what a condition runs where it holds
abbrev then_of : Body → Body
then_of skip = skip
then_of (seq x₀ x₁) = skip
then_of (assign x₀ x₁) = skip
then_of (block x₀) = skip
then_of (loop x₀) = skip
then_of (cond x₀ x₁ x₂) = x₁
then_of (switch x₀ x₁) = skip
then_of (exit x₀) = skip
then_of return = skip
then_of (call x₀ x₁ x₂) = skip
then_of (call_v x₀ x₁ x₂ x₃) = skip
then_of unreachable = skip
then_of (lend_static x₀ x₁ x₂) = skip

module _ (E : El) where
  abbrev here : Fn
  here = inst_fn (args E) code.function

  abbrev ended : Ended
  ended = F.ended E.row

  abbrev stayed : Stays ended.signature.params ended.kept
  stayed = (stay_dropped (RefOf (0 ∷ []) tt (plain (λ _. Sh E)) (λ _. tt)) yes, tt)

  module _ {M : Type 1} {𝓤 : Ura M} (𝓛 : Logic 𝓤) (at_mem : Memory → SProp 𝓤) (run : Routine → Fun 𝓤) (𝓣 : Tables 𝓤 𝓛.H) where
    open 𝓛 use {H, A}

    abbrev held : Clauses 𝓤 ended
    held = holding 𝓤 ended (A.tok every) (F.clauses E.row 𝓛 at_mem run)

    walk : (z : (walk_of 𝓛 ended stayed held).Ghost)
        → ent 𝓤 ((walk_of 𝓛 ended stayed held).pre z)
        (WpFn 𝓤 H 𝓣.C 𝓣.Λ here ((walk_of 𝓛 ended stayed held).args z) ((walk_of 𝓛 ended stayed held).post z))
    walk z =
        let κ = z.0.0.0 in let κ₁ = z.0.0.1.0 in let q = z.0.1.0 in let q₁ = z.0.1.1.0 in let a = z.0.3 in let vss = z.0.4 in
        let b = a.0.ref_ptr.0 in let o = a.0.ref_ptr.1 in
        let Post : Val → SProp 𝓤 = (walk_of 𝓛 ended stayed held).post z in
        qed 𝓛 (((‵ (flft κ q) ⊛ ‵ (flft κ₁ q₁) ⊛ ‵ ftrue) ⊛ ‵ (owns (types_at ended.signature.params z.0.0) a vss))
        ∷ (‵ (ftok every) ⊛ raw ((F.clauses E.row 𝓛 at_mem run z.0.0 a).requires z.1)) ∷ []) ∵
        split ! $ split ! $ move ! (3 ∷ []) $ split ! $ move ! (4 ∷ []) $ fsplit ! $ fsplit ! $ feq_l ! (λ e₀. keep ! (0 ∷ 4 ∷ 2 ∷ 5 ∷ []) $
        unhide ! $ fpick ! (λ x. let s : (Si E).Denot = x.0 in let i : (Bi E).Denot = s.inside in
        let owner = x.1.1 in let facts = owner.is_block in let same = x.1.0 in let c = s.top.ptr in
        fsplit ! $ move ! (1 ∷ []) $ drop ! $ fsplit ! $ hide ! $ move ! (1 ∷ []) $ hide ! $
        -- [what the owner lends; its fields; the token; the thread's token; the other token]
        let us : List Val = vptr b o ∷ [] in
        let Run : List Val → SProp 𝓤 = λ ws. WpFn 𝓤 H 𝓣.C 𝓣.Λ here ws Post in
        suffices ! (Run us) (subst (λ (ws : List Val). ent 𝓤 (Run us) (Run ws)) (sym (λ k. e₀ k ++ [])) (id⊢ 𝓤 (Run us))) $
        enter ! 𝓣.C 𝓣.Λ here us Post $ alloc_all ! (λ l. pass_all ! refl ((tt, tt), tt) $
        let En : Env 𝓤 H = env here.locals l in
        lent_cases E i ! κ i.top.ptr
        (λ e. let none : c ≡ null_ptr = sym owner.top_is ∙ e in reads E s ! tt b o (λ q'. move ! (2 ∷ []) $ drop ! $
        -- [the value; what shuts; the thread's token; the other token]
        sets ! (of_opd ! (load ! (through ! refl (fld ! refl (stop !))) (look_in ! 0 (sub ! 0 refl (whole !))))) refl (word-Good [] c) $
        sets ! (of_opd ! (load ! (through ! refl (fld ! refl (stop !))) (look_in ! 0 (sub ! 4 refl (whole !))))) refl (tt, ((tt, tt), tt)) $
        sets ! (of_opd ! (get ! refl)) refl (word-Good [] c) $ sets ! (of_opd ! (get ! refl)) refl (tt, ((tt, tt), tt)) $
        sets ! (is ! (of_opd ! (get_in ! (fld ! refl (stop !)) (sub ! 0 refl (whole !)))) (ap ptr_val none)) refl
        (tt, record { fits = lit< tt }) $ sets ! (bin ! (get ! refl) (lit ! tt) tt) refl (tt, tt) $
        sets ! (un ! (get ! refl) tt) refl (tt, tt) $ first ! $ branches ! (get ! refl)
        (λ some. absurd some)
        (λ null. skips ! $ exec ! 𝓣.C 𝓣.Λ En (after 8 here.body) (at_ret En Post) $
        sets ! (agg ! (no_more !)) refl (tt, tt) $ sets ! (agg ! (and_then ! (get ! refl) (no_more !))) refl (tt, (tt, tt)) $
        sets ! (agg ! (no_more !)) refl (tt, tt) $ sets ! (agg ! (and_then ! (get ! refl) (no_more !))) refl (tt, (tt, tt)) $
        sets ! (agg ! (no_more !)) refl (tt, tt) $ sets ! (agg ! (and_then ! (get ! refl) (no_more !))) refl (tt, (tt, tt)) $
        sets ! (agg ! (and_then ! (get ! refl)
        (and_then ! (get ! refl) (and_then ! (get ! refl) (and_then ! (get ! refl) (and_then ! (get ! refl) (no_more !))))))) refl
        (laid-Good E c) $
        sets ! (agg ! (and_then ! (lit ! tt) (and_then ! (get ! refl) (no_more !)))) refl (some_Good (lone (Sh E).mir) (laid c) (laid-Good E c)) $
        read E s ! tt b o q' $
        nothing ! $ rewrite ! 0 (λ (p : Ptr). ‵ (unless_null p (shared_owns (R E) i))) (sym e) refl $ owner_made E ! s owner $
        use1 𝓛 (‵ ((Opt.the_row (Sh E)).own_val (Some (shown i)) (live 1 (vcons (laid c) vnil) ∷ [])))
        (Some-of 𝓛 (Sh E) (shown i) (laid c)) $
        returns ! (look_at ! 0 refl) $ free_all ! refl $ keep ! (0 ∷ 1 ∷ 3 ∷ 2 ∷ []) $
        suffices ! _ (ends_at 𝓛 ended stayed held z (live 1 (vcons (laid c) vnil)) (Some (shown i))
        (tt, tt) (tt, tt)) $ nothing ! $ nothing ! $ fjoin ! $ join ! $ move ! (1 ∷ 2 ∷ []) $
        join ! $ join ! $ frame ! $ says ! same $ done !)))
        (λ _ _ _. move ! (1 ∷ 0 ∷ []) $ lent_out E s κ q b o ! tt (λ a r q'. move ! (1 ∷ 0 ∷ 6 ∷ []) $ opens E i a ! tt r (λ n cb co e fits some_n.
        let there : c ≡ block_ptr cb co = sym owner.top_is ∙ e in
        let low : count_of (block_ptr cb co) < 2 ^ 63 = subst (λ (p : Ptr). count_of p < 2 ^ 63) e facts.head.testable in
        -- [the count; the value; the weak part; what shuts; the share; the owner's value; the way back; the invariant; what is seen; the other token]
        sets ! (of_opd ! (load ! (through ! refl (fld ! refl (stop !))) (look_in ! 5 (sub ! 0 refl (whole !))))) refl (word-Good [] c) $
        sets ! (of_opd ! (load ! (through ! refl (fld ! refl (stop !))) (look_in ! 5 (sub ! 4 refl (whole !))))) refl (tt, ((tt, tt), tt)) $
        sets ! (of_opd ! (get ! refl)) refl (word-Good [] c) $ sets ! (of_opd ! (get ! refl)) refl (tt, ((tt, tt), tt)) $
        sets ! (is ! (of_opd ! (get_in ! (fld ! refl (stop !)) (sub ! 0 refl (whole !)))) (ap ptr_val there)) refl (tt, tt) $
        sets ! (bin ! (get ! refl) (lit ! tt) (tests_null (block_ptr cb co) low)) refl (tt, tt) $
        sets ! (un ! (get ! refl) tt) refl (tt, tt) $ first ! $ branches ! (get ! refl)
        (λ some. blocks ! $
        sets ! (of_opd ! (load ! (through ! refl (fld ! refl (stop !))) (look ! 0 refl))) refl (tt, record { fits = fits }) $
        sets ! (bin ! (get ! refl) (neg_lit ! tt) tt) refl (tt, tt) $ first ! $ branches ! (get ! refl)
        (λ full. sets ! (agg ! (and_then ! (lit ! tt) (no_more !))) refl (tt, (record { fits = lit< tt }, tt)) $
        shut E i a ! tt n cb co e fits $ move ! (1 ∷ 2 ∷ 3 ∷ []) $ lent_back E s κ q b o ! tt a.0 r q' $
        use0 𝓛 (‵ ((Opt.the_row (Sh E)).own_val None (live 0 vnil ∷ []))) (none_of 𝓛 (Sh E)) $
        returns_within ! Post refl (look_at ! 0 refl) $ free_all ! refl $ keep ! (0 ∷ 1 ∷ 5 ∷ 2 ∷ []) $
        suffices ! _ (ends_at 𝓛 ended stayed held z (live 0 vnil) None (tt, tt) (tt, tt)) $ nothing ! $ nothing ! $
        fjoin ! $ join ! $ move ! (1 ∷ 2 ∷ []) $ join ! $ join ! $ frame ! $ says ! tt $ done !)
        (λ room. let grows : n + 1 < 2 ^ 64 = omega (arith, is_not n (2 ^ 64 - 1) room) in
        skips ! $ exec ! 𝓣.C 𝓣.Λ En (after 3 (inside (then_of (head (after 7 here.body)))))
        (any_q (after_block 𝓤 H (after_seq 𝓤 H (Wp 𝓤 H 𝓣.C 𝓣.Λ En (after 8 here.body) (at_return 𝓤 H En Post)) (at_return 𝓤 H En Post)))) $
        sets ! (bin ! (get ! refl) (lit ! tt) (record { fits = grows })) refl (tt, record { fits = grows }) $
        assigns_last ! (of_opd ! (get ! refl)) (through ! refl (fld ! refl (stop !))) (store ! 0 refl (tt, record { fits = grows })) $
        exec ! 𝓣.C 𝓣.Λ En (after 8 here.body) (at_ret En Post) $
        sets ! (agg ! (no_more !)) refl (tt, tt) $ sets ! (agg ! (and_then ! (get ! refl) (no_more !))) refl (tt, (tt, tt)) $
        sets ! (agg ! (no_more !)) refl (tt, tt) $ sets ! (agg ! (and_then ! (get ! refl) (no_more !))) refl (tt, (tt, tt)) $
        sets ! (agg ! (no_more !)) refl (tt, tt) $ sets ! (agg ! (and_then ! (get ! refl) (no_more !))) refl (tt, (tt, tt)) $
        sets ! (agg ! (and_then ! (get ! refl)
        (and_then ! (get ! refl) (and_then ! (get ! refl) (and_then ! (get ! refl) (and_then ! (get ! refl) (no_more !))))))) refl
        (laid-Good E c) $
        sets ! (agg ! (and_then ! (lit ! tt) (and_then ! (get ! refl) (no_more !)))) refl (some_Good (lone (Sh E).mir) (laid c) (laid-Good E c)) $
        move ! (1 ∷ []) $ more E i a ! n grows $ move ! (2 ∷ 0 ∷ 3 ∷ 4 ∷ []) $ shut E i a ! tt (n + 1) cb co e grows $
        move ! (2 ∷ 3 ∷ 4 ∷ []) $ lent_back E s κ q b o ! tt a.0 r q' $ move ! (2 ∷ 3 ∷ 4 ∷ []) $ counted_made E i ! a $
        rewrite ! 0 (λ (p : Ptr). ‵ (unless_null p (shared_owns (R E) i))) (sym e) refl $ owner_made E ! s owner $
        use1 𝓛 (‵ ((Opt.the_row (Sh E)).own_val (Some (shown i)) (live 1 (vcons (laid c) vnil) ∷ [])))
        (Some-of 𝓛 (Sh E) (shown i) (laid c)) $
        returns ! (look_at ! 0 refl) $ free_all ! refl $ keep ! (0 ∷ 1 ∷ 3 ∷ 2 ∷ []) $
        suffices ! _ (ends_at 𝓛 ended stayed held z (live 1 (vcons (laid c) vnil)) (Some (shown i))
        (tt, tt) (tt, tt)) $ nothing ! $ nothing ! $ fjoin ! $ join ! $ move ! (1 ∷ 2 ∷ []) $ join ! $ join ! $ frame ! $ says ! same $ done !))
        (λ null. absurd null)))))))

    meets : Meets 𝓛 ended.signature (WpFn 𝓤 H 𝓣.C 𝓣.Λ here) (closing 𝓛 ended held)
    meets =
        walk_Meets 𝓛 ended stayed (Goes-dropped 𝓛 2 (RefOf (0 ∷ []) tt (plain (λ _. Sh E)) (λ _. tt)) yes (λ κs x f. refl), tt) held
        (WpFn 𝓤 H 𝓣.C 𝓣.Λ here) (WpFn-mono 𝓤 H 𝓛.laws 𝓣 here) walk

pub another_spec : {M : Type 1} → statement M
unfolding tables_of body
another_spec 𝓤 𝓛 𝓜 𝓡 wired X L =
    let E : El = record { row = X; laws = L } in
    let A = 𝓛.A in
    let c = F.clauses X 𝓛 𝓜.mem 𝓡.returns in
    let 𝓒 : Carries 𝓤 𝓛.H 𝓜 (A.tok every) = subst (Carries 𝓤 𝓛.H 𝓜) 𝓛.turn_is 𝓡.carries in
    let 𝓣 : Tables 𝓤 𝓛.H = tables_of 𝓤 𝓛.H 𝓒.inner (bare_tables 𝓤 𝓛.H 𝓒.inner 𝓡.allowed 𝓡.how 𝓡.env) in
    let k = #self (args E) in
    hands 𝓛 (ended E) (A.tok every) c 𝓜 𝓒 𝓡 (𝓡.env k)
    (entered 𝓤 𝓛.H (triple_of 𝓛 (ended E).signature (closing 𝓛 (ended E) (holding 𝓤 (ended E) (A.tok every) c))) 𝓣.C 𝓣.Λ k (here E)
    (bare_unfolds 𝓤 𝓛.H 𝓒.inner 𝓡.allowed 𝓡.how 𝓡.env k (here E) (wired.0.0 k refl))
    (meets E 𝓛 𝓜.mem 𝓡.returns 𝓣))
