-- `another` makes one more owner, or finds the count full, for every element type. Assumes `Logic`.
use mathlib.Core.Path.{◌≡◌, refl, sym, subst, ap, ◌∙◌}
use Prim.Native.Nat.{◌+◌, ◌<◌, ◌^◌}
use native.Mathlib.Omega.{arith}
use mathlib.Core.List.{List, [], ◌∷◌, ◌++◌}
use seplogic.Ra.Ura.{Ura}
use lib.Dec.{lit<, nleb→lt}
use base.Logic.{SProp, ent, all_e, guard_i, id⊢, via}
use base.Fml.{Fml, ftrue, flft}
use mir.Syntax.{Fn, Body, skip, seq, assign, block, loop, cond, switch, exit, return, call, call_v, unreachable, lend_static, w64}
use mir.MapTy.{inst_fn}
use mir.Val.{Val, Fits, vint, vptr, vcons, vnil}
use prog.Model.{Model}
use prog.Wired.{Wired}
use prog.Wp.{Env, WpFn, Wp, after_seq, at_return}
use types.Logic.{Logic, sem}
use contract.CodeStep
use contract.Running.{Running, MachineTables, tables, tables_of}
use sound.WpLaws.{WpFn-mono}
use types.Kit.{‵, raw, ◌⊛◌, mean, at_ret, any_q, ◌$◌, ◌∵◌, !, qed, move, keep, drop, use0, use1, use2, split, join, rewrite, fsplit, fjoin, fpick, feq_l, suffices, done}
use types.Match.{live}
use types.Part.{look_in, sub, whole, agg}
use types.RcWeak.{part}
use types.Run.{stop, fld, addr, load, lit, bin, un, of_opd, and_then, no_more, first, blocks, skips, branches, exec, returns, returns_within, enter, Calls-last}
use types.ByLocal.{alloc_all, pass_all, free_all, look_at, get, get_in, through, sets, sets_last, lands_last, is, env}
use denote.Builtin.{RefOf}
use denote.Exit.{yes}
use denote.Memory.{lone}
use denote.Opens.{hide, unhide}
use denote.RattleType.{owns}
use denote.RawPtr.{Ptr, block_ptr, null_ptr, ptr_val, block_of, count_of, tests_null}
use denote.Signature.{plain, types_at}
use denote.Steps.{nothing}
use denote.Triple.Clauses.{Clauses, Ended, closing}
use denote.Triple.Spec.{Meets, triple_of}
use denote.Triple.Table.{entered}
use denote.Triple.Walked.{says, Stays, stay_dropped, walk_of, ends_at, Goes-dropped, walk_Meets}
use Rattle.core.proofs.mem.Param.{El, R, args as layouts}
use Rattle.core.specs.Thread.Scope.{after_increment}
use Rattle.core.specs.contracts.option.Option as Opt
use Rattle.core.specs.declared.option.Option.TheVariants.{None, Some}
use Rattle.atomic_table.proofs.Calls.{fm, seq_cst, found, finds}
use Rattle.std_alloc.proofs.RcSteps.{some_Good, Some-of, none_of, word-Good}
use Rattle.std_alloc.proofs.VecSteps.Shapes.{after, head}
use Rattle.ecow_block.specs.Fields.{shown}
use Rattle.ecow_block.specs.Heads.{unless_null}
use Rattle.ecow_block.specs.Kept.{kept}
use Rattle.ecow_atomic.specs.Owners.{shared_owns}
use Rattle.ecow_atomic.specs.contracts.shared.Shared.another as F
use Rattle.ecow_atomic.specs.contracts.shared.Shared.another.Key.{name as #self}
use Rattle.ecow_atomic.proofs.shared.Shared.another.Statement.{statement}
use Rattle.ecow_atomic.proofs.shared.Shared.another.Code as code
use Rattle.ecow_block.proofs.Kept.{Bi, laid}
use Rattle.ecow_atomic.proofs.Owners.{Sh, Si, laid-Good, owner_made}
use Rattle.ecow_atomic.proofs.Calls.{bumps}
use Rattle.ecow_atomic.proofs.Counting.{raises}
use Rattle.ecow_atomic.proofs.Steps.{lent_cases, counted_made, lent_out, lent_back, reads, read}

-- what a condition runs where it holds
abbrev then_of : Body → Body
then_of skip = skip
then_of (seq x₀ x₁) = skip
then_of (assign x₀ x₁) = skip
then_of (block x₀) = skip
then_of (loop x₀) = skip
then_of (cond x₀ x₁ x₂) = x₁
then_of (switch x₀ x₁) = skip
then_of (exit x₀) = skip
then_of return = skip
then_of (call x₀ x₁ x₂) = skip
then_of (call_v x₀ x₁ x₂ x₃) = skip
then_of unreachable = skip
then_of (lend_static x₀ x₁ x₂) = skip

abbrev ended : El → Ended
ended E = F.ended E.row

module _ (E : El) {M : Type 1} {𝓤 : Ura M} (𝓛 : Logic 𝓤) (𝓜 : Model 𝓤 𝓛.H) (𝓡 : Running 𝓤 𝓛.H 𝓜) (wired : Wired 𝓡.env code.code) where
  open 𝓛 use {H}

  abbrev here : Fn
  here = inst_fn (layouts E) code.function

  abbrev stayed : Stays (ended E).signature.params (ended E).kept
  stayed = (stay_dropped (RefOf (0 ∷ []) tt (plain (λ _. Sh E)) (λ _. tt)) yes, tt)

  abbrev 𝓣 : MachineTables 𝓤 H 𝓜
  𝓣 = tables 𝓤 H 𝓜 𝓡 𝓡.env

  abbrev held : Clauses 𝓤 (ended E)
  held = F.clauses E.row 𝓛 𝓜.mem 𝓡.returns

  walk : (z : (walk_of 𝓛 (ended E) stayed held).Ghost)
      → ent 𝓤 ((walk_of 𝓛 (ended E) stayed held).pre z)
      (WpFn 𝓤 H 𝓣.C 𝓣.Λ here ((walk_of 𝓛 (ended E) stayed held).args z) ((walk_of 𝓛 (ended E) stayed held).post z))
  walk z =
      let κ = z.0.0.0 in let κ₁ = z.0.0.1.0 in let q = z.0.1.0 in let q₁ = z.0.1.1.0 in let args = z.0.3 in let vss = z.0.4 in
      let b = args.0.ref_ptr.0 in let o = args.0.ref_ptr.1 in
      let Post : Val → SProp 𝓤 = (walk_of 𝓛 (ended E) stayed held).post z in
      qed 𝓛 (((‵ (flft κ q) ⊛ ‵ (flft κ₁ q₁) ⊛ ‵ ftrue) ⊛ ‵ (owns (types_at (ended E).signature.params z.0.0) args vss))
      ∷ raw ((held z.0.0 args).requires z.1) ∷ []) ∵
      move ! (1 ∷ []) $ drop ! $ split ! $ split ! $ move ! (2 ∷ []) $ fsplit ! $ fsplit ! $ feq_l ! (λ e₀. keep ! (0 ∷ 2 ∷ 3 ∷ []) $
      unhide ! $ fpick ! (λ x. let s : (Si E).Denot = x.0 in let i : (Bi E).Denot = s.inside in
      let owner = x.1.1 in let facts = owner.is_block in let same = x.1.0 in let c = s.top.ptr in
      let cb = block_of i.top.ptr in let co = count_of i.top.ptr in let at : Ptr = block_ptr cb (co + 0) in
      fsplit ! $ move ! (1 ∷ []) $ drop ! $ fsplit ! $ hide ! $ move ! (1 ∷ []) $ hide ! $
      -- [what the owner lends; its fields; the token; the other token]
      let us : List Val = vptr b o ∷ [] in
      let Run : List Val → SProp 𝓤 = λ ws. WpFn 𝓤 H 𝓣.C 𝓣.Λ here ws Post in
      suffices ! (Run us) (subst (λ (ws : List Val). ent 𝓤 (Run us) (Run ws)) (sym (λ k. e₀ k ++ [])) (id⊢ 𝓤 (Run us))) $
      enter ! 𝓣.C 𝓣.Λ here us Post $ alloc_all ! (λ l. pass_all ! refl ((tt, tt), tt) $
      let En : Env 𝓤 H = env here.locals l in
      lent_cases E i ! κ i.top.ptr
      (λ e. let none : c ≡ null_ptr = sym owner.top_is ∙ e in reads E s ! tt b o (λ q'. move ! (2 ∷ []) $ drop ! $
      -- [the value; what shuts; the other token]
      sets ! (of_opd ! (load ! (through ! refl (fld ! refl (stop !))) (look_in ! 0 (sub ! 0 refl (whole !))))) refl (word-Good [] c) $
      sets ! (of_opd ! (load ! (through ! refl (fld ! refl (stop !))) (look_in ! 0 (sub ! 4 refl (whole !))))) refl (tt, ((tt, tt), tt)) $
      sets ! (of_opd ! (get ! refl)) refl (word-Good [] c) $ sets ! (of_opd ! (get ! refl)) refl (tt, ((tt, tt), tt)) $
      sets ! (is ! (of_opd ! (get_in ! (fld ! refl (stop !)) (sub ! 0 refl (whole !)))) (ap ptr_val none)) refl
      (tt, record { fits = lit< tt }) $ sets ! (bin ! (get ! refl) (lit ! tt) tt) refl (tt, tt) $
      sets ! (un ! (get ! refl) tt) refl (tt, tt) $ first ! $ branches ! (get ! refl)
      (λ some. absurd some)
      (λ null. skips ! $ exec ! 𝓣.C 𝓣.Λ En (after 8 here.body) (at_ret En Post) $
      sets ! (agg ! (no_more !)) refl (tt, tt) $ sets ! (agg ! (and_then ! (get ! refl) (no_more !))) refl (tt, (tt, tt)) $
      sets ! (agg ! (no_more !)) refl (tt, tt) $ sets ! (agg ! (and_then ! (get ! refl) (no_more !))) refl (tt, (tt, tt)) $
      sets ! (agg ! (no_more !)) refl (tt, tt) $ sets ! (agg ! (and_then ! (get ! refl) (no_more !))) refl (tt, (tt, tt)) $
      sets ! (agg ! (and_then ! (get ! refl)
      (and_then ! (get ! refl) (and_then ! (get ! refl) (and_then ! (get ! refl) (and_then ! (get ! refl) (no_more !))))))) refl
      (laid-Good E c) $
      sets ! (agg ! (and_then ! (lit ! tt) (and_then ! (get ! refl) (no_more !)))) refl (some_Good (lone (Sh E).mir) (laid c) (laid-Good E c)) $
      read E s ! tt b o q' $
      nothing ! $ rewrite ! 0 (λ (p : Ptr). ‵ (unless_null p (shared_owns (R E) i))) (sym e) refl $ owner_made E ! s owner $
      use1 𝓛 (‵ ((Opt.the_row (Sh E)).own_val (Some (shown i)) (live 1 (vcons (laid c) vnil) ∷ [])))
      (Some-of 𝓛 (Sh E) (shown i) (laid c)) $
      returns ! (look_at ! 0 refl) $ free_all ! refl $
      suffices ! _ (ends_at 𝓛 (ended E) stayed held z (live 1 (vcons (laid c) vnil)) (Some (shown i))
      (tt, tt) (tt, tt)) $ nothing ! $ nothing ! $ fjoin ! $ join ! $ move ! (1 ∷ 2 ∷ []) $ join ! $ join ! $ says ! same $ done !)))
      (λ e. let there : c ≡ block_ptr cb co = sym owner.top_is ∙ e in let V : Fml = kept (R E) i in
      move ! (1 ∷ 0 ∷ []) $ lent_out E s κ q b o ! tt (λ a r q'.
      -- [the invariant; the share; the owner's value; the way back; the invariant; what is seen; the other token]
      sets ! (of_opd ! (load ! (through ! refl (fld ! refl (stop !))) (look_in ! 2 (sub ! 0 refl (whole !))))) refl (word-Good [] c) $
      sets ! (of_opd ! (load ! (through ! refl (fld ! refl (stop !))) (look_in ! 2 (sub ! 4 refl (whole !))))) refl (tt, ((tt, tt), tt)) $
      sets ! (of_opd ! (get ! refl)) refl (word-Good [] c) $ sets ! (of_opd ! (get ! refl)) refl (tt, ((tt, tt), tt)) $
      sets ! (is ! (of_opd ! (get_in ! (fld ! refl (stop !)) (sub ! 0 refl (whole !)))) (ap ptr_val there)) refl (tt, tt) $
      sets ! (bin ! (get ! refl) (lit ! tt) (tests_null (block_ptr cb co) facts.head.testable)) refl (tt, tt) $
      sets ! (un ! (get ! refl) tt) refl (tt, tt) $ first ! $ branches ! (get ! refl)
      (λ some. let step_on : Body = then_of (head (after 7 here.body)) in
      let Next = any_q (after_seq 𝓤 H (Wp 𝓤 H 𝓣.C 𝓣.Λ En (after 8 here.body) (at_return 𝓤 H En Post)) (at_return 𝓤 H En Post)) in
      first ! $ blocks ! $ sets_last ! (addr ! (through ! refl (fld ! refl (stop !)))) refl (tt, tt) $ exec ! 𝓣.C 𝓣.Λ En (after 1 step_on) Next $
      sets ! (of_opd ! (get ! refl)) refl (tt, tt) $ first ! $ blocks ! $
      let more = after_increment a r in
      use2 𝓛 (raw (𝓣.C _ (ptr_val at ∷ seq_cst ∷ []) (λ u. mean 𝓛 (found more u))))
      (via 𝓤 _ (raises 𝓛 V cb (co + 0) a r) (bumps 𝓛 𝓜 𝓡 (code.calls-core::raw_atomic::saturating_increment 𝓡.env wired) at more)) $
      sets ! (agg ! (and_then ! (lit ! tt) (no_more !))) refl (tt, (record { fits = lit< tt }, tt)) $
      Calls-last ! (fm 𝓛 𝓜 𝓡) (found more) (and_then ! (get ! refl) (and_then ! (get ! refl) (no_more !))) (λ u. finds ! more (λ n fits.
      lands_last ! refl (tt, record { fits = fits }) $ exec ! 𝓣.C 𝓣.Λ En (after 3 step_on) Next $ fsplit ! $
      -- [the share; a part if there was room; the owner's value; the way back; the invariant; what is seen; the other token]
      move ! (0 ∷ 2 ∷ 3 ∷ []) $ lent_back E s κ q b o ! tt a r q' $
      -- [the token; a part if there was room; the invariant; what is seen; the other token]
      sets ! (of_opd ! (get ! refl)) refl (tt, record { fits = fits }) $
      sets ! (bin ! (record {
        go = λ Kt g. via 𝓤 (Kt (vint w64 9223372036854775807)) g
            (guard_i 𝓤 (Fits w64 9223372036854775807) (Kt (vint w64 9223372036854775807)) (record { fits = lit< tt }));
      })
      (get ! refl) tt) refl (tt, tt) $
      branches ! (get ! refl)
      (λ full. sets ! (agg ! (and_then ! (lit ! tt) (no_more !))) refl (tt, (record { fits = lit< tt }, tt)) $
      use0 𝓛 (‵ ((Opt.the_row (Sh E)).own_val None (live 0 vnil ∷ []))) (none_of 𝓛 (Sh E)) $
      returns_within ! Post refl (look_at ! 0 refl) $ free_all ! refl $ keep ! (0 ∷ 1 ∷ 5 ∷ []) $
      suffices ! _ (ends_at 𝓛 (ended E) stayed held z (live 0 vnil) None (tt, tt) (tt, tt)) $ nothing ! $
      nothing ! $ fjoin ! $ join ! $ move ! (1 ∷ 2 ∷ []) $ join ! $ join ! $ says ! tt $ done !)
      (λ room. let small : n < 9223372036854775807 = nleb→lt 9223372036854775807 n room in let grows : n + 1 < 2 ^ 63 = omega arith in
      skips ! $ exec ! 𝓣.C 𝓣.Λ En (after 8 here.body) (at_ret En Post) $
      sets ! (agg ! (no_more !)) refl (tt, tt) $ sets ! (agg ! (and_then ! (get ! refl) (no_more !))) refl (tt, (tt, tt)) $
      sets ! (agg ! (no_more !)) refl (tt, tt) $ sets ! (agg ! (and_then ! (get ! refl) (no_more !))) refl (tt, (tt, tt)) $
      sets ! (agg ! (no_more !)) refl (tt, tt) $ sets ! (agg ! (and_then ! (get ! refl) (no_more !))) refl (tt, (tt, tt)) $
      sets ! (agg ! (and_then ! (get ! refl)
      (and_then ! (get ! refl) (and_then ! (get ! refl) (and_then ! (get ! refl) (and_then ! (get ! refl) (no_more !))))))) refl
      (laid-Good E c) $
      sets ! (agg ! (and_then ! (lit ! tt) (and_then ! (get ! refl) (no_more !)))) refl (some_Good (lone (Sh E).mir) (laid c) (laid-Good E c)) $
      move ! (1 ∷ []) $ use1 𝓛 (‵ (part 63 a)) (all_e 𝓤 (λ (_ : n + 1 < 2 ^ 63). sem 𝓛 (part 63 a)) grows) $ move ! (0 ∷ 2 ∷ 3 ∷ []) $ counted_made E i ! a $
      rewrite ! 0 (λ (p : Ptr). ‵ (unless_null p (shared_owns (R E) i))) (sym e) refl $ owner_made E ! s owner $
      use1 𝓛 (‵ ((Opt.the_row (Sh E)).own_val (Some (shown i)) (live 1 (vcons (laid c) vnil) ∷ [])))
      (Some-of 𝓛 (Sh E) (shown i) (laid c)) $
      returns ! (look_at ! 0 refl) $ free_all ! refl $
      suffices ! _ (ends_at 𝓛 (ended E) stayed held z (live 1 (vcons (laid c) vnil)) (Some (shown i))
      (tt, tt) (tt, tt)) $ nothing ! $ nothing ! $ fjoin ! $ join ! $ move ! (1 ∷ 2 ∷ []) $ join ! $ join ! $ says ! same $ done !))))
      (λ null. absurd null))))))

  meets : Meets 𝓛 (ended E).signature (WpFn 𝓤 H 𝓣.C 𝓣.Λ here) (closing 𝓛 (ended E) held)
  unfolding tables_of contract.CodeStep.c_Tables
  meets =
      walk_Meets 𝓛 (ended E) stayed (Goes-dropped 𝓛 2 (RefOf (0 ∷ []) tt (plain (λ _. Sh E)) (λ _. tt)) yes (λ κs x f. refl), tt) held
      (WpFn 𝓤 H 𝓣.C 𝓣.Λ here) (WpFn-mono 𝓤 H 𝓛.laws (tables_of 𝓤 H 𝓜 𝓣) here) walk

pub another_spec : {M : Type 1} → statement M
another_spec 𝓤 𝓛 𝓜 𝓡 wired X L =
    let E : El = record { row = X; laws = L } in let 𝓣' = tables 𝓤 𝓛.H 𝓜 𝓡 𝓡.env in
    entered 𝓤 𝓛.H (triple_of 𝓛 (ended E).signature (closing 𝓛 (ended E) (held E 𝓛 𝓜 𝓡 wired))) 𝓣'.C 𝓣'.Λ (#self (layouts E)) (here E 𝓛 𝓜 𝓡 wired)
    (code.unfolded 𝓤 𝓛.H 𝓜 𝓡 wired (X, tt)) (meets E 𝓛 𝓜 𝓡 wired)
