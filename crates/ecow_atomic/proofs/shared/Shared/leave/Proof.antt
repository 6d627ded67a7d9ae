-- `leave` gives an owner up, and hands the block out to the last, for every element type. Assumes `Logic`.
use mathlib.Core.Path.{◌≡◌, refl, sym, subst, ap, ◌∙◌}
use Prim.Native.Nat.{◌+◌}
use mathlib.Core.List.{List, [], ◌∷◌, ◌++◌}
use seplogic.Ra.Ura.{Ura}
use lib.Dec.{lit<}
use base.Logic.{SProp, ent, all_e, id⊢, via}
use base.Fml.{Fml, ftrue, fsep, flft}
use mir.Syntax.{Fn, w64}
use mir.MapTy.{inst_fn}
use mir.Val.{Val, vint, vcons, vnil}
use prog.Model.{Model}
use prog.Wired.{Wired}
use prog.Wp.{Env, WpFn}
use types.Logic.{Logic, sem}
use contract.BorrowLft.{◌⊑◌}
use contract.CodeStep
use contract.Monad.{fact}
use contract.Running.{Running, MachineTables, tables, tables_of}
use sound.WpLaws.{WpFn-mono}
use types.Kit.{‵, raw, ◌⊛◌, later, mean, at_ret, ◌$◌, ◌∵◌, !, qed, move, keep, drop, use0, use1, use2, split, join, await, rewrite, fsplit, fjoin, suffices, done}
use types.Match.{live}
use types.Part.{sub, whole, agg}
use types.Run.{store, stop, fld, addr, lit, bin, of_opd, and_then, no_more, assigns_last, first, blocks, skips, branches, exec, returns, returns_within, enter, Calls-last}
use types.ByLocal.{alloc_all, pass_all, free_all, look_at, get, get_in, through, sets, sets_last, lands_last, is, env}
use denote.Exit.{no}
use denote.Memory.{lone}
use denote.RattleType.{owns}
use denote.RawPtr.{Ptr, block_ptr, null_ptr, ptr_val, block_of, count_of, tests_null}
use denote.Signature.{plain, types_at}
use denote.Steps.{heard, nothing}
use denote.Triple.Clauses.{Clauses, Ended, closing}
use denote.Triple.Spec.{Meets, triple_of}
use denote.Triple.Table.{entered}
use denote.Triple.Walked.{says, Stays, stay_dropped, walk_of, ends_at, Goes-dropped, walk_Meets}
use Rattle.core.proofs.mem.Param.{El, R, args as layouts}
use Rattle.core.specs.Sync.RawAtomic.{word as count_at}
use Rattle.core.specs.contracts.option.Option as Opt
use Rattle.core.specs.declared.option.Option.TheVariants.{None, Some}
use Rattle.atomic_table.proofs.Calls.{fm, seq_cst, found, finds, subs}
use Rattle.std_alloc.proofs.RcSteps.{is_so, some_Good, Some-of, none_of, word-Good}
use Rattle.std_alloc.proofs.VecSteps.Shapes.{after}
use Rattle.ecow_block.specs.Fields.{shown}
use Rattle.ecow_block.specs.Kept.{kept}
use Rattle.ecow_atomic.specs.contracts.shared.Shared.leave as F
use Rattle.ecow_atomic.specs.contracts.shared.Shared.leave.Key.{name as #self}
use Rattle.ecow_atomic.proofs.shared.Shared.leave.Statement.{statement}
use Rattle.ecow_atomic.proofs.shared.Shared.leave.Code as code
use Rattle.ecow_block.proofs.Kept.{Bi, Bk, laid, block_made, of_sole}
use Rattle.ecow_atomic.proofs.Owners.{Sh, laid-Good, owner_had}
use Rattle.ecow_atomic.proofs.Counting.{gets, ended_at, fewer, drops}
use Rattle.ecow_atomic.proofs.Steps.{cases, counted_had, is_counted, counter_made}

abbrev ended : El → Ended
ended E = F.ended E.row

module _ (E : El) {M : Type 1} {𝓤 : Ura M} (𝓛 : Logic 𝓤) (𝓜 : Model 𝓤 𝓛.H) (𝓡 : Running 𝓤 𝓛.H 𝓜) (wired : Wired 𝓡.env code.code) where
  open 𝓛 use {H}

  abbrev here : Fn
  here = inst_fn (layouts E) code.function

  abbrev stayed : Stays (ended E).signature.params (ended E).kept
  stayed = (stay_dropped (plain (λ _. Sh E)) no, tt)

  abbrev 𝓣 : MachineTables 𝓤 H 𝓜
  𝓣 = tables 𝓤 H 𝓜 𝓡 𝓡.env

  abbrev held : Clauses 𝓤 (ended E)
  held = F.clauses E.row 𝓛 𝓜.mem 𝓡.returns

  walk : (z : (walk_of 𝓛 (ended E) stayed held).Ghost)
      → ent 𝓤 ((walk_of 𝓛 (ended E) stayed held).pre z)
      (WpFn 𝓤 H 𝓣.C 𝓣.Λ here ((walk_of 𝓛 (ended E) stayed held).args z) ((walk_of 𝓛 (ended E) stayed held).post z))
  walk z =
      let κ = z.0.0.0 in let q = z.0.1.0 in let args = z.0.3 in let vss = z.0.4 in
      let Post : Val → SProp 𝓤 = (walk_of 𝓛 (ended E) stayed held).post z in
      qed 𝓛 (((‵ (flft κ q) ⊛ ‵ ftrue) ⊛ ‵ (owns (types_at (ended E).signature.params z.0.0) args vss)) ∷ (raw (fact 𝓤 (κ ⊑ E.row.lives)) ⊛ ‵ ftrue) ∷ []) ∵
      move ! (1 ∷ []) $ split ! $ heard ! (κ ⊑ E.row.lives) (λ within. drop ! $ split ! $ move ! (1 ∷ []) $
      fsplit ! $ owner_had E ! args.0 vss.0 (λ s same owner e₀. keep ! (0 ∷ 2 ∷ []) $ move ! (1 ∷ []) $ split ! $ move ! (2 ∷ 0 ∷ []) $
      let i : (Bi E).Denot = s.inside in let c = s.top.ptr in let facts = owner.is_block in let cb = block_of i.top.ptr in
      let co = count_of i.top.ptr in let at : Ptr = block_ptr cb (co + 0) in
      let us : List Val = laid c ∷ [] in
      let Run : List Val → SProp 𝓤 = λ ws. WpFn 𝓤 H 𝓣.C 𝓣.Λ here ws Post in
      suffices ! (Run us) (subst (λ (ws : List Val). ent 𝓤 (Run us) (Run ws)) (sym (λ k. e₀ k ++ [])) (id⊢ 𝓤 (Run us))) $
      enter ! 𝓣.C 𝓣.Λ here us Post $ alloc_all ! (λ l. pass_all ! refl (laid-Good E c, tt) $
      let En : Env 𝓤 H = env here.locals l in
      sets ! (of_opd ! (get_in ! (fld ! refl (stop !)) (sub ! 0 refl (whole !)))) refl (word-Good [] c) $
      sets ! (of_opd ! (get_in ! (fld ! refl (stop !)) (sub ! 4 refl (whole !)))) refl (tt, ((tt, tt), tt)) $
      cases E i ! i.top.ptr
      -- [the token; the other tokens]
      (λ e. let none : c ≡ null_ptr = sym owner.top_is ∙ e in
      sets ! (is ! (of_opd ! (get_in ! (fld ! refl (stop !)) (sub ! 0 refl (whole !)))) (ap ptr_val none)) refl
      (tt, record { fits = lit< tt }) $ sets ! (bin ! (get ! refl) (lit ! tt) tt) refl (tt, tt) $ first ! $ branches ! (get ! refl)
      (λ null. sets ! (agg ! (and_then ! (lit ! tt) (no_more !))) refl (tt, (record { fits = lit< tt }, tt)) $
      use0 𝓛 (‵ ((Opt.the_row (Bk E)).own_val None (live 0 vnil ∷ []))) (none_of 𝓛 (Bk E)) $
      returns_within ! Post refl (look_at ! 0 refl) $ free_all ! refl $ move ! (1 ∷ 2 ∷ []) $ join ! $ move ! (1 ∷ 0 ∷ []) $
      suffices ! _ (ends_at 𝓛 (ended E) stayed held z (live 0 vnil) None (tt, tt) (tt, tt)) $ nothing ! $
      nothing ! $ fjoin ! $ join ! $ move ! (1 ∷ 0 ∷ []) $ join ! $ says ! tt $ done !)
      (λ null. absurd null))
      (λ e. let there : c ≡ block_ptr cb co = sym owner.top_is ∙ e in let V : Fml = kept (R E) i in let none_left = fewer 𝓛 V cb (co + 0) in
      is_counted E i ! tt κ q within $ counted_had E i ! (λ a.
      -- [the invariant; the part; the invariant; what is seen; the token; the other tokens]
      sets ! (is ! (of_opd ! (get_in ! (fld ! refl (stop !)) (sub ! 0 refl (whole !)))) (ap ptr_val there)) refl (tt, tt) $
      sets ! (bin ! (get ! refl) (lit ! tt) (tests_null (block_ptr cb co) facts.head.testable)) refl (tt, tt) $ first ! $ branches ! (get ! refl)
      (λ null. absurd null)
      (λ null. skips ! $ exec ! 𝓣.C 𝓣.Λ En (after 5 here.body) (at_ret En Post) $ first ! $ blocks ! $
      sets_last ! (addr ! (through ! refl (fld ! refl (stop !)))) refl (tt, tt) $ exec ! 𝓣.C 𝓣.Λ En (after 6 here.body) (at_ret En Post) $
      sets ! (of_opd ! (get ! refl)) refl (tt, tt) $ first ! $ blocks ! $
      use2 𝓛 (raw (𝓣.C _ (ptr_val at ∷ vint w64 1 ∷ seq_cst ∷ []) (λ u. mean 𝓛 (found (none_left a) u))))
      (via 𝓤 _ (drops 𝓛 V cb (co + 0) a) (subs 𝓛 𝓜 𝓡 (code.calls-core::raw_atomic::fetch_sub 𝓡.env wired) at 1 (lit< tt) (none_left a))) $
      sets ! (agg ! (and_then ! (lit ! tt) (no_more !))) refl (tt, (record { fits = lit< tt }, tt)) $
      Calls-last ! (fm 𝓛 𝓜 𝓡) (found (none_left a)) (and_then ! (get ! refl) (and_then ! (lit ! tt) (and_then ! (get ! refl) (no_more !))))
      (λ u. finds ! (none_left a) (λ n fits.
      lands_last ! refl (tt, record { fits = fits }) $ exec ! 𝓣.C 𝓣.Λ En (after 8 here.body) (at_ret En Post) $
      -- [what the last one has; the invariant; what is seen; the token; the other tokens]
      sets ! (of_opd ! (get ! refl)) refl (tt, record { fits = fits }) $
      sets ! (bin ! (get ! refl) (lit ! tt) tt) refl (tt, tt) $ first ! $ branches ! (get ! refl)
      (λ many. sets ! (agg ! (and_then ! (lit ! tt) (no_more !))) refl (tt, (record { fits = lit< tt }, tt)) $
      use0 𝓛 (‵ ((Opt.the_row (Bk E)).own_val None (live 0 vnil ∷ []))) (none_of 𝓛 (Bk E)) $
      returns_within ! Post refl (look_at ! 0 refl) $ free_all ! refl $ keep ! (4 ∷ 5 ∷ 0 ∷ []) $ join ! $ move ! (1 ∷ 0 ∷ []) $
      suffices ! _ (ends_at 𝓛 (ended E) stayed held z (live 0 vnil) None (tt, tt) (tt, tt)) $ nothing ! $
      nothing ! $ fjoin ! $ join ! $ move ! (1 ∷ 0 ∷ []) $ join ! $ says ! tt $ done !)
      (λ last. skips ! $ exec ! 𝓣.C 𝓣.Λ En (after 11 here.body) (at_ret En Post) $
      use1 𝓛 (‵ (ended_at 𝓛 V cb (co + 0) a 0)) (all_e 𝓤 (λ (_ : n ≡ 1). sem 𝓛 (ended_at 𝓛 V cb (co + 0) a 0)) (is_so n 1 last)) $
      use1 𝓛 (later (‵ (fsep (count_at cb (co + 0) 0) V))) (gets 𝓛 V cb (co + 0) a 0) $ await ! tt $ fsplit ! $
      -- [the count; what is kept; the invariant; what is seen; the token; the other tokens]
      first ! $ blocks ! $ assigns_last ! (of_opd ! (lit ! tt)) (through ! refl (fld ! refl (stop !))) (store ! 0 refl (tt, record { fits = lit< tt })) $
      exec ! 𝓣.C 𝓣.Λ En (after 12 here.body) (at_ret En Post) $
      sets ! (agg ! (no_more !)) refl (tt, tt) $ sets ! (agg ! (and_then ! (get ! refl) (no_more !))) refl (tt, (tt, tt)) $
      sets ! (agg ! (no_more !)) refl (tt, tt) $ sets ! (agg ! (and_then ! (get ! refl) (no_more !))) refl (tt, (tt, tt)) $
      sets ! (agg ! (no_more !)) refl (tt, tt) $ sets ! (agg ! (and_then ! (get ! refl) (no_more !))) refl (tt, (tt, tt)) $
      sets ! (agg ! (and_then ! (get ! refl)
      (and_then ! (get ! refl) (and_then ! (get ! refl) (and_then ! (get ! refl) (and_then ! (get ! refl) (no_more !))))))) refl
      (laid-Good E c) $
      sets ! (agg ! (and_then ! (lit ! tt) (and_then ! (get ! refl) (no_more !)))) refl (some_Good (lone (Bk E).mir) (laid c) (laid-Good E c)) $
      counter_made E i ! cb co e $ of_sole E i facts cb co e ! $ block_made E ! i facts $
      rewrite ! 0 (λ (p : Ptr). ‵ ((Bk E).own_val (shown i) (laid p ∷ []))) owner.top_is refl $
      use1 𝓛 (‵ ((Opt.the_row (Bk E)).own_val (Some (shown i)) (live 1 (vcons (laid c) vnil) ∷ [])))
      (Some-of 𝓛 (Bk E) (shown i) (laid c)) $
      returns ! (look_at ! 0 refl) $ free_all ! refl $ keep ! (3 ∷ 4 ∷ 0 ∷ []) $ join ! $ move ! (1 ∷ 0 ∷ []) $
      suffices ! _ (ends_at 𝓛 (ended E) stayed held z (live 1 (vcons (laid c) vnil)) (Some (shown i))
      (tt, tt) (tt, tt)) $ nothing ! $ nothing ! $ fjoin ! $ join ! $ move ! (1 ∷ 0 ∷ []) $ join ! $ says ! same $ done !)))))))))

  meets : Meets 𝓛 (ended E).signature (WpFn 𝓤 H 𝓣.C 𝓣.Λ here) (closing 𝓛 (ended E) held)
  unfolding tables_of contract.CodeStep.c_Tables
  meets =
      walk_Meets 𝓛 (ended E) stayed (Goes-dropped 𝓛 1 (plain (λ _. Sh E)) no (λ κs x f. refl), tt) held
      (WpFn 𝓤 H 𝓣.C 𝓣.Λ here) (WpFn-mono 𝓤 H 𝓛.laws (tables_of 𝓤 H 𝓜 𝓣) here) walk

pub leave_spec : {M : Type 1} → statement M
leave_spec 𝓤 𝓛 𝓜 𝓡 wired X L =
    let E : El = record { row = X; laws = L } in let 𝓣' = tables 𝓤 𝓛.H 𝓜 𝓡 𝓡.env in
    entered 𝓤 𝓛.H (triple_of 𝓛 (ended E).signature (closing 𝓛 (ended E) (held E 𝓛 𝓜 𝓡 wired))) 𝓣'.C 𝓣'.Λ (#self (layouts E)) (here E 𝓛 𝓜 𝓡 wired)
    (code.unfolded 𝓤 𝓛.H 𝓜 𝓡 wired (X, tt)) (meets E 𝓛 𝓜 𝓡 wired)
