-- `get` lends the block, which every owner keeps alive, if it has places, for every element type. Assumes `Logic`.
use mathlib.Core.Path.{◌≡◌, refl, sym, subst, ap, ◌∙◌}
use mathlib.Core.List.{List, [], ◌∷◌, ◌++◌}
use seplogic.Ra.Ura.{Ura}
use lib.Dec.{lit<}
use base.Logic.{SProp, ent, id⊢}
use base.Fml.{Lft, ftrue, flft, fat}
use mir.Syntax.{Fn, named}
use mir.MapTy.{inst_fn}
use mir.Val.{Val, vptr, vcons, vnil}
use prog.Memory.{Memory}
use prog.Routine.{Routine}
use prog.Wp.{Env, WpFn, Tables}
use types.Logic.{Logic}
use contract.Monad.{Fun}
use contract.Running.{tables, tables_of}
use sound.WpLaws.{WpFn-mono}
use types.Kit.{‵, raw, ◌⊛◌, at_ret, ◌$◌, ◌∵◌, !, qed, move, keep, drop, use0, use1, split, join, rewrite, fsplit, fjoin, fpick, feq_i, feq_l, suffices, done}
use types.Match.{live}
use types.Part.{look_in, sub, whole, agg}
use types.Run.{stop, fld, addr, load, lit, bin, of_opd, and_then, no_more, first, blocks, skips, branches, exec, returns, returns_within, enter}
use types.ByLocal.{alloc_all, pass_all, free_all, look_at, get, through, sets, sets_last, is, env}
use denote.Builtin.{RefOf}
use denote.Exit.{yes}
use denote.Opens.{hide, unhide}
use denote.Param.Laws.{param_laws}
use denote.RattleType.{RattleType, owns}
use denote.RawPtr.{Ptr, block_ptr, null_ptr, ptr_val, block_of, count_of, tests_null}
use denote.Ref.{ShrRef, Bor}
use denote.Signature.{plain, types_at}
use denote.Steps.{nothing}
use denote.Triple.Clauses.{Clauses, Ended, closing}
use denote.Triple.Spec.{Meets, triple_of}
use denote.Triple.Table.{entered}
use denote.Triple.Walked.{says, Stays, stay_dropped, walk_of, ends_at, Goes-dropped, walk_Meets}
use Rattle.core.proofs.mem.Param.{El, R, args}
use Rattle.core.specs.contracts.option.Option as Opt
use Rattle.core.specs.declared.option.Option.TheVariants.{None, Some}
use Rattle.std_alloc.proofs.ArcSteps.{arc_sees}
use Rattle.std_alloc.proofs.RcSteps.{Some-of, none_of}
use Rattle.std_alloc.proofs.VecSteps.Shapes.{after}
use Rattle.ecow_block.specs.Kept.{kept, seen}
use Rattle.ecow_atomic.specs.Owners.{count_block, count_offset}
use Rattle.ecow_atomic.specs.contracts.shared.Shared.get as F
use Rattle.ecow_atomic.specs.contracts.shared.Shared.get.Key.{name as #self}
use Rattle.ecow_atomic.proofs.shared.Shared.get.Statement.{statement}
use Rattle.ecow_atomic.proofs.shared.Shared.get.Code as code
use Rattle.ecow_block.proofs.Kept.{Bi, Bk, laid, no_contents}
use Rattle.ecow_atomic.proofs.Owners.{Sh, Si, data_ty, block_seen}
use Rattle.ecow_atomic.proofs.Steps.{lent_cases, reads, read}
use Rattle.ecow_block.proofs.Lent.{seen_shr_laws}

module _ (E : El) where
  abbrev here : Fn
  here = inst_fn (args E) code.function

  abbrev ended : Ended
  ended = F.ended E.row

  abbrev Lent : Lft → RattleType
  Lent κ = ShrRef (named 0) κ (Bk E)

  abbrev stayed : Stays ended.signature.params ended.kept
  stayed = (stay_dropped (RefOf (0 ∷ []) tt (plain (λ _. Sh E)) (λ _. tt)) yes, tt)

  module _ {M : Type 1} {𝓤 : Ura M} (𝓛 : Logic 𝓤) (at_mem : Memory → SProp 𝓤) (run : Routine → Fun 𝓤) (𝓣 : Tables 𝓤 𝓛.H) where
    open 𝓛 use {H}

    abbrev held : Clauses 𝓤 ended
    held = F.clauses E.row 𝓛 at_mem run

    walk : (z : (walk_of 𝓛 ended stayed held).Ghost)
        → ent 𝓤 ((walk_of 𝓛 ended stayed held).pre z)
        (WpFn 𝓤 H 𝓣.C 𝓣.Λ here ((walk_of 𝓛 ended stayed held).args z) ((walk_of 𝓛 ended stayed held).post z))
    walk z =
        let κ = z.0.0.0 in let κ₁ = z.0.0.1.0 in let q = z.0.1.0 in let q₁ = z.0.1.1.0 in let a = z.0.3 in let vss = z.0.4 in
        let b = a.0.ref_ptr.0 in let o = a.0.ref_ptr.1 in
        let Post : Val → SProp 𝓤 = (walk_of 𝓛 ended stayed held).post z in
        qed 𝓛 (((‵ (flft κ q) ⊛ ‵ (flft κ₁ q₁) ⊛ ‵ ftrue) ⊛ ‵ (owns (types_at ended.signature.params z.0.0) a vss)) ∷ raw ((held z.0.0 a).requires z.1) ∷ []) ∵
        move ! (1 ∷ []) $ drop ! $ split ! $ split ! $ move ! (2 ∷ []) $ fsplit ! $ fsplit ! $ feq_l ! (λ e₀. keep ! (0 ∷ 2 ∷ 3 ∷ []) $
        unhide ! $ fpick ! (λ x. let s : (Si E).Denot = x.0 in let i : (Bi E).Denot = s.inside in
        let owner = x.1.1 in let facts = owner.is_block in let same = x.1.0 in
        fsplit ! $ move ! (1 ∷ []) $ drop ! $ fsplit ! $ hide ! $ move ! (1 ∷ []) $ hide ! $
        -- [what the owner lends; its fields; the token; the other token]
        let us : List Val = vptr b o ∷ [] in let at : Val = vptr b o in
        let Run : List Val → SProp 𝓤 = λ ws. WpFn 𝓤 H 𝓣.C 𝓣.Λ here ws Post in
        suffices ! (Run us) (subst (λ (ws : List Val). ent 𝓤 (Run us) (Run ws)) (sym (λ k. e₀ k ++ [])) (id⊢ 𝓤 (Run us))) $
        enter ! 𝓣.C 𝓣.Λ here us Post $ alloc_all ! (λ l. pass_all ! refl ((tt, tt), tt) $
        let En : Env 𝓤 H = env here.locals l in
        move ! (1 ∷ 2 ∷ []) $ reads E s ! tt b o (λ q'. move ! (3 ∷ []) $ lent_cases E i ! κ i.top.ptr
        -- [the value; what shuts; the fields; the other token]
        (λ e. let null : s.top.ptr ≡ null_ptr = sym owner.top_is ∙ e in
        sets ! (is ! (of_opd ! (load ! (through ! refl (fld ! refl (fld ! refl (stop !)))) (look_in ! 0 (sub ! 0 refl (sub ! 0 refl (whole !))))))
        (ap ptr_val null)) refl (tt, record { fits = lit< tt }) $
        sets ! (bin ! (get ! refl) (lit ! tt) tt) refl (tt, tt) $ first ! $ branches ! (get ! refl)
        (λ yes. sets ! (agg ! (and_then ! (lit ! tt) (no_more !))) refl (tt, (record { fits = lit< tt }, tt)) $ read E s ! tt b o q' $
        use0 𝓛 (‵ ((Opt.the_row (Lent κ)).own_val None (live 0 vnil ∷ []))) (none_of 𝓛 (Lent κ)) $
        returns_within ! Post refl (look_at ! 0 refl) $ free_all ! refl $ keep ! (0 ∷ 1 ∷ 3 ∷ []) $
        suffices ! _ (ends_at 𝓛 ended stayed held z (live 0 vnil) None (tt, tt) (tt, tt)) $ says ! (sym same ∙ no_contents E i facts e) $
        nothing ! $ nothing ! $ fjoin ! $ join ! $ move ! (1 ∷ 2 ∷ []) $ join ! $ join ! $ done !)
        (λ no. absurd no))
        (λ e. let cb = block_of i.top.ptr in let co = count_of i.top.ptr in
        let there : s.top.ptr ≡ block_ptr cb co = sym owner.top_is ∙ e in
        unhide ! $ use1 𝓛 (‵ (seen (R E) i κ)) (arc_sees (kept (R E) i) (count_block (R E) i) (count_offset (R E) i)
        (seen (R E) i) (seen_shr_laws (R E) (param_laws 0 E.row E.laws) i) 𝓛 κ) $
        -- [what is seen; the value; what shuts; the fields; the other token]
        move ! (1 ∷ []) $ rewrite ! 0 (λ (p : Ptr). ‵ (fat q' (data_ty E) b o (laid p))) there refl $
        sets ! (of_opd ! (load ! (through ! refl (fld ! refl (fld ! refl (stop !)))) (look_in ! 0 (sub ! 0 refl (sub ! 0 refl (whole !)))))) refl (tt, tt) $
        sets ! (bin ! (get ! refl) (lit ! tt) (tests_null (block_ptr cb co) facts.head.testable)) refl (tt, tt) $ first ! $ branches ! (get ! refl)
        (λ yes. absurd yes)
        (λ no. skips ! $ exec ! 𝓣.C 𝓣.Λ En (after 3 here.body) (at_ret En Post) $ first ! $ blocks ! $
        sets ! (addr ! (through ! refl (stop !))) refl (tt, tt) $ sets_last ! (addr ! (through ! refl (stop !))) refl (tt, tt) $
        exec ! 𝓣.C 𝓣.Λ En (after 4 here.body) (at_ret En Post) $ sets ! (of_opd ! (get ! refl)) refl (tt, tt) $
        sets ! (agg ! (and_then ! (lit ! tt) (and_then ! (get ! refl) (no_more !)))) refl (tt, (record { fits = lit< tt }, (tt, tt))) $
        rewrite ! 0 (λ (p : Ptr). ‵ (fat q' (data_ty E) b o (laid p))) (sym there) refl $ move ! (0 ∷ 2 ∷ []) $ read E s ! tt b o q' $
        -- [the token; what is seen; the fields; the other token]
        move ! (2 ∷ 1 ∷ []) $ block_seen E s owner κ b o ! $ feq_i ! (List Val) (at ∷ []) (at ∷ []) refl $ fjoin ! $
        let lent : Bor (Bk E).Denot = record { ref_ptr = (b, o); now = a.0.now } in
        rewrite ! 0 (λ (d : (Bk E).Denot). ‵ ((Lent κ).own_val (record { ref_ptr = (b, o); now = d }) (at ∷ []))) same refl $
        use1 𝓛 (‵ ((Opt.the_row (Lent κ)).own_val (Some lent) (live 1 (vcons at vnil) ∷ []))) (Some-of 𝓛 (Lent κ) lent at) $
        returns ! (look_at ! 0 refl) $ free_all ! refl $
        suffices ! _ (ends_at 𝓛 ended stayed held z (live 1 (vcons at vnil)) (Some lent) (tt, tt) (tt, tt)) $
        says ! refl $ nothing ! $ nothing ! $ fjoin ! $ join ! $ move ! (1 ∷ 2 ∷ []) $ join ! $ join ! $ done !))))))

    meets : Meets 𝓛 ended.signature (WpFn 𝓤 H 𝓣.C 𝓣.Λ here) (closing 𝓛 ended held)
    meets =
        walk_Meets 𝓛 ended stayed (Goes-dropped 𝓛 2 (RefOf (0 ∷ []) tt (plain (λ _. Sh E)) (λ _. tt)) yes (λ κs x f. refl), tt) held
        (WpFn 𝓤 H 𝓣.C 𝓣.Λ here) (WpFn-mono 𝓤 H 𝓛.laws 𝓣 here) walk

pub get_spec : {M : Type 1} → statement M
unfolding tables_of
get_spec 𝓤 𝓛 𝓜 𝓡 wired X L =
    let E : El = record { row = X; laws = L } in
    let 𝓣 : Tables 𝓤 𝓛.H = tables_of 𝓤 𝓛.H 𝓜 (tables 𝓤 𝓛.H 𝓜 𝓡 𝓡.env) in
    entered 𝓤 𝓛.H (triple_of 𝓛 (F.signature X) (F.spec X 𝓛 𝓜.mem 𝓡.returns)) 𝓣.C 𝓣.Λ (#self (args E)) (here E) (code.unfolded 𝓤 𝓛.H 𝓜 𝓡 wired (X, tt))
    (meets E 𝓛 𝓜.mem 𝓡.returns 𝓣)
