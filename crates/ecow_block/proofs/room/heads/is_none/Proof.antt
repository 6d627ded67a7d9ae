-- `is_none` tests a top for null, for every element type. Assumes `Logic`.
use mathlib.Core.Bool.{Bool, true, false}
use mathlib.Core.Path.{◌≡◌, refl, sym, subst}
use mathlib.Core.List.{List, [], ◌∷◌, ◌++◌}
use seplogic.Ra.Ura.{Ura}
use base.Fraction.{full_share}
use base.Logic.{SProp, ent, id⊢}
use base.Fml.{ftrue, fat, flft}
use mir.Syntax.{Fn}
use mir.MapTy.{inst_fn}
use mir.Val.{Val, vbool}
use prog.Memory.{Memory}
use prog.Routine.{Routine}
use prog.Wp.{WpFn, Tables}
use types.Logic.{Logic}
use contract.BorrowLft.{◌⊑◌}
use contract.Monad.{Fun, fact}
use contract.Running.{tables, tables_of}
use sound.WpLaws.{WpFn-mono}
use types.Kit.{⋆, ‵, raw, ◌⊛◌, ◌$◌, ◌∵◌, !, qed, by, move, drop, split, join, rewrite, fsplit, fjoin, feq_i, suffices, done}
use types.Part.{whole, sub}
use types.Run.{stop, fld, lit, bin, returns, enter}
use types.ByLocal.{alloc_all, pass_all, free_all, look_at, get_in, sets, take_at, give_at}
use denote.Exit.{no}
use denote.Param.{layout}
use denote.RattleType.{owns}
use denote.RawPtr.{Ptr, InBlock, Testable, block_ptr, null_ptr, tests_null}
use denote.Signature.{plain, types_at}
use denote.Steps.{heard, nothing}
use denote.Triple.Clauses.{Clauses, Ended, closing}
use denote.Triple.Spec.{Meets, triple_of}
use denote.Triple.Table.{entered}
use denote.Triple.Walked.{says, Stays, stay_dropped, walk_of, ends_at, Goes-dropped, walk_Meets}
use Rattle.core.proofs.mem.Param.{El, args}
use Rattle.std.specs.Prelude.{MatchBool}
use Rattle.std_alloc.proofs.RcSteps.{word, word-Good}
use Rattle.ecow_block.specs.contracts.room.heads.is_none as F
use Rattle.ecow_block.specs.contracts.room.heads.is_none.Key.{name as #self}
use Rattle.ecow_block.proofs.room.heads.is_none.Statement.{statement}
use Rattle.ecow_block.proofs.room.heads.is_none.Code as code
use Rattle.ecow_block.proofs.Heads.{Tp, top_had, in_case}

module _ (E : El) where
  abbrev here : Fn
  here = inst_fn (args E) code.function

  abbrev ended : Ended
  ended = F.ended E.row

  abbrev stayed : Stays ended.signature.params ended.kept
  stayed = (stay_dropped (plain (λ _. Tp E)) no, tt)

  module _ {M : Type 1} {𝓤 : Ura M} (𝓛 : Logic 𝓤) (at_mem : Memory → SProp 𝓤) (run : Routine → Fun 𝓤) (𝓣 : Tables 𝓤 𝓛.H) where
    open 𝓛 use {H}

    abbrev held : Clauses 𝓤 ended
    held = F.clauses E.row 𝓛 at_mem run

    exits : (z : (walk_of 𝓛 ended stayed held).Ghost) (y : Bool) → MatchBool y (z.0.3.0.ptr ≡ null_ptr) (InBlock z.0.3.0.ptr)
        → ent 𝓤 (⋆ 𝓛 ((‵ (flft z.0.0.0 z.0.1.0) ⊛ ‵ ftrue) ∷ [])) ((walk_of 𝓛 ended stayed held).post z (vbool y))
    exits z y is =
        qed 𝓛 ((‵ (flft z.0.0.0 z.0.1.0) ⊛ ‵ ftrue) ∷ []) ∵
        suffices ! _ (ends_at 𝓛 ended stayed held z (vbool y) y (tt, tt) (tt, tt)) $ says ! is $
        feq_i ! (List Val) (vbool y ∷ []) (vbool y ∷ []) refl $ nothing ! $ nothing ! $ fjoin ! $ join ! $ move ! (1 ∷ 0 ∷ []) $ join ! $ done !

    walk : (z : (walk_of 𝓛 ended stayed held).Ghost)
        → ent 𝓤 ((walk_of 𝓛 ended stayed held).pre z)
        (WpFn 𝓤 H 𝓣.C 𝓣.Λ here ((walk_of 𝓛 ended stayed held).args z) ((walk_of 𝓛 ended stayed held).post z))
    walk z =
        let κ = z.0.0.0 in let q = z.0.1.0 in let a = z.0.3 in let vss = z.0.4 in let top = a.0 in
        let Post : Val → SProp 𝓤 = (walk_of 𝓛 ended stayed held).post z in
        let Ok : Type 0 = Testable top.ptr in
        qed 𝓛 (((‵ (flft κ q) ⊛ ‵ ftrue) ⊛ ‵ (owns (types_at ended.signature.params z.0.0) a vss)) ∷ (raw (fact 𝓤 (κ ⊑ E.row.lives)) ⊛ raw (fact 𝓤 Ok)) ∷ []) ∵
        move ! (1 ∷ []) $ split ! $ drop ! $ heard ! Ok (λ low.
        split ! $ move ! (1 ∷ []) $ fsplit ! $ move ! (1 ∷ []) $ drop ! $ top_had E ! top vss.0 (λ e₀.
        let us : List Val = word top.ptr ∷ [] in
        let Run : List Val → SProp 𝓤 = λ ws. WpFn 𝓤 H 𝓣.C 𝓣.Λ here ws Post in
        suffices ! (Run us) (subst (λ (ws : List Val). ent 𝓤 (Run us) (Run ws)) (sym (λ k. e₀ k ++ [])) (id⊢ 𝓤 (Run us))) $
        enter ! 𝓣.C 𝓣.Λ here us Post $ alloc_all ! (λ l. pass_all ! refl (word-Good [] top.ptr, tt) $
        in_case ! top.ptr
        (λ e. take_at ! 1 $ rewrite ! 0 (λ (p : Ptr). ‵ (fat full_share (layout (Tp E)) (l 1) 0 (word p))) e refl $ give_at ! 1 $
        sets ! (bin ! (get_in ! (fld ! refl (stop !)) (sub ! 0 refl (whole !))) (lit ! tt) tt) refl (tt, tt) $
        returns ! (look_at ! 0 refl) $ free_all ! refl $ by ! (exits z true e))
        (λ b o e. take_at ! 1 $ rewrite ! 0 (λ (p : Ptr). ‵ (fat full_share (layout (Tp E)) (l 1) 0 (word p))) e refl $ give_at ! 1 $
        sets ! (bin ! (get_in ! (fld ! refl (stop !)) (sub ! 0 refl (whole !))) (lit ! tt) (tests_null (block_ptr b o) (subst Testable e low))) refl (tt, tt) $
        returns ! (look_at ! 0 refl) $ free_all ! refl $ by ! (exits z false (subst InBlock (sym e) tt))))))

    meets : Meets 𝓛 ended.signature (WpFn 𝓤 H 𝓣.C 𝓣.Λ here) (closing 𝓛 ended held)
    meets =
        walk_Meets 𝓛 ended stayed (Goes-dropped 𝓛 1 (plain (λ _. Tp E)) no (λ κs x f. refl), tt) held
        (WpFn 𝓤 H 𝓣.C 𝓣.Λ here) (WpFn-mono 𝓤 H 𝓛.laws 𝓣 here) walk

pub is_none_spec : {M : Type 1} → statement M
unfolding tables_of
is_none_spec 𝓤 𝓛 𝓜 𝓡 wired X L =
    let E : El = record { row = X; laws = L } in
    let 𝓣 : Tables 𝓤 𝓛.H = tables_of 𝓤 𝓛.H 𝓜 (tables 𝓤 𝓛.H 𝓜 𝓡 𝓡.env) in
    entered 𝓤 𝓛.H (triple_of 𝓛 (F.signature X) (F.spec X 𝓛 𝓜.mem 𝓡.returns)) 𝓣.C 𝓣.Λ (#self (args E)) (here E) (code.unfolded 𝓤 𝓛.H 𝓜 𝓡 wired (X, tt))
    (meets E 𝓛 𝓜.mem 𝓡.returns 𝓣)
