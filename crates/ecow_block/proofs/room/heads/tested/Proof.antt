-- `tested` says that the pointer of what `Global` gave may be compared with null, for every element type. Assumes `Logic`.
use mathlib.Core.Path.{refl, sym, subst}
use mathlib.Core.List.{List, [], ◌∷◌, ◌++◌}
use seplogic.Ra.Ura.{Ura}
use lib.Dec.{lit<}
use base.Logic.{SProp, ent, guard_i, id⊢}
use base.Fml.{ftrue, flft}
use mir.Syntax.{Fn}
use mir.MapTy.{inst_fn}
use mir.Val.{Val}
use prog.Memory.{Memory}
use prog.Routine.{Routine}
use prog.Wp.{WpFn, Tables}
use types.Logic.{Logic, sem}
use contract.Monad.{Fun, fact, fact_i, fact_use}
use contract.Running.{tables, tables_of}
use sound.WpLaws.{WpFn-mono}
use types.Kit.{‵, raw, ◌⊛◌, given, learn, ◌$◌, ◌∵◌, !, qed, by, move, keep, drop, use0, use1, split, join, fsplit, fsplit3, fjoin, suffices, done}
use types.Run.{of_opd, returns, enter}
use types.ByLocal.{alloc_all, pass_all, free_all, look_at, get, sets}
use denote.Exit.{no}
use denote.RattleType.{RattleType, owns}
use denote.RawPtr.{Ptr, Testable, block_ptr, null_ptr}
use denote.Signature.{plain, types_at}
use denote.Steps.{nothing}
use denote.Triple.Clauses.{Clauses, Ended, closing}
use denote.Triple.Spec.{Meets, triple_of}
use denote.Triple.Table.{entered}
use denote.Triple.Walked.{says, Stays, stay_dropped, walk_of, ends_at, Goes-dropped, walk_Meets}
use Rattle.core.proofs.mem.Param.{El, R, args}
use Rattle.std.specs.contracts.alloc.Global as heap
use Rattle.std.specs.contracts.impls.GlobalAllocator.TheImpl.{ghosts}
use Rattle.std.proofs.GlobalToken.{dealloc_token-Testable}
use Rattle.ecow_block.specs.Heads.{whole_type, title_owns}
use Rattle.ecow_block.specs.contracts.room.Title as Title-type
use Rattle.ecow_block.specs.contracts.room.heads.tested as F
use Rattle.ecow_block.specs.contracts.room.heads.tested.Key.{name as #self}
use Rattle.ecow_block.proofs.room.heads.tested.Statement.{statement}
use Rattle.ecow_block.proofs.room.heads.tested.Code as code
use Rattle.ecow_block.proofs.Memory.{Mark, mark, mark_had, mark_made}

module _ (E : El) where
  abbrev here : Fn
  here = inst_fn (args E) code.function

  abbrev ended : Ended
  ended = F.ended E.row

  abbrev Title : RattleType
  Title = Title-type.the_row (R E) heap.the_row ghosts

  abbrev stayed : Stays ended.signature.params ended.kept
  stayed = (stay_dropped (plain (λ _. Title)) no, tt)

  module _ {M : Type 1} {𝓤 : Ura M} (𝓛 : Logic 𝓤) (d : Title.Denot) where
    low_at : (p : Ptr) → ent 𝓤 (sem 𝓛 (title_owns (ghosts.dealloc_token d.alloc) (R E) p d.fields d.places)) (fact 𝓤 (Testable p))
    low_at null_ptr = fact_i 𝓤 (Testable null_ptr) _ (lit< tt)
    low_at (block_ptr b o) = qed 𝓛 (‵ (title_owns (ghosts.dealloc_token d.alloc) (R E) (block_ptr b o) d.fields d.places) ∷ []) ∵
        fsplit ! $ fsplit3 ! $ keep ! (1 ∷ []) $ by ! (dealloc_token-Testable 𝓛 d.alloc (whole_type (R E) d.places) (block_ptr b o))

    low : (vs : List Val) → ent 𝓤 (sem 𝓛 (Title.own_val d vs)) (fact 𝓤 (Testable d.at))
    low vs = qed 𝓛 (‵ (Title.own_val d vs) ∷ []) ∵ fsplit ! $ drop ! $ by ! (low_at d.at)

  module _ {M : Type 1} {𝓤 : Ura M} (𝓛 : Logic 𝓤) (at_mem : Memory → SProp 𝓤) (run : Routine → Fun 𝓤) (𝓣 : Tables 𝓤 𝓛.H) where
    open 𝓛 use {H}

    abbrev held : Clauses 𝓤 ended
    held = F.clauses E.row 𝓛 at_mem run

    walk : (z : (walk_of 𝓛 ended stayed held).Ghost)
        → ent 𝓤 ((walk_of 𝓛 ended stayed held).pre z)
        (WpFn 𝓤 H 𝓣.C 𝓣.Λ here ((walk_of 𝓛 ended stayed held).args z) ((walk_of 𝓛 ended stayed held).post z))
    walk z =
        let κ = z.0.0.0 in let q = z.0.1.0 in let a = z.0.3 in let vss = z.0.4 in let d : Title.Denot = a.0 in
        let Post : Val → SProp 𝓤 = (walk_of 𝓛 ended stayed held).post z in
        qed 𝓛 (((‵ (flft κ q) ⊛ ‵ ftrue) ⊛ ‵ (owns (types_at ended.signature.params z.0.0) a vss)) ∷ raw ((held z.0.0 a).requires z.1) ∷ []) ∵
        move ! (1 ∷ []) $ drop ! $ split ! $ move ! (1 ∷ []) $ fsplit ! $ move ! (1 ∷ []) $ drop ! $
        use1 𝓛 (given (Testable d.at) (‵ (Title.own_val d vss.0)))
        (fact_use 𝓤 (Testable d.at) (low 𝓛 d vss.0) (guard_i 𝓤 (Testable d.at) (sem 𝓛 (Title.own_val d vss.0)))) $ learn ! (λ testable.
        fsplit ! $ mark_had E ! vss.0 (λ e₀.
        let us : List Val = mark ∷ [] in
        let Run : List Val → SProp 𝓤 = λ ws. WpFn 𝓤 H 𝓣.C 𝓣.Λ here ws Post in
        suffices ! (Run us) (subst (λ (ws : List Val). ent 𝓤 (Run us) (Run ws)) (sym (λ k. e₀ k ++ [])) (id⊢ 𝓤 (Run us))) $
        enter ! 𝓣.C 𝓣.Λ here us Post $ alloc_all ! (λ l. pass_all ! refl ((tt, (tt, tt)), tt) $
        sets ! (of_opd ! (get ! refl)) refl (tt, (tt, tt)) $ returns ! (look_at ! 0 refl) $ free_all ! refl $
        use0 𝓛 (‵ ((Mark E).own_val (tt, tt) (mark ∷ []))) (mark_made E 𝓛) $ fjoin ! $
        suffices ! _ (ends_at 𝓛 ended stayed held z mark d (tt, tt) (tt, tt)) $
        says ! (refl, testable) $ nothing ! $ nothing ! $ fjoin ! $ join ! $ move ! (1 ∷ 0 ∷ []) $ join ! $ done !)))

    meets : Meets 𝓛 ended.signature (WpFn 𝓤 H 𝓣.C 𝓣.Λ here) (closing 𝓛 ended held)
    meets =
        walk_Meets 𝓛 ended stayed (Goes-dropped 𝓛 1 (plain (λ _. Title)) no (λ κs x f. refl), tt) held
        (WpFn 𝓤 H 𝓣.C 𝓣.Λ here) (WpFn-mono 𝓤 H 𝓛.laws 𝓣 here) walk

pub tested_spec : {M : Type 1} → statement M
unfolding tables_of
tested_spec 𝓤 𝓛 𝓜 𝓡 wired X L =
    let E : El = record { row = X; laws = L } in
    let 𝓣 : Tables 𝓤 𝓛.H = tables_of 𝓤 𝓛.H 𝓜 (tables 𝓤 𝓛.H 𝓜 𝓡 𝓡.env) in
    entered 𝓤 𝓛.H (triple_of 𝓛 (ended E).signature (F.spec X 𝓛 𝓜.mem 𝓡.returns)) 𝓣.C 𝓣.Λ (#self (args E)) (here E) (code.unfolded 𝓤 𝓛.H 𝓜 𝓡 wired (X, tt))
    (meets E 𝓛 𝓜.mem 𝓡.returns 𝓣)
