-- `hold` makes the first owner of a block of its parts, for every element type. Assumes `Logic`.
use mathlib.Core.Bool.{Bool, true}
use mathlib.Core.Path.{◌≡◌, refl, sym, subst}
use mathlib.Core.List.{List, [], ◌∷◌, ◌++◌}
use seplogic.Ra.Ura.{Ura}
use base.Logic.{SProp, ent, id⊢}
use base.Fml.{ftrue, flft}
use mir.Syntax.{Fn}
use mir.MapTy.{inst_fn}
use mir.Val.{Val}
use prog.Memory.{Memory}
use prog.Routine.{Routine}
use prog.Wp.{WpFn, Tables}
use types.Logic.{Logic}
use contract.BorrowLft.{◌⊑◌}
use contract.Monad.{Fun, fact}
use contract.Running.{tables, tables_of}
use sound.WpLaws.{WpFn-mono}
use types.Kit.{⋆, ‵, raw, ◌⊛◌, ◌$◌, ◌∵◌, !, qed, by, move, keep, drop, split, join, rewrite, fsplit, fjoin, fpack, suffices, done}
use types.Part.{agg}
use types.Run.{and_then, no_more, returns, enter}
use types.ByLocal.{alloc_all, pass_all, free_all, look_at, get, sets}
use denote.Exit.{yes, no}
use denote.RattleType.{RattleType, owns}
use denote.RawPtr.{Ptr}
use denote.Signature.{plain, types_at}
use denote.Steps.{heard, nothing}
use denote.Triple.Clauses.{Clauses, Ended, closing}
use denote.Triple.Spec.{Meets, triple_of}
use denote.Triple.Table.{entered}
use denote.Triple.Walked.{says, Stays, stay_dropped, walk_of, ends_at, Goes-dropped, walk_Meets}
use Rattle.core.proofs.mem.Param.{El, R, args}
use Rattle.std.specs.contracts.alloc.Global as heap
use Rattle.std.specs.contracts.impls.GlobalAllocator.TheImpl.{ghosts}
use Rattle.std_alloc.proofs.RcSteps.{word, word-Good}
use Rattle.std_alloc.specs.Owners.{sole_or_counted}
use Rattle.ecow_block.specs.Fields.{shown}
use Rattle.ecow_block.specs.Contents.{contents}
use Rattle.ecow_block.specs.Heads.{unless_null}
use Rattle.ecow_block.specs.Kept.{IsOwner, sole_owns}
use Rattle.ecow_atomic.specs.Owners.{counted_owns, shared_owns, owner_owns}
use Rattle.ecow_block.specs.Parts.{IsParts}
use Rattle.ecow_block.specs.contracts.room.Title as title_type
use Rattle.ecow_block.specs.contracts.room.Deed as deed_type
use Rattle.ecow_block.specs.Parts.{capacity_of}
use Rattle.ecow_atomic.specs.contracts.shared.Shared.hold as F
use Rattle.ecow_atomic.specs.contracts.shared.Shared.hold.Key.{name as #self}
use Rattle.ecow_atomic.proofs.shared.Shared.hold.Statement.{statement}
use Rattle.ecow_atomic.proofs.shared.Shared.hold.Code as code
use Rattle.ecow_block.proofs.Heads.{Tp, top_had, in_case}
use Rattle.ecow_block.proofs.Memory.{Rm, mark, mark_had}
use Rattle.ecow_block.proofs.Kept.{Bi, laid, heap_val, heap_had, to_sole}
use Rattle.ecow_atomic.proofs.Owners.{Si, laid-Good, owner_made}

module _ (E : El) where
  abbrev here : Fn
  here = inst_fn (args E) code.function

  abbrev ended : Ended
  ended = F.ended E.row

  abbrev Title : RattleType
  Title = title_type.the_row (R E) heap.the_row ghosts

  abbrev Deed : RattleType
  Deed = deed_type.the_row (R E) heap.the_row ghosts

  abbrev stayed : Stays ended.signature.params ended.kept
  stayed = (
    stay_dropped (plain (λ _. Tp E)) no,
    (
      stay_dropped (plain (λ _. Rm E)) no,
      (stay_dropped (plain (λ _. Title)) no, (stay_dropped (plain (λ _. Deed)) no, (stay_dropped (plain (λ _. heap.the_row)) yes, tt))),
    ),
  )

  module _ {M : Type 1} {𝓤 : Ura M} (𝓛 : Logic 𝓤) (at_mem : Memory → SProp 𝓤) (run : Routine → Fun 𝓤) (𝓣 : Tables 𝓤 𝓛.H) where
    open 𝓛 use {H}

    abbrev held : Clauses 𝓤 ended
    held = F.clauses E.row 𝓛 at_mem run

    exits : (z : (walk_of 𝓛 ended stayed held).Ghost) (s : (Si E).Denot) → IsOwner s.top s.alloc s.inside
        → shown s.inside ≡ contents z.0.3.1.0.items (capacity_of z.0.3.1.1.0.fields.capacity)
        → ent 𝓤 (⋆ 𝓛 (‵ (owner_owns (R E) s.inside) ∷ (‵ (flft z.0.0.0 z.0.1.0) ⊛ ‵ ftrue) ∷ [])) ((walk_of 𝓛 ended stayed held).post z (laid s.top.ptr))
    exits z s owner is =
        qed 𝓛 (‵ (owner_owns (R E) s.inside) ∷ (‵ (flft z.0.0.0 z.0.1.0) ⊛ ‵ ftrue) ∷ []) ∵ owner_made E ! s owner $
        suffices ! _ (ends_at 𝓛 ended stayed held z (laid s.top.ptr) (shown s.inside)
        (tt, (tt, (tt, (tt, (tt, tt))))) (tt, (tt, (tt, (tt, (tt, tt)))))) $ says ! is $
        nothing ! $ nothing ! $ fjoin ! $ nothing ! $ fjoin ! $ nothing ! $ fjoin ! $ nothing ! $
        fjoin ! $ nothing ! $ fjoin ! $ join ! $ move ! (1 ∷ 0 ∷ []) $ join ! $ done !

    walk : (z : (walk_of 𝓛 ended stayed held).Ghost)
        → ent 𝓤 ((walk_of 𝓛 ended stayed held).pre z)
        (WpFn 𝓤 H 𝓣.C 𝓣.Λ here ((walk_of 𝓛 ended stayed held).args z) ((walk_of 𝓛 ended stayed held).post z))
    walk z =
        let κ = z.0.0.0 in let q = z.0.1.0 in let a = z.0.3 in let vss = z.0.4 in
        let top = a.0 in let room = a.1.0 in let title = a.1.1.0 in let deed = a.1.1.1.0 in let alloc = a.1.1.1.1.0 in
        let i : (Bi E).Denot = record { top = top; room = room; title = title; deed = deed; alloc = alloc } in
        let Post : Val → SProp 𝓤 = (walk_of 𝓛 ended stayed held).post z in
        let Ok : Type 0 = IsParts top room title deed alloc in
        qed 𝓛 (((‵ (flft κ q) ⊛ ‵ ftrue) ⊛ ‵ (owns (types_at ended.signature.params z.0.0) a vss)) ∷ (raw (fact 𝓤 (κ ⊑ E.row.lives)) ⊛ raw (fact 𝓤 Ok)) ∷ []) ∵
        move ! (1 ∷ []) $ split ! $ drop ! $ heard ! Ok (λ ok.
        split ! $ move ! (1 ∷ []) $ fsplit ! $ top_had E ! top vss.0 (λ e₀. fsplit ! $ fsplit ! $
        mark_had E ! vss.1.0 (λ e₁. move ! (1 ∷ []) $ fsplit ! $ fsplit ! $ mark_had E ! vss.1.1.0 (λ e₂. move ! (1 ∷ []) $
        fsplit ! $ fsplit ! $ mark_had E ! vss.1.1.1.0 (λ e₃. move ! (1 ∷ []) $ fsplit ! $ heap_had ! alloc vss.1.1.1.1.0 (λ e₄. drop ! $
        -- [the deed's right; the title's; the room's; the tokens]
        let s : (Si E).Denot =
        record {
          top = top;
          room = record { mark = record {} };
          title = record { mark = record {} };
          deed = record { mark = record {} };
          alloc =
              alloc;
          inside = i;
        } in let is : IsOwner top alloc i = record { top_is = refl; alloc_is = refl; is_block = ok } in
        let us : List Val = word top.ptr ∷ mark ∷ mark ∷ mark ∷ heap_val ∷ [] in
        let Run : List Val → SProp 𝓤 = λ ws. WpFn 𝓤 H 𝓣.C 𝓣.Λ here ws Post in
        suffices ! (Run us) (subst (λ (ws : List Val). ent 𝓤 (Run us) (Run ws))
        (sym (λ k. e₀ k ++ (e₁ k ++ (e₂ k ++ (e₃ k ++ (e₄ k ++ [])))))) (id⊢ 𝓤 (Run us))) $
        enter ! 𝓣.C 𝓣.Λ here us Post $
        alloc_all ! (λ l. pass_all ! refl (word-Good [] top.ptr, ((tt, (tt, tt)), ((tt, (tt, tt)), ((tt, (tt, tt)), ((tt, ((tt, tt), tt)), tt))))) $
        sets ! (agg ! (no_more !)) refl (tt, tt) $ sets ! (agg ! (and_then ! (get ! refl) (no_more !))) refl (tt, (tt, tt)) $
        sets ! (agg ! (no_more !)) refl (tt, tt) $ sets ! (agg ! (and_then ! (get ! refl) (no_more !))) refl (tt, (tt, tt)) $
        sets ! (agg ! (no_more !)) refl (tt, tt) $ sets ! (agg ! (and_then ! (get ! refl) (no_more !))) refl (tt, (tt, tt)) $
        sets ! (agg ! (and_then ! (get ! refl)
        (and_then ! (get ! refl) (and_then ! (get ! refl) (and_then ! (get ! refl) (and_then ! (get ! refl) (no_more !))))))) refl
        (laid-Good E top.ptr) $
        returns ! (look_at ! 0 refl) $ free_all ! refl $
        in_case ! top.ptr
        (λ e. nothing ! $ rewrite ! 0 (λ (p : Ptr). ‵ (unless_null p (shared_owns (R E) i))) (sym e) refl $ keep ! (0 ∷ 4 ∷ []) $ by ! (exits z s is refl))
        (λ b o e. to_sole E i ok b o e ! $ fpack ! Bool (sole_or_counted (sole_owns (R E) i) (counted_owns (R E) i)) true $
        rewrite ! 0 (λ (p : Ptr). ‵ (unless_null p (shared_owns (R E) i))) (sym e) refl $ by ! (exits z s is refl)))))))))

    meets : Meets 𝓛 ended.signature (WpFn 𝓤 H 𝓣.C 𝓣.Λ here) (closing 𝓛 ended held)
    meets =
        walk_Meets 𝓛 ended stayed (
          Goes-dropped 𝓛 1 (plain (λ _. Tp E)) no (λ κs x f. refl),
          (
            Goes-dropped 𝓛 1 (plain (λ _. Rm E)) no (λ κs x f. refl),
            (
              Goes-dropped 𝓛 1 (plain (λ _. Title)) no (λ κs x f. refl),
              (Goes-dropped 𝓛 1 (plain (λ _. Deed)) no (λ κs x f. refl), (Goes-dropped 𝓛 1 (plain (λ _. heap.the_row)) yes (λ κs x f. refl), tt)),
            ),
          ),
        ) held
        (WpFn 𝓤 H 𝓣.C 𝓣.Λ here) (WpFn-mono 𝓤 H 𝓛.laws 𝓣 here) walk

pub hold_spec : {M : Type 1} → statement M
unfolding tables_of
hold_spec 𝓤 𝓛 𝓜 𝓡 wired X L =
    let E : El = record { row = X; laws = L } in
    let 𝓣 : Tables 𝓤 𝓛.H = tables_of 𝓤 𝓛.H 𝓜 (tables 𝓤 𝓛.H 𝓜 𝓡 𝓡.env) in
    entered 𝓤 𝓛.H (triple_of 𝓛 (F.signature X) (F.spec X 𝓛 𝓜.mem 𝓡.returns)) 𝓣.C 𝓣.Λ (#self (args E)) (here E) (code.unfolded 𝓤 𝓛.H 𝓜 𝓡 wired (X, tt))
    (meets E 𝓛 𝓜.mem 𝓡.returns 𝓣)
