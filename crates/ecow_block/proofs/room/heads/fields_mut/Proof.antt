-- `fields_mut` lends the fields of a head for writing, and the title follows them, for every element type and allocator. Assumes `Logic`.
use mathlib.Core.Path.{◌≡◌, refl, sym, subst, ◌∙◌}
use Prim.Native.Nat.{ℕ, ◌+◌}
use mathlib.Core.List.{List, [], ◌∷◌, ◌++◌}
use seplogic.Ra.Ura.{Ura}
use base.Fraction.{full_share}
use base.Logic.{SProp, ent, sep, id⊢}
use base.Fml.{GName, Fml, ftrue, fsep, fat, flft}
use mir.Syntax.{Fn, named}
use mir.MapTy.{inst_fn}
use mir.Val.{Val, vptr}
use prog.Memory.{Memory}
use prog.Routine.{Routine}
use prog.Wp.{Env, WpFn, Tables}
use types.Logic.{Logic, sem}
use contract.BorrowLft.{◌⊑◌}
use contract.Monad.{Fun, fact}
use contract.Running.{tables, tables_of}
use sound.WpLaws.{WpFn-mono}
use types.Kit.{‵, raw, ◌⊛◌, some, later, await, pick, at_ret, ◌$◌, ◌∵◌, !, qed, move, keep, drop, use1, split, split3, join, group, rewrite, frame, fsplit, fsplit3, fjoin, fpack, feq_l, suffices, done}
use types.Part.{whole, sub}
use types.Run.{stop, fld, addr, of_opd, first, blocks, exec, returns, enter}
use types.ByLocal.{alloc_all, pass_all, free_all, look_at, get, get_in, through, sets, sets_last, take_at, give_at, env}
use denote.Exit.{no}
use denote.Follow.{follows, follows_by, lends_Part}
use denote.Memory.{mem, cell_at, part_of}
use denote.Param.{layout}
use denote.RattleType.{owns}
use denote.RawPtr.{Ptr, InBlock, block_ptr}
use denote.Ref.{MutRef, MutBor}
use denote.Signature.{mut_ref_to, plain, types_at}
use denote.Steps.{heard, nothing, opens}
use denote.Triple.Clauses.{Clauses, Ended, closing}
use denote.Triple.Spec.{Meets, triple_of}
use denote.Triple.Table.{entered}
use denote.Triple.Walked.{says, Stays, stay_dropped, walk_of, ends_at, Goes-dropped, Goes-spent_ref, walk_Meets}
use Rattle.core.proofs.mem.Param.{El}
use Rattle.core.proofs.alloc.Calls.{Al, token}
use Rattle.core.proofs.slots.Bodies.{after}
use Rattle.core.proofs.slots.Leases.{args}
use Rattle.std_alloc.proofs.RcSteps.{word, word-Good}
use Rattle.ecow_block.specs.TitleLends.{with_fields}
use Rattle.ecow_block.proofs.Memory.{mark}
use Rattle.ecow_block.specs.contracts.room.heads.fields_mut as F
use Rattle.ecow_block.specs.contracts.room.heads.fields_mut.Key.{name as #self}
use Rattle.ecow_block.proofs.room.heads.fields_mut.Statement.{statement}
use Rattle.ecow_block.proofs.room.heads.fields_mut.Code as code
use Rattle.ecow_block.proofs.Heads.{Tp, Tt, Fl, Shown, Rejoins, cell, whole_ty, top_had, title_had, title_made}

module _ (E : El) (Z : Al) where
  abbrev here : Fn
  here = inst_fn (args E Z) code.function

  abbrev ended : Ended
  ended = F.ended E.row Z.row Z.g Z.d Z.drops

  abbrev stayed : Stays ended.signature.params ended.kept
  stayed = (stay_dropped (mut_ref_to (0 ∷ []) tt (plain (λ _. Tt E Z))) no, (stay_dropped (plain (λ _. Tp E)) no, tt))

  module _ {M : Type 1} {𝓤 : Ura M} (𝓛 : Logic 𝓤) (at_mem : Memory → SProp 𝓤) (run : Routine → Fun 𝓤) (𝓣 : Tables 𝓤 𝓛.H) where
    open 𝓛 use {H}

    abbrev held : Clauses 𝓤 ended
    held = F.clauses E.row Z.row Z.g Z.d Z.drops 𝓛 at_mem run

    -- all but the fields, and the cell of the title itself
    abbrev Rest : (Tt E Z).Denot → ℕ → ℕ → ℕ → ℕ → Fml
    Rest d b o rb ro =
        fsep (cell b (o + 0) 1) (fsep (token Z d.alloc (whole_ty E d.places) (block_ptr b o))
        (fsep (Rejoins E 𝓛 b o d.places) (cell_at full_share (Tt E Z).mir (mark ∷ []) rb ro)))

    back : (d : (Tt E Z).Denot) (b o rb ro : ℕ) → d.at ≡ block_ptr b o → (w : (Fl E).Denot)
        → ent 𝓤 (sep 𝓤 (sem 𝓛 (Shown E b o w)) (sem 𝓛 (Rest d b o rb ro))) (sem 𝓛 ((mem (Tt E Z)).own_at (with_fields d w) rb ro))
    unfolding part_of
    back d b o rb ro at_b w =
        qed 𝓛 (‵ (Shown E b o w) ∷ ‵ (Rest d b o rb ro) ∷ []) ∵ move ! (1 ∷ []) $ fsplit3 ! $ move ! (2 ∷ []) $ fsplit ! $ move ! (2 ∷ 4 ∷ 3 ∷ 0 ∷ 1 ∷ []) $
        title_made E Z ! (with_fields d w) b o at_b $ move ! (1 ∷ 0 ∷ []) $ fjoin ! $
        fpack ! (List Val) (λ us. fsep (cell_at full_share (Tt E Z).mir us rb ro) ((Tt E Z).own_val (with_fields d w) us)) (mark ∷ []) $ done !

    walk : (z : (walk_of 𝓛 ended stayed held).Ghost)
        → ent 𝓤 ((walk_of 𝓛 ended stayed held).pre z)
        (WpFn 𝓤 H 𝓣.C 𝓣.Λ here ((walk_of 𝓛 ended stayed held).args z) ((walk_of 𝓛 ended stayed held).post z))
    unfolding follows_by part_of
    walk z =
        let κ = z.0.0.0 in let κ₁ = z.0.0.1.0 in let κ₂ = z.0.0.1.1.0 in let q = z.0.1.0 in
        let q₁ = z.0.1.1.0 in let q₂ = z.0.1.1.1.0 in let a = z.0.3 in let vss = z.0.4 in
        let rb = a.0.ref_ptr.0 in let ro = a.0.ref_ptr.1 in let γ = a.0.ghost_name in let d : (Tt E Z).Denot = a.0.now in let top = a.1.0 in
        let Post : Val → SProp 𝓤 = (walk_of 𝓛 ended stayed held).post z in
        let Ok : Type 0 = (top.ptr ≡ d.at) × InBlock top.ptr in
        qed 𝓛 (((‵ (flft κ q) ⊛ ‵ (flft κ₁ q₁) ⊛ ‵ (flft κ₂ q₂) ⊛ ‵ ftrue) ⊛ ‵ (owns (types_at ended.signature.params z.0.0) a vss))
        ∷ (raw (fact 𝓤 (κ₁ ⊑ E.row.lives)) ⊛ raw (fact 𝓤 (κ₂ ⊑ Z.row.lives)) ⊛ raw (fact 𝓤 Ok)) ∷ []) ∵
        move ! (1 ∷ []) $ split3 ! $ drop ! $ drop ! $ heard ! Ok (λ ok.
        split ! $ split ! $ move ! (2 ∷ []) $ fsplit ! $ fsplit3 ! $
        feq_l ! (λ e₀. move ! (2 ∷ []) $ fsplit ! $ top_had E ! top vss.1.0 (λ e₁. keep ! (1 ∷ 2 ∷ 3 ∷ 4 ∷ []) $
        let us : List Val = vptr rb ro ∷ word top.ptr ∷ [] in
        let Run : List Val → SProp 𝓤 = λ ws. WpFn 𝓤 H 𝓣.C 𝓣.Λ here ws Post in
        suffices ! (Run us) (subst (λ (ws : List Val). ent 𝓤 (Run us) (Run ws)) (sym (λ k. e₀ k ++ (e₁ k ++ []))) (id⊢ 𝓤 (Run us))) $
        enter ! 𝓣.C 𝓣.Λ here us Post $ alloc_all ! (λ l. pass_all ! refl ((tt, tt), (word-Good [] top.ptr, tt)) $
        let En : Env 𝓤 H = env here.locals l in
        opens ! tt (Tt E Z) {h = d} rb ro (λ vs. move ! (1 ∷ []) $ title_had E Z ! d vs (subst InBlock ok.0 ok.1) (λ b o at_b is.
        let at : Val = vptr b (o + 8) in let code_d = (Tt E Z).coded.code d in
        -- [the count; the fields; the right; the way back; the mark's cell; the open borrow; obs; auth; the other tokens]
        rewrite ! 4 (λ (ws : List Val). ‵ (cell_at full_share (Tt E Z).mir ws rb ro)) is refl $
        take_at ! 2 $ rewrite ! 0 (λ (p : Ptr). ‵ (fat full_share (layout (Tp E)) (l 2) 0 (word p))) (ok.0 ∙ at_b) refl $ give_at ! 2 $
        sets ! (of_opd ! (get_in ! (fld ! refl (stop !)) (sub ! 0 refl (whole !)))) refl (tt, tt) $ first ! $ blocks ! $
        sets_last ! (addr ! (through ! refl (fld ! refl (stop !)))) refl (tt, tt) $
        exec ! 𝓣.C 𝓣.Λ En (after 2 here.body) (at_ret En Post) $ sets ! (of_opd ! (get ! refl)) refl (tt, tt) $
        move ! (3 ∷ 4 ∷ []) $ fjoin ! $ move ! (3 ∷ 0 ∷ []) $ fjoin ! $ move ! (1 ∷ 0 ∷ []) $ fjoin ! $ move ! (2 ∷ 3 ∷ 4 ∷ 1 ∷ 0 ∷ []) $ group ! 5 $
        use1 𝓛 (later (some (λ (δ : GName). ‵ ((MutRef (named 0) κ (Fl E)).own_val
        (record { ref_ptr = (b, o + 8); ghost_name = δ; now = d.fields }) (at ∷ []))
        ⊛ ‵ (flft κ q) ⊛ ‵ (follows (Tt E Z) (Fl E) γ δ (with_fields d)))))
        (lends_Part 𝓛 (Tt E Z) (Fl E) (with_fields d) (named 0) κ q rb ro b (o + 8) γ (sem 𝓛 (Rest d b o rb ro))
        (back d b o rb ro at_b) code_d code_d d.fields) $ await ! tt $ pick ! (λ δ.
        let r : MutBor (Fl E).Denot = record { ref_ptr = (b, o + 8); ghost_name = δ; now = d.fields } in
        returns ! (look_at ! 0 refl) $ free_all ! refl $ split3 ! $
        -- [the reference; the token; what follows; the other tokens]
        suffices ! _ (ends_at 𝓛 ended stayed held z at r (tt, (tt, tt)) (tt, (tt, tt))) $
        nothing ! $ nothing ! $ fjoin ! $ nothing ! $ fjoin ! $ move ! (2 ∷ 4 ∷ []) $ join ! $ group ! 3 $ frame ! $ says ! refl $ done !)))))))

    meets : Meets 𝓛 ended.signature (WpFn 𝓤 H 𝓣.C 𝓣.Λ here) (closing 𝓛 ended held)
    meets =
        walk_Meets 𝓛 ended stayed (Goes-spent_ref 𝓛 3 (0 ∷ []) tt (plain (λ _. Tt E Z)), (Goes-dropped 𝓛 3 (plain (λ _. Tp E)) no (λ κs x f. refl), tt)) held
        (WpFn 𝓤 H 𝓣.C 𝓣.Λ here) (WpFn-mono 𝓤 H 𝓛.laws 𝓣 here) walk

pub fields_mut_spec : {M : Type 1} → statement M
unfolding tables_of
fields_mut_spec 𝓤 𝓛 𝓜 𝓡 wired X Y LX LY g d dd met md =
    let E : El = record { row = X; laws = LX } in let Z : Al = record { row = Y; laws = LY; g = g; d = d; drops = dd } in
    let 𝓣 : Tables 𝓤 𝓛.H = tables_of 𝓤 𝓛.H 𝓜 (tables 𝓤 𝓛.H 𝓜 𝓡 𝓡.env) in
    entered 𝓤 𝓛.H (triple_of 𝓛 (ended E Z).signature (F.spec X Y g d dd 𝓛 𝓜.mem 𝓡.returns)) 𝓣.C 𝓣.Λ
    (#self (args E Z)) (here E Z) (code.unfolded 𝓤 𝓛.H 𝓜 𝓡 wired (X, (Y, tt)) d dd)
    (meets E Z 𝓛 𝓜.mem 𝓡.returns 𝓣)
