-- `grow` hands the whole block to the allocator, and has one of the new size back or the same, for every element type and allocator. Assumes `Logic`.
use mathlib.Core.Path.{◌≡◌, refl, sym, subst, ◌∙◌}
use mathlib.Core.Bool.{true, false}
use Prim.Native.Nat.{◌≤◌}
use native.Mathlib.Omega.{arith}
use mathlib.Core.List.{List, [], ◌∷◌, ◌++◌}
use lib.Dec.{T, lit<}
use lib.ListN.{length}
use seplogic.Ra.Ura.{Ura}
use base.Fraction.{full_share}
use base.Logic.{SProp, ent, id⊢}
use base.Fml.{ftrue, fat, flft, fobs, fbor, Incl-trans}
use mir.Syntax.{Fn, Body, w64}
use mir.MapTy.{inst_fn}
use mir.Val.{Val, vptr, vint, vstruct, vcons, vnil, has_ty, WT}
use prog.Memory.{Memory}
use prog.Routine.{Routine}
use prog.Wp.{Env, WpFn, Tables, Wp, after_seq, at_return}
use types.Logic.{Logic}
use types.SemTy.{Body as Borrowed}
use contract.BorrowLft.{◌⊑◌}
use contract.Monad.{Fun, fact}
use contract.Running.{tables, tables_of}
use sound.WpLaws.{WpFn-mono, fm_of}
use types.Kit.{⋆, ‵, raw, ◌⊛◌, later, await, at_ret, any_q, ◌$◌, ◌∵◌, !, qed, by, move, keep, use1, use2, use3, split, split3, join, rewrite, fsplit, fsplit3, fjoin, fjoin3, feq_i, feq_l, flt_l, suffices, done}
use types.Part.{sub, agg}
use types.Match.{live, vrt, in_variant}
use types.Run.{stop, fld, lit, of_opd, and_then, no_more, first, blocks, switches_on, exec, returns, enter}
use types.ByLocal.{alloc_all, pass_all, free_all, look_at, get, get_in, get_tag, is, sets, sets_last, lands_last, take_at, give_at, env}
use denote.Builtin.{usize, RefOf}
use denote.Exit.{yes, no}
use denote.Laws.{Is}
use denote.Memory.{mem}
use denote.Param.{layout}
use denote.RattleType.{RattleType, owns}
use denote.RawPtr.{Ptr, block_ptr}
use denote.Signature.{plain, types_at}
use denote.Steps.{heard, nothing, owned}
use denote.Struct.Struct.{Struct, Struct-Makes}
use denote.Triple.Call.{calls_at_last}
use denote.Triple.Clauses.{Clauses, Ended, closing}
use denote.Triple.Spec.{Meets, triple_of}
use denote.Triple.Statement.{Triple}
use denote.Triple.Table.{entered}
use denote.Triple.Walked.{Stays, stay_dropped, stay_ref, walk_of, ends_at, Goes-dropped, Goes-ref, walk_Meets}
use Rattle.core.proofs.mem.Facts.{says_two}
use Rattle.core.proofs.mem.Param.{El, R}
use Rattle.core.proofs.slots.Bodies.{after}
use Rattle.std_alloc.proofs.RcSteps.{word, word-Good}
use Rattle.ecow_block.proofs.Memory.{Rm, Bs, room_d, sz, base_had, room_opens, room_closes}
use Rattle.core.proofs.alloc.Calls.{Al, token, Answer-typed}
use Rattle.core.proofs.slots.Leases.{args, P}
use Rattle.std_alloc.proofs.ResultValues.{ok_of, err_of}
use Rattle.std_alloc.proofs.VecSteps.Shapes.{head, arm_body}
use Rattle.std_alloc.proofs.RcSteps.{first_Good}
use Rattle.std.specs.Vec.Ownership.{FitsInBlock}
use Rattle.std.specs.Prelude.{Ok, Err}
use Rattle.ecow_block.specs.Ownership.{has_bytes}
use Rattle.ecow_block.specs.Rooms.{IsWhole}
use Rattle.ecow_block.proofs.Deeds.{Dd, Right, base_made, fresh_small}
use Rattle.core.proofs.alloc.Calls.{Answer}
use Rattle.core.proofs.alloc.Resizes.{Grows, resize_key, Resizes, at_resizes, Resized, left_by, Resizes-goes, Resizes-gives, flagged}
use Rattle.core.specs.Allocator.{block_with_items}
use Rattle.std.specs.Prelude.{MatchResult}
use base.Logic.{ex}
use Rattle.ecow_block.proofs.Deeds.{some_bytes, to_block, of_block, deed_opens, deed_closes}
use denote.Struct.Declared as Declared
use types.Kit.{Post as After}
use types.Part.{whole as whole_part}
use Rattle.core.specs.contracts.alloc.AllocError as AE
use Rattle.core.specs.contracts.result.Result as RS
use Rattle.ecow_block.proofs.Memory.{held_of, spare_of}
use Rattle.ecow_block.specs.contracts.room.heap.grow as F
use Rattle.ecow_block.specs.contracts.room.heap.grow.Key.{name as #self}
use Rattle.ecow_block.proofs.room.heap.grow.Statement.{statement}
use Rattle.ecow_block.proofs.room.heap.grow.Code as code

module _ (E : El) (Z : Al) where
  abbrev here : Fn
  here = inst_fn (args E Z) code.function

  abbrev ended : Ended
  ended = F.ended E.row Z.row Z.g Z.d Z.drops

  abbrev stayed : Stays ended.signature.params ended.kept
  stayed = (
    stay_dropped (RefOf (0 ∷ []) tt (plain (λ _. P E Z)) (λ _. tt)) yes,
    (
      stay_dropped (plain (λ _. Bs E)) no,
      (
        stay_dropped (plain (λ _. usize)) yes,
        (
          stay_dropped (plain (λ _. usize)) yes,
          (
            stay_dropped (plain (λ _. usize)) yes,
            (stay_ref (1 ∷ []) tt (plain (λ _. Rm E)), (stay_ref (2 ∷ []) tt (plain (λ _. Dd E Z)), tt)),
          ),
        ),
      ),
    ),
  )

  abbrev Out : RattleType
  Out = RS.the_row (Bs E) AE.the_row

  module _ {M : Type 1} {𝓤 : Ura M} (𝓛 : Logic 𝓤) (at_mem : Memory → SProp 𝓤) (run : Routine → Fun 𝓤) (𝓣 : Tables 𝓤 𝓛.H)
      (callee : Triple 𝓤 (𝓣.C (resize_key Z E.row 2)) (Resizes Z E.row (Grows E.row) 𝓛 at_mem run)) where
    open 𝓛 use {H}

    abbrev held : Clauses 𝓤 ended
    held = F.clauses E.row Z.row Z.g Z.d Z.drops 𝓛 at_mem run

    abbrev Bound : Type 0
    Bound = (walk_of 𝓛 ended stayed held).Ghost

    abbrev Asked : Bound → Type 0
    Asked z = let a = z.0.3 in let r = a.1.1.1.1.1.0.now in
        IsWhole a.1.0 r a.1.1.1.1.1.1.0.now a.0.now × (a.1.1.0 ≡ length r.items) × (a.1.1.1.0 ≡ r.capacity) × (has_bytes (R E) a.1.1.1.0 ≡ true)

    abbrev Larger : Bound → Type 0
    Larger z = let a = z.0.3 in (a.1.1.1.0 ≤ a.1.1.1.1.0) × FitsInBlock (R E) a.1.1.1.1.0

    abbrev Left : Bound → Out.Denot → room_d E → (Dd E Z).Denot → Type 0
    Left z r new deed =
        let a = z.0.3 in MatchResult r (λ b. IsWhole b new deed a.0.now × (new.capacity ≡ a.1.1.1.1.0))
        (λ _. (new ≡ a.1.1.1.1.1.0.now) × (deed ≡ a.1.1.1.1.1.1.0.now))

    exits : (z : Bound) → let a = z.0.3 in let rr = a.1.1.1.1.1.0 in let dr = a.1.1.1.1.1.1.0 in let κs = z.0.0 in let qs = z.0.1 in
        z.0.4.1.1.1.1.1.0 ≡ vptr rr.ref_ptr.0 rr.ref_ptr.1 ∷ [] → z.0.4.1.1.1.1.1.1.0 ≡ vptr dr.ref_ptr.0 dr.ref_ptr.1 ∷ []
        → (r : Out.Denot) (v : Val) (new : room_d E) (deed : (Dd E Z).Denot) → new.items ≡ rr.now.items → Left z r new deed
        → ent 𝓤 (⋆ 𝓛 (‵ (Out.own_val r (v ∷ [])) ∷ ‵ (fobs rr.ghost_name ((Rm E).coded.code new))
        ∷ ‵ (fbor κs.1.0 (Borrowed (mem (Rm E)) rr.ref_ptr.0 rr.ref_ptr.1 rr.ghost_name)) ∷ ‵ (flft κs.1.0 qs.1.0)
        ∷ ‵ (fobs dr.ghost_name ((Dd E Z).coded.code deed))
        ∷ ‵ (fbor κs.1.1.0 (Borrowed (mem (Dd E Z)) dr.ref_ptr.0 dr.ref_ptr.1 dr.ghost_name)) ∷ ‵ (flft κs.1.1.0 qs.1.1.0)
        ∷ ‵ (flft κs.0 qs.0) ∷ ‵ (flft κs.1.1.1.0 qs.1.1.1.0) ∷ (‵ (flft κs.1.1.1.1.0 qs.1.1.1.1.0) ⊛ ‵ ftrue) ∷ [])) ((walk_of 𝓛 ended stayed held).post z v)
    exits z e₅ e₆ r v new deed same left =
        let a = z.0.3 in let rr = a.1.1.1.1.1.0 in let dr = a.1.1.1.1.1.1.0 in let κs = z.0.0 in let qs = z.0.1 in
        qed 𝓛 (‵ (Out.own_val r (v ∷ [])) ∷ ‵ (fobs rr.ghost_name ((Rm E).coded.code new))
        ∷ ‵ (fbor κs.1.0 (Borrowed (mem (Rm E)) rr.ref_ptr.0 rr.ref_ptr.1 rr.ghost_name)) ∷ ‵ (flft κs.1.0 qs.1.0)
        ∷ ‵ (fobs dr.ghost_name ((Dd E Z).coded.code deed))
        ∷ ‵ (fbor κs.1.1.0 (Borrowed (mem (Dd E Z)) dr.ref_ptr.0 dr.ref_ptr.1 dr.ghost_name)) ∷ ‵ (flft κs.1.1.0 qs.1.1.0)
        ∷ ‵ (flft κs.0 qs.0) ∷ ‵ (flft κs.1.1.1.0 qs.1.1.1.0) ∷ (‵ (flft κs.1.1.1.1.0 qs.1.1.1.1.0) ⊛ ‵ ftrue) ∷ []) ∵
        suffices ! _ (ends_at 𝓛 ended stayed held z v r (tt, (tt, (tt, (tt, (tt, (new, (deed, tt)))))))
        (tt, (tt, (tt, (tt, (tt, (tt, (tt, tt)))))))) $ says_two ! (same, left) $
        move ! (8 ∷ 9 ∷ []) $ join ! $ move ! (7 ∷ 0 ∷ []) $ join ! $ move ! (4 ∷ 0 ∷ []) $ join ! $ move ! (6 ∷ 0 ∷ []) $ join ! $
        -- [the tokens; the result; the room's obs and borrow; the deed's]
        move ! (4 ∷ 5 ∷ []) $ feq_i ! (List Val) z.0.4.1.1.1.1.1.1.0 (vptr dr.ref_ptr.0 dr.ref_ptr.1 ∷ []) e₆ $
        fjoin3 ! $ nothing ! $ move ! (1 ∷ 0 ∷ []) $ fjoin ! $
        move ! (3 ∷ 4 ∷ []) $ feq_i ! (List Val) z.0.4.1.1.1.1.1.0 (vptr rr.ref_ptr.0 rr.ref_ptr.1 ∷ []) e₅ $ fjoin3 ! $ fjoin ! $
        nothing ! $ fjoin ! $ nothing ! $ fjoin ! $ nothing ! $ fjoin ! $ nothing ! $ fjoin ! $ nothing ! $ fjoin ! $ keep ! (1 ∷ 0 ∷ 2 ∷ []) $ done !

    walk : (z : (walk_of 𝓛 ended stayed held).Ghost)
        → ent 𝓤 ((walk_of 𝓛 ended stayed held).pre z)
        (WpFn 𝓤 H 𝓣.C 𝓣.Λ here ((walk_of 𝓛 ended stayed held).args z) ((walk_of 𝓛 ended stayed held).post z))
    walk z =
        let κ = z.0.0.0 in let κ₁ = z.0.0.1.0 in let κ₂ = z.0.0.1.1.0 in let κ₃ = z.0.0.1.1.1.0 in let κ₄ = z.0.0.1.1.1.1.0 in
        let q = z.0.1.0 in let q₁ = z.0.1.1.0 in let q₂ = z.0.1.1.1.0 in let q₃ = z.0.1.1.1.1.0 in
        let q₄ = z.0.1.1.1.1.1.0 in let args = z.0.3 in let vss = z.0.4 in
        let hp = args.0.ref_ptr in let a = args.0.now in let base = args.1.0 in let len = args.1.1.0 in
        let c = args.1.1.1.0 in let more = args.1.1.1.1.0 in let rr = args.1.1.1.1.1.0 in let dr = args.1.1.1.1.1.1.0 in
        let r : room_d E = rr.now in let d : (Dd E Z).Denot = dr.now in let rb = rr.ref_ptr.0 in
        let ro = rr.ref_ptr.1 in let db = dr.ref_ptr.0 in let od = dr.ref_ptr.1 in
        let s = sz E in let xs = r.items in let n = length xs in let Post : Val → SProp 𝓤 = (walk_of 𝓛 ended stayed held).post z in
        qed 𝓛 (((‵ (flft κ q) ⊛ ‵ (flft κ₁ q₁) ⊛ ‵ (flft κ₂ q₂) ⊛ ‵ (flft κ₃ q₃) ⊛ ‵ (flft κ₄ q₄) ⊛ ‵ ftrue)
        ⊛ ‵ (owns (types_at ended.signature.params z.0.0) args vss))
        ∷ (raw (fact 𝓤 (κ₃ ⊑ E.row.lives)) ⊛ raw (fact 𝓤 (κ₄ ⊑ Z.row.lives)) ⊛ raw (fact 𝓤 (Asked z)) ⊛ raw (fact 𝓤 (Larger z))) ∷ []) ∵
        move ! (1 ∷ []) $ split ! $ heard ! (κ₃ ⊑ E.row.lives) (λ in_items. split ! $
        heard ! (κ₄ ⊑ Z.row.lives) (λ within. split ! $ heard ! (Asked z) (λ ok. heard ! (Larger z) (λ larger.
        let whole = ok.0 in let fits_in : n ≤ r.capacity = r.within in let long = ok.1 in let many = ok.2 in
        split ! $ move ! (1 ∷ []) $ fsplit ! $ fsplit ! $
        feq_l ! (λ e₀. move ! (1 ∷ []) $ fsplit ! $ base_had E ! base vss.1.0 (λ e₁. fsplit ! $ fsplit ! $ feq_l ! (λ e₂. flt_l ! (λ fits_len.
        fsplit ! $ fsplit ! $ feq_l ! (λ e₃. flt_l ! (λ fits_old. fsplit ! $ fsplit ! $
        feq_l ! (λ e₄. flt_l ! (λ fits_new. fsplit ! $ fsplit3 ! $ feq_l ! (λ e₅. move ! (2 ∷ []) $ fsplit ! $ fsplit3 ! $ feq_l ! (λ e₆.
        -- [the deed's obs and borrow; nothing; the room's obs and borrow; the handle; the tokens]
        move ! (6 ∷ []) $ split ! $ move ! (1 ∷ []) $ split ! $ move ! (1 ∷ []) $ split ! $
        move ! (1 ∷ []) $ split ! $ keep ! (8 ∷ 9 ∷ 3 ∷ 5 ∷ 6 ∷ 2 ∷ 10 ∷ 4 ∷ 0 ∷ 1 ∷ []) $
        let us : List Val = vptr hp.0 hp.1 ∷ word base.ptr ∷ vint w64 len ∷ vint w64 c ∷ vint w64 more ∷ vptr rb ro ∷ vptr db od ∷ [] in
        let Run : List Val → SProp 𝓤 = λ ws. WpFn 𝓤 H 𝓣.C 𝓣.Λ here ws Post in
        suffices ! (Run us) (subst (λ (ws : List Val). ent 𝓤 (Run us) (Run ws))
        (sym (λ k. e₀ k ++ (e₁ k ++ (e₂ k ++ (e₃ k ++ (e₄ k ++ (e₅ k ++ (e₆ k ++ [])))))))) (id⊢ 𝓤 (Run us))) $
        enter ! 𝓣.C 𝓣.Λ here us Post $
        alloc_all ! (λ l. pass_all ! refl (
          (tt, tt),
          (
            word-Good [] base.ptr,
            (
              (tt, record { fits = fits_len }),
              ((tt, record { fits = fits_old }), ((tt, record { fits = fits_new }), ((tt, tt), ((tt, tt), tt)))),
            ),
          ),
        ) $
        let En : Env 𝓤 H = env here.locals l in
        let both : Body = head (after 2 here.body) in
        let Then : After 𝓤 H = any_q (after_seq 𝓤 H (Wp 𝓤 H 𝓣.C 𝓣.Λ En (after 3 here.body) (at_return 𝓤 H En Post)) (at_return 𝓤 H En Post)) in
        room_opens E ! tt r rb ro (λ b o at_b small. move ! (6 ∷ 7 ∷ 8 ∷ []) $ deed_opens E Z ! tt d db od $
        let base_at : base.ptr ≡ block_ptr b o = sym whole.at ∙ at_b in let deed_at : d.at ≡ block_ptr b o = whole.deed_at ∙ base_at in
        let goes = to_block E Z 𝓛 r d a b o len c whole.start long many whole.deed_alloc deed_at whole.deed_capacity ok.3 in
        let backs = of_block E Z 𝓛 r d a b o len c whole.start long many whole.deed_alloc deed_at whole.deed_capacity ok.3 in
        let y : (Resizes Z E.row (Grows E.row) 𝓛 at_mem run).Ghost = at_resizes Z E.row (Grows E.row) 𝓛 at_mem run κ κ₃ q q₃ hp a b o len c more xs in
        move ! (5 ∷ 6 ∷ 0 ∷ []) $ use3 𝓛 (‵ (block_with_items (token Z a) (R E) (block_ptr b o) len c xs)) goes $
        -- [the block; the deed's cell, borrow, obs and auth; the room's; the handle; its token; the items' token; the last token]
        move ! (10 ∷ 11 ∷ []) $ join ! $ move ! (10 ∷ 0 ∷ []) $ join ! $ move ! (1 ∷ 0 ∷ []) $
        use2 𝓛 (raw ((Resizes Z E.row (Grows E.row) 𝓛 at_mem run).pre y))
        (Resizes-goes Z E.row (Grows E.row) 𝓛 at_mem run κ κ₃ q q₃ hp a b o len c more xs (Incl-trans z.0.2.0 within) in_items
        (omega arith, larger.0, larger.1.0) fits_len fits_old fits_new) $
        take_at ! 2 $ rewrite ! 0 (λ (p : Ptr). ‵ (fat full_share (layout (Bs E)) (l 2) 0 (word p))) base_at refl $ give_at ! 2 $
        first ! $ blocks ! $ calls_at_last ! (fm_of 𝓤 H 𝓛.laws 𝓣) (Resizes Z E.row (Grows E.row) 𝓛 at_mem run) callee y
        (and_then ! (get ! refl) (and_then ! (get_in ! (fld ! refl (stop !)) (sub ! 0 refl (whole_part !)))
        (and_then ! (get ! refl) (and_then ! (get ! refl) (and_then ! (get ! refl) (no_more !)))))) (λ v.
        use1 𝓛 (later (raw (ex 𝓤 (Resized Z E.row (Grows E.row) 𝓛 at_mem run κ κ₃ q q₃ hp a b o len c more xs v))
        ⊛ ‵ (flft κ q) ⊛ ‵ (flft κ₃ q₃))) (Resizes-gives Z E.row (Grows E.row) 𝓛 at_mem run κ κ₃ q q₃ hp a b o len c more xs v) $
        await ! tt $ split3 ! $
        flagged ! v (left_by Z E.row (Grows E.row) 𝓛 at_mem run κ κ₃ q q₃ hp a b o len c more xs)
        (λ b' o' e.
        let p : Ptr = block_ptr b' o' in let made : Val = word p in let ok_typed = first_Good (layout (Bs E)) made (word-Good [] p) in
        let new : room_d E = record { mark = r.mark; at = p; start = 0; items = xs; capacity = more; within = omega arith } in
        let new_deed : (Dd E Z).Denot = record { mark = d.mark; at = p; capacity = more; alloc = a } in
        lands_last ! refl (subst (λ (w : Val). T (has_ty (layout Answer) w) × WT w) (sym e) (Answer-typed true b' o')) $
        exec ! 𝓣.C 𝓣.Λ En (after 1 here.body) (at_ret En Post) $
        sets ! (is ! (of_opd ! (get ! refl)) e) refl (Answer-typed true b' o') $ first ! $
        switches_on ! (get_tag ! (vrt ! refl (fld ! refl (stop !))) (whole_part !)) $ exec ! 𝓣.C 𝓣.Λ En (arm_body 0 both) Then $
        sets ! (of_opd ! (get_in ! (vrt ! refl (fld ! refl (stop !))) (in_variant ! 0 0 refl refl (whole_part !)))) refl (tt, tt) $
        sets ! (agg ! (and_then ! (get ! refl) (no_more !))) refl (word-Good [] p) $
        sets_last ! (agg ! (and_then ! (lit ! tt) (and_then ! (get ! refl) (no_more !)))) refl ok_typed $
        exec ! 𝓣.C 𝓣.Λ En (after 3 here.body) (at_ret En Post) $ sets ! (of_opd ! (get ! refl)) refl ok_typed $
        -- [the block; the two tokens; the deed's cell, borrow, obs and auth; the room's; the last token]
        use1 𝓛 (‵ (held_of E new b' o') ⊛ ‵ (spare_of E new b' o') ⊛ ‵ (Right E Z a p more))
        (of_block E Z 𝓛 new new_deed a b' o' len more refl long refl refl refl refl (some_bytes c more s larger.0 ok.3)) $ split3 ! $
        move ! (2 ∷ 5 ∷ 6 ∷ 7 ∷ 8 ∷ []) $ deed_closes E Z ! tt new_deed db od $ move ! (3 ∷ 4 ∷ 7 ∷ 8 ∷ 9 ∷ 10 ∷ []) $
        room_closes E ! tt new b' o' rb ro refl (fresh_small E b' o' more larger.1.0) $
        base_made E ! p $ use1 𝓛 (‵ (Out.own_val (Ok (record { ptr = p })) (live 0 (vcons made vnil) ∷ [])))
        (ok_of 𝓛 (Bs E) AE.the_row (record { ptr = p }) made) $
        returns ! (look_at ! 0 refl) $ free_all ! refl $
        by ! (exits z e₅ e₆ (Ok (record { ptr = p })) (live 0 (vcons made vnil)) new new_deed refl
        (record { at = refl; start = refl; deed_at = refl; deed_capacity = refl; deed_alloc = refl }, refl)))
        (λ e.
        let Refusal : RattleType = Struct (Declared.shape AE.the_type) in let none : Val = live 1 (vcons (vstruct vnil) vnil) in
        lands_last ! refl (subst (λ (w : Val). T (has_ty (layout Answer) w) × WT w) (sym e) (Answer-typed false 0 0)) $
        exec ! 𝓣.C 𝓣.Λ En (after 1 here.body) (at_ret En Post) $
        sets ! (is ! (of_opd ! (get ! refl)) e) refl (Answer-typed false 0 0) $ first ! $
        switches_on ! (get_tag ! (vrt ! refl (fld ! refl (stop !))) (whole_part !)) $ exec ! 𝓣.C 𝓣.Λ En (arm_body 1 both) Then $
        sets ! (of_opd ! (get_in ! (vrt ! refl (fld ! refl (stop !))) (in_variant ! 1 0 refl refl (whole_part !)))) refl (tt, tt) $
        sets_last ! (agg ! (and_then ! (lit ! tt) (and_then ! (get ! refl) (no_more !)))) refl (tt, (record { fits = lit< tt }, (tt, tt))) $
        exec ! 𝓣.C 𝓣.Λ En (after 3 here.body) (at_ret En Post) $ sets ! (of_opd ! (get ! refl)) refl (tt, (record { fits = lit< tt }, (tt, tt))) $
        use1 𝓛 (‵ (held_of E r b o) ⊛ ‵ (spare_of E r b o) ⊛ ‵ (Right E Z d.alloc d.at d.capacity)) backs $ split3 ! $
        move ! (2 ∷ 5 ∷ 6 ∷ 7 ∷ 8 ∷ []) $ deed_closes E Z ! tt d db od $ move ! (3 ∷ 4 ∷ 7 ∷ 8 ∷ 9 ∷ 10 ∷ []) $ room_closes E ! tt r b o rb ro at_b small $
        owned ! Refusal (Is Refusal) (Struct-Makes 𝓛 (Declared.shape AE.the_type) tt) tt (vstruct vnil ∷ []) (tt, (refl, tt)) $
        use1 𝓛 (‵ (Out.own_val (Err (record {})) (none ∷ []))) (err_of 𝓛 (Bs E) AE.the_row (record {}) (vstruct vnil)) $
        returns ! (look_at ! 0 refl) $ free_all ! refl $ by ! (exits z e₅ e₆ (Err (record {})) none r d refl (refl, refl))))))))))))))))))))

    meets : Meets 𝓛 ended.signature (WpFn 𝓤 H 𝓣.C 𝓣.Λ here) (closing 𝓛 ended held)
    meets =
        walk_Meets 𝓛 ended stayed (
          Goes-dropped 𝓛 5 (RefOf (0 ∷ []) tt (plain (λ _. P E Z)) (λ _. tt)) yes (λ κs x f. refl),
          (
            Goes-dropped 𝓛 5 (plain (λ _. Bs E)) no (λ κs x f. refl),
            (
              Goes-dropped 𝓛 5 (plain (λ _. usize)) yes (λ κs x f. refl),
              (
                Goes-dropped 𝓛 5 (plain (λ _. usize)) yes (λ κs x f. refl),
                (
                  Goes-dropped 𝓛 5 (plain (λ _. usize)) yes (λ κs x f. refl),
                  (Goes-ref 𝓛 5 1 tt (plain (λ _. Rm E)), (Goes-ref 𝓛 5 2 tt (plain (λ _. Dd E Z)), tt)),
                ),
              ),
            ),
          ),
        ) held
        (WpFn 𝓤 H 𝓣.C 𝓣.Λ here) (WpFn-mono 𝓤 H 𝓛.laws 𝓣 here) walk

pub grow_spec : {M : Type 1} → statement M
unfolding tables_of
grow_spec 𝓤 𝓛 𝓜 𝓡 wired X Y LX LY g d dd met md =
    let E : El = record { row = X; laws = LX } in let Z : Al = record { row = Y; laws = LY; g = g; d = d; drops = dd } in
    let 𝓣 : Tables 𝓤 𝓛.H = tables_of 𝓤 𝓛.H 𝓜 (tables 𝓤 𝓛.H 𝓜 𝓡 𝓡.env) in
    entered 𝓤 𝓛.H (triple_of 𝓛 (ended E Z).signature (F.spec X Y g d dd 𝓛 𝓜.mem 𝓡.returns)) 𝓣.C 𝓣.Λ
    (#self (args E Z)) (here E Z) (code.unfolded 𝓤 𝓛.H 𝓜 𝓡 wired (X, (Y, tt)) d dd)
    (meets E Z 𝓛 𝓜.mem 𝓡.returns 𝓣 (met.grow dd X LX))
