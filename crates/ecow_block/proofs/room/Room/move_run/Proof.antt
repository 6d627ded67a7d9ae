-- `move_run` hands `copy_nonoverlapping` the items and as many empty places, and puts both back, for every element type. Assumes `Logic`.
use mathlib.Core.Path.{◌≡◌, refl, sym, ap, subst, ◌∙◌}
use Prim.Native.Nat.{ℕ, ◌+◌, ◌-◌, ◌*◌, ◌<◌, ◌≤◌, ◌^◌}
use native.Mathlib.Omega.{arith}
use native.Mathlib.Nat.{zero-mul}
use mathlib.Core.List.{List, [], ◌∷◌, ◌++◌}
use lib.Dec.{T}
use lib.ListN.{length, length-append}
use seplogic.Ra.Ura.{Ura}
use base.Fraction.{full_share}
use base.Logic.{SProp, ent, id⊢}
use base.Fml.{ftrue, fat, froom, flft}
use mir.Syntax.{Fn, w64, ty_unit, ty_array}
use mir.MapTy.{inst_fn}
use mir.Val.{Val, WT, has_ty, vptr, vint, vunit}
use prog.Memory.{Memory}
use prog.Routine.{Routine}
use prog.Wp.{Env, WpFn, Tables}
use types.Logic.{Logic}
use contract.BorrowLft.{◌⊑◌}
use contract.Monad.{Fun, fact}
use contract.Running.{tables, tables_of}
use sound.WpLaws.{WpFn-mono, fm_of}
use types.Kit.{‵, raw, ◌⊛◌, given, learn, later, await, at_ret, ◌$◌, ◌∵◌, !, qed, move, keep, use0, use1, use2, use3, split, split3, join, rewrite, fsplit, fsplit3, fjoin, fjoin3, feq_i, feq_l, flt_l, suffices, done}
use types.Part.{whole, sub}
use types.Run.{stop, fld, size_word, unit_lit, of_opd, bin, and_then, no_more, first, blocks, exec, returns, enter}
use types.ByLocal.{alloc_all, pass_all, free_all, look_at, get, get_in, is, sets, lands_last, take_at, give_at, env}
use denote.Array.{Array}
use denote.Builtin.{usize}
use denote.Exit.{yes, no}
use denote.Memory.{part_at}
use denote.Param.{layout}
use denote.RattleType.{owns}
use denote.RawPtr.{Ptr}
use denote.Signature.{plain, types_at}
use denote.Steps.{heard, nothing}
use denote.Triple.Call.{calls_at_last}
use denote.Triple.Clauses.{Clauses, Ended, closing}
use denote.Triple.Spec.{Meets, triple_of}
use denote.Triple.Statement.{Triple}
use denote.Triple.Table.{entered}
use denote.Triple.Walked.{Stays, stay_dropped, stay_ref, walk_of, ends_at, Goes-dropped, Goes-ref, walk_Meets}
use Rattle.core.proofs.mem.Facts.{says_two}
use Rattle.core.proofs.mem.Param.{El, R, args, el_x, elτ}
use Rattle.core.proofs.ptr.Rows.{times_below, add_times}
use Rattle.core.proofs.slots.Bodies.{after}
use Rattle.core.proofs.slots.Leases.{uncapped}
use Rattle.core.proofs.alloc.Moves.{copy_key, Copies, at_copies, Copies-goes, Copies-gives}
use Rattle.core.proofs.ptr.copy_nonoverlapping.Met as copy_met
use Rattle.std_alloc.proofs.RawLayout.{as_raw, as_written}
use Rattle.std_alloc.proofs.RcSteps.{word, word-Good}
use Rattle.ecow_block.proofs.Memory.{Rm, Bs, room_d, sz, Held, Spare, base_had, room_opens, room_closes}
use Rattle.ecow_block.proofs.Places.{glue, none_held, spare_cut, spare_glue}
use Rattle.ecow_block.specs.contracts.room.Room.move_run as F
use Rattle.ecow_block.specs.contracts.room.Room.move_run.Key.{name as #self}
use Rattle.ecow_block.proofs.room.Room.move_run.Statement.{statement}
use Rattle.ecow_block.proofs.room.Room.move_run.Code as code

module _ (E : El) where
  abbrev here : Fn
  here = inst_fn (args E) code.function

  abbrev ended : Ended
  ended = F.ended E.row

  abbrev stayed : Stays ended.signature.params ended.kept
  stayed = (
    stay_ref (0 ∷ []) tt (plain (λ _. Rm E)),
    (
      stay_dropped (plain (λ _. Bs E)) no,
      (
        stay_dropped (plain (λ _. usize)) yes,
        (
          stay_dropped (plain (λ _. usize)) yes,
          (stay_ref (1 ∷ []) tt (plain (λ _. Rm E)), (stay_dropped (plain (λ _. Bs E)) no, (stay_dropped (plain (λ _. usize)) yes, tt))),
        ),
      ),
    ),
  )

  module _ {M : Type 1} {𝓤 : Ura M} (𝓛 : Logic 𝓤) (at_mem : Memory → SProp 𝓤) (run : Routine → Fun 𝓤) (𝓣 : Tables 𝓤 𝓛.H)
      (callee : Triple 𝓤 (𝓣.C (copy_key E.row)) (Copies E.row 𝓛 at_mem run)) where
    open 𝓛 use {H}

    abbrev held : Clauses 𝓤 ended
    held = F.clauses E.row 𝓛 at_mem run

    walk : (z : (walk_of 𝓛 ended stayed held).Ghost)
        → ent 𝓤 ((walk_of 𝓛 ended stayed held).pre z)
        (WpFn 𝓤 H 𝓣.C 𝓣.Λ here ((walk_of 𝓛 ended stayed held).args z) ((walk_of 𝓛 ended stayed held).post z))
    walk z =
        let κ₀ = z.0.0.0 in let κ₁ = z.0.0.1.0 in let κ₂ = z.0.0.1.1.0 in let q₀ = z.0.1.0 in
        let q₁ = z.0.1.1.0 in let q₂ = z.0.1.1.1.0 in let a = z.0.3 in let vss = z.0.4 in
        let rb = a.0.ref_ptr.0 in let ro = a.0.ref_ptr.1 in let d : room_d E = a.0.now in
        let base = a.1.0 in let from : ℕ = a.1.1.0 in let count : ℕ = a.1.1.1.0 in
        let sb = a.1.1.1.1.0.ref_ptr.0 in let so = a.1.1.1.1.0.ref_ptr.1 in let g : room_d E = a.1.1.1.1.0.now in
        let other_base = a.1.1.1.1.1.0 in let to : ℕ = a.1.1.1.1.1.1.0 in
        let Post : Val → SProp 𝓤 = (walk_of 𝓛 ended stayed held).post z in
        let xs : List (el_x E) = d.items in let n = length xs in let c = d.capacity in
        let ys : List (el_x E) = g.items in let m = length ys in let gc = g.capacity in let s = sz E in
        let Ok : Type 0 = (base.ptr ≡ d.at) × (from ≡ d.start) × (count ≡ n) × (other_base.ptr ≡ g.at) × (to ≡ g.start + m) × (m + count ≤ gc) in
        qed 𝓛 (((‵ (flft κ₀ q₀) ⊛ ‵ (flft κ₁ q₁) ⊛ ‵ (flft κ₂ q₂) ⊛ ‵ ftrue) ⊛ ‵ (owns (types_at ended.signature.params z.0.0) a vss))
        ∷ (raw (fact 𝓤 (κ₂ ⊑ E.row.lives)) ⊛ raw (fact 𝓤 Ok)) ∷ []) ∵
        move ! (1 ∷ []) $ split ! $ heard ! (κ₂ ⊑ E.row.lives) (λ lives. heard ! Ok (λ ok.
        let all : count ≡ n = ok.2 in let fits_in : n ≤ c = d.within in let roomy : m + count ≤ gc = ok.5 in
        split ! $ split3 ! $ move ! (3 ∷ []) $ fsplit ! $ fsplit3 ! $
        feq_l ! (λ e₀. move ! (2 ∷ []) $ fsplit ! $ base_had E ! base vss.1.0 (λ e₁. fsplit ! $ fsplit ! $ feq_l ! (λ e₂. flt_l ! (λ ff.
        fsplit ! $ fsplit ! $ feq_l ! (λ e₃. flt_l ! (λ fn. fsplit ! $ fsplit3 ! $
        feq_l ! (λ e₄. move ! (2 ∷ []) $ fsplit ! $ base_had E ! other_base vss.1.1.1.1.1.0
        (λ e₅. fsplit ! $ fsplit ! $ feq_l ! (λ e₆. flt_l ! (λ ft.
        keep ! (3 ∷ 4 ∷ 5 ∷ 1 ∷ 2 ∷ 6 ∷ 7 ∷ []) $
        let us : List Val = vptr rb ro ∷ word base.ptr ∷ vint w64 from ∷ vint w64 count ∷ vptr sb so ∷ word other_base.ptr ∷ vint w64 to ∷ [] in
        let Run : List Val → SProp 𝓤 = λ ws. WpFn 𝓤 H 𝓣.C 𝓣.Λ here ws Post in
        suffices ! (Run us) (subst (λ (ws : List Val). ent 𝓤 (Run us) (Run ws))
        (sym (λ k. e₀ k ++ (e₁ k ++ (e₂ k ++ (e₃ k ++ (e₄ k ++ (e₅ k ++ (e₆ k ++ [])))))))) (id⊢ 𝓤 (Run us))) $
        enter ! 𝓣.C 𝓣.Λ here us Post $
        alloc_all ! (λ l. pass_all ! refl (
          (tt, tt),
          (
            word-Good [] base.ptr,
            (
              (tt, record { fits = ff }),
              ((tt, record { fits = fn }), ((tt, tt), (word-Good [] other_base.ptr, ((tt, record { fits = ft }), tt)))),
            ),
          ),
        ) $
        let En : Env 𝓤 H = env here.locals l in
        room_opens E ! tt d rb ro (λ b o at_b small. move ! (6 ∷ 7 ∷ 8 ∷ []) $ room_opens E ! tt g sb so (λ b' o' at_b' small'.
        let begin = o + d.start * s in let begin' = o' + g.start * s in let src = from * s + o in let dst = to * s + o' in
        let fm : from * s < 2 ^ 64 = let below = times_below from (d.start + c) s (2 ^ 63) (let eq = ok.1 in omega arith) small in omega arith in
        let fm' : to * s < 2 ^ 64 = let below = times_below to (g.start + gc) s (2 ^ 63) (let eq = ok.4 in omega arith) small' in omega arith in
        let fitting : count * s < 2 ^ 63 = times_below count (d.start + c) s (2 ^ 63) (omega arith) small in
        let there : begin ≡ src = let eq = ap (λ k. k * s) ok.1 in omega arith in
        let there' : begin' + m * s ≡ dst = let eq = ap (λ k. k * s) ok.4 ∙ add_times g.start m s in omega arith in
        let more : gc - m ≡ count + (gc - (m + count)) = omega arith in
        let behind : begin' + (m + count) * s ≡ begin' + m * s + count * s = let eq = add_times m count s in omega arith in
        take_at ! 2 $ rewrite ! 0 (λ (p : Ptr). ‵ (fat full_share (layout (Bs E)) (l 2) 0 (word p))) (ok.0 ∙ at_b) refl $ give_at ! 2 $
        take_at ! 6 $ rewrite ! 0 (λ (p : Ptr). ‵ (fat full_share (layout (Bs E)) (l 6) 0 (word p))) (ok.3 ∙ at_b') refl $ give_at ! 6 $
        -- [other's items; its empty places; its mark's cell; its open borrow; obs; auth; self's items; its
        -- empty places; its mark's cell; its open borrow; obs; auth; the last token]
        move ! (1 ∷ []) $ rewrite ! 0 (λ (k : ℕ). ‵ (Spare E b' (begin' + m * s) k)) more refl $
        use1 𝓛 (‵ (Spare E b' (begin' + m * s) count) ⊛ ‵ (Spare E b' (begin' + (m + count) * s) (gc - (m + count))))
        (spare_cut E 𝓛 b' (begin' + m * s) (begin' + (m + count) * s) count (gc - (m + count)) behind) $ split ! $
        as_written ! (ty_array (elτ E) count) b' (begin' + m * s) $ rewrite ! 0 (λ (k : ℕ). ‵ (froom (ty_array (elτ E) count) b' k)) there' refl $
        first ! $ blocks ! $
        sets ! (is ! (bin ! (get ! refl) (size_word !) (record { fits = subst (λ (k : ℕ). k < 2 ^ 64) (sym (uncapped from s fm)) fm }))
        (ap (vint w64) (uncapped from s fm))) refl (tt, record { fits = fm }) $
        sets ! (bin ! (get_in ! (fld ! refl (stop !)) (sub ! 0 refl (whole !))) (get ! refl) tt) refl (tt, tt) $
        sets ! (is ! (bin ! (get ! refl) (size_word !) (record { fits = subst (λ (k : ℕ). k < 2 ^ 64) (sym (uncapped to s fm')) fm' }))
        (ap (vint w64) (uncapped to s fm'))) refl (tt, record { fits = fm' }) $
        sets ! (bin ! (get_in ! (fld ! refl (stop !)) (sub ! 0 refl (whole !))) (get ! refl) tt) refl (tt, tt) $
        move ! (7 ∷ []) $ rewrite ! 0 (λ (k : ℕ). ‵ (part_at (Array (R E) n) full_share xs b k)) there refl $
        rewrite ! 0 (λ (j : ℕ). ‵ (part_at (Array (R E) j) full_share xs b src)) (sym all) refl $
        move ! (13 ∷ []) $ split ! $ move ! (2 ∷ 3 ∷ 0 ∷ []) $
        use3 𝓛 (raw ((Copies E.row 𝓛 at_mem run).pre (at_copies E.row 𝓛 at_mem run κ₂ q₂ b src b' dst count xs)))
        (Copies-goes E.row 𝓛 at_mem run κ₂ q₂ b src b' dst count xs lives fn fitting) $
        calls_at_last ! (fm_of 𝓤 H 𝓛.laws 𝓣) (Copies E.row 𝓛 at_mem run) callee (at_copies E.row 𝓛 at_mem run κ₂ q₂ b src b' dst count xs)
        (and_then ! (get ! refl) (and_then ! (get ! refl) (and_then ! (get ! refl) (no_more !)))) (λ v.
        use1 𝓛 (later (given (v ≡ vunit) (‵ (part_at (Array (R E) count) full_share xs b' dst) ⊛ ‵ (froom (ty_array (elτ E) count) b src)
        ⊛ ‵ (flft κ₂ q₂)))) (Copies-gives E.row 𝓛 at_mem run κ₂ q₂ b src b' dst count xs v) $ await ! tt $ learn ! (λ e. split3 ! $
        lands_last ! refl (subst (λ (u : Val). T (has_ty ty_unit u) × WT u) (sym e) (tt, tt)) $
        exec ! 𝓣.C 𝓣.Λ En (after 1 here.body) (at_ret En Post) $ sets ! (of_opd ! (unit_lit !)) refl (tt, tt) $
        move ! (2 ∷ 3 ∷ []) $ join ! $ move ! (1 ∷ 2 ∷ 0 ∷ []) $
        -- [the items; the room that they left; the last token; other's other places; its items; its mark's
        -- cell; its open borrow; obs; auth; self's empty places; its mark's cell; its open borrow; obs; auth]
        let long : length (ys ++ xs) ≡ m + count = length-append ys xs ∙ ap (λ k. m + k) (sym all) in
        let full : room_d E = record { mark = g.mark; at = g.at; start = g.start; items = ys ++ xs; capacity = gc; within = omega (arith, long) } in
        let empty : room_d E = record { mark = d.mark; at = d.at; start = d.start; items = []; capacity = c; within = omega arith } in
        rewrite ! 0 (λ (j : ℕ). ‵ (part_at (Array (R E) j) full_share xs b' dst)) all refl $ move ! (4 ∷ 0 ∷ []) $
        use2 𝓛 (‵ (Held E b' begin' (ys ++ xs))) (glue E 𝓛 b' begin' dst ys xs (sym there')) $
        rewrite ! 3 (λ (k : ℕ). ‵ (Spare E b' (begin' + k * s) (gc - k))) (sym long) refl $ move ! (0 ∷ 3 ∷ 4 ∷ 5 ∷ 6 ∷ 7 ∷ []) $
        room_closes E ! tt full b' o' sb so at_b' small' $
        move ! (3 ∷ []) $ as_raw ! (ty_array (elτ E) count) b src $ rewrite ! 0 (λ (k : ℕ). ‵ (Spare E b k count)) (sym there) refl $
        rewrite ! 0 (λ (k : ℕ). ‵ (Spare E b begin k)) all refl $
        move ! (0 ∷ 5 ∷ []) $ use2 𝓛 (‵ (Spare E b begin (n + (c - n)))) (spare_glue E 𝓛 b begin (begin + n * s) n (c - n) refl) $
        rewrite ! 0 (λ (k : ℕ). ‵ (Spare E b begin k)) (let whole' : n + (c - n) ≡ c - 0 = omega arith in whole') refl $
        rewrite ! 0 (λ (k : ℕ). ‵ (Spare E b k (c - 0))) (let zero_times = zero-mul s in let here' : begin ≡ begin + 0 * s = omega arith in here') refl $
        use0 𝓛 (‵ (Held E b begin [])) (none_held E 𝓛 b begin) $ move ! (0 ∷ 1 ∷ 6 ∷ 7 ∷ 8 ∷ 9 ∷ []) $
        room_closes E ! tt empty b o rb ro at_b small $
        returns ! (look_at ! 0 refl) $ free_all ! refl $
        suffices ! _ (ends_at 𝓛 ended stayed held z vunit tt (empty, (tt, (tt, (tt, (full, (tt, (tt, tt))))))) (tt, (tt, (tt, (tt, (tt, (tt, (tt, tt)))))))) $
        says_two ! ((refl, record { at = refl; start = refl; capacity = refl }), (refl, record { at = refl; start = refl; capacity = refl })) $
        feq_i ! (List Val) vss.0 (vptr rb ro ∷ []) e₀ $ fjoin3 ! $ move ! (2 ∷ 3 ∷ []) $ feq_i ! (List Val) vss.1.1.1.1.0 (vptr sb so ∷ []) e₄ $ fjoin3 ! $
        nothing ! $ nothing ! $ fjoin ! $ nothing ! $ fjoin ! $ move ! (1 ∷ 0 ∷ []) $ fjoin ! $ nothing ! $
        fjoin ! $ nothing ! $ fjoin ! $ nothing ! $ fjoin ! $ move ! (1 ∷ 0 ∷ []) $ fjoin ! $
        move ! (2 ∷ 3 ∷ []) $ join ! $ move ! (2 ∷ 0 ∷ []) $ join ! $ feq_i ! (List Val) (vunit ∷ []) (vunit ∷ []) refl $
        keep ! (1 ∷ 2 ∷ 0 ∷ []) $ done !)))))))))))))))))

    meets : Meets 𝓛 ended.signature (WpFn 𝓤 H 𝓣.C 𝓣.Λ here) (closing 𝓛 ended held)
    meets =
        let word' = Goes-dropped 𝓛 3 (plain (λ _. usize)) yes (λ κs x f. refl) in let base' = Goes-dropped 𝓛 3 (plain (λ _. Bs E)) no (λ κs x f. refl) in
        walk_Meets 𝓛 ended stayed (
          Goes-ref 𝓛 3 0 tt (plain (λ _. Rm E)),
          (base', (word', (word', (Goes-ref 𝓛 3 1 tt (plain (λ _. Rm E)), (base', (word', tt)))))),
        ) held
        (WpFn 𝓤 H 𝓣.C 𝓣.Λ here) (WpFn-mono 𝓤 H 𝓛.laws 𝓣 here) walk

pub move_run_spec : {M : Type 1} → statement M
unfolding tables_of
move_run_spec 𝓤 𝓛 𝓜 𝓡 wired X L =
    let E : El = record { row = X; laws = L } in
    let 𝓣 : Tables 𝓤 𝓛.H = tables_of 𝓤 𝓛.H 𝓜 (tables 𝓤 𝓛.H 𝓜 𝓡 𝓡.env) in
    entered 𝓤 𝓛.H (triple_of 𝓛 (F.signature X) (F.spec X 𝓛 𝓜.mem 𝓡.returns)) 𝓣.C 𝓣.Λ (#self (args E)) (here E) (code.unfolded 𝓤 𝓛.H 𝓜 𝓡 wired (X, tt))
    (meets E 𝓛 𝓜.mem 𝓡.returns 𝓣 (copy_met.met 𝓤 𝓛 𝓜 𝓡 (code.calls-core::ptr::copy_nonoverlapping 𝓡.env wired) X L))
