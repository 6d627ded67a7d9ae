-- `take_last_one` reads the last item out of its place as an array, for every element type. Assumes `Logic`.
use mathlib.Core.Path.{◌≡◌, refl, sym, ap, subst, ◌∙◌}
use Prim.Native.Nat.{ℕ, ◌+◌, ◌-◌, ◌*◌, ◌<◌, ◌≤◌, ◌^◌}
use native.Mathlib.Omega.{arith}
use mathlib.Core.List.{List, [], ◌∷◌, ◌++◌}
use lib.ListN.{length, length-append}
use seplogic.Ra.Ura.{Ura}
use base.Fraction.{full_share}
use base.Logic.{SProp, ent, id⊢}
use base.Fml.{ftrue, fat, flft}
use mir.Syntax.{Fn, Ty, w64, ty_array}
use mir.MapTy.{inst_fn}
use lib.Dec.{T}
use mir.Val.{Val, WT, has_ty, vptr, vint}
use prog.Memory.{Memory}
use prog.Routine.{Routine}
use prog.Wp.{Env, WpFn, Tables}
use types.Logic.{Logic}
use contract.BorrowLft.{◌⊑◌}
use contract.Monad.{Fun, fact}
use contract.Running.{tables, tables_of}
use sound.WpLaws.{WpFn-mono}
use types.Kit.{‵, raw, ◌⊛◌, some, pick, at_ret, ◌$◌, ◌∵◌, !, qed, move, keep, drop, use1, use2, split, split3, join, rewrite, fsplit, fsplit3, fjoin, fjoin3, feq_i, feq_l, flt_l, suffices, done}
use types.Part.{whole, sub}
use types.Run.{look, forget, stop, fld, load, size_lit, of_opd, bin, first, blocks, exec, returns, enter}
use types.ByLocal.{alloc_all, pass_all, free_all, look_at, get, get_in, through, sets, sets_last, take_at, give_at, env}
use denote.Array.{Array}
use denote.Builtin.{usize}
use denote.Exit.{yes, no}
use denote.Laws.{Is, shows}
use denote.Param.{layout}
use denote.Param.Laws.{array_laws, param_laws}
use denote.RattleType.{RattleType, owns}
use denote.RawPtr.{Ptr}
use denote.Signature.{plain, types_at}
use denote.Steps.{heard, nothing, peeks}
use denote.Triple.Clauses.{Clauses, Ended, closing}
use denote.Triple.Spec.{Meets, triple_of}
use denote.Triple.Table.{entered}
use denote.Triple.Walked.{Stays, stay_dropped, stay_ref, walk_of, ends_at, Goes-dropped, Goes-ref, walk_Meets}
use borrow.Table.OneValue.{part_out}
use Rattle.core.proofs.mem.Facts.{says_three}
use Rattle.core.proofs.mem.Param.{El, R, args, el_x, elτ}
use Rattle.core.proofs.ptr.Rows.{times_below, one_below, add_times}
use Rattle.core.proofs.slots.Bodies.{after}
use Rattle.std_alloc.proofs.RawLayout.{as_raw}
use Rattle.std_alloc.proofs.RcSteps.{word, word-Good}
use Rattle.ecow_block.proofs.Memory.{Rm, Bs, room_d, sz, Held, Spare, base_had, room_opens, room_closes}
use Rattle.ecow_block.proofs.Places.{last_of, cut, spare_glue}
use Rattle.ecow_block.specs.contracts.room.Room.take_last_one as F
use Rattle.ecow_block.specs.contracts.room.Room.take_last_one.Key.{name as #self}
use Rattle.ecow_block.proofs.room.Room.take_last_one.Statement.{statement}
use Rattle.ecow_block.proofs.room.Room.take_last_one.Code as code

module _ (E : El) where
  abbrev here : Fn
  here = inst_fn (args E) code.function

  -- the item
  abbrev Arr : RattleType
  Arr = Array (R E) 1

  abbrev arr : Ty
  arr = ty_array (elτ E) 1

  abbrev ended : Ended
  ended = F.ended E.row

  abbrev stayed : Stays ended.signature.params ended.kept
  stayed = (stay_ref (0 ∷ []) tt (plain (λ _. Rm E)), (stay_dropped (plain (λ _. Bs E)) no, (stay_dropped (plain (λ _. usize)) yes, tt)))

  module _ {M : Type 1} {𝓤 : Ura M} (𝓛 : Logic 𝓤) (at_mem : Memory → SProp 𝓤) (run : Routine → Fun 𝓤) (𝓣 : Tables 𝓤 𝓛.H) where
    open 𝓛 use {H}

    abbrev held : Clauses 𝓤 ended
    held = F.clauses E.row 𝓛 at_mem run

    walk : (z : (walk_of 𝓛 ended stayed held).Ghost)
        → ent 𝓤 ((walk_of 𝓛 ended stayed held).pre z)
        (WpFn 𝓤 H 𝓣.C 𝓣.Λ here ((walk_of 𝓛 ended stayed held).args z) ((walk_of 𝓛 ended stayed held).post z))
    walk z =
        let κ = z.0.0.0 in let κ₁ = z.0.0.1.0 in let q = z.0.1.0 in let q₁ = z.0.1.1.0 in let a = z.0.3 in let vss = z.0.4 in
        let rb = a.0.ref_ptr.0 in let ro = a.0.ref_ptr.1 in let d : room_d E = a.0.now in let base = a.1.0 in let at = a.1.1.0 in
        let Post : Val → SProp 𝓤 = (walk_of 𝓛 ended stayed held).post z in
        let n = length d.items in let s = sz E in let c = d.capacity in
        let Ok : Type 0 = (base.ptr ≡ d.at) × (at + 1 ≡ d.start + n) × (0 < n) in
        qed 𝓛 (((‵ (flft κ q) ⊛ ‵ (flft κ₁ q₁) ⊛ ‵ ftrue) ⊛ ‵ (owns (types_at ended.signature.params z.0.0) a vss))
        ∷ (raw (fact 𝓤 (κ₁ ⊑ E.row.lives)) ⊛ raw (fact 𝓤 (1 * s < 2 ^ 63)) ⊛ raw (fact 𝓤 Ok)) ∷ []) ∵
        move ! (1 ∷ []) $ split3 ! $ drop ! $ drop ! $ heard ! Ok (λ ok.
        let got = last_of d.items ok.2 in let ys = got.0.0 in let x = got.0.1 in let m = length ys in
        let count : n ≡ m + 1 = ap length got.1 ∙ length-append ys (x ∷ []) in let fits_in : n ≤ c = d.within in
        split ! $ split ! $ move ! (2 ∷ []) $ fsplit ! $ fsplit3 ! $
        feq_l ! (λ e₀. move ! (2 ∷ []) $ fsplit ! $ base_had E ! base vss.1.0 (λ e₁. fsplit ! $ fsplit ! $ feq_l ! (λ e₂. flt_l ! (λ fits.
        keep ! (1 ∷ 2 ∷ 3 ∷ 4 ∷ []) $
        let us : List Val = vptr rb ro ∷ word base.ptr ∷ vint w64 at ∷ [] in
        let Run : List Val → SProp 𝓤 = λ ws. WpFn 𝓤 H 𝓣.C 𝓣.Λ here ws Post in
        suffices ! (Run us) (subst (λ (ws : List Val). ent 𝓤 (Run us) (Run ws)) (sym (λ k. e₀ k ++ (e₁ k ++ (e₂ k ++ [])))) (id⊢ 𝓤 (Run us))) $
        enter ! 𝓣.C 𝓣.Λ here us Post $ alloc_all ! (λ l. pass_all ! refl ((tt, tt), (word-Good [] base.ptr, ((tt, record { fits = fits }), tt))) $
        let En : Env 𝓤 H = env here.locals l in
        room_opens E ! tt d rb ro (λ b o at_b small.
        let o' = o + d.start * s in
        let many : (0 < d.start + c) × (at ≤ d.start + c) = let eq = ok.1 in let some = ok.2 in (omega arith, omega arith) in
        let tiny : s < 2 ^ 64 = let one = one_below (d.start + c) s (2 ^ 63) many.0 small in omega arith in
        let far : at * s < 2 ^ 64 = let below = times_below at (d.start + c) s (2 ^ 63) many.1 small in omega arith in
        let is : at ≡ d.start + m = let eq = ok.1 in omega arith in
        let there : o' + m * s ≡ at * s + o = let eq = ap (λ k. k * s) is ∙ add_times d.start m s in omega arith in
        let next : o' + (m + 1) * s ≡ o' + m * s + 1 * s = let eq = add_times m 1 s in omega arith in let more : 1 + (c - (m + 1)) ≡ c - m = omega arith in
        let new : room_d E = record { mark = d.mark; at = d.at; start = d.start; items = ys; capacity = c; within = omega arith } in
        take_at ! 2 $ rewrite ! 0 (λ (p : Ptr). ‵ (fat full_share (layout (Bs E)) (l 2) 0 (word p))) (ok.0 ∙ at_b) refl $ give_at ! 2 $
        rewrite ! 0 (λ (zs : List (el_x E)). ‵ (Held E b o' zs)) got.1 refl $ rewrite ! 1 (λ (k : ℕ). ‵ (Spare E b (o' + k * s) (c - k))) count refl $
        use1 𝓛 (‵ (Held E b o' ys) ⊛ ‵ (Held E b (at * s + o) (x ∷ []))) (cut E 𝓛 b o' (at * s + o) ys (x ∷ []) (sym there)) $ split ! $ move ! (1 ∷ []) $
        use1 𝓛 (some (λ (v : Val). ‵ (fat full_share arr b (at * s + o) v) ⊛ ‵ (Arr.own_val (x ∷ []) (v ∷ []))))
        (part_out 𝓛 Arr refl full_share (x ∷ []) b (at * s + o)) $ pick ! (λ v. split ! $ move ! (1 ∷ []) $
        peeks ! Arr (Is Arr) (shows 𝓛 Arr) (x ∷ []) (v ∷ [])
        (λ is. let good : T (has_ty arr v)
        × WT v = (((array_laws (R E) (param_laws 0 E.row E.laws) 1).lawful 𝓛).typed (x ∷ []) (v ∷ []) is).0 in move ! (1 ∷ 0 ∷ []) $
        -- [the item's cell; what it owns; the others; the empty places; the mark's cell; the open borrow; obs; auth; the other token]
        first ! $ blocks ! $
        sets ! (bin ! (get ! refl) (size_lit ! (record { fits = tiny })) (record { fits = far })) refl (tt, record { fits = far }) $
        sets ! (bin ! (get_in ! (fld ! refl (stop !)) (sub ! 0 refl (whole !))) (get ! refl) tt) refl (tt, tt) $
        sets_last ! (of_opd ! (load ! (through ! refl (stop !)) (look ! 0 refl))) refl good $
        exec ! 𝓣.C 𝓣.Λ En (after 1 here.body) (at_ret En Post) $ sets ! (of_opd ! (get ! refl)) refl good $
        forget ! 0 refl $ as_raw ! arr b (at * s + o) $ rewrite ! 0 (λ (k : ℕ). ‵ (Spare E b k 1)) (sym there) refl $ move ! (0 ∷ 3 ∷ []) $
        use2 𝓛 (‵ (Spare E b (o' + m * s) (1 + (c - (m + 1))))) (spare_glue E 𝓛 b (o' + m * s) (o' + (m + 1) * s) 1 (c - (m + 1)) next) $
        rewrite ! 0 (λ (k : ℕ). ‵ (Spare E b (o' + m * s) k)) more refl $ move ! (2 ∷ 0 ∷ 3 ∷ 4 ∷ 5 ∷ 6 ∷ []) $
        room_closes E ! tt new b o rb ro at_b small $ returns ! (look_at ! 0 refl) $ free_all ! refl $
        -- [obs; the borrow; the token; what the item owns; the other token]
        suffices ! _ (ends_at 𝓛 ended stayed held z v (x ∷ []) (new, (tt, (tt, tt))) (tt, (tt, (tt, tt)))) $
        says_three ! (got.1, refl, record { at = refl; start = refl; capacity = refl }) $
        feq_i ! (List Val) vss.0 (vptr rb ro ∷ []) e₀ $ fjoin3 ! $ nothing ! $ nothing ! $ fjoin ! $ nothing ! $ fjoin ! $ move ! (1 ∷ 0 ∷ []) $ fjoin ! $
        move ! (1 ∷ 3 ∷ []) $ join ! $ keep ! (0 ∷ 1 ∷ 2 ∷ []) $ done !)))))))))

    meets : Meets 𝓛 ended.signature (WpFn 𝓤 H 𝓣.C 𝓣.Λ here) (closing 𝓛 ended held)
    meets =
        walk_Meets 𝓛 ended stayed (
          Goes-ref 𝓛 2 0 tt (plain (λ _. Rm E)),
          (Goes-dropped 𝓛 2 (plain (λ _. Bs E)) no (λ κs x f. refl), (Goes-dropped 𝓛 2 (plain (λ _. usize)) yes (λ κs x f. refl), tt)),
        ) held
        (WpFn 𝓤 H 𝓣.C 𝓣.Λ here) (WpFn-mono 𝓤 H 𝓛.laws 𝓣 here) walk

pub take_last_one_spec : {M : Type 1} → statement M
unfolding tables_of
take_last_one_spec 𝓤 𝓛 𝓜 𝓡 wired X L =
    let E : El = record { row = X; laws = L } in
    let 𝓣 : Tables 𝓤 𝓛.H = tables_of 𝓤 𝓛.H 𝓜 (tables 𝓤 𝓛.H 𝓜 𝓡 𝓡.env) in
    entered 𝓤 𝓛.H (triple_of 𝓛 (F.signature X) (F.spec X 𝓛 𝓜.mem 𝓡.returns)) 𝓣.C 𝓣.Λ (#self (args E)) (here E) (code.unfolded 𝓤 𝓛.H 𝓜 𝓡 wired (X, tt))
    (meets E 𝓛 𝓜.mem 𝓡.returns 𝓣)
