-- `put` writes an item into the first empty place, for every element type. Assumes `Logic`.
use mathlib.Core.Path.{◌≡◌, refl, sym, ap, subst, ◌∙◌}
use Prim.Native.Nat.{ℕ, ◌+◌, ◌-◌, ◌*◌, ◌<◌, ◌≤◌, ◌^◌}
use native.Mathlib.Omega.{arith}
use mathlib.Core.List.{List, [], ◌∷◌, ◌++◌}
use lib.ListN.{length, length-append}
use seplogic.Ra.Ura.{Ura}
use base.Fraction.{full_share}
use base.Logic.{SProp, ent, id⊢}
use base.Fml.{ftrue, fat, froom, flft}
use mir.Syntax.{Fn, w64}
use mir.MapTy.{inst_fn}
use mir.Val.{Val, vptr, vint, vunit}
use prog.Memory.{Memory}
use prog.Routine.{Routine}
use prog.Wp.{Env, WpFn, Tables}
use types.Logic.{Logic}
use contract.BorrowLft.{◌⊑◌}
use contract.Monad.{Fun, fact}
use contract.Running.{tables, tables_of}
use sound.WpLaws.{WpFn-mono}
use types.Kit.{‵, raw, ◌⊛◌, at_ret, ◌$◌, ◌∵◌, !, qed, move, keep, drop, use1, use2, split, join, rewrite, fsplit, fsplit3, fjoin, fjoin3, feq_i, feq_l, flt_l, suffices, done}
use types.Part.{whole, sub}
use types.Run.{init, stop, fld, size_lit, unit_lit, of_opd, bin, assigns_last, first, blocks, exec, returns, enter}
use types.ByLocal.{alloc_all, pass_all, free_all, look_at, get, get_in, through, sets, take_at, give_at, env}
use denote.Builtin.{usize}
use denote.Exit.{yes, no}
use denote.Memory.{part_at}
use denote.Param.{layout}
use denote.RattleType.{owns}
use denote.RawPtr.{Ptr}
use denote.Signature.{plain, types_at}
use denote.Steps.{heard, nothing}
use denote.Triple.Clauses.{Clauses, Ended, closing}
use denote.Triple.Spec.{Meets, triple_of}
use denote.Triple.Table.{entered}
use denote.Triple.Walked.{Stays, stay_dropped, stay_ref, walk_of, ends_at, Goes-dropped, Goes-ref, walk_Meets}
use Rattle.core.proofs.mem.Facts.{says_two}
use Rattle.core.proofs.mem.Param.{El, R, args, elτ}
use Rattle.core.proofs.ptr.Rows.{times_below, one_below, add_times}
use Rattle.core.proofs.slice.Rows.{el_in}
use Rattle.core.proofs.slots.Bodies.{after}
use Rattle.std_alloc.proofs.RcSteps.{word, word-Good}
use Rattle.ecow_block.proofs.Memory.{Rm, Bs, room_d, sz, Held, Spare, base_had, item_had, room_opens, room_closes}
use Rattle.ecow_block.proofs.Places.{spare_out, item_in}
use Rattle.ecow_block.specs.contracts.room.Room.put as F
use Rattle.ecow_block.specs.contracts.room.Room.put.Key.{name as #self}
use Rattle.ecow_block.proofs.room.Room.put.Statement.{statement}
use Rattle.ecow_block.proofs.room.Room.put.Code as code

module _ (E : El) where
  abbrev here : Fn
  here = inst_fn (args E) code.function

  abbrev ended : Ended
  ended = F.ended E.row

  abbrev stayed : Stays ended.signature.params ended.kept
  stayed = (
    stay_ref (0 ∷ []) tt (plain (λ _. Rm E)),
    (stay_dropped (plain (λ _. Bs E)) no, (stay_dropped (plain (λ _. usize)) yes, (stay_dropped (plain (λ _. R E)) no, tt))),
  )

  module _ {M : Type 1} {𝓤 : Ura M} (𝓛 : Logic 𝓤) (at_mem : Memory → SProp 𝓤) (run : Routine → Fun 𝓤) (𝓣 : Tables 𝓤 𝓛.H) where
    open 𝓛 use {H}

    abbrev held : Clauses 𝓤 ended
    held = F.clauses E.row 𝓛 at_mem run

    walk : (z : (walk_of 𝓛 ended stayed held).Ghost)
        → ent 𝓤 ((walk_of 𝓛 ended stayed held).pre z)
        (WpFn 𝓤 H 𝓣.C 𝓣.Λ here ((walk_of 𝓛 ended stayed held).args z) ((walk_of 𝓛 ended stayed held).post z))
    walk z =
        let κ = z.0.0.0 in let κ₁ = z.0.0.1.0 in let q = z.0.1.0 in let q₁ = z.0.1.1.0 in let a = z.0.3 in let vss = z.0.4 in
        let rb = a.0.ref_ptr.0 in let ro = a.0.ref_ptr.1 in let d : room_d E = a.0.now in let base = a.1.0 in let at = a.1.1.0 in let x = a.1.1.1.0 in
        let Post : Val → SProp 𝓤 = (walk_of 𝓛 ended stayed held).post z in
        let n = length d.items in let s = sz E in
        let Ok : Type 0 = (base.ptr ≡ d.at) × (at ≡ d.start + n) × (n < d.capacity) in
        qed 𝓛 (((‵ (flft κ q) ⊛ ‵ (flft κ₁ q₁) ⊛ ‵ ftrue) ⊛ ‵ (owns (types_at ended.signature.params z.0.0) a vss))
        ∷ (raw (fact 𝓤 (κ₁ ⊑ E.row.lives)) ⊛ raw (fact 𝓤 Ok)) ∷ []) ∵
        move ! (1 ∷ []) $ split ! $ drop ! $ heard ! Ok (λ ok. let roomy : n < d.capacity = ok.2 in
        split ! $ split ! $ move ! (2 ∷ []) $ fsplit ! $ fsplit3 ! $
        feq_l ! (λ e₀. move ! (2 ∷ []) $ fsplit ! $ base_had E ! base vss.1.0 (λ e₁. fsplit ! $ fsplit ! $ feq_l ! (λ e₂. flt_l ! (λ fits.
        fsplit ! $ item_had E ! x vss.1.1.1.0 (λ v e₃ good. keep ! (2 ∷ 3 ∷ 4 ∷ 0 ∷ 5 ∷ []) $
        let us : List Val = vptr rb ro ∷ word base.ptr ∷ vint w64 at ∷ v ∷ [] in
        let Run : List Val → SProp 𝓤 = λ ws. WpFn 𝓤 H 𝓣.C 𝓣.Λ here ws Post in
        suffices ! (Run us) (subst (λ (ws : List Val). ent 𝓤 (Run us) (Run ws)) (sym (λ k. e₀ k ++ (e₁ k ++ (e₂ k ++ (e₃ k ++ []))))) (id⊢ 𝓤 (Run us))) $
        enter ! 𝓣.C 𝓣.Λ here us Post $ alloc_all ! (λ l. pass_all ! refl ((tt, tt), (word-Good [] base.ptr, ((tt, record { fits = fits }), (good, tt)))) $
        let En : Env 𝓤 H = env here.locals l in
        room_opens E ! tt d rb ro (λ b o at_b small.
        let o' = o + d.start * s in
        let many : (0 < d.start + d.capacity) × (at ≤ d.start + d.capacity) = let eq = ok.1 in (omega arith, omega arith) in
        let tiny : s < 2 ^ 64 = let one = one_below (d.start + d.capacity) s (2 ^ 63) many.0 small in omega arith in
        let far : at * s < 2 ^ 64 = let below = times_below at (d.start + d.capacity) s (2 ^ 63) many.1 small in omega arith in
        let there : n * s + o' ≡ at * s + o = let eq = ap (λ k. k * s) ok.1 ∙ add_times d.start n s in omega arith in
        let new : room_d E =
        record {
          mark = d.mark;
          at = d.at;
          start = d.start;
          items = d.items ++ x ∷ [];
          capacity = d.capacity;
          within = omega (arith, length-append d.items (x ∷ []));
        } in
        take_at ! 2 $ rewrite ! 0 (λ (p : Ptr). ‵ (fat full_share (layout (Bs E)) (l 2) 0 (word p))) (ok.0 ∙ at_b) refl $ give_at ! 2 $
        move ! (1 ∷ []) $ use1 𝓛 (‵ (froom (elτ E) b (n * s + o')) ⊛ ‵ (Spare E b (o' + (n + 1) * s) (d.capacity - (n + 1))))
        (spare_out E 𝓛 b o' n d.capacity roomy) $ split ! $
        rewrite ! 0 (λ (k : ℕ). ‵ (froom (elτ E) b k)) there refl $
        -- [the room; the other empty places; the items; the mark's cell; the open borrow; obs; auth; what the item owns; the other token]
        first ! $ blocks ! $
        sets ! (bin ! (get ! refl) (size_lit ! (record { fits = tiny })) (record { fits = far })) refl (tt, record { fits = far }) $
        sets ! (bin ! (get_in ! (fld ! refl (stop !)) (sub ! 0 refl (whole !))) (get ! refl) tt) refl (tt, tt) $
        sets ! (of_opd ! (get ! refl)) refl good $ assigns_last ! (of_opd ! (get ! refl)) (through ! refl (stop !)) (init ! 0 refl good) $
        exec ! 𝓣.C 𝓣.Λ En (after 1 here.body) (at_ret En Post) $ sets ! (of_opd ! (unit_lit !)) refl (tt, tt) $
        move ! (0 ∷ 7 ∷ []) $ use2 𝓛 (‵ (part_at (R E) full_share x b (at * s + o))) (el_in E 𝓛 b x (at * s + o) v) $
        rewrite ! 0 (λ (k : ℕ). ‵ (part_at (R E) full_share x b k)) (sym there) refl $ move ! (2 ∷ 0 ∷ []) $
        use2 𝓛 (‵ (Held E b o' (d.items ++ x ∷ []))) (item_in E 𝓛 b o' d.items x) $
        rewrite ! 1 (λ (k : ℕ). ‵ (Spare E b (o' + k * s) (d.capacity - k))) (sym (length-append d.items (x ∷ []))) refl $
        room_closes E ! tt new b o rb ro at_b small $ returns ! (look_at ! 0 refl) $ free_all ! refl $
        suffices ! _ (ends_at 𝓛 ended stayed held z vunit tt (new, (tt, (tt, (tt, tt)))) (tt, (tt, (tt, (tt, tt))))) $
        says_two ! (refl, record { at = refl; start = refl; capacity = refl }) $
        feq_i ! (List Val) vss.0 (vptr rb ro ∷ []) e₀ $ fjoin3 ! $ nothing ! $ nothing ! $ fjoin ! $
        nothing ! $ fjoin ! $ nothing ! $ fjoin ! $ move ! (1 ∷ 0 ∷ []) $ fjoin ! $
        move ! (1 ∷ 2 ∷ []) $ join ! $ feq_i ! (List Val) (vunit ∷ []) (vunit ∷ []) refl $ keep ! (1 ∷ 2 ∷ 0 ∷ []) $ done !))))))))

    meets : Meets 𝓛 ended.signature (WpFn 𝓤 H 𝓣.C 𝓣.Λ here) (closing 𝓛 ended held)
    meets =
        walk_Meets 𝓛 ended stayed (
          Goes-ref 𝓛 2 0 tt (plain (λ _. Rm E)),
          (
            Goes-dropped 𝓛 2 (plain (λ _. Bs E)) no (λ κs x f. refl),
            (Goes-dropped 𝓛 2 (plain (λ _. usize)) yes (λ κs x f. refl), (Goes-dropped 𝓛 2 (plain (λ _. R E)) no (λ κs x f. refl), tt)),
          ),
        ) held
        (WpFn 𝓤 H 𝓣.C 𝓣.Λ here) (WpFn-mono 𝓤 H 𝓛.laws 𝓣 here) walk

pub put_spec : {M : Type 1} → statement M
unfolding tables_of
put_spec 𝓤 𝓛 𝓜 𝓡 wired X L =
    let E : El = record { row = X; laws = L } in
    let 𝓣 : Tables 𝓤 𝓛.H = tables_of 𝓤 𝓛.H 𝓜 (tables 𝓤 𝓛.H 𝓜 𝓡 𝓡.env) in
    entered 𝓤 𝓛.H (triple_of 𝓛 (F.signature X) (F.spec X 𝓛 𝓜.mem 𝓡.returns)) 𝓣.C 𝓣.Λ (#self (args E)) (here E) (code.unfolded 𝓤 𝓛.H 𝓜 𝓡 wired (X, tt))
    (meets E 𝓛 𝓜.mem 𝓡.returns 𝓣)
