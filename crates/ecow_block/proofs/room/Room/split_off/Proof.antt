-- `split_off` cuts a room in two, and does nothing when the program runs, for every element type. Assumes `Logic`.
use mathlib.Core.Path.{◌≡◌, refl, sym, subst}
use Prim.Native.Nat.{◌+◌, ◌-◌, ◌*◌, ◌≤◌, ◌<◌, ◌^◌}
use native.Mathlib.Omega.{arith}
use mathlib.Core.List.{List, [], ◌∷◌, ◌++◌}
use lib.ListN.{length, take, length-drop}
use seplogic.Ra.Ura.{Ura}
use base.Logic.{SProp, ent, id⊢}
use base.Fml.{ftrue, flft}
use mir.Syntax.{Fn, w64}
use mir.MapTy.{inst_fn}
use mir.Val.{Val, vptr, vint}
use prog.Memory.{Memory}
use prog.Routine.{Routine}
use prog.Wp.{WpFn, Tables}
use types.Logic.{Logic}
use contract.BorrowLft.{◌⊑◌}
use contract.Monad.{Fun, fact}
use contract.Running.{tables, tables_of}
use sound.WpLaws.{WpFn-mono}
use types.Kit.{‵, raw, ◌⊛◌, ◌$◌, ◌∵◌, !, qed, move, keep, drop, use2, split, join, fsplit, fsplit3, fjoin, fjoin3, feq_i, feq_l, flt_l, suffices, done}
use types.Part.{agg}
use types.Run.{and_then, no_more, returns, enter}
use types.ByLocal.{alloc_all, pass_all, free_all, look_at, get, sets}
use denote.Builtin.{usize}
use denote.Exit.{yes}
use denote.RattleType.{owns}
use denote.Signature.{plain, types_at}
use denote.Steps.{heard, nothing}
use denote.Triple.Clauses.{Clauses, Ended, closing}
use denote.Triple.Spec.{Meets, triple_of}
use denote.Triple.Table.{entered}
use denote.Triple.Walked.{Stays, stay_dropped, stay_ref, walk_of, ends_at, Goes-dropped, Goes-ref, walk_Meets}
use Rattle.core.proofs.mem.Param.{El, args}
use Rattle.core.proofs.ptr.Rows.{times_below, add_times}
use Rattle.core.proofs.slots.Bodies.{says_four}
use Rattle.ecow_block.proofs.Memory.{Rm, room_d, sz, Held, Spare, Small, mark, room_made, room_opens, room_closes}
use lib.ListN.{drop as drop_l, length-take}
use Rattle.ecow_block.proofs.Places.{cut_room}
use Rattle.ecow_block.specs.contracts.room.Room.split_off as F
use Rattle.ecow_block.specs.contracts.room.Room.split_off.Key.{name as #self}
use Rattle.ecow_block.proofs.room.Room.split_off.Statement.{statement}
use Rattle.ecow_block.proofs.room.Room.split_off.Code as code

module _ (E : El) where
  abbrev here : Fn
  here = inst_fn (args E) code.function

  abbrev ended : Ended
  ended = F.ended E.row

  abbrev stayed : Stays ended.signature.params ended.kept
  stayed = (stay_ref (0 ∷ []) tt (plain (λ _. Rm E)), (stay_dropped (plain (λ _. usize)) yes, tt))

  module _ {M : Type 1} {𝓤 : Ura M} (𝓛 : Logic 𝓤) (at_mem : Memory → SProp 𝓤) (run : Routine → Fun 𝓤) (𝓣 : Tables 𝓤 𝓛.H) where
    open 𝓛 use {H}

    abbrev held : Clauses 𝓤 ended
    held = F.clauses E.row 𝓛 at_mem run

    walk : (z : (walk_of 𝓛 ended stayed held).Ghost)
        → ent 𝓤 ((walk_of 𝓛 ended stayed held).pre z)
        (WpFn 𝓤 H 𝓣.C 𝓣.Λ here ((walk_of 𝓛 ended stayed held).args z) ((walk_of 𝓛 ended stayed held).post z))
    walk z =
        let κ = z.0.0.0 in let κ₁ = z.0.0.1.0 in let q = z.0.1.0 in let q₁ = z.0.1.1.0 in let a = z.0.3 in let vss = z.0.4 in
        let rb = a.0.ref_ptr.0 in let ro = a.0.ref_ptr.1 in let d : room_d E = a.0.now in
        let Post : Val → SProp 𝓤 = (walk_of 𝓛 ended stayed held).post z in
        let k = a.1.0 in let xs = d.items in let n = length xs in let s = sz E in let c = d.capacity in
        let Ok : Type 0 = k ≤ c in
        qed 𝓛 (((‵ (flft κ q) ⊛ ‵ (flft κ₁ q₁) ⊛ ‵ ftrue) ⊛ ‵ (owns (types_at ended.signature.params z.0.0) a vss))
        ∷ (raw (fact 𝓤 (κ₁ ⊑ E.row.lives)) ⊛ raw (fact 𝓤 Ok)) ∷ []) ∵
        move ! (1 ∷ []) $ split ! $ drop ! $ heard ! Ok (λ ok.
        let left = take k xs in let right = drop_l k xs in
        let on_left = length-take k xs in let on_right : length right ≡ n - k = length-drop k xs in let fits_in : n ≤ c = d.within in
        let kept : room_d E = record { mark = d.mark; at = d.at; start = d.start; items = left; capacity = k; within = omega arith } in
        let rest : room_d E = record { mark = d.mark; at = d.at; start = d.start + k; items = right; capacity = c - k; within = omega arith } in
        split ! $ split ! $ move ! (2 ∷ []) $ fsplit ! $ fsplit3 ! $
        feq_l ! (λ e₀. move ! (2 ∷ []) $ fsplit ! $ fsplit ! $ feq_l ! (λ e₁. flt_l ! (λ fits. keep ! (1 ∷ 2 ∷ 3 ∷ 4 ∷ []) $
        let us : List Val = vptr rb ro ∷ vint w64 k ∷ [] in
        let Run : List Val → SProp 𝓤 = λ ws. WpFn 𝓤 H 𝓣.C 𝓣.Λ here ws Post in
        suffices ! (Run us) (subst (λ (ws : List Val). ent 𝓤 (Run us) (Run ws)) (sym (λ j. e₀ j ++ (e₁ j ++ []))) (id⊢ 𝓤 (Run us))) $
        enter ! 𝓣.C 𝓣.Λ here us Post $ alloc_all ! (λ l. pass_all ! refl ((tt, tt), ((tt, record { fits = fits }), tt)) $
        room_opens E ! tt d rb ro (λ b o at_b small.
        let o' = o + d.start * s in let at = o + (d.start + k) * s in
        let begins : at ≡ o' + k * s = let eq = add_times d.start k s in omega arith in
        let small_left : Small E kept = times_below (d.start + k) (d.start + c) s (2 ^ 63) (omega arith) small in
        let small_right : Small E rest = let all : d.start + k + (c - k) ≡ d.start + c = omega arith in subst (λ j. j * s < 2 ^ 63) (sym all) small in
        use2 𝓛 ((‵ (Held E b o' left) ⊛ ‵ (Spare E b (o' + length left * s) (k - length left)))
        ⊛ (‵ (Held E b at right) ⊛ ‵ (Spare E b (at + length right * s) (c - k - length right))))
        (cut_room E 𝓛 b o' at k c xs begins fits_in ok) $
        split ! $ move ! (1 ∷ []) $ split ! $ room_made E ! rest b o at_b small_right $ move ! (1 ∷ []) $ split ! $
        -- [the items kept; the empty places kept; the rest; the mark's cell; the open borrow; obs; auth; the other token]
        move ! (0 ∷ 1 ∷ 3 ∷ 4 ∷ 5 ∷ 6 ∷ []) $ room_closes E ! tt kept b o rb ro at_b small_left $
        sets ! (agg ! (no_more !)) refl (tt, tt) $ sets ! (agg ! (and_then ! (get ! refl) (no_more !))) refl (tt, (tt, tt)) $
        returns ! (look_at ! 0 refl) $ free_all ! refl $
        -- [obs; the borrow; the token; the rest; the other token]
        suffices ! _ (ends_at 𝓛 ended stayed held z mark rest (kept, (tt, tt)) (tt, (tt, tt))) $
        says_four ! ((refl, refl, refl), refl, (refl, refl, omega arith), refl) $
        feq_i ! (List Val) vss.0 (vptr rb ro ∷ []) e₀ $ fjoin3 ! $ nothing ! $ nothing ! $ fjoin ! $ move ! (1 ∷ 0 ∷ []) $ fjoin ! $
        move ! (1 ∷ 3 ∷ []) $ join ! $ keep ! (0 ∷ 1 ∷ 2 ∷ []) $ done !))))))

    meets : Meets 𝓛 ended.signature (WpFn 𝓤 H 𝓣.C 𝓣.Λ here) (closing 𝓛 ended held)
    meets =
        walk_Meets 𝓛 ended stayed (Goes-ref 𝓛 2 0 tt (plain (λ _. Rm E)), (Goes-dropped 𝓛 2 (plain (λ _. usize)) yes (λ κs x f. refl), tt)) held
        (WpFn 𝓤 H 𝓣.C 𝓣.Λ here) (WpFn-mono 𝓤 H 𝓛.laws 𝓣 here) walk

pub split_off_spec : {M : Type 1} → statement M
unfolding tables_of
split_off_spec 𝓤 𝓛 𝓜 𝓡 wired X L =
    let E : El = record { row = X; laws = L } in
    let 𝓣 : Tables 𝓤 𝓛.H = tables_of 𝓤 𝓛.H 𝓜 (tables 𝓤 𝓛.H 𝓜 𝓡 𝓡.env) in
    entered 𝓤 𝓛.H (triple_of 𝓛 (F.signature X) (F.spec X 𝓛 𝓜.mem 𝓡.returns)) 𝓣.C 𝓣.Λ (#self (args E)) (here E) (code.unfolded 𝓤 𝓛.H 𝓜 𝓡 wired (X, tt))
    (meets E 𝓛 𝓜.mem 𝓡.returns 𝓣)
