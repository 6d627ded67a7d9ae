-- `nowhere` makes a block of nothing, for elements that take no bytes. Assumes `Logic`.
use mathlib.Core.Path.{◌≡◌, refl, sym, subst}
use mathlib.Core.Bool.{Bool, false}
use Prim.Native.Nat.{ℕ, ◌*◌, ◌<◌, ◌^◌}
use native.Mathlib.Omega.{arith}
use mathlib.Core.List.{List, [], ◌∷◌, ◌++◌}
use seplogic.Ra.Ura.{Ura}
use base.Logic.{SProp, ent, id⊢}
use base.Fml.{ftrue, flft}
use mir.Syntax.{Fn, w64}
use mir.MapTy.{inst_fn}
use mir.Val.{Val, vptr, vint}
use prog.Memory.{Memory}
use prog.Routine.{Routine}
use prog.Wp.{WpFn, Tables}
use types.Logic.{Logic}
use contract.BorrowLft.{◌⊑◌}
use contract.Monad.{Fun, fact}
use contract.Running.{tables, tables_of}
use sound.WpLaws.{WpFn-mono}
use types.Kit.{‵, raw, ◌⊛◌, ◌$◌, ◌∵◌, !, qed, move, keep, drop, use0, use3, split, join, rewrite, fsplit, fjoin, feq_l, flt_l, suffices, done}
use types.Part.{agg}
use types.Run.{from, stop, addr, and_then, no_more, returns, enter}
use types.ByLocal.{alloc_all, pass_all, free_all, look_at, get, sets}
use denote.Builtin.{usize, RefOf}
use denote.Exit.{yes}
use denote.RattleType.{RattleType, owns}
use denote.RawPtr.{Ptr, block_ptr}
use denote.Signature.{plain, types_at}
use denote.Steps.{heard, nothing}
use denote.Struct.Tuple.{Tuple}
use denote.Triple.Clauses.{Clauses, Ended, closing}
use denote.Triple.Spec.{Meets, triple_of}
use denote.Triple.Table.{entered}
use denote.Triple.Walked.{says, Stays, stay_dropped, walk_of, ends_at, Goes-dropped, walk_Meets}
use Rattle.core.proofs.mem.Param.{El, R}
use Rattle.std_alloc.proofs.RcSteps.{word, word-Good}
use Rattle.ecow_block.proofs.Memory.{Rm, Bs, sz, Spare, mark, room_made}
use Rattle.core.proofs.alloc.Calls.{Al, token}
use Rattle.core.proofs.slots.Leases.{block_ty, args, P}
use Rattle.std.specs.Vec.Ownership.{owns_if}
use Rattle.ecow_block.specs.Ownership.{has_bytes}
use Rattle.ecow_block.proofs.Deeds.{Dd, no_bytes, three_val, three_of, base_made, deed_made, fresh, fresh_small, all_fresh, no_bytes_room}
use Rattle.ecow_block.specs.contracts.room.heap.nowhere as F
use Rattle.ecow_block.specs.contracts.room.heap.nowhere.Key.{name as #self}
use Rattle.ecow_block.proofs.room.heap.nowhere.Statement.{statement}
use Rattle.ecow_block.proofs.room.heap.nowhere.Code as code

module _ (E : El) (Z : Al) where
  abbrev here : Fn
  here = inst_fn (args E Z) code.function

  abbrev ended : Ended
  ended = F.ended E.row Z.row Z.g Z.d Z.drops

  abbrev stayed : Stays ended.signature.params ended.kept
  stayed = (stay_dropped (RefOf (0 ∷ []) tt (plain (λ _. P E Z)) (λ _. tt)) yes, (stay_dropped (plain (λ _. usize)) yes, tt))

  abbrev Three : RattleType
  Three = Tuple (Bs E ∷ Rm E ∷ Dd E Z ∷ [])

  abbrev deed_at : Z.row.Denot → ℕ → ℕ → ℕ → (Dd E Z).Denot
  deed_at a b o c = record { mark = record {}; at = block_ptr b o; capacity = c; alloc = a }

  abbrev block : Z.row.Denot → ℕ → ℕ → ℕ → Three.Denot
  block a b o c = (record { ptr = block_ptr b o }, fresh E b o c, deed_at a b o c)

  module _ {M : Type 1} {𝓤 : Ura M} (𝓛 : Logic 𝓤) (at_mem : Memory → SProp 𝓤) (run : Routine → Fun 𝓤) (𝓣 : Tables 𝓤 𝓛.H) where
    open 𝓛 use {H}

    abbrev held : Clauses 𝓤 ended
    held = F.clauses E.row Z.row Z.g Z.d Z.drops 𝓛 at_mem run

    walk : (z : (walk_of 𝓛 ended stayed held).Ghost)
        → ent 𝓤 ((walk_of 𝓛 ended stayed held).pre z)
        (WpFn 𝓤 H 𝓣.C 𝓣.Λ here ((walk_of 𝓛 ended stayed held).args z) ((walk_of 𝓛 ended stayed held).post z))
    walk z =
        let κ = z.0.0.0 in let κ₁ = z.0.0.1.0 in let κ₂ = z.0.0.1.1.0 in let q = z.0.1.0 in
        let q₁ = z.0.1.1.0 in let q₂ = z.0.1.1.1.0 in let args = z.0.3 in let vss = z.0.4 in
        let hp = args.0.ref_ptr in let a = args.0.now in let c = args.1.0 in let s = sz E in
        let Post : Val → SProp 𝓤 = (walk_of 𝓛 ended stayed held).post z in
        let Asked : Type 0 = has_bytes (R E) c ≡ false in
        qed 𝓛 (((‵ (flft κ q) ⊛ ‵ (flft κ₁ q₁) ⊛ ‵ (flft κ₂ q₂) ⊛ ‵ ftrue) ⊛ ‵ (owns (types_at ended.signature.params z.0.0) args vss))
        ∷ (raw (fact 𝓤 (κ₁ ⊑ E.row.lives)) ⊛ raw (fact 𝓤 (κ₂ ⊑ Z.row.lives)) ⊛ raw (fact 𝓤 Asked)) ∷ []) ∵
        move ! (1 ∷ []) $ split ! $ drop ! $ split ! $ drop ! $ heard ! Asked (λ ok.
        let none : c * s ≡ 0 = no_bytes (c * s) ok in
        let small : c * s < 2 ^ 63 = omega arith in
        split ! $ split ! $ move ! (2 ∷ []) $ fsplit ! $ fsplit ! $
        feq_l ! (λ e₀. move ! (1 ∷ []) $ fsplit ! $ fsplit ! $ feq_l ! (λ e₁. flt_l ! (λ fits. keep ! (2 ∷ 3 ∷ []) $
        let us : List Val = vptr hp.0 hp.1 ∷ vint w64 c ∷ [] in
        let Run : List Val → SProp 𝓤 = λ ws. WpFn 𝓤 H 𝓣.C 𝓣.Λ here ws Post in
        suffices ! (Run us) (subst (λ (ws : List Val). ent 𝓤 (Run us) (Run ws)) (sym (λ k. e₀ k ++ (e₁ k ++ []))) (id⊢ 𝓤 (Run us))) $
        enter ! 𝓣.C 𝓣.Λ here us Post $ alloc_all ! (λ l. pass_all ! refl ((tt, tt), ((tt, record { fits = fits }), tt)) $
        let b = l 3 in let p : Ptr = block_ptr b 0 in let made : Val = three_val (word p) mark mark in let Mine = fresh E b 0 c in
        sets ! (agg ! (no_more !)) refl (tt, tt) $ sets ! (addr ! (from ! (stop !))) refl (tt, tt) $
        sets ! (agg ! (and_then ! (get ! refl) (no_more !))) refl (word-Good [] p) $
        sets ! (agg ! (no_more !)) refl (tt, tt) $ sets ! (agg ! (and_then ! (get ! refl) (no_more !))) refl (tt, (tt, tt)) $
        sets ! (agg ! (no_more !)) refl (tt, tt) $ sets ! (agg ! (and_then ! (get ! refl) (no_more !))) refl (tt, (tt, tt)) $
        sets ! (agg ! (and_then ! (get ! refl) (and_then ! (get ! refl) (and_then ! (get ! refl) (no_more !))))) refl
        (tt, ((tt, tt), ((tt, tt), ((tt, tt), tt)))) $
        returns ! (look_at ! 0 refl) $ free_all ! refl $
        -- [the token; the other tokens]
        nothing ! $ rewrite ! 0 (λ (w : Bool). ‵ (owns_if w (token Z a (block_ty E c) p))) (sym ok) refl $ deed_made E Z ! (deed_at a b 0 c) $
        use0 𝓛 (‵ (Spare E b 0 c)) (no_bytes_room E 𝓛 b 0 c none) $ all_fresh E b 0 c ! $
        room_made E ! Mine b 0 refl (fresh_small E b 0 c small) $ base_made E ! p $
        use3 𝓛 (‵ (Three.own_val (block a b 0 c) (made ∷ [])))
        (three_of 𝓛 (Bs E) (Rm E) (Dd E Z) (record { ptr = p }) Mine (deed_at a b 0 c) (word p) mark mark) $
        suffices ! _ (ends_at 𝓛 ended stayed held z made (block a b 0 c) (tt, (tt, tt)) (tt, (tt, tt))) $
        says ! (record { at = refl; start = refl; deed_at = refl; deed_capacity = refl; deed_alloc = refl }, refl, refl) $
        move ! (1 ∷ 2 ∷ []) $ join ! $ nothing ! $ nothing ! $ fjoin ! $ nothing ! $ fjoin ! $ keep ! (1 ∷ 0 ∷ 2 ∷ []) $ done !)))))

    meets : Meets 𝓛 ended.signature (WpFn 𝓤 H 𝓣.C 𝓣.Λ here) (closing 𝓛 ended held)
    meets =
        walk_Meets 𝓛 ended stayed (
          Goes-dropped 𝓛 3 (RefOf (0 ∷ []) tt (plain (λ _. P E Z)) (λ _. tt)) yes
              (λ κs x f. refl),
          (Goes-dropped 𝓛 3 (plain (λ _. usize)) yes (λ κs x f. refl), tt),
        ) held
        (WpFn 𝓤 H 𝓣.C 𝓣.Λ here) (WpFn-mono 𝓤 H 𝓛.laws 𝓣 here) walk

pub nowhere_spec : {M : Type 1} → statement M
unfolding tables_of
nowhere_spec 𝓤 𝓛 𝓜 𝓡 wired X Y LX LY g d dd met md =
    let E : El = record { row = X; laws = LX } in let Z : Al = record { row = Y; laws = LY; g = g; d = d; drops = dd } in
    let 𝓣 : Tables 𝓤 𝓛.H = tables_of 𝓤 𝓛.H 𝓜 (tables 𝓤 𝓛.H 𝓜 𝓡 𝓡.env) in
    entered 𝓤 𝓛.H (triple_of 𝓛 (ended E Z).signature (F.spec X Y g d dd 𝓛 𝓜.mem 𝓡.returns)) 𝓣.C 𝓣.Λ
    (#self (args E Z)) (here E Z) (code.unfolded 𝓤 𝓛.H 𝓜 𝓡 wired (X, (Y, tt)) d dd)
    (meets E Z 𝓛 𝓜.mem 𝓡.returns 𝓣)
