-- `widen` puts empty places behind a room, and does nothing when the program runs, for every element type. Assumes `Logic`.
use mathlib.Core.Path.{◌≡◌, refl, sym, ap, subst, ◌∙◌}
use Prim.Native.Nat.{ℕ, ◌+◌, ◌-◌, ◌*◌, ◌≤◌, ◌<◌, ◌^◌}
use native.Mathlib.Omega.{arith}
use mathlib.Core.List.{List, [], ◌∷◌, ◌++◌}
use lib.ListN.{length}
use seplogic.Ra.Ura.{Ura}
use base.Logic.{SProp, ent, id⊢}
use base.Fml.{ftrue, flft}
use mir.Syntax.{Fn}
use mir.MapTy.{inst_fn}
use mir.Val.{Val, vptr, vunit}
use prog.Memory.{Memory}
use prog.Routine.{Routine}
use prog.Wp.{WpFn, Tables}
use types.Logic.{Logic}
use contract.BorrowLft.{◌⊑◌}
use contract.Monad.{Fun, fact}
use contract.Running.{tables, tables_of}
use sound.WpLaws.{WpFn-mono}
use types.Kit.{‵, raw, ◌⊛◌, ◌$◌, ◌∵◌, !, qed, move, keep, drop, use2, split, join, rewrite, fsplit, fsplit3, fjoin, fjoin3, feq_i, feq_l, suffices, done}
use types.Run.{unit_lit, of_opd, returns, enter}
use types.ByLocal.{alloc_all, pass_all, free_all, look_at, sets}
use denote.Exit.{no}
use denote.RattleType.{owns}
use denote.RawPtr.{Ptr, block_ptr}
use denote.Signature.{plain, types_at}
use denote.Steps.{heard, nothing}
use denote.Triple.Clauses.{Clauses, Ended, closing}
use denote.Triple.Spec.{Meets, triple_of}
use denote.Triple.Table.{entered}
use denote.Triple.Walked.{Stays, stay_dropped, stay_ref, walk_of, ends_at, Goes-dropped, Goes-ref, walk_Meets}
use Rattle.core.proofs.mem.Facts.{says_two}
use Rattle.core.proofs.mem.Param.{El, args}
use Rattle.core.proofs.ptr.Rows.{add_times}
use Rattle.ecow_block.proofs.Memory.{Rm, room_d, sz, Held, Spare, Small, mark, room_had, room_opens, room_closes}
use Rattle.ecow_block.proofs.Places.{spare_glue}
use denote.RawPtr.{block_of, count_of}
use Rattle.ecow_block.specs.Rooms.{Follows}
use native.Mathlib.Nat.{zero-mul}
use Rattle.ecow_block.specs.contracts.room.Room.widen as F
use Rattle.ecow_block.specs.contracts.room.Room.widen.Key.{name as #self}
use Rattle.ecow_block.proofs.room.Room.widen.Statement.{statement}
use Rattle.ecow_block.proofs.room.Room.widen.Code as code

module _ (E : El) where
  abbrev here : Fn
  here = inst_fn (args E) code.function

  abbrev ended : Ended
  ended = F.ended E.row

  abbrev stayed : Stays ended.signature.params ended.kept
  stayed = (stay_ref (0 ∷ []) tt (plain (λ _. Rm E)), (stay_dropped (plain (λ _. Rm E)) no, tt))

  module _ {M : Type 1} {𝓤 : Ura M} (𝓛 : Logic 𝓤) (at_mem : Memory → SProp 𝓤) (run : Routine → Fun 𝓤) (𝓣 : Tables 𝓤 𝓛.H) where
    open 𝓛 use {H}

    abbrev held : Clauses 𝓤 ended
    held = F.clauses E.row 𝓛 at_mem run

    walk : (z : (walk_of 𝓛 ended stayed held).Ghost)
        → ent 𝓤 ((walk_of 𝓛 ended stayed held).pre z)
        (WpFn 𝓤 H 𝓣.C 𝓣.Λ here ((walk_of 𝓛 ended stayed held).args z) ((walk_of 𝓛 ended stayed held).post z))
    walk z =
        let κ = z.0.0.0 in let κ₁ = z.0.0.1.0 in let q = z.0.1.0 in let q₁ = z.0.1.1.0 in let a = z.0.3 in let vss = z.0.4 in
        let rb = a.0.ref_ptr.0 in let ro = a.0.ref_ptr.1 in let d : room_d E = a.0.now in
        let Post : Val → SProp 𝓤 = (walk_of 𝓛 ended stayed held).post z in
        let r : room_d E = a.1.0 in let xs = d.items in let ys = r.items in let n = length xs in
        let m = length ys in let s = sz E in let c = d.capacity in let rc = r.capacity in
        let Ok : Type 0 = Follows d r × (ys ≡ []) in
        qed 𝓛 (((‵ (flft κ q) ⊛ ‵ (flft κ₁ q₁) ⊛ ‵ ftrue) ⊛ ‵ (owns (types_at ended.signature.params z.0.0) a vss))
        ∷ (raw (fact 𝓤 (κ₁ ⊑ E.row.lives)) ⊛ raw (fact 𝓤 Ok)) ∷ []) ∵
        move ! (1 ∷ []) $ split ! $ drop ! $ heard ! Ok (λ ok.
        split ! $ split ! $ move ! (2 ∷ []) $ fsplit ! $ fsplit3 ! $
        feq_l ! (λ e₀. move ! (2 ∷ []) $ fsplit ! $ room_had E ! r vss.1.0 (λ b₂ o₂ at_r e₁ far. keep ! (3 ∷ 4 ∷ 5 ∷ 0 ∷ 1 ∷ 6 ∷ []) $
        let us : List Val = vptr rb ro ∷ mark ∷ [] in
        let Run : List Val → SProp 𝓤 = λ ws. WpFn 𝓤 H 𝓣.C 𝓣.Λ here ws Post in
        suffices ! (Run us) (subst (λ (ws : List Val). ent 𝓤 (Run us) (Run ws)) (sym (λ j. e₀ j ++ (e₁ j ++ []))) (id⊢ 𝓤 (Run us))) $
        enter ! 𝓣.C 𝓣.Λ here us Post $ alloc_all ! (λ l. pass_all ! refl ((tt, tt), ((tt, (tt, tt)), tt)) $
        room_opens E ! tt d rb ro (λ b o at_b small.
        let same : block_ptr b₂ o₂ ≡ block_ptr b o = sym at_r ∙ ok.0.at ∙ at_b in
        let o' = o + d.start * s in let at = o + r.start * s in
        let begins : at ≡ o' + c * s = let eq = ap (λ j. j * s) ok.0.start ∙ add_times d.start c s in omega arith in
        rewrite ! 6 (λ (p : Ptr). ‵ (Held E (block_of p) (count_of p + r.start * s) ys)) same refl $
        rewrite ! 7 (λ (p : Ptr). ‵ (Spare E (block_of p) (count_of p + r.start * s + m * s) (rc - m))) same refl $
        -- [self's items; its empty places; the mark's cell; the open borrow; obs; auth; the other's items; its empty places; the other token]
        let none = ap length ok.1 in let fits_in : n ≤ c = d.within in
        let new : room_d E = record { mark = d.mark; at = d.at; start = d.start; items = xs; capacity = c + rc; within = omega arith } in
        let small_new : Small E new = let all : r.start + rc ≡ d.start + (c + rc) = let eq = ok.0.start in omega arith in subst (λ j. j * s < 2 ^ 63) all far in
        let end = o' + n * s in
        let there : at + m * s ≡ at = let eq = ap (λ j. j * s) none ∙ zero-mul s in omega arith in
        let next : at ≡ end + (c - n) * s = let whole : c ≡ n + (c - n) = omega arith in
        let eq = ap (λ j. j * s) whole ∙ add_times n (c - n) s in omega arith in
        let many : rc - m ≡ rc = omega arith in let all : c - n + rc ≡ c + rc - n = omega arith in
        rewrite ! 7 (λ (j : ℕ). ‵ (Spare E b j (rc - m))) there refl $ rewrite ! 7 (λ (j : ℕ). ‵ (Spare E b at j)) many refl $
        move ! (1 ∷ 7 ∷ []) $ use2 𝓛 (‵ (Spare E b end (c - n + rc))) (spare_glue E 𝓛 b end at (c - n) rc next) $
        rewrite ! 0 (λ (j : ℕ). ‵ (Spare E b end j)) all refl $
        move ! (1 ∷ 0 ∷ 2 ∷ 3 ∷ 4 ∷ 5 ∷ []) $ room_closes E ! tt new b o rb ro at_b small_new $ move ! (0 ∷ 1 ∷ 2 ∷ 4 ∷ []) $
        sets ! (of_opd ! (unit_lit !)) refl (tt, tt) $ returns ! (look_at ! 0 refl) $ free_all ! refl $
        suffices ! _ (ends_at 𝓛 ended stayed held z vunit tt (new, (tt, tt)) (tt, (tt, tt))) $ says_two ! (refl, (refl, refl, refl)) $
        feq_i ! (List Val) vss.0 (vptr rb ro ∷ []) e₀ $ fjoin3 ! $ nothing ! $ nothing ! $ fjoin ! $ move ! (1 ∷ 0 ∷ []) $ fjoin ! $
        move ! (1 ∷ 2 ∷ []) $ join ! $ feq_i ! (List Val) (vunit ∷ []) (vunit ∷ []) refl $ keep ! (1 ∷ 2 ∷ 0 ∷ []) $ done !)))))

    meets : Meets 𝓛 ended.signature (WpFn 𝓤 H 𝓣.C 𝓣.Λ here) (closing 𝓛 ended held)
    meets =
        walk_Meets 𝓛 ended stayed (Goes-ref 𝓛 2 0 tt (plain (λ _. Rm E)), (Goes-dropped 𝓛 2 (plain (λ _. Rm E)) no (λ κs x f. refl), tt)) held
        (WpFn 𝓤 H 𝓣.C 𝓣.Λ here) (WpFn-mono 𝓤 H 𝓛.laws 𝓣 here) walk

pub widen_spec : {M : Type 1} → statement M
unfolding tables_of
widen_spec 𝓤 𝓛 𝓜 𝓡 wired X L =
    let E : El = record { row = X; laws = L } in
    let 𝓣 : Tables 𝓤 𝓛.H = tables_of 𝓤 𝓛.H 𝓜 (tables 𝓤 𝓛.H 𝓜 𝓡 𝓡.env) in
    entered 𝓤 𝓛.H (triple_of 𝓛 (F.signature X) (F.spec X 𝓛 𝓜.mem 𝓡.returns)) 𝓣.C 𝓣.Λ (#self (args E)) (here E) (code.unfolded 𝓤 𝓛.H 𝓜 𝓡 wired (X, tt))
    (meets E 𝓛 𝓜.mem 𝓡.returns 𝓣)
