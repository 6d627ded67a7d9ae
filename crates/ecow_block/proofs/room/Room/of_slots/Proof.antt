-- `of_slots` takes the places back from `into_raw_parts`, all of them filled, for every element type. Assumes `Logic`.
use mathlib.Core.Bool.{Bool}
use mathlib.Core.Path.{◌≡◌, refl, sym, subst, ◌∙◌}
use Prim.Native.Nat.{ℕ, ◌+◌, ◌-◌, ◌*◌, ◌<◌, ◌^◌}
use native.Mathlib.Omega.{arith}
use mathlib.Core.List.{List, [], ◌∷◌, ◌++◌}
use lib.ListN.{length}
use seplogic.Ra.Ura.{Ura}
use base.Fraction.{full_share}
use base.Logic.{SProp, ent, id⊢}
use base.Fml.{ftrue, flft}
use mir.Syntax.{Fn, w64}
use mir.MapTy.{inst_fn}
use mir.Val.{Val, WT, vint}
use prog.Memory.{Memory}
use prog.Routine.{Routine}
use prog.Wp.{Env, WpFn, Tables}
use types.Logic.{Logic}
use contract.BorrowLft.{◌⊑◌}
use contract.Monad.{Fun, fact}
use contract.Running.{tables, tables_of}
use sound.WpLaws.{WpFn-mono, fm_of}
use types.Kit.{‵, raw, ◌⊛◌, given, learn, later, await, at_ret, ◌$◌, ◌∵◌, !, qed, move, keep, use0, use1, use2, split, join, rewrite, fsplit, fjoin, feq_l, flt_l, suffices, done}
use types.Part.{agg}
use types.Run.{of_opd, and_then, no_more, first, blocks, exec, returns, enter}
use types.ByLocal.{alloc_all, pass_all, free_all, look_at, get, sets, lands_last, env}
use denote.Array.{Array}
use denote.Builtin.{usize}
use denote.Exit.{yes, no}
use denote.Memory.{part_at}
use denote.RattleType.{owns}
use denote.RawPtr.{count_of}
use denote.Signature.{plain, types_at}
use denote.Steps.{heard, nothing}
use denote.Triple.Call.{calls_at_last}
use denote.Triple.Clauses.{Clauses, Ended, closing}
use denote.Triple.Spec.{Meets, triple_of}
use denote.Triple.Statement.{Triple}
use denote.Triple.Table.{entered}
use denote.Triple.Walked.{Stays, stay_dropped, walk_of, ends_at, Goes-dropped, walk_Meets}
use Rattle.core.specs.Mem.Slots.{slots_items, slots_filled, slots_ptr, slots_len, slots_counts, IsFull}
use Rattle.core.proofs.mem.Facts.{says_two}
use Rattle.core.proofs.mem.Param.{El, R, args, el_x}
use Rattle.core.proofs.slots.Bodies.{after}
use Rattle.core.proofs.slots.Opens.{row_val}
use Rattle.core.proofs.slots.Runs.{to_values}
use Rattle.core.proofs.slots.Slots.into_raw_parts.Met as parts_met
use Rattle.std_alloc.proofs.RcSteps.{word, word-Good}
use Rattle.std_alloc.proofs.vec.Blocks.{all}
use Rattle.std_alloc.proofs.vec.Spares.{Row, into_key, parts_typed, Row-seen, Into, at_into, Into-goes, Into-gives}
use Rattle.ecow_block.specs.Ownership.{place}
use Rattle.ecow_block.proofs.Memory.{Bs, room_d, sz, Spare, mark, base_had, room_made}
use Rattle.ecow_block.proofs.Places.{no_spare}
use Rattle.ecow_block.proofs.Slots.{in_vec, below}
use Rattle.ecow_block.specs.contracts.room.Room.of_slots as F
use Rattle.ecow_block.specs.contracts.room.Room.of_slots.Key.{name as #self}
use Rattle.ecow_block.proofs.room.Room.of_slots.Statement.{statement}
use Rattle.ecow_block.proofs.room.Room.of_slots.Code as code

module _ (E : El) where
  abbrev here : Fn
  here = inst_fn (args E) code.function

  abbrev ended : Ended
  ended = F.ended E.row

  abbrev stayed : Stays ended.signature.params ended.kept
  stayed = (stay_dropped (plain (λ _. Row (in_vec E))) no, (stay_dropped (plain (λ _. Bs E)) no, (stay_dropped (plain (λ _. usize)) yes, tt)))

  module _ {M : Type 1} {𝓤 : Ura M} (𝓛 : Logic 𝓤) (at_mem : Memory → SProp 𝓤) (run : Routine → Fun 𝓤) (𝓣 : Tables 𝓤 𝓛.H)
      (callee : Triple 𝓤 (𝓣.C (into_key (in_vec E))) (Into (in_vec E) 𝓛 at_mem run)) where
    open 𝓛 use {H}

    abbrev held : Clauses 𝓤 ended
    held = F.clauses E.row 𝓛 at_mem run

    walk : (z : (walk_of 𝓛 ended stayed held).Ghost)
        → ent 𝓤 ((walk_of 𝓛 ended stayed held).pre z)
        (WpFn 𝓤 H 𝓣.C 𝓣.Λ here ((walk_of 𝓛 ended stayed held).args z) ((walk_of 𝓛 ended stayed held).post z))
    walk z =
        let κ = z.0.0.0 in let q = z.0.1.0 in let a = z.0.3 in let vss = z.0.4 in let V = in_vec E in
        let r : (Row V).Denot = a.0 in let base = a.1.0 in let at : ℕ = a.1.1.0 in
        let Post : Val → SProp 𝓤 = (walk_of 𝓛 ended stayed held).post z in
        let k : ℕ = slots_len r in let xs : List (el_x E) = slots_items r in let fs : List Bool = slots_filled r in let n = length xs in let s = sz E in
        let Ok : Type 0 = (slots_ptr r ≡ place (R E) base.ptr at) × ((at + k) * s < 2 ^ 63) × IsFull r in
        qed 𝓛 (((‵ (flft κ q) ⊛ ‵ ftrue) ⊛ ‵ (owns (types_at ended.signature.params z.0.0) a vss)) ∷ (raw (fact 𝓤 (κ ⊑ E.row.lives)) ⊛ raw (fact 𝓤 Ok)) ∷ []) ∵
        move ! (1 ∷ []) $ split ! $ heard ! (κ ⊑ E.row.lives) (λ lives. heard ! Ok (λ ok.
        split ! $ split ! $ move ! (2 ∷ []) $ fsplit ! $ Row-seen V ! r vss.0 (λ b o at_r e₀ fk. move ! (1 ∷ []) $
        fsplit ! $ base_had E ! base vss.1.0 (λ e₁. fsplit ! $ fsplit ! $ feq_l ! (λ e₂. flt_l ! (λ fits.
        keep ! (1 ∷ 2 ∷ 3 ∷ []) $
        let us : List Val = row_val b o k ∷ word base.ptr ∷ vint w64 at ∷ [] in
        let Run : List Val → SProp 𝓤 = λ ws. WpFn 𝓤 H 𝓣.C 𝓣.Λ here ws Post in
        suffices ! (Run us) (subst (λ (ws : List Val). ent 𝓤 (Run us) (Run ws)) (sym (λ j. e₀ j ++ (e₁ j ++ (e₂ j ++ [])))) (id⊢ 𝓤 (Run us))) $
        let words : WT (row_val b o k) = (tt, (record { fits = fk }, tt)) in
        enter ! 𝓣.C 𝓣.Λ here us Post $ alloc_all ! (λ l. pass_all ! refl ((tt, words), (word-Good [] base.ptr, ((tt, record { fits = fits }), tt))) $
        let En : Env 𝓤 H = env here.locals l in
        let lx : k ≡ n = (slots_counts r).0 in let lf : k ≡ length fs = (slots_counts r).1 in
        let low = below base.ptr (at * s) b o (sym ok.0 ∙ at_r) in let o' = count_of base.ptr in let begin = o' + at * s in
        let new : room_d E = record { mark = record {}; at = base.ptr; start = at; items = xs; capacity = k; within = omega arith } in
        -- [the slots; the token; nothing]
        first ! $ blocks ! $ sets ! (of_opd ! (get ! refl)) refl (tt, words) $
        let y : (Into V 𝓛 at_mem run).Ghost = at_into V 𝓛 at_mem run κ q r b o in
        use2 𝓛 (raw ((Into V 𝓛 at_mem run).pre y)) (Into-goes V 𝓛 at_mem run κ q r b o lives) $
        calls_at_last ! (fm_of 𝓤 H 𝓛.laws 𝓣) (Into V 𝓛 at_mem run) callee y (and_then ! (get ! refl) (no_more !)) (λ v.
        use1 𝓛 (later (given (v ≡ row_val b o k) (‵ (all V b o xs fs) ⊛ ‵ (flft κ q)))) (Into-gives V 𝓛 at_mem run κ q r b o v at_r) $
        await ! tt $ learn ! (λ e. split ! $
        lands_last ! refl (parts_typed v b o k e fk) $ exec ! 𝓣.C 𝓣.Λ En (after 1 here.body) (at_ret En Post) $
        sets ! (of_opd ! (get ! refl)) refl (parts_typed v b o k e fk) $
        sets ! (agg ! (no_more !)) refl (tt, tt) $ sets ! (agg ! (and_then ! (get ! refl) (no_more !))) refl (tt, (tt, tt)) $
        returns ! (look_at ! 0 refl) $ free_all ! refl $
        use1 𝓛 (‵ (part_at (Array (R E) k) full_share xs b o)) (to_values E 𝓛 b o k xs (sym lx) fs (sym lf) ok.2) $
        rewrite ! 0 (λ (j : ℕ). ‵ (part_at (Array (R E) j) full_share xs b o)) lx refl $
        rewrite ! 0 (λ (j : ℕ). ‵ (part_at (Array (R E) n) full_share xs b j)) (sym low.1) refl $
        use0 𝓛 (‵ (Spare E b (begin + n * s) (k - n))) (no_spare E 𝓛 b (begin + n * s) (k - n) (omega arith)) $ move ! (1 ∷ 0 ∷ []) $
        room_made E ! new b o' low.0 ok.1 $
        -- [the room; the token; nothing]
        suffices ! _ (ends_at 𝓛 ended stayed held z mark new (tt, (tt, (tt, tt))) (tt, (tt, (tt, tt)))) $ says_two ! (refl, (refl, refl, refl)) $
        move ! (1 ∷ 2 ∷ []) $ join ! $ nothing ! $ nothing ! $ fjoin ! $ nothing ! $ fjoin ! $ nothing ! $ fjoin ! $ keep ! (1 ∷ 0 ∷ 2 ∷ []) $ done !)))))))))

    meets : Meets 𝓛 ended.signature (WpFn 𝓤 H 𝓣.C 𝓣.Λ here) (closing 𝓛 ended held)
    meets =
        walk_Meets 𝓛 ended stayed (
          Goes-dropped 𝓛 1 (plain (λ _. Row (in_vec E))) no (λ κs x f. refl),
          (Goes-dropped 𝓛 1 (plain (λ _. Bs E)) no (λ κs x f. refl), (Goes-dropped 𝓛 1 (plain (λ _. usize)) yes (λ κs x f. refl), tt)),
        ) held
        (WpFn 𝓤 H 𝓣.C 𝓣.Λ here) (WpFn-mono 𝓤 H 𝓛.laws 𝓣 here) walk

pub of_slots_spec : {M : Type 1} → statement M
unfolding tables_of
of_slots_spec 𝓤 𝓛 𝓜 𝓡 wired X L =
    let E : El = record { row = X; laws = L } in
    let 𝓣 : Tables 𝓤 𝓛.H = tables_of 𝓤 𝓛.H 𝓜 (tables 𝓤 𝓛.H 𝓜 𝓡 𝓡.env) in
    entered 𝓤 𝓛.H (triple_of 𝓛 (F.signature X) (F.spec X 𝓛 𝓜.mem 𝓡.returns)) 𝓣.C 𝓣.Λ (#self (args E)) (here E) (code.unfolded 𝓤 𝓛.H 𝓜 𝓡 wired (X, tt))
    (meets E 𝓛 𝓜.mem 𝓡.returns 𝓣 (parts_met.met 𝓤 𝓛 𝓜 𝓡 (code.calls-core::slots::Slots::into_raw_parts 𝓡.env wired) X L))
