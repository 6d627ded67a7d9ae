-- `give_back` hands the block back where it has bytes, for every element type and allocator. Assumes `Logic`.
use mathlib.Core.Path.{◌≡◌, refl, sym, ap, subst, ◌∙◌}
use mathlib.Core.Bool.{Bool}
use Prim.Native.Nat.{ℕ, ◌+◌, ◌-◌, ◌*◌, ◌<◌, ◌^◌}
use native.Mathlib.Omega.{arith}
use mathlib.Core.List.{List, [], ◌∷◌, ◌++◌}
use lib.Dec.{T}
use lib.ListN.{length}
use seplogic.Ra.Ura.{Ura}
use base.Logic.{SProp, ent, id⊢}
use base.Fml.{ftrue, flft, Incl-trans}
use mir.Syntax.{Fn, w64, ty_unit}
use mir.MapTy.{inst_fn}
use mir.Val.{Val, vptr, vint, vunit, has_ty, WT}
use prog.Memory.{Memory, align, capped}
use prog.Capped.{capped_fits}
use prog.Routine.{Routine}
use prog.Wp.{Env, WpFn, Tables}
use types.Logic.{Logic}
use contract.BorrowLft.{◌⊑◌}
use contract.Monad.{Fun, fact}
use contract.Running.{tables, tables_of}
use sound.WpLaws.{WpFn-mono, fm_of}
use types.Kit.{⋆, ‵, raw, ◌⊛◌, given, later, await, learn, at_ret, ◌$◌, ◌∵◌, !, qed, by, move, keep, drop, use1, split, join, group, rewrite, fsplit, fjoin, feq_i, feq_l, flt_l, suffices, done}
use types.Part.{sub}
use types.Run.{stop, fld, lit, bin, size_word, align_word, unit_lit, of_opd, and_then, no_more, first, blocks, branches, skips, exec, returns, enter}
use types.ByLocal.{alloc_all, pass_all, free_all, look_at, get, get_in, is, sets, lands_last, env}
use denote.Builtin.{usize, RefOf}
use denote.Exit.{yes, no}
use denote.RattleType.{owns}
use denote.RawPtr.{Ptr, block_ptr, ptr_val}
use denote.Signature.{plain, types_at}
use denote.Steps.{heard, nothing}
use denote.Triple.Call.{calls_at_last}
use denote.Triple.Clauses.{Clauses, Ended, closing}
use denote.Triple.Spec.{Meets, triple_of}
use denote.Triple.Statement.{Triple}
use denote.Triple.Table.{entered}
use denote.Triple.Walked.{Stays, stay_dropped, walk_of, ends_at, Goes-dropped, walk_Meets}
use Rattle.core.proofs.mem.Param.{El, elτ}
use Rattle.core.proofs.slots.Bodies.{after}
use Rattle.core.proofs.slots.Leases.{uncapped}
use Rattle.std_alloc.proofs.RcSteps.{word, word-Good}
use Rattle.ecow_block.proofs.Memory.{Rm, Bs, room_d, sz, Spare, mark, base_had, room_had}
use Rattle.core.proofs.alloc.Calls.{Al, token, gives_key, Gives, at_gives, Gives-goes, Gives-Gives}
use Rattle.core.proofs.slots.Leases.{block_ty, block_size, block_align, args, P}
use Rattle.std.specs.Vec.Ownership.{owns_if}
use Rattle.ecow_block.specs.Rooms.{IsWhole}
use Rattle.ecow_block.proofs.Deeds.{Dd, Right, yes_true, deed_had}
use native.Mathlib.Nat.{zero-mul}
use types.Part.{whole as whole_part}
use Rattle.ecow_block.specs.contracts.room.heap.give_back as F
use Rattle.ecow_block.specs.contracts.room.heap.give_back.Key.{name as #self}
use Rattle.ecow_block.proofs.room.heap.give_back.Statement.{statement}
use Rattle.ecow_block.proofs.room.heap.give_back.Code as code

module _ (E : El) (Z : Al) where
  abbrev here : Fn
  here = inst_fn (args E Z) code.function

  abbrev ended : Ended
  ended = F.ended E.row Z.row Z.g Z.d Z.drops

  abbrev stayed : Stays ended.signature.params ended.kept
  stayed = (
    stay_dropped (RefOf (0 ∷ []) tt (plain (λ _. P E Z)) (λ _. tt)) yes,
    (
      stay_dropped (plain (λ _. Bs E)) no,
      (stay_dropped (plain (λ _. usize)) yes, (stay_dropped (plain (λ _. Rm E)) no, (stay_dropped (plain (λ _. Dd E Z)) no, tt))),
    ),
  )

  module _ {M : Type 1} {𝓤 : Ura M} (𝓛 : Logic 𝓤) (at_mem : Memory → SProp 𝓤) (run : Routine → Fun 𝓤) (𝓣 : Tables 𝓤 𝓛.H)
      (callee : Triple 𝓤 (𝓣.C (gives_key Z)) (Gives Z 𝓛 at_mem run)) where
    open 𝓛 use {H}

    abbrev held : Clauses 𝓤 ended
    held = F.clauses E.row Z.row Z.g Z.d Z.drops 𝓛 at_mem run

    exits : (z : (walk_of 𝓛 ended stayed held).Ghost)
        → ent 𝓤 (⋆ 𝓛 (‵ (flft z.0.0.0 z.0.1.0) ∷ (‵ (flft z.0.0.1.0 z.0.1.1.0) ⊛ ‵ (flft z.0.0.1.1.0 z.0.1.1.1.0) ⊛ ‵ ftrue) ∷ []))
        ((walk_of 𝓛 ended stayed held).post z vunit)
    exits z =
        qed 𝓛 (‵ (flft z.0.0.0 z.0.1.0) ∷ (‵ (flft z.0.0.1.0 z.0.1.1.0) ⊛ ‵ (flft z.0.0.1.1.0 z.0.1.1.1.0) ⊛ ‵ ftrue) ∷ []) ∵
        suffices ! _ (ends_at 𝓛 ended stayed held z vunit tt (tt, (tt, (tt, (tt, (tt, tt))))) (tt, (tt, (tt, (tt, (tt, tt)))))) $
        join ! $ feq_i ! (List Val) (vunit ∷ []) (vunit ∷ []) refl $ nothing ! $ nothing ! $ fjoin ! $ nothing ! $
        fjoin ! $ nothing ! $ fjoin ! $ nothing ! $ fjoin ! $ nothing ! $ fjoin ! $ join ! $
        move ! (1 ∷ 0 ∷ []) $ join ! $ nothing ! $ move ! (1 ∷ 0 ∷ []) $ done !

    walk : (z : (walk_of 𝓛 ended stayed held).Ghost)
        → ent 𝓤 ((walk_of 𝓛 ended stayed held).pre z)
        (WpFn 𝓤 H 𝓣.C 𝓣.Λ here ((walk_of 𝓛 ended stayed held).args z) ((walk_of 𝓛 ended stayed held).post z))
    walk z =
        let κ = z.0.0.0 in let κ₁ = z.0.0.1.0 in let κ₂ = z.0.0.1.1.0 in let q = z.0.1.0 in
        let q₁ = z.0.1.1.0 in let q₂ = z.0.1.1.1.0 in let args = z.0.3 in let vss = z.0.4 in
        let hp = args.0.ref_ptr in let a = args.0.now in let base = args.1.0 in let c = args.1.1.0 in
        let r : room_d E = args.1.1.1.0 in let d : (Dd E Z).Denot = args.1.1.1.1.0 in
        let s = sz E in let al : ℕ = capped (align (elτ E)) in
        let Post : Val → SProp 𝓤 = (walk_of 𝓛 ended stayed held).post z in
        let Asked : Type 0 = IsWhole base r d a × (r.items ≡ []) × (c ≡ r.capacity) in
        qed 𝓛 (((‵ (flft κ q) ⊛ ‵ (flft κ₁ q₁) ⊛ ‵ (flft κ₂ q₂) ⊛ ‵ ftrue) ⊛ ‵ (owns (types_at ended.signature.params z.0.0) args vss))
        ∷ (raw (fact 𝓤 (κ₁ ⊑ E.row.lives)) ⊛ raw (fact 𝓤 (κ₂ ⊑ Z.row.lives)) ⊛ raw (fact 𝓤 Asked)) ∷ []) ∵
        move ! (1 ∷ []) $ split ! $ drop ! $ split ! $ heard ! (κ₂ ⊑ Z.row.lives) (λ within. heard ! Asked (λ ok. let whole = ok.0 in
        split ! $ split ! $ move ! (2 ∷ []) $ fsplit ! $ fsplit ! $
        feq_l ! (λ e₀. move ! (1 ∷ []) $ fsplit ! $ base_had E ! base vss.1.0 (λ e₁. fsplit ! $ fsplit ! $ feq_l ! (λ e₂. flt_l ! (λ fits.
        fsplit ! $ room_had E ! r vss.1.1.1.0 (λ b o at_b e₃ small. move ! (2 ∷ []) $ fsplit ! $ deed_had E Z ! d vss.1.1.1.1.0 (λ e₄.
        -- [the right to give back; nothing; the items; the empty places; the handle; the token; the other tokens]
        keep ! (3 ∷ 0 ∷ 4 ∷ 5 ∷ 6 ∷ []) $
        let us : List Val = vptr hp.0 hp.1 ∷ word base.ptr ∷ vint w64 c ∷ mark ∷ mark ∷ [] in
        let Run : List Val → SProp 𝓤 = λ ws. WpFn 𝓤 H 𝓣.C 𝓣.Λ here ws Post in
        suffices ! (Run us) (subst (λ (ws : List Val). ent 𝓤 (Run us) (Run ws))
        (sym (λ k. e₀ k ++ (e₁ k ++ (e₂ k ++ (e₃ k ++ (e₄ k ++ [])))))) (id⊢ 𝓤 (Run us))) $
        enter ! 𝓣.C 𝓣.Λ here us Post $
        alloc_all ! (λ l. pass_all ! refl
        ((tt, tt), (word-Good [] base.ptr, ((tt, record { fits = fits }), ((tt, (tt, tt)), ((tt, (tt, tt)), tt))))) $
        let En : Env 𝓤 H = env here.locals l in
        let base_at : base.ptr ≡ block_ptr b o = sym whole.at ∙ at_b in
        let fit : c * s < 2 ^ 63 = let begins = whole.start in let same = ok.2 in
        let all : r.start + r.capacity ≡ c = omega arith in subst (λ k. k * s < 2 ^ 63) all small in
        let bytes : c * s < 2 ^ 64 = omega arith in
        let here_at : o + r.start * s + length r.items * s ≡ o = let e₅ = ap (λ k. k * s) whole.start in
        let e₆ = ap (λ xs. length xs * s) ok.1 in let none = zero-mul s in omega arith in
        let many : r.capacity - length r.items ≡ c = let none = ap length ok.1 in let same = ok.2 in omega arith in
        rewrite ! 0 (λ (k : ℕ). ‵ (Spare E b k (r.capacity - length r.items))) here_at refl $ rewrite ! 0 (λ (k : ℕ). ‵ (Spare E b o k)) many refl $
        rewrite ! 1 (λ (w : Z.row.Denot × Ptr × ℕ). ‵ (Right E Z w.0 w.1 w.2))
        (λ i. (whole.deed_alloc i, (whole.deed_at ∙ base_at) i, (whole.deed_capacity ∙ sym ok.2) i)) refl $
        -- [the places; the right to give back; the handle; the token; the other tokens]
        sets ! (is ! (bin ! (get ! refl) (size_word !) (record { fits = subst (λ (k : ℕ). k < 2 ^ 64) (sym (uncapped c s bytes)) bytes }))
        (ap (vint w64) (uncapped c s bytes))) refl (tt, record { fits = bytes }) $
        sets ! (bin ! (get ! refl) (lit ! tt) tt) refl (tt, tt) $ first ! $ branches ! (get ! refl)
        (λ some.
        let y : (Gives Z 𝓛 at_mem run).Ghost = at_gives Z 𝓛 at_mem run κ q hp a b o (c * s) al (block_ty E c) in
        rewrite ! 1 (λ (w : Bool). ‵ (owns_if w (token Z a (block_ty E c) (block_ptr b o)))) (yes_true _ some) refl $ blocks ! $
        sets ! (is ! (of_opd ! (get_in ! (fld ! refl (stop !)) (sub ! 0 refl (whole_part !)))) (ap ptr_val base_at)) refl (tt, tt) $
        group ! 4 $ use1 𝓛 (raw ((Gives Z 𝓛 at_mem run).pre y))
        (Gives-goes Z 𝓛 at_mem run κ q hp a (Incl-trans z.0.2.0 within) b o (c * s) al (block_ty E c)
        (block_size E c bytes) (block_align E c) bytes (capped_fits (align (elτ E)))) $
        calls_at_last ! (fm_of 𝓤 H 𝓛.laws 𝓣) (Gives Z 𝓛 at_mem run) callee y
        (and_then ! (get ! refl) (and_then ! (get ! refl) (and_then ! (get ! refl) (and_then ! (align_word !) (no_more !))))) (λ v.
        use1 𝓛 (later (given (v ≡ vunit) (‵ (flft κ q)))) (Gives-Gives Z 𝓛 at_mem run κ q hp a b o (c * s) al (block_ty E c) v) $
        await ! tt $ learn ! (λ done_with.
        lands_last ! refl (subst (λ (w : Val). T (has_ty ty_unit w) × WT w) (sym done_with) (tt, tt)) $ exec ! 𝓣.C 𝓣.Λ En (after 3 here.body) (at_ret En Post) $
        sets ! (of_opd ! (unit_lit !)) refl (tt, tt) $ returns ! (look_at ! 0 refl) $ free_all ! refl $ keep ! (0 ∷ 1 ∷ []) $ by ! (exits z))))
        (λ none. skips ! $ exec ! 𝓣.C 𝓣.Λ En (after 3 here.body) (at_ret En Post) $
        sets ! (of_opd ! (unit_lit !)) refl (tt, tt) $ returns ! (look_at ! 0 refl) $ free_all ! refl $ keep ! (3 ∷ 4 ∷ []) $ by ! (exits z)))))))))))

    meets : Meets 𝓛 ended.signature (WpFn 𝓤 H 𝓣.C 𝓣.Λ here) (closing 𝓛 ended held)
    meets =
        walk_Meets 𝓛 ended stayed (
          Goes-dropped 𝓛 3 (RefOf (0 ∷ []) tt (plain (λ _. P E Z)) (λ _. tt)) yes (λ κs x f. refl),
          (
            Goes-dropped 𝓛 3 (plain (λ _. Bs E)) no (λ κs x f. refl),
            (
              Goes-dropped 𝓛 3 (plain (λ _. usize)) yes (λ κs x f. refl),
              (
                Goes-dropped 𝓛 3 (plain (λ _. Rm E)) no (λ κs x f. refl),
                (Goes-dropped 𝓛 3 (plain (λ _. Dd E Z)) no (λ κs x f. refl), tt),
              ),
            ),
          ),
        ) held
        (WpFn 𝓤 H 𝓣.C 𝓣.Λ here) (WpFn-mono 𝓤 H 𝓛.laws 𝓣 here) walk

pub give_back_spec : {M : Type 1} → statement M
unfolding tables_of
give_back_spec 𝓤 𝓛 𝓜 𝓡 wired X Y LX LY g d dd met md =
    let E : El = record { row = X; laws = LX } in let Z : Al = record { row = Y; laws = LY; g = g; d = d; drops = dd } in
    let 𝓣 : Tables 𝓤 𝓛.H = tables_of 𝓤 𝓛.H 𝓜 (tables 𝓤 𝓛.H 𝓜 𝓡 𝓡.env) in
    entered 𝓤 𝓛.H (triple_of 𝓛 (ended E Z).signature (F.spec X Y g d dd 𝓛 𝓜.mem 𝓡.returns)) 𝓣.C 𝓣.Λ
    (#self (args E Z)) (here E Z) (code.unfolded 𝓤 𝓛.H 𝓜 𝓡 wired (X, (Y, tt)) d dd)
    (meets E Z 𝓛 𝓜.mem 𝓡.returns 𝓣 (met.deallocate dd))
