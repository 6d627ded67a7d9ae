-- `give_back_head` hands a block that holds nothing back, for every element type and allocator. Assumes `Logic`.
use mathlib.Core.Path.{◌≡◌, refl, sym, ap, subst, ◌∙◌}
use Prim.Native.Nat.{ℕ, ◌+◌, ◌-◌, ◌*◌}
use native.Mathlib.Omega.{arith}
use mathlib.Core.List.{List, [], ◌∷◌, ◌++◌}
use lib.Dec.{T}
use lib.ListN.{length}
use seplogic.Ra.Ura.{Ura}
use base.Logic.{SProp, ent, id⊢}
use base.Fml.{ftrue, froom, flft, Incl-trans}
use mir.Syntax.{Fn, w64, ty_int, ty_unit}
use mir.MapTy.{inst_fn}
use mir.Val.{Val, vptr, vint, vunit, has_ty, WT}
use prog.Memory.{Memory}
use prog.Routine.{Routine}
use prog.Wp.{Env, WpFn, Tables}
use types.Logic.{Logic}
use contract.BorrowLft.{◌⊑◌}
use contract.Monad.{Fun, fact}
use contract.Running.{tables, tables_of}
use sound.WpLaws.{WpFn-mono, fm_of}
use types.Kit.{Goal, Step, step, Item, use0, ⋆, ‵, raw, ◌⊛◌, given, later, await, learn, at_ret, ◌$◌, ◌∵◌, !, qed, by, move, keep, drop, use1, split, join, group, rewrite, fsplit, fjoin, feq_i, feq_l, flt_l, suffices, done}
use types.Part.{sub}
use types.Run.{stop, fld, unit_lit, of_opd, and_then, no_more, first, blocks, exec, returns, enter}
use types.ByLocal.{alloc_all, pass_all, free_all, look_at, get, get_in, is, sets, lands_last, env}
use denote.Builtin.{usize, RefOf}
use denote.Exit.{yes, no}
use denote.RattleType.{owns}
use denote.RawPtr.{InBlock, block_ptr, block_of, count_of, ptr_val, ◌+ₚ◌}
use denote.Signature.{plain, types_at}
use denote.Steps.{heard, nothing}
use denote.Triple.Call.{calls_at_last}
use denote.Triple.Clauses.{Clauses, Ended, closing}
use denote.Triple.Spec.{Meets, triple_of}
use denote.Triple.Statement.{Triple}
use denote.Triple.Table.{entered}
use denote.Triple.Walked.{Stays, stay_dropped, walk_of, ends_at, Goes-dropped, walk_Meets}
use Rattle.core.proofs.mem.Param.{El, R}
use Rattle.core.proofs.slots.Bodies.{after}
use Rattle.std_alloc.proofs.RcSteps.{word, word-Good}
use Rattle.ecow_block.proofs.Memory.{Rm, room_d, sz, Spare, spare_of, mark, room_had}
use Rattle.core.proofs.alloc.Calls.{Al, token, gives_key, Gives, at_gives, Gives-goes, Gives-Gives}
use Rattle.core.proofs.slots.Leases.{args, P}
use Rattle.ecow_block.specs.Whole.{IsTopOf, IsBehind}
use Rattle.ecow_block.specs.Heads.{whole_size, whole_align}
use Rattle.ecow_block.proofs.Heads.{Tp, Tt, has_layout, whole_ty, whole_in, fields_gone, title_had, top_had}
use Rattle.ecow_block.proofs.Places.{no_spare}
use mathlib.Core.Logic.{◌⊎◌, inl, inr}
use native.Mathlib.Nat.{zero-mul}
use types.Part.{whole as whole_part}
use Rattle.ecow_block.specs.contracts.room.heads.give_back_head as F
use Rattle.ecow_block.specs.contracts.room.heads.give_back_head.Key.{name as #self}
use Rattle.ecow_block.proofs.room.heads.give_back_head.Statement.{statement}
use Rattle.ecow_block.proofs.room.heads.give_back_head.Code as code

-- the places behind a head, or none
module _ (E : El) (Z : Al) {M : Type 1} {𝓤 : Ura M} {𝓛 : Logic 𝓤} {K : Type 0} {Γ : List (Item 𝓤)} {G : Goal 𝓤 𝓛.H} where
  behind_had : K → (r : room_d E) (d : (Tt E Z).Denot) (b o rb ro : ℕ) → d.at ≡ block_ptr b o
      → r.at ≡ block_ptr rb ro → (d.places ≡ 0) ⊎ (IsBehind r d × (r.items ≡ []))
      → Step K 𝓛 (‵ (Spare E b (o + 32) d.places) ∷ Γ) G (‵ (spare_of E r rb ro) ∷ Γ) G
  behind_had t r d b o rb ro at_t at_b (inl none) = step (λ s. drop t $ use0 𝓛 (‵ (Spare E b (o + 32) d.places)) (no_spare E 𝓛 b (o + 32) d.places none) $ s)
  behind_had t r d b o rb ro at_t at_b (inr is) = step (λ s.
      let n = sz E in let behind = is.0 in
      let places : block_ptr rb ro ≡ block_ptr b (o + 32) = sym at_b ∙ behind.at ∙ (λ i. at_t i +ₚ 32) in
      let same_b : rb ≡ b = ap block_of places in let same_o : ro ≡ o + 32 = ap count_of places in
      let here_at : ro + r.start * n + length r.items * n ≡ o + 32 = let e₆ = ap (λ k. k * n) behind.start in
      let e₇ = ap (λ xs. length xs * n) is.1 in let none = zero-mul n in omega arith in
      let many : r.capacity - length r.items ≡ d.places = let none = ap length is.1 in let same = behind.capacity in omega arith in
      rewrite t 0 (λ (w : ℕ × ℕ × ℕ). ‵ (Spare E w.0 w.1 w.2)) (λ i. (same_b i, here_at i, many i)) refl $ s)

module _ (E : El) (Z : Al) where
  abbrev here : Fn
  here = inst_fn (args E Z) code.function

  abbrev ended : Ended
  ended = F.ended E.row Z.row Z.g Z.d Z.drops

  abbrev stayed : Stays ended.signature.params ended.kept
  stayed = (
    stay_dropped (RefOf (0 ∷ []) tt (plain (λ _. P E Z)) (λ _. tt)) yes,
    (
      stay_dropped (plain (λ _. Tp E)) no,
      (
        stay_dropped (plain (λ _. usize)) yes,
        (stay_dropped (plain (λ _. usize)) yes, (stay_dropped (plain (λ _. Rm E)) no, (stay_dropped (plain (λ _. Tt E Z)) no, tt))),
      ),
    ),
  )

  module _ {M : Type 1} {𝓤 : Ura M} (𝓛 : Logic 𝓤) (at_mem : Memory → SProp 𝓤) (run : Routine → Fun 𝓤) (𝓣 : Tables 𝓤 𝓛.H)
      (callee : Triple 𝓤 (𝓣.C (gives_key Z)) (Gives Z 𝓛 at_mem run)) where
    open 𝓛 use {H}

    abbrev held : Clauses 𝓤 ended
    held = F.clauses E.row Z.row Z.g Z.d Z.drops 𝓛 at_mem run

    exits : (z : (walk_of 𝓛 ended stayed held).Ghost)
        → ent 𝓤 (⋆ 𝓛 (‵ (flft z.0.0.0 z.0.1.0) ∷ (‵ (flft z.0.0.1.0 z.0.1.1.0) ⊛ ‵ (flft z.0.0.1.1.0 z.0.1.1.1.0) ⊛ ‵ ftrue) ∷ []))
        ((walk_of 𝓛 ended stayed held).post z vunit)
    exits z =
        qed 𝓛 (‵ (flft z.0.0.0 z.0.1.0) ∷ (‵ (flft z.0.0.1.0 z.0.1.1.0) ⊛ ‵ (flft z.0.0.1.1.0 z.0.1.1.1.0) ⊛ ‵ ftrue) ∷ []) ∵
        suffices ! _ (ends_at 𝓛 ended stayed held z vunit tt (tt, (tt, (tt, (tt, (tt, (tt, tt)))))) (tt, (tt, (tt, (tt, (tt, (tt, tt))))))) $
        join ! $ feq_i ! (List Val) (vunit ∷ []) (vunit ∷ []) refl $ nothing ! $ nothing ! $ fjoin ! $ nothing ! $
        fjoin ! $ nothing ! $ fjoin ! $ nothing ! $ fjoin ! $ nothing ! $ fjoin ! $ nothing ! $ fjoin ! $ join ! $
        move ! (1 ∷ 0 ∷ []) $ join ! $ nothing ! $ move ! (1 ∷ 0 ∷ []) $ done !

    walk : (z : (walk_of 𝓛 ended stayed held).Ghost)
        → ent 𝓤 ((walk_of 𝓛 ended stayed held).pre z)
        (WpFn 𝓤 H 𝓣.C 𝓣.Λ here ((walk_of 𝓛 ended stayed held).args z) ((walk_of 𝓛 ended stayed held).post z))
    walk z =
        let κ = z.0.0.0 in let κ₁ = z.0.0.1.0 in let κ₂ = z.0.0.1.1.0 in let q = z.0.1.0 in
        let q₁ = z.0.1.1.0 in let q₂ = z.0.1.1.1.0 in let args = z.0.3 in let vss = z.0.4 in
        let hp = args.0.ref_ptr in let a = args.0.now in let top = args.1.0 in let sz₀ = args.1.1.0 in
        let al = args.1.1.1.0 in let r : room_d E = args.1.1.1.1.0 in let d : (Tt E Z).Denot = args.1.1.1.1.1.0 in
        let s = sz E in
        let Post : Val → SProp 𝓤 = (walk_of 𝓛 ended stayed held).post z in
        let Places : Type 0 = (d.places ≡ 0) ⊎ (IsBehind r d × (r.items ≡ [])) in
        let Headed : Type 0 = IsTopOf top d a in let Memory_is : Type 0 = (sz₀ ≡ whole_size (R E) d.places) × (al ≡ whole_align (R E)) in
        qed 𝓛 (((‵ (flft κ q) ⊛ ‵ (flft κ₁ q₁) ⊛ ‵ (flft κ₂ q₂) ⊛ ‵ ftrue) ⊛ ‵ (owns (types_at ended.signature.params z.0.0) args vss))
        ∷ (raw (fact 𝓤 (κ₁ ⊑ E.row.lives)) ⊛ raw (fact 𝓤 (κ₂ ⊑ Z.row.lives)) ⊛ raw (fact 𝓤 Headed)
        ⊛ raw (fact 𝓤 Places) ⊛ raw (fact 𝓤 Memory_is)) ∷ []) ∵
        move ! (1 ∷ []) $ split ! $ drop ! $ split ! $ heard ! (κ₂ ⊑ Z.row.lives)
        (λ within. split ! $ heard ! Headed (λ whole. split ! $ heard ! Places (λ behind. heard ! Memory_is (λ laid_out.
        split ! $ split ! $ move ! (2 ∷ []) $ fsplit ! $ fsplit ! $
        feq_l ! (λ e₀. move ! (1 ∷ []) $ fsplit ! $ top_had E ! top vss.1.0 (λ e₁. fsplit ! $ fsplit ! $ feq_l ! (λ e₂. flt_l ! (λ fits.
        fsplit ! $ fsplit ! $ feq_l ! (λ e₃. flt_l ! (λ fits₃.
        fsplit ! $ room_had E ! r vss.1.1.1.1.0 (λ rb ro at_b e₄ small. move ! (2 ∷ []) $ fsplit ! $
        title_had E Z ! d vss.1.1.1.1.1.0 (subst InBlock (sym whole.at) whole.within) (λ b o at_t e₅.
        -- [the count; the fields; the right to give back; the way back; nothing; the items; the empty places; the handle; the token; the other tokens]
        keep ! (0 ∷ 1 ∷ 2 ∷ 3 ∷ 6 ∷ 7 ∷ 8 ∷ 9 ∷ []) $
        let us : List Val = vptr hp.0 hp.1 ∷ word top.ptr ∷ vint w64 sz₀ ∷ vint w64 al ∷ mark ∷ mark ∷ [] in
        let Run : List Val → SProp 𝓤 = λ ws. WpFn 𝓤 H 𝓣.C 𝓣.Λ here ws Post in
        suffices ! (Run us) (subst (λ (ws : List Val). ent 𝓤 (Run us) (Run ws))
        (sym (λ k. e₀ k ++ (e₁ k ++ (e₂ k ++ (e₃ k ++ (e₄ k ++ (e₅ k ++ []))))))) (id⊢ 𝓤 (Run us))) $
        enter ! 𝓣.C 𝓣.Λ here us Post $
        alloc_all ! (λ l. pass_all ! refl (
          (tt, tt),
          (
            word-Good [] top.ptr,
            ((tt, record { fits = fits }), ((tt, record { fits = fits₃ }), ((tt, (tt, tt)), ((tt, (tt, tt)), tt)))),
          ),
        ) $
        let En : Env 𝓤 H = env here.locals l in let laid = has_layout E d.places sz₀ al laid_out.0 laid_out.1 fits fits₃ in
        let top_at : top.ptr ≡ block_ptr b o = sym whole.at ∙ at_t in
        rewrite ! 2 (λ (h : Z.row.Denot). ‵ (token Z h (whole_ty E d.places) (block_ptr b o))) whole.alloc_same refl $
        -- [the count; the fields; the right to give back; the way back; the empty places; the handle; the token; the other tokens]
        use1 𝓛 (‵ (froom (ty_int w64) b (o + 0))) (𝓛.laws.at_room (ty_int w64) b (o + 0) (vint w64 1)) $
        move ! (1 ∷ []) $ fields_gone E ! b o d.fields $ move ! (4 ∷ []) $
        behind_had E Z ! r d b o rb ro at_t at_b behind $ move ! (2 ∷ 1 ∷ 0 ∷ 4 ∷ []) $ whole_in E b o d.places ! $
        let y : (Gives Z 𝓛 at_mem run).Ghost = at_gives Z 𝓛 at_mem run κ q hp a b o sz₀ al (whole_ty E d.places) in
        first ! $ blocks ! $
        sets ! (is ! (of_opd ! (get_in ! (fld ! refl (stop !)) (sub ! 0 refl (whole_part !)))) (ap ptr_val top_at)) refl (tt, tt) $
        move ! (0 ∷ 1 ∷ 2 ∷ 3 ∷ []) $ group ! 4 $
        use1 𝓛 (raw ((Gives Z 𝓛 at_mem run).pre y))
        (Gives-goes Z 𝓛 at_mem run κ q hp a (Incl-trans z.0.2.0 within) b o sz₀ al (whole_ty E d.places) laid.0 laid.1 fits fits₃) $
        calls_at_last ! (fm_of 𝓤 H 𝓛.laws 𝓣) (Gives Z 𝓛 at_mem run) callee y
        (and_then ! (get ! refl) (and_then ! (get ! refl) (and_then ! (get ! refl) (and_then ! (get ! refl) (no_more !))))) (λ v.
        use1 𝓛 (later (given (v ≡ vunit) (‵ (flft κ q)))) (Gives-Gives Z 𝓛 at_mem run κ q hp a b o sz₀ al (whole_ty E d.places) v) $
        await ! tt $ learn ! (λ done_with.
        lands_last ! refl (subst (λ (w : Val). T (has_ty ty_unit w) × WT w) (sym done_with) (tt, tt)) $ exec ! 𝓣.C 𝓣.Λ En (after 1 here.body) (at_ret En Post) $
        sets ! (of_opd ! (unit_lit !)) refl (tt, tt) $ returns ! (look_at ! 0 refl) $ free_all ! refl $ keep ! (0 ∷ 1 ∷ []) $ by ! (exits z))))))))))))))))

    meets : Meets 𝓛 ended.signature (WpFn 𝓤 H 𝓣.C 𝓣.Λ here) (closing 𝓛 ended held)
    meets =
        walk_Meets 𝓛 ended stayed (
          Goes-dropped 𝓛 3 (RefOf (0 ∷ []) tt (plain (λ _. P E Z)) (λ _. tt)) yes (λ κs x f. refl),
          (
            Goes-dropped 𝓛 3 (plain (λ _. Tp E)) no (λ κs x f. refl),
            (
              Goes-dropped 𝓛 3 (plain (λ _. usize)) yes (λ κs x f. refl),
              (
                Goes-dropped 𝓛 3 (plain (λ _. usize)) yes (λ κs x f. refl),
                (
                  Goes-dropped 𝓛 3 (plain (λ _. Rm E)) no (λ κs x f. refl),
                  (Goes-dropped 𝓛 3 (plain (λ _. Tt E Z)) no (λ κs x f. refl), tt),
                ),
              ),
            ),
          ),
        ) held
        (WpFn 𝓤 H 𝓣.C 𝓣.Λ here) (WpFn-mono 𝓤 H 𝓛.laws 𝓣 here) walk

pub give_back_head_spec : {M : Type 1} → statement M
unfolding tables_of
give_back_head_spec 𝓤 𝓛 𝓜 𝓡 wired X Y LX LY g d dd met md =
    let E : El = record { row = X; laws = LX } in let Z : Al = record { row = Y; laws = LY; g = g; d = d; drops = dd } in
    let 𝓣 : Tables 𝓤 𝓛.H = tables_of 𝓤 𝓛.H 𝓜 (tables 𝓤 𝓛.H 𝓜 𝓡 𝓡.env) in
    entered 𝓤 𝓛.H (triple_of 𝓛 (ended E Z).signature (F.spec X Y g d dd 𝓛 𝓜.mem 𝓡.returns)) 𝓣.C 𝓣.Λ
    (#self (args E Z)) (here E Z) (code.unfolded 𝓤 𝓛.H 𝓜 𝓡 wired (X, (Y, tt)) d dd)
    (meets E Z 𝓛 𝓜.mem 𝓡.returns 𝓣 (met.deallocate dd))
