-- `as_mut_slice` lends the items, and the room follows them, for every element type. Assumes `Logic`.
use mathlib.Core.Path.{◌≡◌, refl, sym, ap, subst, ◌∙◌}
use Prim.Native.Nat.{ℕ, ◌+◌, ◌-◌, ◌*◌, ◌≤◌, ◌<◌, ◌^◌}
use native.Mathlib.Omega.{arith}
use mathlib.Core.List.{List, [], ◌∷◌, ◌++◌}
use lib.ListN.{length}
use seplogic.Ra.Ura.{Ura}
use base.Fraction.{full_share}
use base.Logic.{SProp, ent, sep, id⊢}
use base.Fml.{GName, Fml, ftrue, fsep, fat, flft}
use mir.Syntax.{Fn, w64, named}
use mir.MapTy.{inst_fn}
use mir.Val.{Val, vptr, vint}
use prog.Memory.{Memory}
use prog.Routine.{Routine}
use prog.Wp.{Env, WpFn, Tables}
use types.Logic.{Logic, sem}
use contract.BorrowLft.{◌⊑◌}
use contract.Monad.{Fun, fact}
use contract.Running.{tables, tables_of}
use sound.WpLaws.{WpFn-mono}
use types.Kit.{‵, raw, ◌⊛◌, some, later, await, pick, at_ret, ◌$◌, ◌∵◌, !, qed, move, keep, drop, use1, split, split3, join, group, rewrite, frame, fsplit, fsplit3, fjoin, fpack, feq_l, flt_l, suffices, done}
use types.Part.{whole, sub, agg}
use types.Run.{stop, fld, bin, size_word, of_opd, and_then, no_more, first, blocks, exec, returns, enter}
use types.ByLocal.{alloc_all, pass_all, free_all, look_at, get, get_in, is, sets, sets_last, take_at, give_at, env}
use denote.Array.{Array}
use denote.Builtin.{usize}
use denote.Exit.{yes, no}
use denote.Follow.{follows}
use denote.FollowSlice.{Elements, lends_Elements}
use denote.Index.{row, whole_in, whole_out}
use denote.Memory.{part_of, cell_at, mem}
use denote.Param.{layout}
use denote.RattleType.{owns}
use denote.RawPtr.{Ptr, block_ptr}
use denote.Ref.{MutBor}
use denote.Signature.{plain, types_at, mut_ref_to}
use denote.Slice.{MutSlice, slice_val}
use denote.Steps.{heard, nothing}
use denote.Triple.Clauses.{Clauses, Ended, closing}
use denote.Triple.Spec.{Meets, triple_of}
use denote.Triple.Table.{entered}
use denote.Triple.Walked.{says, Stays, stay_dropped, walk_of, ends_at, Goes-dropped, Goes-spent_ref, walk_Meets}
use Rattle.core.proofs.mem.Param.{El, R, args, el_x}
use Rattle.core.proofs.ptr.Rows.{times_below}
use Rattle.core.proofs.slots.Bodies.{after}
use Rattle.core.proofs.slots.Leases.{uncapped}
use Rattle.std_alloc.proofs.RcSteps.{word, word-Good}
use Rattle.ecow_block.proofs.Memory.{Rm, Bs, room_d, sz, Held, Spare, Small, mark, base_had, room_made, room_opens}
use lib.ListN.{drop as drop_l}
use lib.Seq.{take_at as take_front}
use types.SemTy.{cells}
use Rattle.std.specs.List.{refill, length_refill}
use Rattle.ecow_block.specs.Lends.{with_items}
use Rattle.ecow_block.proofs.Places.{to_row, of_row}
use Rattle.ecow_block.specs.contracts.room.Room.as_mut_slice as F
use Rattle.ecow_block.specs.contracts.room.Room.as_mut_slice.Key.{name as #self}
use Rattle.ecow_block.proofs.room.Room.as_mut_slice.Statement.{statement}
use Rattle.ecow_block.proofs.room.Room.as_mut_slice.Code as code

module _ (E : El) where
  abbrev here : Fn
  here = inst_fn (args E) code.function

  abbrev ended : Ended
  ended = F.ended E.row

  abbrev stayed : Stays ended.signature.params ended.kept
  stayed = (
    stay_dropped (mut_ref_to (0 ∷ []) tt (plain (λ _. Rm E))) no,
    (stay_dropped (plain (λ _. Bs E)) no, (stay_dropped (plain (λ _. usize)) yes, (stay_dropped (plain (λ _. usize)) yes, tt))),
  )

  -- all but the items
  abbrev Others : room_d E → ℕ → ℕ → ℕ → ℕ → Fml
  Others d b at rb ro = fsep (Spare E b (at + length d.items * sz E) (d.capacity - length d.items)) (cell_at full_share (Rm E).mir (mark ∷ []) rb ro)

  back : {M : Type 1} {𝓤 : Ura M} (𝓛 : Logic 𝓤) (d : room_d E) (b o rb ro : ℕ) → d.at ≡ block_ptr b o
      → Small E d → (ws : List (el_x E)) → length ws ≡ length d.items
      → ent 𝓤 (sep 𝓤 (sem 𝓛 (cells (mem (R E)) ws b (o + d.start * sz E))) (sem 𝓛 (Others d b (o + d.start * sz E) rb ro)))
      (sem 𝓛 ((mem (Rm E)).own_at (with_items d ws) rb ro))
  unfolding part_of
  back 𝓛 d b o rb ro at_b small ws same =
      let at = o + d.start * sz E in let xs = d.items in let n = length xs in let s = sz E in let zs = refill n xs ws in
      let all : zs ≡ ws = take_front ws (drop_l (length ws) xs) n same in let long : n ≡ length zs = length_refill n xs ws refl in
      qed 𝓛 (‵ (cells (mem (R E)) ws b at) ∷ ‵ (Others d b at rb ro) ∷ []) ∵ use1 𝓛 (‵ (row (R E) full_share ws b at)) (whole_out 𝓛 (R E) ws b at) $
      use1 𝓛 (‵ (Held E b at ws)) (of_row E 𝓛 b at ws) $ rewrite ! 0 (λ (vs : List (el_x E)). ‵ (Held E b at vs)) (sym all) refl $ move ! (1 ∷ []) $ fsplit ! $
      rewrite ! 0 (λ (k : ℕ). ‵ (Spare E b (at + k * s) (d.capacity - k))) long refl $ move ! (2 ∷ 0 ∷ []) $
      room_made E ! (with_items d ws) b o at_b small $ move ! (1 ∷ 0 ∷ []) $ fjoin ! $
      fpack ! (List Val) (λ us. fsep (cell_at full_share (Rm E).mir us rb ro) ((Rm E).own_val (with_items d ws) us)) (mark ∷ []) $ done !

  module _ {M : Type 1} {𝓤 : Ura M} (𝓛 : Logic 𝓤) (at_mem : Memory → SProp 𝓤) (run : Routine → Fun 𝓤) (𝓣 : Tables 𝓤 𝓛.H) where
    open 𝓛 use {H}

    abbrev held : Clauses 𝓤 ended
    held = F.clauses E.row 𝓛 at_mem run

    walk : (z : (walk_of 𝓛 ended stayed held).Ghost)
        → ent 𝓤 ((walk_of 𝓛 ended stayed held).pre z)
        (WpFn 𝓤 H 𝓣.C 𝓣.Λ here ((walk_of 𝓛 ended stayed held).args z) ((walk_of 𝓛 ended stayed held).post z))
    walk z =
        let κ = z.0.0.0 in let κ₁ = z.0.0.1.0 in let q = z.0.1.0 in let q₁ = z.0.1.1.0 in let a = z.0.3 in let vss = z.0.4 in
        let rb = a.0.ref_ptr.0 in let ro = a.0.ref_ptr.1 in let γ = a.0.ghost_name in let d : room_d E = a.0.now in
        let base = a.1.0 in let start = a.1.1.0 in let len = a.1.1.1.0 in
        let Post : Val → SProp 𝓤 = (walk_of 𝓛 ended stayed held).post z in
        let xs = d.items in let n = length xs in let s = sz E in let c = d.capacity in
        let Ok : Type 0 = (base.ptr ≡ d.at) × (start ≡ d.start) × (len ≡ n) in
        qed 𝓛 (((‵ (flft κ q) ⊛ ‵ (flft κ₁ q₁) ⊛ ‵ ftrue) ⊛ ‵ (owns (types_at ended.signature.params z.0.0) a vss))
        ∷ (raw (fact 𝓤 (κ₁ ⊑ E.row.lives)) ⊛ raw (fact 𝓤 Ok)) ∷ []) ∵
        move ! (1 ∷ []) $ split ! $ drop ! $ heard ! Ok (λ ok. let begins = ok.1 in let long = ok.2 in let fits_in : n ≤ c = d.within in
        split ! $ split ! $ move ! (2 ∷ []) $ fsplit ! $ fsplit3 ! $
        feq_l ! (λ e₀. move ! (2 ∷ []) $ fsplit ! $ base_had E ! base vss.1.0 (λ e₁. fsplit ! $ fsplit ! $ feq_l ! (λ e₂. flt_l ! (λ fits_start.
        fsplit ! $ fsplit ! $ feq_l ! (λ e₃. flt_l ! (λ fits_len. keep ! (1 ∷ 2 ∷ 3 ∷ 4 ∷ []) $
        let us : List Val = vptr rb ro ∷ word base.ptr ∷ vint w64 start ∷ vint w64 len ∷ [] in
        let Run : List Val → SProp 𝓤 = λ ws. WpFn 𝓤 H 𝓣.C 𝓣.Λ here ws Post in
        suffices ! (Run us) (subst (λ (ws : List Val). ent 𝓤 (Run us) (Run ws)) (sym (λ k. e₀ k ++ (e₁ k ++ (e₂ k ++ (e₃ k ++ []))))) (id⊢ 𝓤 (Run us))) $
        enter ! 𝓣.C 𝓣.Λ here us Post $
        alloc_all ! (λ l. pass_all ! refl
        ((tt, tt), (word-Good [] base.ptr, ((tt, record { fits = fits_start }), ((tt, record { fits = fits_len }), tt)))) $
        let En : Env 𝓤 H = env here.locals l in
        room_opens E ! tt d rb ro (λ b o at_b small.
        let at = o + d.start * s in
        let far : start * s < 2 ^ 64 = let below = times_below start (d.start + c) s (2 ^ 63) (omega arith) small in omega arith in
        let there : start * s + o ≡ at = let eq = ap (λ k. k * s) begins in omega arith in
        let roomy : n < 2 ^ 64 = omega arith in let fitting : n * s < 2 ^ 63 = times_below n (d.start + c) s (2 ^ 63) (omega arith) small in
        let way = back 𝓛 d b o rb ro at_b small in let Rest = sem 𝓛 (Others d b at rb ro) in let code_d = (Rm E).coded.code d in
        take_at ! 2 $ rewrite ! 0 (λ (p : Ptr). ‵ (fat full_share (layout (Bs E)) (l 2) 0 (word p))) (ok.0 ∙ at_b) refl $ give_at ! 2 $
        first ! $ blocks ! $
        sets ! (is ! (bin ! (get ! refl) (size_word !) (record { fits = subst (λ (k : ℕ). k < 2 ^ 64) (sym (uncapped start s far)) far }))
        (ap (vint w64) (uncapped start s far))) refl (tt, record { fits = far }) $
        sets ! (is ! (bin ! (get_in ! (fld ! refl (stop !)) (sub ! 0 refl (whole !))) (get ! refl) tt) (ap (vptr b) there)) refl (tt, tt) $
        sets_last ! (agg ! (and_then ! (get ! refl) (and_then ! (get ! refl) (no_more !)))) refl (tt, (tt, (record { fits = fits_len }, tt))) $
        exec ! 𝓣.C 𝓣.Λ En (after 1 here.body) (at_ret En Post) $ sets ! (of_opd ! (get ! refl)) refl (tt, (tt, (record { fits = fits_len }, tt))) $
        use1 𝓛 (‵ (row (R E) full_share xs b at)) (to_row E 𝓛 b at xs) $ use1 𝓛 (‵ (cells (mem (R E)) xs b at)) (whole_in 𝓛 (R E) xs b at) $
        move ! (1 ∷ 2 ∷ []) $ fjoin ! $ move ! (2 ∷ 3 ∷ 4 ∷ 1 ∷ 0 ∷ []) $ group ! 5 $
        use1 𝓛 (later (some (λ (δ : GName). raw (Elements 𝓛 (Rm E) (R E) (with_items d) (named 0) κ q rb ro b at γ xs (roomy, fitting) Rest way δ))))
        (lends_Elements 𝓛 (Rm E) (R E) (with_items d) (named 0) κ q rb ro b at γ xs (roomy, fitting) Rest way code_d code_d) $ await ! tt $ pick ! (λ δ.
        let r : MutBor (List (el_x E)) = record { ref_ptr = (b, at); ghost_name = δ; now = xs } in
        returns ! (look_at ! 0 refl) $ free_all ! refl $
        use1 𝓛 (‵ ((MutSlice (named 0) κ (R E)).own_val r (slice_val (b, at) n ∷ [])) ⊛ ‵ (flft κ q)
        ⊛ ‵ (follows (Rm E) (Array (R E) 0) γ δ (with_items d))) (id⊢ 𝓤 _) $ split3 ! $
        rewrite ! 0 (λ (k : ℕ). ‵ ((MutSlice (named 0) κ (R E)).own_val r (slice_val (b, at) k ∷ []))) (sym long) refl $
        -- [the slice; the token; what follows; the other token]
        suffices ! _ (ends_at 𝓛 ended stayed held z (slice_val (b, at) len) r (tt, (tt, (tt, (tt, tt)))) (tt, (tt, (tt, (tt, tt))))) $
        nothing ! $ nothing ! $ fjoin ! $ nothing ! $ fjoin ! $ nothing ! $ fjoin ! $ nothing ! $ fjoin ! $
        move ! (2 ∷ 4 ∷ []) $ join ! $ group ! 3 $ frame ! $ says ! refl $ done !))))))))))

    meets : Meets 𝓛 ended.signature (WpFn 𝓤 H 𝓣.C 𝓣.Λ here) (closing 𝓛 ended held)
    meets =
        walk_Meets 𝓛 ended stayed (
          Goes-spent_ref 𝓛 2 (0 ∷ []) tt (plain (λ _. Rm E)),
          (
            Goes-dropped 𝓛 2 (plain (λ _. Bs E)) no (λ κs x f. refl),
            (
              Goes-dropped 𝓛 2 (plain (λ _. usize)) yes (λ κs x f. refl),
              (Goes-dropped 𝓛 2 (plain (λ _. usize)) yes (λ κs x f. refl), tt),
            ),
          ),
        ) held
        (WpFn 𝓤 H 𝓣.C 𝓣.Λ here) (WpFn-mono 𝓤 H 𝓛.laws 𝓣 here) walk

pub as_mut_slice_spec : {M : Type 1} → statement M
unfolding tables_of
as_mut_slice_spec 𝓤 𝓛 𝓜 𝓡 wired X L =
    let E : El = record { row = X; laws = L } in
    let 𝓣 : Tables 𝓤 𝓛.H = tables_of 𝓤 𝓛.H 𝓜 (tables 𝓤 𝓛.H 𝓜 𝓡 𝓡.env) in
    entered 𝓤 𝓛.H (triple_of 𝓛 (F.signature X) (F.spec X 𝓛 𝓜.mem 𝓡.returns)) 𝓣.C 𝓣.Λ (#self (args E)) (here E) (code.unfolded 𝓤 𝓛.H 𝓜 𝓡 wired (X, tt))
    (meets E 𝓛 𝓜.mem 𝓡.returns 𝓣)
