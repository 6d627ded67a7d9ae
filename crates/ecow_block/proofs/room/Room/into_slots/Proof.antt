-- `into_slots` hands `from_raw_parts` the empty places, for every element type. Assumes `Logic`.
use mathlib.Core.Bool.{Bool, false}
use mathlib.Core.Path.{◌≡◌, refl, sym, ap, subst, ◌∙◌}
use Prim.Native.Nat.{ℕ, ◌+◌, ◌-◌, ◌*◌, ◌<◌, ◌^◌}
use native.Mathlib.Nat.{zero-mul}
use native.Mathlib.Omega.{arith}
use mathlib.Core.List.{List, [], ◌∷◌, ◌++◌}
use lib.ListN.{length, replicate, length-replicate}
use seplogic.Ra.Ura.{Ura}
use base.Fraction.{full_share}
use base.Logic.{SProp, ent, id⊢}
use base.Fml.{ftrue, fat, flft}
use mir.Syntax.{Fn, w64, ty_array}
use mir.MapTy.{inst_fn}
use mir.Val.{Val, WT, vint}
use prog.Memory.{Memory}
use prog.Routine.{Routine}
use prog.Wp.{Env, WpFn, Tables}
use types.Logic.{Logic}
use contract.BorrowLft.{◌⊑◌}
use contract.Monad.{Fun, fact}
use contract.Running.{tables, tables_of}
use sound.WpLaws.{WpFn-mono, fm_of}
use types.Kit.{‵, raw, ◌⊛◌, some, given, learn, later, await, at_ret, ◌$◌, ◌∵◌, !, qed, move, keep, use1, use2, split, join, pick, rewrite, fsplit, fjoin, feq_l, flt_l, suffices, done}
use types.Part.{whole, sub}
use types.Run.{stop, fld, size_word, of_opd, bin, and_then, no_more, first, blocks, exec, returns, enter}
use types.ByLocal.{alloc_all, pass_all, free_all, look_at, get, get_in, is, sets, lands_last, take_at, give_at, env}
use denote.Builtin.{usize, SliceRefOf}
use denote.Exit.{yes, no}
use denote.Param.{layout}
use denote.RattleType.{owns}
use denote.RawPtr.{Ptr, block_ptr}
use denote.Signature.{plain, types_at}
use denote.Slice.{slice_val}
use denote.Steps.{heard, nothing}
use denote.Triple.Call.{calls_at_last}
use denote.Triple.Clauses.{Clauses, Ended, closing}
use denote.Triple.Spec.{Meets, triple_of}
use denote.Triple.Statement.{Triple}
use denote.Triple.Table.{entered}
use denote.Triple.Walked.{Stays, stay_dropped, walk_of, ends_at, Goes-dropped, walk_Meets}
use Rattle.core.proofs.mem.Facts.{says_two}
use Rattle.core.proofs.mem.Param.{El, R, args, el_x, elτ}
use Rattle.core.proofs.ptr.Rows.{times_below}
use Rattle.core.proofs.slots.Bodies.{after}
use Rattle.core.proofs.slots.Leases.{uncapped}
use Rattle.core.proofs.slots.Opens.{row_val}
use Rattle.core.proofs.slots.Runs.{of_space}
use Rattle.core.proofs.slots.Slots.from_raw_parts.Met as made_met
use Rattle.std_alloc.proofs.RawLayout.{as_written}
use Rattle.std_alloc.proofs.RcSteps.{word, word-Good}
use Rattle.std_alloc.proofs.vec.Blocks.{all}
use Rattle.std_alloc.proofs.vec.Spares.{Row, from_key, row_Typed, From, at_from, Made, from_goes, from_gives}
use Rattle.ecow_block.specs.Ownership.{place}
use Rattle.ecow_block.proofs.Memory.{Rm, Bs, room_d, sz, Spare, mark, base_had, room_had}
use Rattle.ecow_block.proofs.Slots.{in_vec}
use Rattle.ecow_block.specs.contracts.room.Room.into_slots as F
use Rattle.ecow_block.specs.contracts.room.Room.into_slots.Key.{name as #self}
use Rattle.ecow_block.proofs.room.Room.into_slots.Statement.{statement}
use Rattle.ecow_block.proofs.room.Room.into_slots.Code as code

module _ (E : El) where
  abbrev here : Fn
  here = inst_fn (args E) code.function

  abbrev ended : Ended
  ended = F.ended E.row

  abbrev stayed : Stays ended.signature.params ended.kept
  stayed = (
    stay_dropped (plain (λ _. Rm E)) no,
    (
      stay_dropped (plain (λ _. Bs E)) no,
      (stay_dropped (plain (λ _. usize)) yes, (stay_dropped (SliceRefOf (0 ∷ []) tt (plain (λ _. R E)) (λ _. tt)) yes, tt)),
    ),
  )

  module _ {M : Type 1} {𝓤 : Ura M} (𝓛 : Logic 𝓤) (at_mem : Memory → SProp 𝓤) (run : Routine → Fun 𝓤) (𝓣 : Tables 𝓤 𝓛.H)
      (callee : Triple 𝓤 (𝓣.C (from_key (in_vec E))) (From (in_vec E) 𝓛 at_mem run)) where
    open 𝓛 use {H}

    abbrev held : Clauses 𝓤 ended
    held = F.clauses E.row 𝓛 at_mem run

    walk : (z : (walk_of 𝓛 ended stayed held).Ghost)
        → ent 𝓤 ((walk_of 𝓛 ended stayed held).pre z)
        (WpFn 𝓤 H 𝓣.C 𝓣.Λ here ((walk_of 𝓛 ended stayed held).args z) ((walk_of 𝓛 ended stayed held).post z))
    walk z =
        let κ₀ = z.0.0.0 in let κ₁ = z.0.0.1.0 in let q₀ = z.0.1.0 in let q₁ = z.0.1.1.0 in let a = z.0.3 in let vss = z.0.4 in
        let d : room_d E = a.0 in let base = a.1.0 in let at : ℕ = a.1.1.0 in let xs : List (el_x E) = a.1.1.1.0.now in let p : ℕ × ℕ = a.1.1.1.0.ref_ptr in
        let Post : Val → SProp 𝓤 = (walk_of 𝓛 ended stayed held).post z in
        let n = length xs in let s = sz E in let c = d.capacity in let m = length d.items in let V = in_vec E in
        let Ok : Type 0 = (base.ptr ≡ d.at) × (at ≡ d.start) × (d.items ≡ []) × (c ≡ n) in
        qed 𝓛 (((‵ (flft κ₀ q₀) ⊛ ‵ (flft κ₁ q₁) ⊛ ‵ ftrue) ⊛ ‵ (owns (types_at ended.signature.params z.0.0) a vss))
        ∷ (raw (fact 𝓤 (κ₁ ⊑ E.row.lives)) ⊛ raw (fact 𝓤 Ok)) ∷ []) ∵
        move ! (1 ∷ []) $ split ! $ heard ! (κ₁ ⊑ E.row.lives) (λ lives. heard ! Ok (λ ok.
        split ! $ split ! $ move ! (2 ∷ []) $ fsplit ! $ room_had E ! d vss.0 (λ b o at_b e₀ small. move ! (2 ∷ []) $
        fsplit ! $ base_had E ! base vss.1.0 (λ e₁. fsplit ! $ fsplit ! $ feq_l ! (λ e₂. flt_l ! (λ fits.
        fsplit ! $ fsplit ! $ fsplit ! $ feq_l ! (λ e₃. fsplit ! $ flt_l ! (λ fn. keep ! (4 ∷ 5 ∷ 6 ∷ []) $
        let us : List Val = mark ∷ word base.ptr ∷ vint w64 at ∷ slice_val p n ∷ [] in
        let Run : List Val → SProp 𝓤 = λ ws. WpFn 𝓤 H 𝓣.C 𝓣.Λ here ws Post in
        suffices ! (Run us) (subst (λ (ws : List Val). ent 𝓤 (Run us) (Run ws)) (sym (λ k. e₀ k ++ (e₁ k ++ (e₂ k ++ (e₃ k ++ []))))) (id⊢ 𝓤 (Run us))) $
        enter ! 𝓣.C 𝓣.Λ here us Post $
        alloc_all ! (λ l. pass_all ! refl (
          (tt, (tt, tt)),
          (word-Good [] base.ptr, ((tt, record { fits = fits }), ((tt, (tt, (record { fits = fn }, tt))), tt))),
        ) $
        let En : Env 𝓤 H = env here.locals l in
        let none : m ≡ 0 = ap length ok.2 in let begins = ok.1 in let roomy : c ≡ n = ok.3 in
        let dst = at * s + o in let fs : List Bool = replicate n false in
        let far : at * s < 2 ^ 64 = let below = times_below at (d.start + c) s (2 ^ 63) (omega arith) small in omega arith in
        let fit : n * s < 2 ^ 63 = times_below n (d.start + c) s (2 ^ 63) (omega arith) small in
        let there : o + d.start * s + m * s ≡ dst = let eq = ap (λ k. k * s) begins in let nil = ap (λ k. k * s) none ∙ zero-mul s in omega arith in
        let many : c - m ≡ n = omega arith in
        let words : WT (row_val b dst n) = (tt, (record { fits = fn }, tt)) in
        take_at ! 2 $ rewrite ! 0 (λ (r : Ptr). ‵ (fat full_share (layout (Bs E)) (l 2) 0 (word r))) (ok.0 ∙ at_b) refl $ give_at ! 2 $
        -- [the empty places; the slice's token; the other token]
        rewrite ! 0 (λ (k : ℕ). ‵ (Spare E b k (c - m))) there refl $
        rewrite ! 0 (λ (k : ℕ). ‵ (Spare E b dst k)) many refl $ as_written ! (ty_array (elτ E) n) b dst $
        use1 𝓛 (‵ (all V b dst xs fs)) (of_space E 𝓛 b dst n xs refl) $
        first ! $ blocks ! $
        sets ! (is ! (bin ! (get ! refl) (size_word !) (record { fits = subst (λ (k : ℕ). k < 2 ^ 64) (sym (uncapped at s far)) far }))
        (ap (vint w64) (uncapped at s far))) refl (tt, record { fits = far }) $
        sets ! (bin ! (get_in ! (fld ! refl (stop !)) (sub ! 0 refl (whole !))) (get ! refl) tt) refl (tt, tt) $
        sets ! (of_opd ! (get_in ! (fld ! refl (stop !)) (sub ! 1 refl (whole !)))) refl (tt, record { fits = fn }) $
        move ! (2 ∷ []) $ split ! $ move ! (2 ∷ 0 ∷ []) $
        let y : (From V 𝓛 at_mem run).Ghost = at_from V 𝓛 at_mem run κ₁ q₁ b dst n xs fs in
        use2 𝓛 (raw ((From V 𝓛 at_mem run).pre y)) (from_goes V 𝓛 at_mem run κ₁ q₁ b dst n xs fs lives refl (sym (length-replicate n false)) fn fit) $
        calls_at_last ! (fm_of 𝓤 H 𝓛.laws 𝓣) (From V 𝓛 at_mem run) callee y (and_then ! (get ! refl) (and_then ! (get ! refl) (no_more !))) (λ v.
        use1 𝓛 (later (some (λ (r : (Row V).Denot). given ((v ≡ row_val b dst n) × Made V 𝓛 at_mem run κ₁ q₁ b dst n xs fs r)
        (‵ ((Row V).own_val r (row_val b dst n ∷ [])) ⊛ ‵ (flft κ₁ q₁)))))
        (from_gives V 𝓛 at_mem run κ₁ q₁ b dst n xs fs v) $ await ! tt $ pick ! (λ r. learn ! (λ got. split ! $
        lands_last ! refl (row_Typed V v b dst n got.0 fn) $ exec ! 𝓣.C 𝓣.Λ En (after 1 here.body) (at_ret En Post) $
        sets ! (is ! (of_opd ! (get ! refl)) got.0) refl (tt, words) $ returns ! (look_at ! 0 refl) $ free_all ! refl $
        -- [the slots; a token; nothing; the slice's token]
        let of = got.1 in let long : r.len ≡ n = of.1 in
        let begin : r.ptr ≡ place (R E) base.ptr at =
        of.0 ∙ ap (block_ptr b) (let eq : dst ≡ o + at * s = omega arith in eq) ∙ ap (λ (k : Ptr). place (R E) k at) (sym (ok.0 ∙ at_b)) in
        suffices ! _ (ends_at 𝓛 ended stayed held z (row_val b dst n) r (tt, (tt, (tt, (tt, tt)))) (tt, (tt, (tt, (tt, tt))))) $
        says_two ! ((of.2, long), (begin, times_below (at + r.len) (d.start + c) s (2 ^ 63) (omega arith) small)) $
        move ! (1 ∷ 2 ∷ []) $ join ! $ move ! (2 ∷ 0 ∷ []) $ join ! $
        nothing ! $ nothing ! $ fjoin ! $ nothing ! $ fjoin ! $ nothing ! $ fjoin ! $ nothing ! $ fjoin ! $ keep ! (1 ∷ 0 ∷ 2 ∷ []) $ done !))))))))))))

    meets : Meets 𝓛 ended.signature (WpFn 𝓤 H 𝓣.C 𝓣.Λ here) (closing 𝓛 ended held)
    meets =
        walk_Meets 𝓛 ended stayed (
          Goes-dropped 𝓛 2 (plain (λ _. Rm E)) no (λ κs x f. refl),
          (
            Goes-dropped 𝓛 2 (plain (λ _. Bs E)) no (λ κs x f. refl),
            (
              Goes-dropped 𝓛 2 (plain (λ _. usize)) yes (λ κs x f. refl),
              (Goes-dropped 𝓛 2 (SliceRefOf (0 ∷ []) tt (plain (λ _. R E)) (λ _. tt)) yes (λ κs x f. refl), tt),
            ),
          ),
        ) held (WpFn 𝓤 H 𝓣.C 𝓣.Λ here) (WpFn-mono 𝓤 H 𝓛.laws 𝓣 here) walk

pub into_slots_spec : {M : Type 1} → statement M
unfolding tables_of
into_slots_spec 𝓤 𝓛 𝓜 𝓡 wired X L =
    let E : El = record { row = X; laws = L } in
    let 𝓣 : Tables 𝓤 𝓛.H = tables_of 𝓤 𝓛.H 𝓜 (tables 𝓤 𝓛.H 𝓜 𝓡 𝓡.env) in
    entered 𝓤 𝓛.H (triple_of 𝓛 (F.signature X) (F.spec X 𝓛 𝓜.mem 𝓡.returns)) 𝓣.C 𝓣.Λ (#self (args E)) (here E) (code.unfolded 𝓤 𝓛.H 𝓜 𝓡 wired (X, tt))
    (meets E 𝓛 𝓜.mem 𝓡.returns 𝓣 (made_met.met 𝓤 𝓛 𝓜 𝓡 (code.calls-core::slots::Slots::from_raw_parts 𝓡.env wired) X L))
