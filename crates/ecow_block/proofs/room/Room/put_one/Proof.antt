-- `put_one` writes an item that is passed as an array into the first empty place, for every element type. Assumes `Logic`.
use mathlib.Core.Path.{◌≡◌, refl, sym, ap, subst, ◌∙◌}
use Prim.Native.Nat.{ℕ, ◌+◌, ◌-◌, ◌*◌, ◌<◌, ◌≤◌, ◌^◌}
use native.Mathlib.Omega.{arith}
use mathlib.Core.List.{List, [], ◌∷◌, ◌++◌}
use lib.Dec.{T}
use lib.ListN.{length, length-append}
use seplogic.Ra.Ura.{Ura}
use base.Fraction.{full_share}
use base.Logic.{SProp, ent, id⊢, via}
use base.Fml.{ftrue, fat, froom, flft}
use mir.Syntax.{Fn, Ty, w64, ty_array}
use mir.MapTy.{inst_fn}
use mir.Val.{Val, WT, has_ty, vptr, vint, vunit}
use prog.Memory.{Memory}
use prog.Routine.{Routine}
use prog.Wp.{Env, WpFn, Tables}
use types.Logic.{Logic, sem}
use contract.BorrowLft.{◌⊑◌}
use contract.Monad.{Fun, fact}
use contract.Running.{tables, tables_of}
use sound.WpLaws.{WpFn-mono}
use types.Kit.{‵, raw, ◌⊛◌, given, learn, at_ret, ◌$◌, ◌∵◌, !, qed, move, keep, drop, use1, use2, split, split3, join, rewrite, fsplit, fsplit3, fjoin, fjoin3, feq_i, feq_l, flt_l, suffices, done}
use types.Part.{whole, sub}
use types.Run.{init, stop, fld, size_lit, unit_lit, of_opd, bin, assigns_last, first, blocks, exec, returns, enter}
use types.ByLocal.{alloc_all, pass_all, free_all, look_at, get, get_in, through, sets, take_at, give_at, env}
use denote.Array.{Array}
use denote.Builtin.{usize}
use denote.Exit.{Entries, all_last, all_rest, yes, no}
use denote.Index.{row}
use denote.Laws.{Is, Typed, shows}
use denote.Memory.{part_at}
use denote.Param.{layout}
use denote.Param.Laws.{array_laws, param_laws}
use denote.RattleType.{RattleType, owns}
use denote.RawPtr.{Ptr}
use denote.Signature.{plain, types_at}
use denote.Steps.{heard, nothing, peeks}
use denote.Triple.Clauses.{Clauses, Ended, closing}
use denote.Triple.Spec.{Meets, triple_of}
use denote.Triple.Table.{entered}
use denote.Triple.Walked.{Stays, stay_dropped, stay_ref, walk_of, ends_at, Goes-dropped, Goes-ref, walk_Meets}
use Rattle.core.proofs.mem.Facts.{says_two}
use borrow.Table.OneValue.{part_in}
use Rattle.core.proofs.mem.Param.{El, R, args, el_x, elτ}
use Rattle.core.proofs.ptr.Rows as rows
use Rattle.core.proofs.ptr.Rows.{times_below, one_below, add_times}
use Rattle.core.proofs.slots.Bodies.{after}
use Rattle.std_alloc.proofs.RawLayout.{as_written}
use Rattle.std_alloc.proofs.RcSteps.{word, word-Good}
use Rattle.ecow_block.proofs.Memory.{Rm, Bs, room_d, sz, Held, Spare, base_had, room_opens, room_closes}
use Rattle.ecow_block.proofs.Places.{E', of_row, glue, spare_cut}
use Rattle.ecow_block.specs.contracts.room.Room.put_one as F
use Rattle.ecow_block.specs.contracts.room.Room.put_one.Key.{name as #self}
use Rattle.ecow_block.proofs.room.Room.put_one.Statement.{statement}
use Rattle.ecow_block.proofs.room.Room.put_one.Code as code

-- a value of one type is one machine value
one_value : (τ : Ty) (vs : List Val) → Typed (τ ∷ []) vs → (v : Val) × (vs ≡ v ∷ []) × T (has_ty τ v) × WT v
one_value τ [] t = absurd t
one_value τ (v ∷ []) t = (v, refl, t.0.0, t.0.1)
one_value τ (v ∷ w ∷ vs) t = absurd t.1

-- the array that was passed leaves nothing behind
nothing_left : {M : Type 1} {𝓤 : Ura M} (𝓛 : Logic 𝓤) {X : Type 0} (xs : List X) (fs : Entries (λ _. Unit {0}) xs)
    → ent 𝓤 (sem 𝓛 ftrue) (sem 𝓛 (all_last (λ _. Unit {0}) (λ _ _. ftrue) xs fs))
nothing_left 𝓛 [] fs = qed 𝓛 (‵ ftrue ∷ []) ∵ done !
nothing_left 𝓛 {X} (x ∷ xs) fs =
    qed 𝓛 (‵ ftrue ∷ []) ∵ use1 𝓛 (‵ (all_last (λ _. Unit {0}) (λ _ _. ftrue) xs fs.1)) (nothing_left 𝓛 xs fs.1) $ nothing ! $ fjoin ! $ done !

module _ (E : El) where
  abbrev here : Fn
  here = inst_fn (args E) code.function

  -- the items
  abbrev Arr : RattleType
  Arr = Array (R E) 1

  abbrev arr : Ty
  arr = ty_array (elτ E) 1

  abbrev ended : Ended
  ended = F.ended E.row

  abbrev stayed : Stays ended.signature.params ended.kept
  stayed = (
    stay_ref (0 ∷ []) tt (plain (λ _. Rm E)),
    (stay_dropped (plain (λ _. Bs E)) no, (stay_dropped (plain (λ _. usize)) yes, (stay_dropped (plain (λ _. Arr)) no, tt))),
  )

  module _ {M : Type 1} {𝓤 : Ura M} (𝓛 : Logic 𝓤) (at_mem : Memory → SProp 𝓤) (run : Routine → Fun 𝓤) (𝓣 : Tables 𝓤 𝓛.H) where
    open 𝓛 use {H}

    abbrev held : Clauses 𝓤 ended
    held = F.clauses E.row 𝓛 at_mem run

    walk : (z : (walk_of 𝓛 ended stayed held).Ghost)
        → ent 𝓤 ((walk_of 𝓛 ended stayed held).pre z)
        (WpFn 𝓤 H 𝓣.C 𝓣.Λ here ((walk_of 𝓛 ended stayed held).args z) ((walk_of 𝓛 ended stayed held).post z))
    walk z =
        let κ = z.0.0.0 in let κ₁ = z.0.0.1.0 in let q = z.0.1.0 in let q₁ = z.0.1.1.0 in let a = z.0.3 in let vss = z.0.4 in
        let rb = a.0.ref_ptr.0 in let ro = a.0.ref_ptr.1 in let d : room_d E = a.0.now in
        let base = a.1.0 in let at = a.1.1.0 in let xs : List (el_x E) = a.1.1.1.0 in
        let Post : Val → SProp 𝓤 = (walk_of 𝓛 ended stayed held).post z in
        let n = length d.items in let s = sz E in
        let Ok : Type 0 = (base.ptr ≡ d.at) × (at ≡ d.start + n) × (n < d.capacity) in
        qed 𝓛 (((‵ (flft κ q) ⊛ ‵ (flft κ₁ q₁) ⊛ ‵ ftrue) ⊛ ‵ (owns (types_at ended.signature.params z.0.0) a vss))
        ∷ (raw (fact 𝓤 (κ₁ ⊑ E.row.lives)) ⊛ raw (fact 𝓤 (1 * s < 2 ^ 63)) ⊛ raw (fact 𝓤 Ok)) ∷ []) ∵
        move ! (1 ∷ []) $ split3 ! $ drop ! $ drop ! $ heard ! Ok (λ ok. let roomy : n < d.capacity = ok.2 in
        split ! $ split ! $ move ! (2 ∷ []) $ fsplit ! $ fsplit3 ! $
        feq_l ! (λ e₀. move ! (2 ∷ []) $ fsplit ! $ base_had E ! base vss.1.0 (λ e₁. fsplit ! $ fsplit ! $ feq_l ! (λ e₂. flt_l ! (λ fits.
        fsplit ! $ peeks ! Arr (Is Arr) (shows 𝓛 Arr) xs vss.1.1.1.0 (λ is.
        let got = one_value arr vss.1.1.1.0 (((array_laws (R E) (param_laws 0 E.row E.laws) 1).lawful 𝓛).typed xs vss.1.1.1.0 is) in
        let v = got.0 in let e₃ = got.1 in let good : T (has_ty arr v) × WT v = (got.2, got.3) in
        rewrite ! 0 (λ (ws : List Val). ‵ (Arr.own_val xs ws)) e₃ refl $ keep ! (2 ∷ 3 ∷ 4 ∷ 0 ∷ 5 ∷ []) $
        let us : List Val = vptr rb ro ∷ word base.ptr ∷ vint w64 at ∷ v ∷ [] in
        let Run : List Val → SProp 𝓤 = λ ws. WpFn 𝓤 H 𝓣.C 𝓣.Λ here ws Post in
        suffices ! (Run us) (subst (λ (ws : List Val). ent 𝓤 (Run us) (Run ws)) (sym (λ k. e₀ k ++ (e₁ k ++ (e₂ k ++ (e₃ k ++ []))))) (id⊢ 𝓤 (Run us))) $
        enter ! 𝓣.C 𝓣.Λ here us Post $ alloc_all ! (λ l. pass_all ! refl ((tt, tt), (word-Good [] base.ptr, ((tt, record { fits = fits }), (good, tt)))) $
        let En : Env 𝓤 H = env here.locals l in
        room_opens E ! tt d rb ro (λ b o at_b small.
        let o' = o + d.start * s in
        let many : (0 < d.start + d.capacity) × (at ≤ d.start + d.capacity) = let eq = ok.1 in (omega arith, omega arith) in
        let spare = d.capacity - (n + 1) in let more : d.capacity - n ≡ 1 + spare = omega arith in
        let tiny : s < 2 ^ 64 = let one = one_below (d.start + d.capacity) s (2 ^ 63) many.0 small in omega arith in
        let far : at * s < 2 ^ 64 = let below = times_below at (d.start + d.capacity) s (2 ^ 63) many.1 small in omega arith in
        let there : o' + n * s ≡ at * s + o = let eq = ap (λ k. k * s) ok.1 ∙ add_times d.start n s in omega arith in
        let behind : o' + (n + 1) * s ≡ o' + n * s + 1 * s = let eq = add_times n 1 s in omega arith in
        take_at ! 2 $ rewrite ! 0 (λ (p : Ptr). ‵ (fat full_share (layout (Bs E)) (l 2) 0 (word p))) (ok.0 ∙ at_b) refl $ give_at ! 2 $
        move ! (1 ∷ []) $ rewrite ! 0 (λ (k : ℕ). ‵ (Spare E b (o' + n * s) k)) more refl $
        use1 𝓛 (‵ (Spare E b (o' + n * s) 1) ⊛ ‵ (Spare E b (o' + (n + 1) * s) spare))
        (spare_cut E 𝓛 b (o' + n * s) (o' + (n + 1) * s) 1 spare behind) $ split ! $
        as_written ! arr b (o' + n * s) $ rewrite ! 0 (λ (k : ℕ). ‵ (froom arr b k)) there refl $
        -- [the room; the other empty places; the items; the mark's cell; the open borrow; obs; auth; what the item owns; the other token]
        first ! $ blocks ! $
        sets ! (bin ! (get ! refl) (size_lit ! (record { fits = tiny })) (record { fits = far })) refl (tt, record { fits = far }) $
        sets ! (bin ! (get_in ! (fld ! refl (stop !)) (sub ! 0 refl (whole !))) (get ! refl) tt) refl (tt, tt) $
        sets ! (of_opd ! (get ! refl)) refl good $ assigns_last ! (of_opd ! (get ! refl)) (through ! refl (stop !)) (init ! 0 refl good) $
        exec ! 𝓣.C 𝓣.Λ En (after 1 here.body) (at_ret En Post) $ sets ! (of_opd ! (unit_lit !)) refl (tt, tt) $
        move ! (0 ∷ 7 ∷ []) $ use2 𝓛 (‵ (part_at Arr full_share xs b (at * s + o))) (part_in 𝓛 Arr refl full_share xs b (at * s + o) v) $
        use1 𝓛 (given (length xs ≡ 1) (‵ (row (R E) full_share xs b (at * s + o))))
        (rows.apart (E' E 𝓛 b) 𝓛 full_share 1 xs b (at * s + o)) $ learn ! (λ counted.
        let long : length (d.items ++ xs) ≡ n + 1 = length-append d.items xs ∙ ap (λ k. n + k) counted in
        let new : room_d E = record { mark = d.mark; at = d.at; start = d.start; items = d.items ++ xs; capacity = d.capacity; within = omega (arith, long) } in
        use1 𝓛 (‵ (Held E b (at * s + o) xs)) (of_row E 𝓛 b (at * s + o) xs) $ move ! (2 ∷ 0 ∷ []) $
        use2 𝓛 (‵ (Held E b o' (d.items ++ xs))) (glue E 𝓛 b o' (at * s + o) d.items xs (sym there)) $
        rewrite ! 1 (λ (k : ℕ). ‵ (Spare E b (o' + k * s) (d.capacity - k))) (sym long) refl $
        room_closes E ! tt new b o rb ro at_b small $ returns ! (look_at ! 0 refl) $ free_all ! refl $
        suffices ! _ (ends_at 𝓛 ended stayed held z vunit tt (new, (tt, (tt, (all_rest (λ _. Unit {0}) (λ _. tt) xs, tt))))
        (tt, (tt, (tt, (tt, tt))))) $ says_two ! (refl, record { at = refl; start = refl; capacity = refl }) $
        feq_i ! (List Val) vss.0 (vptr rb ro ∷ []) e₀ $ fjoin3 ! $ nothing ! $ nothing ! $ fjoin ! $
        nothing ! $ fjoin ! $ nothing ! $ fjoin ! $ move ! (1 ∷ 0 ∷ []) $ fjoin ! $
        move ! (1 ∷ 2 ∷ []) $ join ! $ feq_i ! (List Val) (vunit ∷ []) (vunit ∷ []) refl $ keep ! (1 ∷ 2 ∷ 0 ∷ []) $ done !)))))))))

    meets : Meets 𝓛 ended.signature (WpFn 𝓤 H 𝓣.C 𝓣.Λ here) (closing 𝓛 ended held)
    meets =
        walk_Meets 𝓛 ended stayed (
          Goes-ref 𝓛 2 0 tt (plain (λ _. Rm E)),
          (
            Goes-dropped 𝓛 2 (plain (λ _. Bs E)) no (λ κs x f. refl),
            (
              Goes-dropped 𝓛 2 (plain (λ _. usize)) yes (λ κs x f. refl),
              ((λ κs x f vs ok. via 𝓤 _ (nothing_left 𝓛 x f) (𝓛.laws.⇛_intro _)), tt),
            ),
          ),
        ) held
        (WpFn 𝓤 H 𝓣.C 𝓣.Λ here) (WpFn-mono 𝓤 H 𝓛.laws 𝓣 here) walk

pub put_one_spec : {M : Type 1} → statement M
unfolding tables_of
put_one_spec 𝓤 𝓛 𝓜 𝓡 wired X L =
    let E : El = record { row = X; laws = L } in
    let 𝓣 : Tables 𝓤 𝓛.H = tables_of 𝓤 𝓛.H 𝓜 (tables 𝓤 𝓛.H 𝓜 𝓡 𝓡.env) in
    entered 𝓤 𝓛.H (triple_of 𝓛 (F.signature X) (F.spec X 𝓛 𝓜.mem 𝓡.returns)) 𝓣.C 𝓣.Λ (#self (args E)) (here E) (code.unfolded 𝓤 𝓛.H 𝓜 𝓡 wired (X, tt))
    (meets E 𝓛 𝓜.mem 𝓡.returns 𝓣)
