-- `first_bytes` lends the first bytes of a slice on as a slice. The borrow checker writes no clause on a part of a slice
-- that goes to the caller, so this proof walks the code by hand: the borrow is opened, the bytes are cut in two, and
-- the front is lent under a new name, which the slice follows.
use mathlib.Core.Path.{◌≡◌, refl, sym, ap, ◌∙◌}
use Prim.Native.Nat.{ℕ, ◌^◌, ◌<◌, ◌≤◌}
use native.Mathlib.Omega.{arith}
use mathlib.Core.List.{List, [], ◌∷◌, ◌++◌}
use lib.ListN.{length, take, drop as drop_list, take-append-drop, length-drop, length-append}
use seplogic.Ra.Ura.{Ura}
use mir.Syntax.{named, w64}
use mir.Val.{Val, vint}
use base.Logic.{SProp, ent, sep, ex}
use base.Fml.{Fml, Lft, GName, Share, ftrue, flft, fobs, fbor}
use prog.Memory.{Memory}
use prog.Routine.{Routine}
use prog.Wp.{Calls, Loops, WpFn, Tables}
use types.Logic.{Logic, sem}
use types.Mut.{open_ref}
use types.SemTy.{Arr, Body, cells}
use types.Follow.{takes_part}
use contract.Lifetimes.{AllOutlive}
use contract.Monad.{Fun, fact}
use contract.Running.{tables, tables_of}
use sound.WpLaws.{WpFn-mono}
use types.Kit.{Item, ‵, ◌⊛◌, raw, some, later, ◌$◌, ◌∵◌, !, qed, by, move, keep, drop, split, split3, join, fsplit, fsplit3, fjoin, use1, use2, await, pick, suffices, frame, done, updating, group, now, show, rewrite, feq_l, feq_i}
use types.Part.{whole, sub, agg}
use types.Run.{stop, fld, hop, from, addr, and_then, no_more, returns, enter}
use types.ByLocal.{alloc_all, pass_all, free_all, look_at, look_in_at, get, sets}
use denote.Array.{Array}
use denote.Builtin.{u8, usize}
use denote.Exit.{yes, no}
use denote.Follow.{follows}
use denote.FollowSlice.{heres_id, slice_of}
use denote.Memory.{mem}
use denote.Plain.{uint_vals, uint_Tells}
use denote.RattleType.{owns}
use denote.Ref.{MutBor}
use denote.Signature.{plain, mut_slice_of}
use denote.Slice.{MutSlice, Room, slice_val, mut_slice_vals, mut_slice_Tells}
use denote.Steps.{nothing, heard}
use denote.Triple.Clauses.{Clauses, closing}
use denote.Triple.Entry.{on_entry}
use denote.Triple.Spec.{Meets, triple_of}
use denote.Triple.Table.{entered}
use denote.Triple.Walked.{says, Stays, stay_dropped, walk_of, ends_at, walked, Goes-dropped, Goes-spent_slice, walk_Meets}
use borrow.Table.Elements.{at, cut_app, join_app, length-take-le}
use Rattle.std.proofs.lemmas.List.{take_at}
use Rattle.ecow_bytes.specs.Lends.{with_front}
use Rattle.ecow_bytes.specs.contracts.cells.first_bytes as F
use Rattle.ecow_bytes.specs.contracts.cells.first_bytes.Key.{name as #self}
use Rattle.ecow_bytes.proofs.cells.first_bytes.Statement as stated
use Rattle.ecow_bytes.proofs.cells.first_bytes.Code as code

-- as many bytes as were lent, and the rest behind them
in_front : (m : ℕ) (xs ws : List ℕ) → length ws ≡ m → ws ++ drop_list m xs ≡ with_front m xs ws
in_front m xs ws e = ap (λ front. front ++ drop_list m xs) (sym (take_at ws (drop_list (length ws) (take m xs)) m e))

abbrev stayed : Stays F.ended.signature.params F.ended.kept
stayed = (stay_dropped (mut_slice_of (0 ∷ []) tt (plain (λ _. u8))) no, (stay_dropped (plain (λ _. usize)) yes, tt))

module _ {M : Type 1} {𝓤 : Ura M} (𝓛 : Logic 𝓤) where
  open 𝓛 use {H, A}

  module _ (κ : Lft) (q : Share) (b o : ℕ) (γ : GName) (xs : List ℕ) (m : ℕ) (within : m ≤ length xs) (roomy : Room u8 (length xs)) where
    abbrev front : List ℕ
    front = take m xs

    abbrev back : List ℕ
    back = drop_list m xs

    abbrev n : ℕ
    n = length xs

    abbrev k : ℕ
    k = length front

    abbrev bytes : List ℕ → ℕ → Fml
    bytes ws = cells (mem u8) ws b

    abbrev past : ℕ → ℕ
    past = at o (mem u8).size

    abbrev Rest : SProp 𝓤
    Rest = sem 𝓛 (bytes back (past k))

    count : k ≡ m
    count = length-take-le m xs within

    put : (ws : List ℕ) → ent 𝓤 (sep 𝓤 (sem 𝓛 ((Arr (mem u8) k).own_at ws b o)) Rest) (sem 𝓛 ((Arr (mem u8) n).own_at (with_front m xs ws) b o))
    put ws =
        qed 𝓛 (‵ ((Arr (mem u8) k).own_at ws b o) ∷ ‵ (bytes back (past k)) ∷ []) ∵ fsplit ! $ feq_l ! (λ e.
        let same : ws ++ back ≡ with_front m xs ws = in_front m xs ws (e ∙ count) in
        let all = ap length same in
        let both = length-append ws back in
        let rest = length-drop m xs in
        move ! (1 ∷ 0 ∷ []) $ rewrite ! 0 (λ (j : ℕ). ‵ (bytes back (past j))) (sym e) refl $ move ! (1 ∷ 0 ∷ []) $
        use2 𝓛 (‵ (bytes (ws ++ back) o)) (join_app 𝓛 (mem u8) ws back b o) $
        rewrite ! 0 (λ (l : List ℕ). ‵ (bytes l o)) same refl $
        feq_i ! ℕ (length (with_front m xs ws)) n (omega (arith, all, both, rest, e, count, within)) $ fjoin ! $ done !)

    abbrev Lent : GName → SProp 𝓤
    Lent δ =
        sep 𝓤 (sem 𝓛 ((MutSlice (named 0) κ u8).own_val (record { ref_ptr = (b, o); ghost_name = δ; now = front }) (slice_val (b, o) k ∷ [])))
        (sep 𝓤 (A.lft κ q) (sem 𝓛 (follows (Array u8 0) (Array u8 0) γ δ (with_front m xs))))

    abbrev lent : GName → Item 𝓤
    lent δ =
        ‵ ((MutSlice (named 0) κ u8).own_val (record { ref_ptr = (b, o); ghost_name = δ; now = front }) (slice_val (b, o) k ∷ []))
        ⊛ ‵ (flft κ q) ⊛ ‵ (follows (Array u8 0) (Array u8 0) γ δ (with_front m xs))

    small : Room u8 k
    small = (omega (arith, count, roomy.0), omega (arith, count, roomy.1))

    lends : (vs : List Val)
        → ent 𝓤 (sep 𝓤 (sem 𝓛 ((MutSlice (named 0) κ u8).own_val (record { ref_ptr = (b, o); ghost_name = γ; now = xs }) vs)) (A.lft κ q)) (H.⇛ (ex 𝓤 Lent))
    lends vs =
        qed 𝓛 (‵ ((MutSlice (named 0) κ u8).own_val (record { ref_ptr = (b, o); ghost_name = γ; now = xs }) vs) ∷ ‵ (flft κ q) ∷ []) ∵
        updating ! $ fsplit3 ! $ drop ! $ open_ref ! tt (Arr (mem u8) n) {b = b} {o = o} $ fsplit ! $ drop ! $
        -- [the bytes; the open borrow; what is seen of the name; what is had of it]
        rewrite ! 0 (λ (l : List ℕ). ‵ (bytes l o)) (heres_id u8 xs ∙ sym (take-append-drop m xs)) refl $
        use1 𝓛 (‵ (bytes front o) ⊛ ‵ (bytes back (past k))) (cut_app 𝓛 (mem u8) front back b o) $ split ! $
        feq_i ! ℕ k k refl $ fjoin ! $ move ! (2 ∷ 3 ∷ 4 ∷ 0 ∷ 1 ∷ []) $ group ! 5 $
        use1 𝓛 (later (some (λ (δ : GName). ‵ (fobs δ ((Arr (mem u8) k).coded.code front)) ⊛ ‵ (fbor κ (Body (Arr (mem u8) k) b o δ))
        ⊛ ‵ (flft κ q) ⊛ ‵ (follows (Array u8 0) (Array u8 0) γ δ (with_front m xs)))))
        (takes_part 𝓛 (Arr (mem u8) n) (Arr (mem u8) k) (with_front m xs) κ q b o b o γ Rest put _ _ front) $ await ! tt $ pick ! (λ δ. split3 ! $
        use2 𝓛 (‵ ((MutSlice (named 0) κ u8).own_val (record { ref_ptr = (b, o); ghost_name = δ; now = front }) (slice_val (b, o) k ∷ [])))
        (slice_of 𝓛 u8 (named 0) κ b o δ front small) $
        now ! $ show ! Lent δ $ done !)

  module _ (at_mem : Memory → SProp 𝓤) (run : Routine → Fun 𝓤) where
    abbrev clauses : Clauses 𝓤 F.ended
    clauses = F.clauses 𝓛 at_mem run

    module _ (C : Calls 𝓤 H) (Λ : Loops 𝓤 H) (κ : Lft) (q : Share) (bd : AllOutlive 1 F.ended.signature.outlives (κ, tt))
        (b o : ℕ) (γ : GName) (xs : List ℕ) (m : ℕ) where
      abbrev self : MutBor (List ℕ)
      self = record { ref_ptr = (b, o); ghost_name = γ; now = xs }

      abbrev bound : (walk_of 𝓛 F.ended stayed clauses).Ghost
      bound = (((κ, tt), (q, tt), bd, (self, (m, tt)), (mut_slice_vals self, (vint w64 m ∷ [], tt))), tt)

      walk : Room u8 (length xs) → m < 2 ^ 64 → m ≤ length xs
          → ent 𝓤 (on_entry 𝓛 F.ended.signature (κ, tt) (q, tt) (self, (m, tt)) (mut_slice_vals self, (vint w64 m ∷ [], tt)))
          (WpFn 𝓤 H C Λ code.function (slice_val (b, o) (length xs) ∷ vint w64 m ∷ []) ((walk_of 𝓛 F.ended stayed clauses).post bound))
      walk roomy fm within =
          let count : length (take m xs) ≡ m = length-take-le m xs within in
          qed 𝓛 ((‵ (flft κ q) ⊛ ‵ ftrue) ∷ ‵ (owns (MutSlice (named 0) κ u8 ∷ usize ∷ []) (self, (m, tt)) (mut_slice_vals self, (vint w64 m ∷ [], tt))) ∷ []) ∵
          enter ! C Λ code.function (slice_val (b, o) (length xs) ∷ vint w64 m ∷ []) _ $
          alloc_all ! (λ l. pass_all ! refl ((tt, (tt, (record { fits = roomy.0 }, tt))), ((tt, record { fits = fm }), tt)) $
          sets ! (addr ! (from ! (fld ! refl (hop ! (look_in_at ! 1 (sub ! 0 refl (whole !))) (stop !))))) refl (tt, tt) $
          sets ! (agg ! (and_then ! (get ! refl) (and_then ! (get ! refl) (no_more !)))) refl (tt, (tt, (record { fits = fm }, tt))) $
          split ! $ move ! (2 ∷ []) $ fsplit ! $ move ! (0 ∷ 2 ∷ []) $
          use2 𝓛 (later (some (lent κ q b o γ xs m within roomy))) (lends κ q b o γ xs m within roomy (mut_slice_vals self)) $ await ! tt $ pick ! (λ δ.
          let r : MutBor (List ℕ) = record { ref_ptr = (b, o); ghost_name = δ; now = take m xs } in
          split3 ! $ rewrite ! 0 (λ (j : ℕ). ‵ ((MutSlice (named 0) κ u8).own_val r (slice_val (b, o) j ∷ []))) count refl $
          returns ! (look_at ! 0 refl) $ free_all ! refl $ keep ! (0 ∷ 1 ∷ 2 ∷ 4 ∷ []) $
          -- [the slice; the token; what follows; no other token]
          suffices ! _ (ends_at 𝓛 F.ended stayed clauses bound (slice_val (b, o) m) r (tt, (tt, tt)) (tt, (tt, tt))) $
          nothing ! $ nothing ! $ fjoin ! $ nothing ! $ fjoin ! $ join ! $ move ! (1 ∷ 3 ∷ []) $ join ! $ join ! $ frame ! $ says ! refl $ done !))

    meets : (𝓣 : Tables 𝓤 H) → Meets 𝓛 F.signature (WpFn 𝓤 H 𝓣.C 𝓣.Λ code.function) (closing 𝓛 F.ended clauses)
    meets 𝓣 =
        walk_Meets 𝓛 F.ended stayed (
          Goes-spent_slice 𝓛 1 (0 ∷ []) tt (plain (λ _. u8)),
          (Goes-dropped 𝓛 1 (plain (λ _. usize)) yes (λ κs x f. refl), tt),
        ) clauses
        (WpFn 𝓤 H 𝓣.C 𝓣.Λ code.function) (WpFn-mono 𝓤 H 𝓛.laws 𝓣 code.function)
        (walked 𝓛 F.ended stayed clauses (WpFn 𝓤 H 𝓣.C 𝓣.Λ code.function) (λ κs. (mut_slice_vals, (uint_vals w64, tt)))
        (λ κs. (mut_slice_Tells (named 0) κs.0 u8, (uint_Tells w64, tt)))
        (λ κs qs bounds a g are.
        qed 𝓛 (raw (on_entry 𝓛 F.signature κs qs a (mut_slice_vals a.0, (vint w64 a.1.0 ∷ [], tt))) ∷ raw (fact 𝓤 (a.1.0 ≤ length a.0.now)) ∷ []) ∵
        move ! (1 ∷ []) $ heard ! _ (λ within.
        by ! (walk 𝓣.C 𝓣.Λ κs.0 qs.0 bounds a.0.ref_ptr.0 a.0.ref_ptr.1 a.0.ghost_name a.0.now a.1.0 are.0.0.1 are.1.0.1 within))))

pub first_bytes_spec : {M : Type 1} → stated.statement M
unfolding tables_of
first_bytes_spec 𝓤 𝓛 𝓜 𝓡 wired =
    let 𝓣 : Tables 𝓤 𝓛.H = tables_of 𝓤 𝓛.H 𝓜 (tables 𝓤 𝓛.H 𝓜 𝓡 𝓡.env) in
    entered 𝓤 𝓛.H (triple_of 𝓛 F.signature (closing 𝓛 F.ended (clauses 𝓛 𝓜.mem 𝓡.returns))) 𝓣.C 𝓣.Λ #self code.function
    (code.unfolded 𝓤 𝓛.H 𝓜 𝓡 wired)
    (meets 𝓛 𝓜.mem 𝓡.returns 𝓣)
