-- `front_mut` lends a part of what `all_mut` lends. The borrow checker follows no loan through two calls, so this proof
-- walks the code by hand. It opens no borrow: both calls get the reference for all the time that it has, and what the
-- array ends as is put together from their clauses.
use mathlib.Core.Path.{◌≡◌, refl, sym, ap, subst, ◌∙◌}
use Prim.Native.Nat.{ℕ, ◌^◌, ◌<◌, ◌≤◌}
use mathlib.Core.List.{List, [], ◌∷◌}
use lib.ListN.{length, take}
use seplogic.Ra.Ura.{Ura}
use mir.Syntax.{Fn, Args, a_number, named, w64}
use mir.MapTy.{inst_fn}
use mir.Val.{Val, vptr, vint}
use base.Logic.{SProp, ent, sep, emp, id⊢}
use base.Fml.{Lft, GName, Share, ftrue, flft}
use prog.Memory.{Memory, size}
use prog.Routine.{Routine}
use prog.Wp.{WpFn, Tables}
use types.Logic.{Logic}
use types.Kit.{‵, raw, some, later, ◌⊛◌, ◌$◌, ◌∵◌, !, qed, move, keep, drop, use0, use1, use2, split, split3, join, group, pick, await, fsplit, fjoin, rewrite, suffices, frame, done}
use types.Run.{stop, addr, and_then, no_more, returns, enter}
use types.ByLocal.{alloc_all, pass_all, free_all, look_at, get, through, sets, lands_as}
use contract.BorrowLft.{◌⊑◌}
use contract.Lifetimes.{AllOutlive}
use contract.Monad.{Fun, fact, fact_i}
use contract.Running.{tables, tables_of}
use sound.WpLaws.{WpFn-mono, fm_of}
use denote.Array.{Array}
use denote.Builtin.{u8, usize}
use denote.Exit.{yes, no}
use denote.Follow.{follows, follows_then}
use denote.Laws.{shows}
use denote.Param.{number, param, layout, layouts}
use denote.Plain.{uint_vals, uint_Tells}
use denote.RattleType.{RattleType, owns}
use denote.Ref.{MutBor, MutRef, mut_vals, mut_Tells}
use denote.Signature.{plain, mut_ref_to}
use denote.Slice.{MutSlice, slice_val, mut_slice_vals}
use denote.Steps.{nothing, heard, peeks, only}
use denote.Triple.Call.{calls_at}
use denote.Triple.Clauses.{Clauses, Ended, closing, lasts}
use denote.Triple.Entry.{on_entry}
use denote.Triple.Spec.{Meets, triple_of}
use denote.Triple.Statement.{Contract, Triple}
use denote.Triple.Table.{entered}
use denote.Triple.Walked.{says, Stays, stay_dropped, walk_of, walked, ends_at, Goes-dropped, Goes-spent_ref, walk_Meets}
use Rattle.ecow_bytes.specs.Lends.{with_front}
use Rattle.ecow_bytes.specs.contracts.cells.Cells.{the_row}
use Rattle.ecow_bytes.specs.contracts.cells.Cells.all_mut as W
use Rattle.ecow_bytes.specs.contracts.cells.Cells.all_mut.Key.{name as #all}
use Rattle.ecow_bytes.specs.contracts.cells.first_bytes as P
use Rattle.ecow_bytes.specs.contracts.cells.first_bytes.Key.{name as #first}
use Rattle.ecow_bytes.specs.contracts.cells.Cells.front_mut as F
use Rattle.ecow_bytes.specs.contracts.cells.Cells.front_mut.Key.{name as #self}
use Rattle.ecow_bytes.proofs.cells.Cells.all_mut.Met as all_thm
use Rattle.ecow_bytes.proofs.cells.first_bytes.Met as first_thm
use Rattle.ecow_bytes.proofs.cells.Cells.front_mut.Statement as stated
use Rattle.ecow_bytes.proofs.cells.Cells.front_mut.Code as code

module _ (n : ℕ) where
  abbrev args : Args
  args = layouts (a_number ∷ []) (number n, tt)

  abbrev function : Fn
  function = inst_fn args code.function

  abbrev ended : Ended
  ended = F.ended (number n)

  abbrev S : RattleType
  S = the_row (param 0 (number n))

  abbrev stayed : Stays ended.signature.params ended.kept
  stayed = (stay_dropped (mut_ref_to (0 ∷ []) tt (plain (λ _. S))) no, (stay_dropped (plain (λ _. usize)) yes, tt))

  module _ {M : Type 1} {𝓤 : Ura M} (𝓛 : Logic 𝓤) (at_mem : Memory → SProp 𝓤) (run : Routine → Fun 𝓤) where
    open 𝓛 use {H, A}

    abbrev held : Clauses 𝓤 ended
    held = F.clauses (number n) 𝓛 at_mem run

    abbrev All : Contract 𝓤
    All = triple_of 𝓛 (W.signature (number n)) (W.spec (number n) 𝓛 at_mem run)

    abbrev First : Contract 𝓤
    First = triple_of 𝓛 P.signature (P.spec 𝓛 at_mem run)

    module _ (κ κN : Lft) (q qN : Share) (bd : AllOutlive 2 ended.signature.outlives (κ, (κN, tt))) (b o : ℕ) (γ : GName) (d : S.Denot) (m : ℕ) where
      abbrev self : MutBor S.Denot
      self = record { ref_ptr = (b, o); ghost_name = γ; now = d }

      abbrev bound : (walk_of 𝓛 ended stayed held).Ghost
      bound = (((κ, (κN, tt)), (q, (qN, tt)), bd, (self, (m, tt)), (mut_vals self, (vint w64 m ∷ [], tt))), tt)

      abbrev Ends : Val → SProp 𝓤
      Ends = (walk_of 𝓛 ended stayed held).post bound

      abbrev Items : RattleType
      Items = MutSlice (named 0) κ u8

      abbrev with_all : List ℕ → S.Denot
      with_all w = record { bytes = w }

      abbrev with_written : List ℕ → S.Denot
      with_written w = record { bytes = with_front m d.bytes w }

      module _ (𝓣 : Tables 𝓤 H) (all : Triple 𝓤 (𝓣.C (#all args)) All) (first : Triple 𝓤 (𝓣.C #first) First) where
        walk : m < 2 ^ 64 → ent 𝓤
            (sep 𝓤 (on_entry 𝓛 ended.signature (κ, (κN, tt)) (q, (qN, tt)) (self, (m, tt)) (mut_vals self, (vint w64 m ∷ [], tt)))
            ((held (κ, (κN, tt)) (self, (m, tt))).requires tt)) (WpFn 𝓤 H 𝓣.C 𝓣.Λ function (vptr b o ∷ vint w64 m ∷ []) Ends)
        walk fm =
            let z : All.Ghost = (((κ, (κN, tt)), (q, (qN, tt)), bd, (self, tt), (mut_vals self, tt)), tt) in
            qed 𝓛 (((‵ (flft κ q) ⊛ ‵ (flft κN qN) ⊛ ‵ ftrue)
            ⊛ ‵ (owns (MutRef (named 0) κ S ∷ usize ∷ []) (self, (m, tt)) (mut_vals self, (vint w64 m ∷ [], tt))))
            ∷ raw (fact 𝓤 (κN ⊑ [])) ∷ raw (fact 𝓤 (size (layout S) < 2 ^ 63)) ∷ raw (fact 𝓤 (m ≤ n)) ∷ []) ∵
            move ! (1 ∷ []) $ heard ! _ (λ outlived. move ! (1 ∷ []) $ heard ! _ (λ small. move ! (1 ∷ []) $ heard ! _ (λ within.
            split ! $ split3 ! $ move ! (3 ∷ []) $ fsplit ! $ keep ! (0 ∷ 1 ∷ 2 ∷ 3 ∷ []) $
            -- [the reference; the length; both tokens]
            enter ! 𝓣.C 𝓣.Λ function (vptr b o ∷ vint w64 m ∷ []) _ $ alloc_all ! (λ l. pass_all ! refl ((tt, tt), ((tt, record { fits = fm }), tt)) $
            sets ! (addr ! (through ! refl (stop !))) refl (tt, tt) $
            nothing ! $ move ! (1 ∷ 0 ∷ []) $ fjoin ! $ nothing ! $ move ! (4 ∷ 0 ∷ []) $ join ! $ move ! (3 ∷ 0 ∷ 1 ∷ []) $ join ! $ join ! $
            nothing ! $ use0 𝓛 (raw (fact 𝓤 (size (layout S) < 2 ^ 63))) (fact_i 𝓤 (size (layout S) < 2 ^ 63) (emp 𝓤) small) $
            use0 𝓛 (raw (fact 𝓤 (κN ⊑ []))) (fact_i 𝓤 (κN ⊑ []) (emp 𝓤) outlived) $
            move ! (3 ∷ 0 ∷ 1 ∷ 2 ∷ []) $ group ! 4 $ use1 𝓛 (raw (All.pre z)) (id⊢ 𝓤 _) $
            calls_at ! (fm_of 𝓤 H 𝓛.laws 𝓣) All all z (and_then ! (get ! refl) (no_more !)) (λ v.
            use1 𝓛 (later (some (λ (x : MutBor (List ℕ)). ((‵ (flft κ q) ⊛ ‵ (flft κN qN) ⊛ ‵ ftrue) ⊛ ‵ (Items.own_val x (v ∷ []))) ⊛
            some (λ (ws : Unit {0} × Unit {0}). ‵ (lasts (W.ended (number n)) z.0.0 z.0.3 ws)
            ⊛ ‵ (follows S (Array u8 0) γ x.ghost_name with_all) ⊛ (raw (fact 𝓤 (x.now ≡ d.bytes)) ⊛ raw (fact 𝓤 (length x.now ≡ n)))))))
            (id⊢ 𝓤 _) $
            await ! tt $ pick ! (λ x. split ! $ split ! $ split3 ! $ move ! (4 ∷ []) $
            pick ! (λ ws. split3 ! $ drop ! $ move ! (1 ∷ []) $ split ! $ heard ! _ (λ same. heard ! _ (λ long.
            -- [the clause of `all_mut`; both tokens; nothing; the slice; the length]
            move ! (4 ∷ []) $ peeks ! Items _ (shows 𝓛 Items) x (v ∷ []) (λ fits.
            rewrite ! 0 (λ (us : List Val). ‵ (Items.own_val x us)) fits.0.0 refl $
            lands_as ! (ap only fits.0.0) refl (tt, (tt, (record { fits = fits.0.1.0 }, tt))) $
            let z' : First.Ghost = (((κ, tt), (q, tt), tt, (x, (m, tt)), (mut_slice_vals x, (vint w64 m ∷ [], tt))), tt) in
            let enough : m ≤ length x.now = subst (λ (k : ℕ). m ≤ k) (sym long) within in
            move ! (0 ∷ 5 ∷ []) $ fjoin ! $ nothing ! $ move ! (3 ∷ 0 ∷ []) $ join ! $ join ! $
            use0 𝓛 (raw (fact 𝓤 (m ≤ length x.now))) (fact_i 𝓤 (m ≤ length x.now) (emp 𝓤) enough) $
            move ! (1 ∷ 0 ∷ []) $ use2 𝓛 (raw (First.pre z')) (id⊢ 𝓤 _) $
            calls_at ! (fm_of 𝓤 H 𝓛.laws 𝓣) First first z' (and_then ! (get ! refl) (and_then ! (get ! refl) (no_more !))) (λ w.
            use1 𝓛 (later (some (λ (s : MutBor (List ℕ)). ((‵ (flft κ q) ⊛ ‵ ftrue) ⊛ ‵ (Items.own_val s (w ∷ []))) ⊛
            some (λ (ws : Unit {0} × (Unit {0} × Unit {0})). ‵ (lasts P.ended z'.0.0 z'.0.3 ws)
            ⊛ ‵ (follows (Array u8 0) (Array u8 0) x.ghost_name s.ghost_name (with_front m x.now))
            ⊛ raw (fact 𝓤 (s.now ≡ take m x.now)))))) (id⊢ 𝓤 _) $
            await ! tt $ pick ! (λ s. split ! $ split ! $ split ! $ move ! (3 ∷ []) $ pick ! (λ us. split3 ! $ drop ! $ move ! (1 ∷ []) $ heard ! _ (λ front.
            -- [the clause of `first_bytes`; κ's token; nothing; the slice; the clause of `all_mut`; the other token]
            move ! (3 ∷ []) $ peeks ! Items _ (shows 𝓛 Items) s (w ∷ []) (λ fits'.
            rewrite ! 0 (λ (us : List Val). ‵ (Items.own_val s us)) fits'.0.0 refl $
            lands_as ! (ap only fits'.0.0) refl (tt, (tt, (record { fits = fits'.0.1.0 }, tt))) $
            returns ! (look_at ! 0 refl) $ free_all ! refl $ move ! (4 ∷ 1 ∷ []) $
            use2 𝓛 (‵ (follows S (Array u8 0) γ s.ghost_name (λ ys. with_all (with_front m x.now ys))))
            (follows_then 𝓛 S (Array u8 0) (Array u8 0) with_all (with_front m x.now) γ x.ghost_name s.ghost_name) $
            rewrite ! 0 (λ (l : List ℕ). ‵ (follows S (Array u8 0) γ s.ghost_name (λ ys. with_all (with_front m l ys)))) same refl $
            keep ! (0 ∷ 1 ∷ 2 ∷ 4 ∷ []) $
            suffices ! _ (ends_at 𝓛 ended stayed held bound (slice_val s.ref_ptr (length s.now)) s (tt, (tt, tt)) (tt, (tt, tt))) $
            nothing ! $ nothing ! $ fjoin ! $ nothing ! $ fjoin ! $ move ! (0 ∷ 2 ∷ []) $ join ! $ nothing ! $
            move ! (4 ∷ 0 ∷ []) $ join ! $ move ! (3 ∷ 0 ∷ []) $ join ! $ join ! $ frame ! $ says ! (front ∙ ap (take m) same) $ done !)))))))))))))))

    meets : (𝓣 : Tables 𝓤 H) → Triple 𝓤 (𝓣.C (#all args)) All → Triple 𝓤 (𝓣.C #first) First
        → Meets 𝓛 ended.signature (WpFn 𝓤 H 𝓣.C 𝓣.Λ function) (closing 𝓛 ended held)
    meets 𝓣 all first =
        walk_Meets 𝓛 ended stayed (
          Goes-spent_ref 𝓛 2 (0 ∷ []) tt (plain (λ _. S)),
          (Goes-dropped 𝓛 2 (plain (λ _. usize)) yes (λ κs x f. refl), tt),
        ) held (WpFn 𝓤 H 𝓣.C 𝓣.Λ function) (WpFn-mono 𝓤 H 𝓛.laws 𝓣 function)
        (walked 𝓛 ended stayed held (WpFn 𝓤 H 𝓣.C 𝓣.Λ function) (λ κs. (mut_vals, (uint_vals w64, tt)))
        (λ κs. (mut_Tells (named 0) κs.0 S, (uint_Tells w64, tt)))
        (λ κs qs bounds a _ are. walk κs.0 κs.1.0 qs.0 qs.1.0 bounds a.0.ref_ptr.0 a.0.ref_ptr.1 a.0.ghost_name a.0.now a.1.0 𝓣 all first are.1.0.1))

pub front_mut_spec : {M : Type 1} → stated.statement M
unfolding tables_of
front_mut_spec 𝓤 𝓛 𝓜 𝓡 wired n fits =
    let 𝓣 : Tables 𝓤 𝓛.H = tables_of 𝓤 𝓛.H 𝓜 (tables 𝓤 𝓛.H 𝓜 𝓡 𝓡.env) in
    entered 𝓤 𝓛.H (triple_of 𝓛 (ended n).signature (closing 𝓛 (ended n) (held n 𝓛 𝓜.mem 𝓡.returns))) 𝓣.C 𝓣.Λ (#self (args n)) (function n)
    (code.unfolded 𝓤 𝓛.H 𝓜 𝓡 wired (number n, tt))
    (meets n 𝓛 𝓜.mem 𝓡.returns 𝓣
    (all_thm.met 𝓤 𝓛 𝓜 𝓡 (code.calls-ecow_bytes::cells::Cells::all_mut 𝓡.env wired) n fits)
    (first_thm.met 𝓤 𝓛 𝓜 𝓡 (code.calls-ecow_bytes::cells::first_bytes 𝓡.env wired)))
