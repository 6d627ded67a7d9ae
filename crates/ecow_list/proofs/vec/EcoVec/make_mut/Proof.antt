-- `make_mut` hands on the elements of the block that `own_mut` lends, in a `Result`. The borrow checker writes no
-- clause on a `&mut [T]` in a `Result`, so this proof walks the code by hand. It opens no borrow: both calls get
-- the reference for all the time that it has, and what the vector ends as is put together from their clauses.
use mathlib.Core.Path.{◌≡◌, refl, sym, ap, subst, ◌∙◌}
use Prim.Native.Nat.{ℕ}
use Prim.Native.Nat.{◌<◌, ◌^◌}
use native.Mathlib.Nat.{zero-mul}
use native.Mathlib.Omega.{arith}
use mathlib.Core.Option.{none, some, Option as Option'}
use mathlib.Core.List.{List, [], ◌∷◌, ◌++◌}
use lib.Dec.{lit<}
use lib.ListN.{length}
use seplogic.Ra.Ura.{Ura}
use mir.Syntax.{Fn, Args, Dict, Callee, Body, place, a_type, named, tcons, tnil, dcons, dnil}
use mir.MapTy.{inst_fn}
use mir.Val.{Val, vptr, of_list}
use base.Logic.{SProp, ent, sep, emp, id⊢}
use base.Fml.{Lft, GName, Share, ftrue, flft}
use prog.Memory.{Memory}
use prog.Routine.{Routine}
use prog.Wp.{Env, Wp, WpFn, Tables, at_return, after_seq}
use types.Logic.{Logic, sem}
use types.Kit.{Post, lands, Sq, ‵, raw, some as some', later, ◌⊛◌, any_q, at_ret, ◌$◌, ◌∵◌, !, qed, by, move, keep, drop, use0, use1, use2, use3, split, split3, join, pick, await, fsplit, fsplit3, fjoin, fjoin3, fpick, fpack, rewrite, feq_l, feq_i, suffices, frame, done}
use types.Part.{whole, agg}
use types.Run.{stop, fld, addr, of_opd, lit, and_then, no_more, first, switches_on, exec, returns, enter}
use types.Match.{live, vrt, in_variant}
use types.ByLocal.{alloc_all, pass_all, free_all, look_at, get, get_in, get_tag, through, sets, sets_last, lands_as, env, holding}
use contract.BorrowLft.{◌⊑◌}
use contract.Lifetimes.{AllOutlive}
use contract.Monad.{Fun, fact, fact_i}
use contract.Running.{tables, tables_of}
use sound.WpLaws.{WpFn-mono, fm_of}
use denote.Array.{Array}
use denote.Exit.{no}
use denote.Follow.{follows, follows_so}
use denote.Laws.{Is, shows}
use denote.Param.{arg, param, layout, bounded}
use denote.Param.Laws.{Laws, arg_laws, param_laws}
use denote.RattleType.{RattleType}
use denote.Ref.{MutBor, MutRef, mut_vals, mut_Tells}
use denote.Signature.{plain, mut_ref_to}
use denote.Slice.{MutSlice, slice_val}
use denote.Steps.{nothing, heard, peeks, only}
use denote.Triple.Call.{calls_at}
use denote.Triple.Clauses.{Clauses, Ended, closing, lasts}
use denote.Triple.Entry.{on_entry}
use denote.Triple.Spec.{Meets, triple_of}
use denote.Triple.Statement.{Contract, Triple}
use denote.Triple.Table.{entered}
use denote.Triple.Walked.{Stays, stay_dropped, walk_of, walked, ends_at, Goes-spent_ref, walk_Meets}
use Rattle.std.specs.declared.clone.Clone.{Ghosts}
use Rattle.std.specs.declared.result.Result.{Result}
use Rattle.std.specs.declared.result.Result.TheVariants.{Ok, Err}
use Rattle.std.specs.contracts.result.Result.{the_row as result_row}
use Rattle.std.specs.Prelude.{IfOk, IfErr, IsOk, OnOk, OnErr, MatchOption}
use Rattle.std.specs.Borrow.{name_if_ok}
use Rattle.std.proofs.Common.{inl}
use Rattle.std_alloc.proofs.ResultValues.{ok_of, err_of}
use Rattle.std_alloc.proofs.VecSteps.Gaps.{all_new}
use Rattle.std_alloc.proofs.VecSteps.Shapes.{after, head, arm_body}
use Rattle.ecow_block.specs.Contents.{Contents}
use Rattle.ecow_block.specs.BlockLends.{with_elements}
use Rattle.ecow_base.specs.Clones.{ClonesAreEqual}
use Rattle.ecow_list.specs.declared.error.EcoError.{EcoError}
use Rattle.ecow_list.specs.declared.error.EcoError.TheVariants.{Capacity, Memory as NoMemory}
use Rattle.ecow_list.specs.contracts.error.EcoError.{the_row as error_row}
use Rattle.ecow_block.specs.contracts.block.Block.{the_row as block_row}
use Rattle.ecow_list.specs.contracts.vec.EcoVec.{the_row as vec_row}
use Rattle.ecow_block.specs.contracts.block.Block.as_mut_slice as S
use Rattle.ecow_block.specs.contracts.block.Block.as_mut_slice.Key.{name as #slice}
use Rattle.ecow_list.specs.contracts.vec.EcoVec.own_mut as O
use Rattle.ecow_list.specs.contracts.vec.EcoVec.own_mut.Key.{name as #own}
use Rattle.ecow_list.specs.contracts.vec.EcoVec.make_mut as F
use Rattle.ecow_list.specs.contracts.vec.EcoVec.make_mut.Key.{name as #self}
use Rattle.ecow_block.proofs.block.Block.as_mut_slice.Met as slice_thm
use Rattle.ecow_list.proofs.vec.EcoVec.own_mut.Met as own_thm
use Rattle.ecow_list.proofs.vec.EcoVec.make_mut.Statement as stated
use Rattle.ecow_list.proofs.vec.EcoVec.make_mut.Code as code
use Rattle.ecow_list.proofs.Kept.{kept_equal, none_kept}
use Rattle.ecow_list.proofs.Loans.{so_then, so_none_by}
use Rattle.ecow_list.proofs.ResultTyped.{refused, refused_is, not_memory}
use Rattle.ecow_list.specs.Lends.{name_of_slice, name_if_lent}
use Rattle.ecow_list.specs.Vectors.{IsKept}
use Rattle.std.specs.declared.option.Option.{Option}
use Rattle.std.specs.declared.option.Option.TheVariants.{None, Some}
use Rattle.std.specs.contracts.option.Option.{the_row as option_row}
use types.SemTy.{Arr}
use denote.Memory.{mem}
use types.Tokens.{name_new, bor_new}
use base.Stored.{coded_list}
use base.Fml.{fsep, fauth}
use denote.FollowSlice.{slice_of}
use types.Run.{from, load}
use types.Match.{look_tag}

none_is : (ws : List Val) → Is (option_row error_row) None ws → ws ≡ live 0 (of_list []) ∷ []
none_is ws is = is.1.0 ∙ ap (λ us. live 0 (of_list us) ∷ []) is.1.1.1.0

module _ (X : RattleType) (g : Ghosts X.Denot) (dc dd : Dict) where
  abbrev args : Args
  args = bounded (a_type ∷ []) (X, tt) (dcons dc (dcons dd dnil))

  abbrev function : Fn
  function = inst_fn args code.function

  abbrev ended : Ended
  ended = F.ended X g dc dd

  abbrev R : RattleType
  R = param 0 X

  abbrev V : RattleType
  V = vec_row R

  abbrev B : RattleType
  B = block_row R

  -- the type as the two calls pass it
  abbrev Y : RattleType
  Y = arg (layout X) denote.Exit.yes R

  abbrev stayed : Stays ended.signature.params ended.kept
  stayed = (stay_dropped (mut_ref_to (0 ∷ []) tt (plain (λ _. V))) no, tt)

  abbrev own_key : Callee
  own_key = #own (tcons (layout X) tnil, dcons dc (dcons dd dnil))

  abbrev slice_key : Callee
  slice_key = #slice (tcons (layout X) tnil, dnil)

  module _ {M : Type 1} {𝓤 : Ura M} (𝓛 : Logic 𝓤) (at_mem : Memory → SProp 𝓤) (run : Routine → Fun 𝓤) where
    open 𝓛 use {H, A}

    abbrev held : Clauses 𝓤 ended
    held = F.clauses X g dc dd 𝓛 at_mem run

    abbrev Own : Contract 𝓤
    Own = triple_of 𝓛 (O.signature Y) (O.spec Y g dc dd 𝓛 at_mem run)

    abbrev Slice : Contract 𝓤
    Slice = triple_of 𝓛 (S.signature Y) (S.spec Y 𝓛 at_mem run)

    module _ (κ κT : Lft) (q qT : Share) (bd : AllOutlive 2 ended.signature.outlives (κ, (κT, tt))) (b o : ℕ) (γ : GName) (d : List X.Denot) where
      abbrev self : MutBor (List X.Denot)
      self = record { ref_ptr = (b, o); ghost_name = γ; now = d }

      abbrev bound : (walk_of 𝓛 ended stayed held).Ghost
      bound = (((κ, (κT, tt)), (q, (qT, tt)), bd, (self, tt), (mut_vals self, tt)), tt)

      abbrev Ends : Val → SProp 𝓤
      Ends = (walk_of 𝓛 ended stayed held).post bound

      abbrev Lent : RattleType
      Lent = MutRef (named 0) κ B

      abbrev Items : RattleType
      Items = MutSlice (named 0) κ R

      abbrev Refusal : Type 0
      Refusal = Option EcoError

      abbrev Given : Type 0
      Given = Result (MutBor (Contents X.Denot)) Refusal

      abbrev Answer : Type 0
      Answer = Result (MutBor (List X.Denot)) EcoError

      -- what the two clauses on the final value say, of the block and of its elements
      abbrev BlockIs : Given → Contents X.Denot → List X.Denot → Type 0
      BlockIs r x n = IsOk r → n ≡ x.items

      abbrev BlockStays : Given → List X.Denot → Type 0
      BlockStays r n = OnErr r (IsKept g.is_clone d n)

      abbrev SliceIs : Answer → List X.Denot → List X.Denot → Type 0
      SliceIs r x n = IsOk r → length x ≡ length d → n ≡ x

      abbrev SliceStays : Answer → List X.Denot → Type 0
      SliceStays r n = OnErr r (IsKept g.is_clone d n) × (d ≡ [] → n ≡ [])

      abbrev HasValue : Given → Type 0
      HasValue r = ClonesAreEqual g.is_clone → IfOk r (λ x. x.now.items ≡ d)

      abbrev HasItems : Given → Type 0
      HasItems r = IfOk r (λ x. IsKept g.is_clone d x.now.items)

      abbrev HasLength : Given → Type 0
      HasLength r = IfOk r (λ x. length x.now.items ≡ length d)

      abbrev HasSome : Given → Type 0
      HasSome r = OnOk r (0 < length d)

      abbrev IsRefusal : Given → Type 0
      IsRefusal r = IfErr r (λ e. MatchOption e (d ≡ []) (λ error. (error ≡ NoMemory) × (0 < length d)))

      -- how the walk ends, once the clause is there
      exits : (r : Answer) (v : Val) → (ClonesAreEqual g.is_clone → IfOk r (λ s. s.now ≡ d))
          × (IfOk r (λ s. length s.now ≡ length d) × (IfErr r (λ e. e ≡ NoMemory) × ((d ≡ [] → IsOk r) × IfOk r (λ s. IsKept g.is_clone d s.now))))
          → ent 𝓤 (sep 𝓤 (sem 𝓛 (follows_so V (Array R 0) γ (name_if_lent r) (SliceIs r) (SliceStays r)))
          (sep 𝓤 (sem 𝓛 ((result_row Items error_row).own_val r (v ∷ []))) (sep 𝓤 (A.lft κ q) (A.lft κT qT)))) (Ends v)
      exits r v facts =
          qed 𝓛 (‵ (follows_so V (Array R 0) γ (name_if_lent r) (SliceIs r) (SliceStays r))
          ∷ ‵ ((result_row Items error_row).own_val r (v ∷ [])) ∷ ‵ (flft κ q) ∷ ‵ (flft κT qT) ∷ []) ∵
          suffices ! _ (ends_at 𝓛 ended stayed held bound v r (tt, tt) (tt, tt)) $
          nothing ! $ nothing ! $ fjoin ! $ move ! (0 ∷ 2 ∷ []) $ join ! $ nothing ! $
          move ! (4 ∷ 0 ∷ []) $ join ! $ move ! (3 ∷ 0 ∷ []) $ join ! $ join ! $ frame ! $
          use0 𝓛 (raw (fact 𝓤 (IfOk r (λ s. IsKept g.is_clone d s.now)))) (fact_i 𝓤 (IfOk r (λ s. IsKept g.is_clone d s.now)) (emp 𝓤) facts.1.1.1.1) $
          use0 𝓛 (raw (fact 𝓤 (d ≡ [] → IsOk r))) (fact_i 𝓤 (d ≡ [] → IsOk r) (emp 𝓤) facts.1.1.1.0) $
          use0 𝓛 (raw (fact 𝓤 (IfErr r (λ e. e ≡ NoMemory)))) (fact_i 𝓤 (IfErr r (λ e. e ≡ NoMemory)) (emp 𝓤) facts.1.1.0) $
          use0 𝓛 (raw (fact 𝓤 (IfOk r (λ s. length s.now ≡ length d)))) (fact_i 𝓤 (IfOk r (λ s. length s.now ≡ length d)) (emp 𝓤) facts.1.0) $
          use0 𝓛 (raw (fact 𝓤 (ClonesAreEqual g.is_clone → IfOk r (λ s. s.now ≡ d))))
          (fact_i 𝓤 (ClonesAreEqual g.is_clone → IfOk r (λ s. s.now ≡ d)) (emp 𝓤) facts.0) $
          move ! (5 ∷ 0 ∷ 1 ∷ 2 ∷ 3 ∷ 4 ∷ []) $ done !

      empty_has : d ≡ [] → 0 < length d → ⊥
      empty_has e p = omega (arith, ap length e, p)

      has_name : (δ : GName) (xs : List X.Denot) → 0 < length xs → some δ ≡ name_of_slice δ xs
      has_name δ [] p = absurd (omega (arith, p))
      has_name δ (x ∷ xs) p = refl

      exits_ok : (x : MutBor (Contents X.Denot)) (s : MutBor (List X.Denot)) (u : Val)
          → HasItems (Ok x) → HasLength (Ok x) → HasSome (Ok x) → s.now ≡ x.now.items
          → ent 𝓤 (sep 𝓤 (sem 𝓛 (Items.own_val s (u ∷ [])))
          (sep 𝓤 (A.lft κ q) (sep 𝓤 (A.lft κT qT) (sep 𝓤 (sem 𝓛 (follows_so V B γ (some x.ghost_name) (BlockIs (Ok x)) (BlockStays (Ok x))))
          (sem 𝓛 (follows B (Array R 0) x.ghost_name s.ghost_name (with_elements x.now))))))) (Ends (live 0 (of_list (u ∷ []))))
      exits_ok x s u items long nonempty same =
          let len : length s.now ≡ length d = ap length same ∙ long in
          let has : 0 < length s.now = omega (arith, len, nonempty) in
          qed 𝓛 (‵ (Items.own_val s (u ∷ [])) ∷ ‵ (flft κ q) ∷ ‵ (flft κT qT)
          ∷ ‵ (follows_so V B γ (some x.ghost_name) (BlockIs (Ok x)) (BlockStays (Ok x)))
          ∷ ‵ (follows B (Array R 0) x.ghost_name s.ghost_name (with_elements x.now)) ∷ []) ∵
          use1 𝓛 (‵ ((result_row Items error_row).own_val (Ok s) (live 0 (of_list (u ∷ [])) ∷ []))) (ok_of 𝓛 Items error_row s u) $ move ! (3 ∷ 4 ∷ []) $
          use2 𝓛 (‵ (follows_so V (Array R 0) γ (some s.ghost_name) (SliceIs (Ok s)) (SliceStays (Ok s))))
          (so_then 𝓛 V B (Array R 0) γ x.ghost_name s.ghost_name (BlockIs (Ok x)) (BlockStays (Ok x)) (with_elements x.now) (SliceIs (Ok s)) (SliceStays (Ok s))
          (λ w n is ok fits. is ok ∙ all_new (length x.now.items) x.now.items w (fits ∙ sym long)) (λ n is. (tt, λ none'. absurd (empty_has none' nonempty)))) $
          rewrite ! 0 (λ (m : Option' GName). ‵ (follows_so V (Array R 0) γ m (SliceIs (Ok s)) (SliceStays (Ok s)))) (has_name s.ghost_name s.now has) refl $
          by ! (exits (Ok s) (live 0 (of_list (u ∷ []))) (
            (λ equal. same ∙ kept_equal g.is_clone equal d x.now.items items),
            (len, (tt, ((λ none'. refl), subst (IsKept g.is_clone d) (sym same) items))),
          ))

      module _ (𝓣 : Tables 𝓤 H) (own : Triple 𝓤 (𝓣.C own_key) Own) (slice : Triple 𝓤 (𝓣.C slice_key) Slice) (alive : κT ⊑ X.lives) (l : ℕ → ℕ) where
        abbrev En : Env 𝓤 H
        En = env function.locals l

        abbrev arms : Body
        arms = head (after 2 function.body)

        abbrev Then : Post 𝓤 H
        Then = any_q (after_seq 𝓤 H (Wp 𝓤 H 𝓣.C 𝓣.Λ En (after 3 function.body) (at_return 𝓤 H En Ends)) (at_return 𝓤 H En Ends))

        -- once `own_mut` has answered
        lent : (r : Given) (v : Val) → HasItems r × (HasLength r × (HasSome r × IsRefusal r))
            → Sq 𝓛 (‵ ((result_row Lent (option_row error_row)).own_val r (v ∷ [])) ∷ ‵ (flft κ q) ∷ ‵ (flft κT qT)
            ∷ ‵ (follows_so V B γ (name_if_ok (λ x. x.ghost_name) r) (BlockIs r) (BlockStays r))
            ∷ holding 𝓛 En ((1, vptr b o) ∷ (5, vptr b o) ∷ []))
            (lands 𝓣.C 𝓣.Λ En (place 4 []) v (after 2 function.body) (at_ret En Ends))
        lent (Ok x) v facts =
            let p : Val = vptr x.ref_ptr.0 x.ref_ptr.1 in
            let z : Slice.Ghost = (((κ, (κT, tt)), (q, (qT, tt)), bd, (x, tt), (mut_vals x, tt)), tt) in
            fpick ! (λ us. fsplit ! $ feq_l ! (λ is. fpick ! (λ vss. fsplit ! $ feq_l ! (λ field. fsplit ! $ fsplit3 ! $ feq_l ! (λ e.
            -- [two parts of the block's reference; nothing; both tokens; the clause of `own_mut`]
            lands_as ! (ap only is ∙ ap (λ ws. live 0 (of_list ws)) (field ∙ ap (λ ws. ws ++ []) e)) refl (tt, (record { fits = lit< tt }, (tt, tt))) $
            first ! $ switches_on ! (get_tag ! (vrt ! refl (fld ! refl (stop !))) (whole !)) $ exec ! 𝓣.C 𝓣.Λ En (arm_body 0 arms) Then $
            sets ! (of_opd ! (get_in ! (vrt ! refl (fld ! refl (stop !))) (in_variant ! 0 0 refl refl (whole !)))) refl (tt, tt) $
            sets ! (addr ! (through ! refl (stop !))) refl (tt, tt) $
            feq_i ! (List Val) (p ∷ []) (p ∷ []) refl $ fjoin3 ! $ fjoin ! $ nothing ! $ move ! (3 ∷ 0 ∷ []) $ join ! $ move ! (2 ∷ 0 ∷ []) $ join ! $ join ! $
            nothing ! $ use0 𝓛 (raw (fact 𝓤 (κT ⊑ X.lives))) (fact_i 𝓤 (κT ⊑ X.lives) (emp 𝓤) alive) $
            move ! (2 ∷ 0 ∷ 1 ∷ []) $ use3 𝓛 (raw (Slice.pre z)) (id⊢ 𝓤 _) $
            calls_at ! (fm_of 𝓤 H 𝓛.laws 𝓣) Slice slice z (and_then ! (get ! refl) (no_more !)) (λ w.
            use1 𝓛 (later (some' (λ (s : MutBor (List X.Denot)). ((‵ (flft κ q) ⊛ ‵ (flft κT qT) ⊛ ‵ ftrue) ⊛ ‵ (Items.own_val s (w ∷ []))) ⊛
            some' (λ (ws : Unit {0} × Unit {0}). ‵ (lasts (S.ended Y) z.0.0 z.0.3 ws)
            ⊛ ‵ (follows B (Array R 0) x.ghost_name s.ghost_name (with_elements x.now)) ⊛ raw (fact 𝓤 (s.now ≡ x.now.items)))))) (id⊢ 𝓤 _) $
            await ! tt $ pick ! (λ s. split ! $ split ! $ split3 ! $ move ! (4 ∷ []) $ pick ! (λ ws. split3 ! $ drop ! $ move ! (1 ∷ []) $ heard ! _ (λ same.
            -- [the clause of `as_mut_slice`; both tokens; nothing; the slice; the clause of `own_mut`]
            move ! (4 ∷ []) $ peeks ! Items _ (shows 𝓛 Items) s (w ∷ []) (λ fits.
            let ok : Val = live 0 (of_list (slice_val s.ref_ptr (length s.now) ∷ [])) in
            rewrite ! 0 (λ (us : List Val). ‵ (Items.own_val s us)) fits.0.0 refl $
            lands_as ! (ap only fits.0.0) refl (tt, (tt, (record { fits = fits.0.1.0 }, tt))) $
            sets_last ! (agg ! (and_then ! (lit ! tt) (and_then ! (get ! refl) (no_more !)))) refl
            (tt, (record { fits = lit< tt }, ((tt, (record { fits = fits.0.1.0 }, tt)), tt))) $
            exec ! 𝓣.C 𝓣.Λ En (after 3 function.body) (at_ret En Ends) $
            sets ! (of_opd ! (get ! refl)) refl (tt, (record { fits = lit< tt }, ((tt, (record { fits = fits.0.1.0 }, tt)), tt))) $
            returns ! (look_at ! 0 refl) $ free_all ! refl $ keep ! (0 ∷ 2 ∷ 3 ∷ 5 ∷ 1 ∷ []) $
            by ! (exits_ok x s (slice_val s.ref_ptr (length s.now)) facts.0 facts.1.0 facts.1.1.0 same)))))))))))
        lent (Err None) v facts =
            fpick ! (λ us. fsplit ! $
            feq_l ! (λ is. fpick ! (λ vss. fsplit ! $
            feq_l ! (λ field. fsplit ! $
            peeks ! (option_row error_row) _ (shows 𝓛 (option_row error_row)) None vss.0 (λ e. drop ! $ drop ! $
            -- [both tokens; the clause of `own_mut`]
            lands_as ! (ap only is ∙ ap (λ ws. live 1 (of_list ws)) (field ∙ ap (λ ws. ws ++ []) (none_is vss.0 e))) refl
            (tt, (record { fits = lit< tt }, ((record { fits = lit< tt }, tt), tt))) $
            first ! $ switches_on ! (get_tag ! (vrt ! refl (fld ! refl (stop !))) (whole !)) $ exec ! 𝓣.C 𝓣.Λ En (arm_body 1 arms) Then $
            switches_on ! (load ! (from ! (vrt ! refl (fld ! refl (vrt ! refl (fld ! refl (stop !))))))
            (look_tag ! 17 (in_variant ! 1 0 refl refl (whole !)))) $ exec ! 𝓣.C 𝓣.Λ En (arm_body 0 (arm_body 1 arms)) Then $
            sets ! (agg ! (no_more !)) refl (tt, tt) $ sets ! (addr ! (from ! (stop !))) refl (tt, tt) $
            sets ! (agg ! (and_then ! (get ! refl) (and_then ! (lit ! tt) (no_more !)))) refl (tt, (tt, (record { fits = lit< tt }, tt))) $
            sets_last ! (agg ! (and_then ! (lit ! tt) (and_then ! (get ! refl) (no_more !)))) refl
            (tt, (record { fits = lit< tt }, ((tt, (record { fits = lit< tt }, tt)), tt))) $
            exec ! 𝓣.C 𝓣.Λ En (after 3 function.body) (at_ret En Ends) $
            sets ! (of_opd ! (get ! refl)) refl (tt, (record { fits = lit< tt }, ((tt, (record { fits = lit< tt }, tt)), tt))) $
            name_new ! tt ((coded_list R.coded).code []) (λ δ. move ! (1 ∷ []) $ nothing ! $ feq_i ! ℕ 0 0 refl $ fjoin ! $ fjoin ! $
            fpack ! (List X.Denot) (λ ys. fsep ((Arr (mem R) 0).own_at ys (l 9) 0) (fauth δ ((coded_list R.coded).code ys))) [] $
            bor_new ! tt κ $ move ! (2 ∷ 0 ∷ []) $
            let s : MutBor (List X.Denot) = record { ref_ptr = (l 9, 0); ghost_name = δ; now = [] } in
            use2 𝓛 (‵ (Items.own_val s (slice_val (l 9, 0) 0 ∷ [])))
            (slice_of 𝓛 R (named 0) κ (l 9) 0 δ [] (lit< tt, subst (λ (k : ℕ). k < 2 ^ 63) (sym (zero-mul (mem R).size)) (lit< tt))) $
            returns ! (look_at ! 0 refl) $ free_all ! refl $ keep ! (0 ∷ 2 ∷ 3 ∷ 4 ∷ []) $
            use1 𝓛 (‵ ((result_row Items error_row).own_val (Ok s) (live 0 (of_list (slice_val (l 9, 0) 0 ∷ [])) ∷ [])))
            (ok_of 𝓛 Items error_row s (slice_val (l 9, 0) 0)) $ move ! (3 ∷ []) $
            use1 𝓛 (‵ (follows_so V (Array R 0) γ none (SliceIs (Ok s)) (SliceStays (Ok s))))
            (so_none_by 𝓛 V B (Array R 0) γ (λ w. w) (BlockIs (Err None)) (BlockStays (Err None)) (SliceIs (Ok s)) (SliceStays (Ok s))
            (λ w ok fits. refl) (λ n is. (tt, λ none'. none_kept g.is_clone d n none' is))) $
            by ! (exits (Ok s) (live 0 (of_list (slice_val (l 9, 0) 0 ∷ []))) (
              (λ equal. sym facts.1.1.1),
              (ap length (sym facts.1.1.1), (tt, ((λ none'. refl), inl (sym facts.1.1.1)))),
            ))))))))
        lent (Err (Some Capacity)) v facts = absurd (not_memory facts.1.1.1.0)
        lent (Err (Some NoMemory)) v facts =
            fpick ! (λ us. fsplit ! $ feq_l ! (λ is. fpick ! (λ vss. fsplit ! $ feq_l ! (λ field. fsplit ! $
            fpick ! (λ us'. fsplit ! $
            feq_l ! (λ is'. fpick ! (λ vss'. fsplit ! $
            feq_l ! (λ field'. fsplit ! $ peeks ! error_row _ (shows 𝓛 error_row) NoMemory vss'.0 (λ e.
            let value : Val = refused NoMemory in
            rewrite ! 0 (λ (ws : List Val). ‵ (error_row.own_val NoMemory ws)) (refused_is NoMemory vss'.0 e) refl $
            -- [the error; nothing, twice; both tokens; the clause of `own_mut`]
            lands_as ! (ap only is ∙ ap (λ ws. live 1 (of_list ws)) (field
            ∙ ap (λ ws. ws ++ []) (is'
            ∙ ap (λ ws. live 1 (of_list ws) ∷ []) (field' ∙ ap (λ ws. ws ++ []) (refused_is NoMemory vss'.0 e))))) refl
            (tt, (record { fits = lit< tt }, ((record { fits = lit< tt }, ((record { fits = lit< tt }, tt), tt)), tt))) $
            first ! $ switches_on ! (get_tag ! (vrt ! refl (fld ! refl (stop !))) (whole !)) $ exec ! 𝓣.C 𝓣.Λ En (arm_body 1 arms) Then $
            switches_on ! (load ! (from ! (vrt ! refl (fld ! refl (vrt ! refl (fld ! refl (stop !))))))
            (look_tag ! 20 (in_variant ! 1 0 refl refl (whole !)))) $ exec ! 𝓣.C 𝓣.Λ En (arm_body 1 (arm_body 1 arms)) Then $
            sets ! (of_opd ! (get_in ! (vrt ! refl (fld ! refl (vrt ! refl (fld ! refl (stop !)))))
            (in_variant ! 1 0 refl refl (in_variant ! 1 0 refl refl (whole !))))) refl (tt, (record { fits = lit< tt }, tt)) $
            sets_last ! (agg ! (and_then ! (lit ! tt) (and_then ! (get ! refl) (no_more !)))) refl
            (tt, (record { fits = lit< tt }, ((record { fits = lit< tt }, tt), tt))) $
            exec ! 𝓣.C 𝓣.Λ En (after 3 function.body) (at_ret En Ends) $
            sets ! (of_opd ! (get ! refl)) refl (tt, (record { fits = lit< tt }, ((record { fits = lit< tt }, tt), tt))) $
            returns ! (look_at ! 0 refl) $ free_all ! refl $ keep ! (0 ∷ 3 ∷ 4 ∷ 5 ∷ []) $
            use1 𝓛 (‵ ((result_row Items error_row).own_val (Err NoMemory) (live 1 (of_list (value ∷ [])) ∷ [])))
            (err_of 𝓛 Items error_row NoMemory value) $ move ! (3 ∷ []) $
            use1 𝓛 (‵ (follows_so V (Array R 0) γ none (SliceIs (Err NoMemory)) (SliceStays (Err NoMemory))))
            (so_none_by 𝓛 V B (Array R 0) γ (λ w. w) (BlockIs (Err (Some NoMemory))) (BlockStays (Err (Some NoMemory)))
            (SliceIs (Err NoMemory)) (SliceStays (Err NoMemory)) (λ w ok fits. refl)
            (λ n is. (is, λ none'. absurd (empty_has none' facts.1.1.1.1)))) $
            by ! (exits (Err NoMemory) (live 1 (of_list (value ∷ []))) (
              (λ equal. tt),
              (tt, (refl, ((λ none'. absurd (empty_has none' facts.1.1.1.1)), tt))),
            )))))))))))

      module _ (𝓣 : Tables 𝓤 H) (own : Triple 𝓤 (𝓣.C own_key) Own) (slice : Triple 𝓤 (𝓣.C slice_key) Slice) where
        walk : ent 𝓤 (sep 𝓤 (on_entry 𝓛 ended.signature (κ, (κT, tt)) (q, (qT, tt)) (self, tt) (mut_vals self, tt))
            ((held (κ, (κT, tt)) (self, tt)).requires tt)) (WpFn 𝓤 H 𝓣.C 𝓣.Λ function (vptr b o ∷ []) Ends)
        walk =
            let z : Own.Ghost = (((κ, (κT, tt)), (q, (qT, tt)), bd, (self, tt), (mut_vals self, tt)), tt) in
            qed 𝓛 (raw (on_entry 𝓛 ended.signature (κ, (κT, tt)) (q, (qT, tt)) (self, tt) (mut_vals self, tt)) ∷ raw (fact 𝓤 (κT ⊑ X.lives)) ∷ ‵ ftrue ∷ []) ∵
            move ! (1 ∷ []) $ heard ! _ (λ alive. use0 𝓛 (raw (fact 𝓤 (κT ⊑ X.lives))) (fact_i 𝓤 (κT ⊑ X.lives) (emp 𝓤) alive) $
            move ! (1 ∷ 0 ∷ 2 ∷ []) $ use3 𝓛 (raw (Own.pre z)) (id⊢ 𝓤 _) $
            enter ! _ _ _ _ _ $ alloc_all ! (λ l. pass_all ! refl ((tt, tt), tt) $
            sets ! (addr ! (through ! refl (stop !))) refl (tt, tt) $
            calls_at ! (fm_of 𝓤 H 𝓛.laws 𝓣) Own own z (and_then ! (get ! refl) (no_more !)) (λ v.
            use1 𝓛 (later (some' (λ (r : Given). ((‵ (flft κ q) ⊛ ‵ (flft κT qT) ⊛ ‵ ftrue) ⊛ ‵ ((result_row Lent (option_row error_row)).own_val r (v ∷ []))) ⊛
            some' (λ (ws : Unit {0} × Unit {0}). ‵ (lasts (O.ended Y g dc dd) z.0.0 z.0.3 ws)
            ⊛ ‵ (follows_so V B γ (name_if_ok (λ x. x.ghost_name) r) (BlockIs r) (BlockStays r)) ⊛
            (raw (fact 𝓤 (HasValue r)) ⊛ raw (fact 𝓤 (HasItems r)) ⊛ raw (fact 𝓤 (HasLength r))
            ⊛ raw (fact 𝓤 (HasSome r)) ⊛ raw (fact 𝓤 (IsRefusal r))))))) (id⊢ 𝓤 _) $
            await ! tt $ pick ! (λ r. split ! $ split ! $ split3 ! $ move ! (4 ∷ []) $ pick ! (λ ws. split3 ! $ drop ! $ move ! (1 ∷ []) $
            split3 ! $ heard ! _ (λ value. heard ! _ (λ items. split3 ! $ heard ! _ (λ long. heard ! _ (λ nonempty. heard ! _ (λ refusal.
            -- [the clause; the tokens; nothing; the result]
            move ! (3 ∷ []) $ drop ! $ move ! (3 ∷ 1 ∷ 2 ∷ 0 ∷ []) $ lent 𝓣 own slice alive l r v (items, (long, (nonempty, refusal)))))))))))))

    meets : (𝓣 : Tables 𝓤 H) → Triple 𝓤 (𝓣.C own_key) Own → Triple 𝓤 (𝓣.C slice_key) Slice
        → Meets 𝓛 ended.signature (WpFn 𝓤 H 𝓣.C 𝓣.Λ function) (closing 𝓛 ended held)
    meets 𝓣 own slice =
        walk_Meets 𝓛 ended stayed (Goes-spent_ref 𝓛 2 (0 ∷ []) tt (plain (λ _. V)), tt) held (WpFn 𝓤 H 𝓣.C 𝓣.Λ function) (WpFn-mono 𝓤 H 𝓛.laws 𝓣 function)
        (walked 𝓛 ended stayed held (WpFn 𝓤 H 𝓣.C 𝓣.Λ function) (λ κs. (mut_vals, tt)) (λ κs. (mut_Tells (named 0) κs.0 V, tt))
        (λ κs qs bounds a _ are. walk κs.0 κs.1.0 qs.0 qs.1.0 bounds a.0.ref_ptr.0 a.0.ref_ptr.1 a.0.ghost_name a.0.now 𝓣 own slice))

pub make_mut_spec : {M : Type 1} → stated.statement M
unfolding tables_of
make_mut_spec 𝓤 𝓛 𝓜 𝓡 wired X L g dc dd clones drops =
    let 𝓣 : Tables 𝓤 𝓛.H = tables_of 𝓤 𝓛.H 𝓜 (tables 𝓤 𝓛.H 𝓜 𝓡 𝓡.env) in
    let LY : Laws (Y X g dc dd) = arg_laws (layout X) denote.Exit.yes (param 0 X) (param_laws 0 X L) refl in
    entered 𝓤 𝓛.H (triple_of 𝓛 (ended X g dc dd).signature (closing 𝓛 (ended X g dc dd) (held X g dc dd 𝓛 𝓜.mem 𝓡.returns))) 𝓣.C 𝓣.Λ
    (#self (args X g dc dd)) (function X g dc dd)
    (code.unfolded 𝓤 𝓛.H 𝓜 𝓡 wired (X, tt) dc dd)
    (meets X g dc dd 𝓛 𝓜.mem 𝓡.returns 𝓣
    (own_thm.met 𝓤 𝓛 𝓜 𝓡 (code.calls-ecow_list::vec::EcoVec::own_mut 𝓡.env wired) (Y X g dc dd) LY g dc dd (record { clone = clones.clone }) drops)
    (slice_thm.met 𝓤 𝓛 𝓜 𝓡 (code.calls-ecow_block::block::Block::as_mut_slice 𝓡.env wired) (Y X g dc dd) LY))
