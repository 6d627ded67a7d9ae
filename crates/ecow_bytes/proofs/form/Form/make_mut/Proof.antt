-- `make_mut` lends what stands in the form: what the vector lends, or the inline bytes. The borrow checker writes no clause
-- on a `&mut [u8]` in a `Result`, so this proof walks the code by hand.
use mathlib.Core.Path.{◌≡◌, refl, sym, ap, ◌∙◌}
use Prim.Native.Nat.{ℕ, ◌^◌, ◌<◌, ◌+◌}
use native.Mathlib.Omega.{arith}
use mathlib.Core.Option.{some, Option as Option'}
use mathlib.Core.List.{List, [], ◌∷◌}
use lib.Dec.{lit<}
use lib.ListN.{length}
use seplogic.Ra.Ura.{Ura}
use mir.Syntax.{Fn, Args, Dict, Callee, Body, Ty, Sym, Tyss, impl, w8, ty_int, a_number, named, tcons, tnil, dcons, dnil}
use mir.MapTy.{inst_fn}
use mir.Val.{Val, vptr, vcons, vnil, of_list}
use base.Fraction.{full_share}
use base.Logic.{SProp, ent, sep, emp, id⊢}
use base.Fml.{Lft, GName, Share, ftrue, fat, flft}
use prog.Memory.{Memory, size, up, align}
use prog.Routine.{Routine}
use prog.Wp.{Env, Wp, WpFn, Tables, at_return, after_seq}
use types.Logic.{Logic, sem}
use types.Kit.{Post, Item, ‵, raw, some as some', later, ◌⊛◌, any_q, at_ret, ◌$◌, ◌∵◌, !, qed, by, move, keep, drop, use0, use1, use2, split, split3, join, group, pick, await, rewrite, fsplit, fsplit3, fjoin, suffices, frame, done}
use types.Mut.{open_ref}
use types.Part.{whole, agg}
use types.Run.{stop, fld, addr, of_opd, lit, load, and_then, no_more, first, switches_on, exec, returns, enter}
use types.Match.{live, vrt, look_tag}
use types.ByLocal.{alloc_all, pass_all, free_all, look_at, get, through, sets, sets_last, lands_as, lands_last, env}
use contract.BorrowLft.{◌⊑◌, ⊑_static}
use contract.Lifetimes.{AllOutlive}
use contract.Monad.{Fun, fact, fact_i}
use contract.Running.{tables, tables_of}
use sound.WpLaws.{WpFn-mono, fm_of}
use denote.Array.{Array}
use denote.Builtin.{u8}
use denote.Exit.{no}
use denote.Follow.{follows, follows_so, follows_then}
use denote.Laws.{shows}
use denote.Memory.{mem}
use denote.Param.{arg, number, param, layout, layouts}
use denote.Param.Laws.{Laws, arg_laws, of_field}
use denote.Param.NoDrop.{glues}
use denote.Param.Shared.{copy_shared}
use denote.RattleType.{RattleType, owns}
use denote.Ref.{MutBor, MutRef, mut_vals, mut_Tells}
use denote.Signature.{plain, mut_ref_to}
use denote.Slice.{MutSlice, slice_val}
use denote.Steps.{nothing, heard, peeks, only}
use denote.Struct.Field.{u8-field}
use denote.Struct.Laws.{u8-laws, u8-copy}
use denote.Triple.Call.{calls_at, calls_at_last}
use denote.Triple.Clauses.{Clauses, Ended, closing, lasts}
use denote.Triple.Entry.{on_entry}
use denote.Triple.Spec.{Meets, triple_of}
use denote.Triple.Statement.{Contract, Triple}
use denote.Triple.Table.{entered}
use denote.Triple.Walked.{Stays, stay_dropped, walk_of, walked, ends_at, Goes-spent_ref, walk_Meets}
use Rattle.core.specs.contracts.clone.U8Clone.TheImpl as u8_clone
use Rattle.core.proofs.clone.U8Clone.TheImpl.Met as u8_clone_met
use Rattle.std.specs.declared.result.Result.{Result}
use Rattle.std.specs.declared.result.Result.TheVariants.{Ok, Err}
use Rattle.std.specs.contracts.result.Result.{the_row as result_row}
use Rattle.std.specs.Prelude.{false, IfOk, IfErr, IsOk, OnErr}
use Rattle.std.specs.List.{refill}
use Rattle.std_alloc.proofs.ResultValues.{ok_of}
use Rattle.std_alloc.proofs.VecSteps.Shapes.{after, head, arm_body}
use Rattle.ecow_base.specs.Clones.{ClonesAreEqual}
use Rattle.ecow_list.specs.Lends.{name_if_lent}
use Rattle.ecow_list.specs.Vectors.{IsKept}
use Rattle.ecow_list.proofs.Kept.{kept_equal}
use Rattle.ecow_bytes.specs.Form.{plain_of}
use Rattle.ecow_bytes.specs.Lends.{with_bytes, name_given}
use Rattle.ecow_bytes.specs.declared.form.Form.{Form}
use Rattle.ecow_bytes.specs.declared.form.Form.TheVariants.{Short, Full, Spilled}
use Rattle.ecow_list.specs.declared.error.EcoError.{EcoError}
use Rattle.ecow_list.specs.declared.error.EcoError.TheVariants.{Memory as NoMemory}
use Rattle.ecow_list.specs.contracts.error.EcoError.{the_row as error_row}
use Rattle.ecow_bytes.specs.contracts.cells.Cells.{the_row as cells_row}
use Rattle.ecow_bytes.specs.contracts.few.Few.{the_row as few_row}
use Rattle.ecow_list.specs.contracts.vec.EcoVec.{the_row as vec_row}
use Rattle.ecow_bytes.specs.contracts.form.Form.{the_row as form_row, the_type as form_type}
use Rattle.ecow_bytes.specs.contracts.cells.Cells.all_mut as W
use Rattle.ecow_bytes.specs.contracts.cells.Cells.all_mut.Key.{name as #cells}
use Rattle.ecow_bytes.specs.contracts.few.Few.as_mut_slice as S
use Rattle.ecow_bytes.specs.contracts.few.Few.as_mut_slice.Key.{name as #few}
use Rattle.ecow_list.specs.contracts.vec.EcoVec.make_mut as E
use Rattle.ecow_list.specs.contracts.vec.EcoVec.make_mut.Key.{name as #vec}
use Rattle.ecow_bytes.specs.contracts.form.Form.make_mut as F
use Rattle.ecow_bytes.specs.contracts.form.Form.make_mut.Key.{name as #self}
use Rattle.ecow_bytes.proofs.cells.Cells.all_mut.Met as cells_thm
use Rattle.ecow_bytes.proofs.few.Few.as_mut_slice.Met as few_thm
use Rattle.ecow_list.proofs.vec.EcoVec.make_mut.Met as vec_thm
use Rattle.ecow_bytes.proofs.form.Form.make_mut.Statement as stated
use Rattle.ecow_bytes.proofs.form.Form.make_mut.Code as code
use Rattle.ecow_bytes.proofs.Destruct++none.drop.Code as dropped
use Rattle.ecow_list.proofs.Loans.{so_of, then_so}
use Rattle.ecow_list.proofs.ResultTyped.{result_typed}
use Rattle.ecow_bytes.proofs.Variants.{variants, opened, lends}

-- bytes, as the call of the vector's `make_mut` passes them
abbrev Y : RattleType
Y = arg (ty_int w8) no u8-field.row

abbrev Y-laws : Laws Y
Y-laws = arg_laws (ty_int w8) no u8-field.row (of_field u8-field u8-laws refl (copy_shared u8-field u8-copy)) refl

abbrev drops : Dict
drops = impl ("ecow_bytes::Destruct++none::drop" ∷ []) (tcons (ty_int w8) tnil) dnil

abbrev vec_key : Callee
vec_key = #vec (tcons (ty_int w8) tnil, dcons u8_clone.dict (dcons drops dnil))

abbrev V : RattleType
V = vec_row u8

abbrev is_clone : ℕ → ℕ → Type 0
is_clone = u8_clone.ghosts.is_clone

-- a byte's clone is the byte
equal : ClonesAreEqual is_clone
equal x y e = e

module _ (n : ℕ) where
  abbrev args : Args
  args = layouts (a_number ∷ []) (number n, tt)

  abbrev function : Fn
  function = inst_fn args code.function

  abbrev ended : Ended
  ended = F.ended (number n)

  abbrev N : RattleType
  N = param 0 (number n)

  abbrev G : RattleType
  G = form_row N

  abbrev C : RattleType
  C = cells_row N

  abbrev I : RattleType
  I = few_row N

  abbrev ν : Sym
  ν = (form_type N).name

  abbrev all : Tyss
  all = variants (layout I) (layout C) (layout V)

  abbrev stayed : Stays ended.signature.params ended.kept
  stayed = (stay_dropped (mut_ref_to (0 ∷ []) tt (plain (λ _. G))) no, tt)

  -- the inline bytes are a part of the form
  cells_small : size (layout G) < 2 ^ 63 → size (layout C) < 2 ^ 63
  cells_small small = omega arith

  few_small : size (layout G) < 2 ^ 63 → size (layout I) < 2 ^ 63
  few_small small = omega arith

  module _ {M : Type 1} {𝓤 : Ura M} (𝓛 : Logic 𝓤) (at_mem : Memory → SProp 𝓤) (run : Routine → Fun 𝓤) where
    open 𝓛 use {H, A}

    abbrev held : Clauses 𝓤 ended
    held = F.clauses (number n) 𝓛 at_mem run

    abbrev InCells : Contract 𝓤
    InCells = triple_of 𝓛 (W.signature (number n)) (W.spec (number n) 𝓛 at_mem run)

    abbrev InFew : Contract 𝓤
    InFew = triple_of 𝓛 (S.signature (number n)) (S.spec (number n) 𝓛 at_mem run)

    abbrev InVec : Contract 𝓤
    InVec = triple_of 𝓛 (E.signature Y) (E.spec Y u8_clone.ghosts u8_clone.dict drops 𝓛 at_mem run)

    module _ (κ κN : Lft) (q qN : Share) (bd : AllOutlive 2 ended.signature.outlives (κ, (κN, tt))) (b o : ℕ) (γ : GName) where
      abbrev self : Form n → MutBor (Form n)
      self d = record { ref_ptr = (b, o); ghost_name = γ; now = d }

      abbrev bound : Form n → (walk_of 𝓛 ended stayed held).Ghost
      bound d = (((κ, (κN, tt)), (q, (qN, tt)), bd, (self d, tt), (mut_vals (self d), tt)), tt)

      abbrev Ends : Form n → Val → SProp 𝓤
      Ends d = (walk_of 𝓛 ended stayed held).post (bound d)

      abbrev Items : RattleType
      Items = MutSlice (named 0) κ u8

      abbrev Answer : Type 0
      Answer = Result (MutBor (List ℕ)) EcoError

      abbrev FormIs : Form n → Answer → List ℕ → Form n → Type 0
      FormIs d r w m = IsOk r → length w ≡ length (plain_of d).bytes → m ≡ with_bytes d w

      abbrev FormStays : Form n → Answer → Form n → Type 0
      FormStays d r m = OnErr r (m ≡ d) × ((plain_of d).bytes ≡ [] → m ≡ d)

      abbrev VecIs : List ℕ → Answer → List ℕ → List ℕ → Type 0
      VecIs xs r w m = IsOk r → length w ≡ length xs → m ≡ w

      abbrev VecStays : List ℕ → Answer → List ℕ → Type 0
      VecStays xs r m = OnErr r (IsKept is_clone xs m) × (xs ≡ [] → m ≡ [])

      -- the facts of a result
      abbrev Facts : Form n → Answer → Type 0
      Facts d r =
          IfOk r (λ s. s.now ≡ (plain_of d).bytes)
          × (IfErr r (λ e. e ≡ NoMemory) × (OnErr r ((plain_of d).inline ≡ false) × ((plain_of d).bytes ≡ [] → IsOk r)))

      abbrev name_of : Form n → Answer → Option' GName
      name_of d r = name_given (plain_of d).inline r

      exits : (d : Form n) (r : Answer) (v : Val) → Facts d r
          → ent 𝓤 (sep 𝓤 (sem 𝓛 ((result_row Items error_row).own_val r (v ∷ [])))
          (sep 𝓤 (A.lft κ q) (sep 𝓤 (A.lft κN qN) (sem 𝓛 (follows_so G (Array u8 0) γ (name_of d r) (FormIs d r) (FormStays d r)))))) (Ends d v)
      exits d r v facts =
          qed 𝓛 (‵ ((result_row Items error_row).own_val r (v ∷ [])) ∷ ‵ (flft κ q) ∷ ‵ (flft κN qN)
          ∷ ‵ (follows_so G (Array u8 0) γ (name_of d r) (FormIs d r) (FormStays d r)) ∷ []) ∵
          move ! (3 ∷ []) $ suffices ! _ (ends_at 𝓛 ended stayed held (bound d) v r (tt, tt) (tt, tt)) $
          nothing ! $ nothing ! $ fjoin ! $ move ! (0 ∷ 2 ∷ []) $ join ! $ nothing ! $ move ! (4 ∷ 0 ∷ []) $ join ! $
          move ! (3 ∷ 0 ∷ []) $ join ! $ join ! $ frame ! $
          use0 𝓛 (raw (fact 𝓤 ((plain_of d).bytes ≡ [] → IsOk r))) (fact_i 𝓤 ((plain_of d).bytes ≡ [] → IsOk r) (emp 𝓤) facts.1.1.1) $
          use0 𝓛 (raw (fact 𝓤 (OnErr r ((plain_of d).inline ≡ false)))) (fact_i 𝓤 (OnErr r ((plain_of d).inline ≡ false)) (emp 𝓤) facts.1.1.0) $
          use0 𝓛 (raw (fact 𝓤 (IfErr r (λ e. e ≡ NoMemory)))) (fact_i 𝓤 (IfErr r (λ e. e ≡ NoMemory)) (emp 𝓤) facts.1.0) $
          use0 𝓛 (raw (fact 𝓤 (IfOk r (λ s. s.now ≡ (plain_of d).bytes)))) (fact_i 𝓤 (IfOk r (λ s. s.now ≡ (plain_of d).bytes)) (emp 𝓤) facts.0) $
          move ! (4 ∷ 0 ∷ 1 ∷ 2 ∷ 3 ∷ []) $ done !

      -- at `Err` the vector stays, and so does the form; and where it has no bytes
      stays : (r : Answer) (xs m : List ℕ) → VecStays xs r m → FormStays (Spilled xs) r (Spilled m)
      stays (Ok s) xs m is = (tt, λ e. ap (λ (ys : List ℕ). Spilled ys) (is.1 e ∙ sym e))
      stays (Err e) xs m is = (ap (λ (ys : List ℕ). Spilled ys) (kept_equal is_clone equal xs m is.0), λ e. ap (λ (ys : List ℕ). Spilled ys) (is.1 e ∙ sym e))

      spilled_facts : (r : Answer) (xs : List ℕ) → (ClonesAreEqual is_clone → IfOk r (λ s. s.now ≡ xs))
          → IfErr r (λ e. e ≡ NoMemory) → (xs ≡ [] → IsOk r) → Facts (Spilled xs) r
      spilled_facts (Ok s) xs value err empty = (value equal, (tt, (tt, empty)))
      spilled_facts (Err e) xs value err empty = (tt, (err, (refl, empty)))

      abbrev with_all : List ℕ → C.Denot
      with_all ys = record { bytes = ys }

      -- a part of the form that is lent, and the form follows it
      abbrev lent : (F : RattleType) → (F.Denot → Form n) → F.Denot → ℕ → Item 𝓤
      lent F make y at =
          later (some' (λ (δ : GName). ‵ ((MutRef (named 0) κ F).own_val (record { ref_ptr = (b, at); ghost_name = δ; now = y }) (vptr b at ∷ []))
          ⊛ ‵ (flft κ q) ⊛ ‵ (follows G F γ δ make)))

      -- the form follows what is written through the slice of its inline bytes
      inline_exits : (d : Form n) (F : RattleType) (make : F.Denot → Form n) (written : List ℕ → F.Denot) (δ : GName) (s : MutBor (List ℕ)) (v : Val)
          → s.now ≡ (plain_of d).bytes → name_of d (Ok s) ≡ some s.ghost_name → ((ys : List ℕ) → make (written ys) ≡ with_bytes d ys)
          → ent 𝓤 (sep 𝓤 (sem 𝓛 (Items.own_val s (v ∷ []))) (sep 𝓤 (A.lft κ q) (sep 𝓤 (A.lft κN qN) (sep 𝓤 (sem 𝓛 (follows G F γ δ make))
          (sem 𝓛 (follows F (Array u8 0) δ s.ghost_name written)))))) (Ends d (live 0 (of_list (v ∷ []))))
      inline_exits d F make written δ s v same name is =
          let r : Answer = Ok s in
          qed 𝓛 (‵ (Items.own_val s (v ∷ [])) ∷ ‵ (flft κ q) ∷ ‵ (flft κN qN) ∷ ‵ (follows G F γ δ make)
          ∷ ‵ (follows F (Array u8 0) δ s.ghost_name written) ∷ []) ∵
          use1 𝓛 (‵ ((result_row Items error_row).own_val r (live 0 (of_list (v ∷ [])) ∷ []))) (ok_of 𝓛 Items error_row s v) $
          move ! (3 ∷ 4 ∷ []) $
          use2 𝓛 (‵ (follows G (Array u8 0) γ s.ghost_name (λ ys. make (written ys)))) (follows_then 𝓛 G F (Array u8 0) make written γ δ s.ghost_name) $
          use1 𝓛 (‵ (follows_so G (Array u8 0) γ (some s.ghost_name) (FormIs d r) (FormStays d r)))
          (so_of 𝓛 G (Array u8 0) γ s.ghost_name (λ ys. make (written ys)) d (FormIs d r) (FormStays d r) (λ ys ok long. is ys) (tt, λ e. refl)) $
          rewrite ! 0 (λ (g : Option' GName). ‵ (follows_so G (Array u8 0) γ g (FormIs d r) (FormStays d r))) (sym name) refl $
          move ! (1 ∷ 2 ∷ 3 ∷ 0 ∷ []) $ by ! (exits d r (live 0 (of_list (v ∷ []))) (same, (tt, (tt, λ e. refl))))

      module _ (𝓣 : Tables 𝓤 H) (vec : Triple 𝓤 (𝓣.C vec_key) InVec)
          (cells : Triple 𝓤 (𝓣.C (#cells args)) InCells) (few : Triple 𝓤 (𝓣.C (#few args)) InFew) where
        abbrev Goes : Form n → Type 1
        Goes d =
            ent 𝓤 (sep 𝓤 (on_entry 𝓛 ended.signature (κ, (κN, tt)) (q, (qN, tt)) (self d, tt) (mut_vals (self d), tt))
            ((held (κ, (κN, tt)) (self d, tt)).requires tt)) (WpFn 𝓤 H 𝓣.C 𝓣.Λ function (vptr b o ∷ []) (Ends d))

        abbrev entry : Form n → List (Item 𝓤)
        entry d =
            ((‵ (flft κ q) ⊛ ‵ (flft κN qN) ⊛ ‵ ftrue) ⊛ ‵ (owns (MutRef (named 0) κ G ∷ []) (self d, tt) (mut_vals (self d), tt)))
            ∷ raw (fact 𝓤 (κN ⊑ [])) ∷ raw (fact 𝓤 (size (layout G) < 2 ^ 63)) ∷ ‵ ftrue ∷ []

        walk : (d : Form n) → Goes d
        walk (Short xs) =
            let d : Form n = Short xs in
            qed 𝓛 (entry d) ∵ move ! (1 ∷ []) $ heard ! _ (λ within. move ! (1 ∷ []) $ heard ! _ (λ small.
            split ! $ split3 ! $ move ! (3 ∷ []) $ fsplit ! $ fsplit3 ! $ keep ! (1 ∷ 2 ∷ 4 ∷ 5 ∷ []) $
            enter ! 𝓣.C 𝓣.Λ function (vptr b o ∷ []) _ $ alloc_all ! (λ l. pass_all ! refl ((tt, tt), tt) $
            let En : Env 𝓤 H = env function.locals l in
            let Then : Post 𝓤 H = any_q (after_seq 𝓤 H (Wp 𝓤 H 𝓣.C 𝓣.Λ En (after 1 function.body) (at_return 𝓤 H En (Ends d))) (at_return 𝓤 H En (Ends d))) in
            open_ref ! tt (mem G) $
            use1 𝓛 (some' (λ (u : Val). ‵ (fat full_share (mir.Syntax.ty_enum ν all) b o (live 0 (vcons u vnil))) ⊛ ‵ (I.own_val xs (u ∷ []))))
            (opened 0 G I Short ν all (layout I) refl (λ us t. t) refl refl refl refl (λ x us. refl) 𝓛 b o xs) $
            pick ! (λ u. split ! $
            first ! $
            switches_on ! (load ! (through ! refl (vrt ! refl (fld ! refl (stop !)))) (look_tag ! 0 (whole !))) $
            exec ! 𝓣.C 𝓣.Λ En (arm_body 0 (head function.body)) Then $
            sets ! (addr ! (through ! refl (vrt ! refl (fld ! refl (stop !))))) refl (tt, tt) $
            sets ! (addr ! (through ! refl (stop !))) refl (tt, tt) $ group ! 5 $
            let at : ℕ = o + up (align (layout I)) 1 in
            use1 𝓛 (lent I Short xs at)
            (lends 0 G I Short ν all (layout I) refl (λ us t. t) refl refl refl refl (λ x us. refl) 𝓛 b o κ q γ xs u (G.coded.code d)) $
            await ! tt $ pick ! (λ δ. split3 ! $
            -- [the inline bytes' reference; κ's token; the form follows it; the other token]
            let x : MutBor (List ℕ) = record { ref_ptr = (b, at); ghost_name = δ; now = xs } in
            let z : InFew.Ghost = (((κ, (κN, tt)), (q, (qN, tt)), bd, (x, tt), (mut_vals x, tt)), tt) in
            nothing ! $ move ! (1 ∷ 0 ∷ []) $ fjoin ! $ nothing ! $ move ! (4 ∷ 0 ∷ []) $ join ! $ move ! (2 ∷ 0 ∷ []) $
            join ! $ join ! $
            nothing ! $
            use0 𝓛 (raw (fact 𝓤 (size (layout I) < 2 ^ 63))) (fact_i 𝓤 (size (layout I) < 2 ^ 63) (emp 𝓤) (few_small small)) $
            use0 𝓛 (raw (fact 𝓤 (κN ⊑ []))) (fact_i 𝓤 (κN ⊑ []) (emp 𝓤) within) $
            move ! (3 ∷ 0 ∷ 1 ∷ 2 ∷ []) $ group ! 4 $ use1 𝓛 (raw (InFew.pre z)) (id⊢ 𝓤 _) $
            calls_at ! (fm_of 𝓤 H 𝓛.laws 𝓣) InFew few z (and_then ! (get ! refl) (no_more !)) (λ w.
            use1 𝓛 (later (some' (λ (s : MutBor (List ℕ)). ((‵ (flft κ q) ⊛ ‵ (flft κN qN) ⊛ ‵ ftrue) ⊛ ‵ (Items.own_val s (w ∷ []))) ⊛
            some' (λ (ws : Unit {0} × Unit {0}).
            ‵ (lasts (S.ended (number n)) z.0.0 z.0.3 ws)
            ⊛ ‵ (follows I (Array u8 0) δ s.ghost_name (refill (length xs) xs)) ⊛ raw (fact 𝓤 (s.now ≡ xs)))))) (id⊢ 𝓤 _) $
            await ! tt $ pick ! (λ s. split ! $ split ! $ split3 ! $ move ! (4 ∷ []) $ pick ! (λ ws. split3 ! $ drop ! $
            move ! (1 ∷ []) $ heard ! _ (λ same.
            move ! (4 ∷ []) $ peeks ! Items _ (shows 𝓛 Items) s (w ∷ []) (λ fits.
            let sv : Val = slice_val s.ref_ptr (length s.now) in
            rewrite ! 0 (λ (us : List Val). ‵ (Items.own_val s us)) fits.0.0 refl $
            lands_as ! (ap only fits.0.0) refl (tt, (tt, (record { fits = fits.0.1.0 }, tt))) $
            sets_last ! (agg ! (and_then ! (lit ! tt) (and_then ! (get ! refl) (no_more !)))) refl
            (tt, (record { fits = lit< tt }, ((tt, (record { fits = fits.0.1.0 }, tt)), tt))) $
            exec ! 𝓣.C 𝓣.Λ En (after 1 function.body) (at_ret En (Ends d)) $
            sets ! (of_opd ! (get ! refl)) refl (tt, (record { fits = lit< tt }, ((tt, (record { fits = fits.0.1.0 }, tt)), tt))) $
            returns ! (look_at ! 0 refl) $ free_all ! refl $ keep ! (0 ∷ 1 ∷ 2 ∷ 3 ∷ 5 ∷ []) $
            move ! (0 ∷ 2 ∷ 3 ∷ 4 ∷ 1 ∷ []) $
            by ! (inline_exits d I Short (refill (length xs) xs) δ s sv same refl (λ ys. refl))))))))))))
        walk (Full ys) =
            let d : Form n = Full ys in
            qed 𝓛 (entry d) ∵ move ! (1 ∷ []) $ heard ! _ (λ within. move ! (1 ∷ []) $ heard ! _ (λ small.
            split ! $ split3 ! $ move ! (3 ∷ []) $ fsplit ! $ fsplit3 ! $ keep ! (1 ∷ 2 ∷ 4 ∷ 5 ∷ []) $
            enter ! 𝓣.C 𝓣.Λ function (vptr b o ∷ []) _ $ alloc_all ! (λ l. pass_all ! refl ((tt, tt), tt) $
            let En : Env 𝓤 H = env function.locals l in
            let Then : Post 𝓤 H = any_q (after_seq 𝓤 H (Wp 𝓤 H 𝓣.C 𝓣.Λ En (after 1 function.body) (at_return 𝓤 H En (Ends d))) (at_return 𝓤 H En (Ends d))) in
            open_ref ! tt (mem G) $
            use1 𝓛 (some' (λ (u : Val). ‵ (fat full_share (mir.Syntax.ty_enum ν all) b o (live 1 (vcons u vnil))) ⊛ ‵ (C.own_val ys (u ∷ []))))
            (opened 1 G C Full ν all (layout C) refl (λ us t. t) refl refl refl refl (λ x us. refl) 𝓛 b o ys) $
            pick ! (λ u. split ! $
            first ! $
            switches_on ! (load ! (through ! refl (vrt ! refl (fld ! refl (stop !)))) (look_tag ! 0 (whole !))) $
            exec ! 𝓣.C 𝓣.Λ En (arm_body 1 (head function.body)) Then $
            sets ! (addr ! (through ! refl (vrt ! refl (fld ! refl (stop !))))) refl (tt, tt) $
            sets ! (addr ! (through ! refl (stop !))) refl (tt, tt) $ group ! 5 $
            let at : ℕ = o + up (align (layout C)) 1 in
            use1 𝓛 (lent C Full ys at)
            (lends 1 G C Full ν all (layout C) refl (λ us t. t) refl refl refl refl (λ x us. refl) 𝓛 b o κ q γ ys u (G.coded.code d)) $
            await ! tt $ pick ! (λ δ. split3 ! $
            -- [the inline bytes' reference; κ's token; the form follows it; the other token]
            let x : MutBor C.Denot = record { ref_ptr = (b, at); ghost_name = δ; now = ys } in
            let z : InCells.Ghost = (((κ, (κN, tt)), (q, (qN, tt)), bd, (x, tt), (mut_vals x, tt)), tt) in
            nothing ! $ move ! (1 ∷ 0 ∷ []) $ fjoin ! $ nothing ! $ move ! (4 ∷ 0 ∷ []) $ join ! $ move ! (2 ∷ 0 ∷ []) $
            join ! $ join ! $
            nothing ! $
            use0 𝓛 (raw (fact 𝓤 (size (layout C) < 2 ^ 63))) (fact_i 𝓤 (size (layout C) < 2 ^ 63) (emp 𝓤) (cells_small small)) $
            use0 𝓛 (raw (fact 𝓤 (κN ⊑ []))) (fact_i 𝓤 (κN ⊑ []) (emp 𝓤) within) $
            move ! (3 ∷ 0 ∷ 1 ∷ 2 ∷ []) $ group ! 4 $ use1 𝓛 (raw (InCells.pre z)) (id⊢ 𝓤 _) $
            calls_at ! (fm_of 𝓤 H 𝓛.laws 𝓣) InCells cells z (and_then ! (get ! refl) (no_more !)) (λ w.
            use1 𝓛 (later (some' (λ (s : MutBor (List ℕ)). ((‵ (flft κ q) ⊛ ‵ (flft κN qN) ⊛ ‵ ftrue) ⊛ ‵ (Items.own_val s (w ∷ []))) ⊛
            some' (λ (ws : Unit {0} × Unit {0}).
            ‵ (lasts (W.ended (number n)) z.0.0 z.0.3 ws)
            ⊛ ‵ (follows C (Array u8 0) δ s.ghost_name with_all) ⊛ (raw (fact 𝓤 (s.now ≡ ys.bytes)) ⊛ raw (fact 𝓤 (length s.now ≡ n))))))) (id⊢ 𝓤 _) $
            await ! tt $ pick ! (λ s. split ! $ split ! $ split3 ! $ move ! (4 ∷ []) $ pick ! (λ ws. split3 ! $ drop ! $
            move ! (1 ∷ []) $ split ! $ heard ! _ (λ same. heard ! _ (λ long.
            move ! (4 ∷ []) $ peeks ! Items _ (shows 𝓛 Items) s (w ∷ []) (λ fits.
            let sv : Val = slice_val s.ref_ptr (length s.now) in
            rewrite ! 0 (λ (us : List Val). ‵ (Items.own_val s us)) fits.0.0 refl $
            lands_as ! (ap only fits.0.0) refl (tt, (tt, (record { fits = fits.0.1.0 }, tt))) $
            sets_last ! (agg ! (and_then ! (lit ! tt) (and_then ! (get ! refl) (no_more !)))) refl
            (tt, (record { fits = lit< tt }, ((tt, (record { fits = fits.0.1.0 }, tt)), tt))) $
            exec ! 𝓣.C 𝓣.Λ En (after 1 function.body) (at_ret En (Ends d)) $
            sets ! (of_opd ! (get ! refl)) refl (tt, (record { fits = lit< tt }, ((tt, (record { fits = fits.0.1.0 }, tt)), tt))) $
            returns ! (look_at ! 0 refl) $ free_all ! refl $ keep ! (0 ∷ 1 ∷ 2 ∷ 3 ∷ 5 ∷ []) $
            move ! (0 ∷ 2 ∷ 3 ∷ 4 ∷ 1 ∷ []) $
            by ! (inline_exits d C Full with_all δ s sv same refl (λ ys. refl)))))))))))))
        walk (Spilled xs) =
            let d : Form n = Spilled xs in
            qed 𝓛 (entry d) ∵ move ! (1 ∷ []) $ heard ! _ (λ within. move ! (1 ∷ []) $ heard ! _ (λ small.
            split ! $ split3 ! $ move ! (3 ∷ []) $ fsplit ! $ fsplit3 ! $ keep ! (1 ∷ 2 ∷ 4 ∷ 5 ∷ []) $
            enter ! 𝓣.C 𝓣.Λ function (vptr b o ∷ []) _ $ alloc_all ! (λ l. pass_all ! refl ((tt, tt), tt) $
            let En : Env 𝓤 H = env function.locals l in
            let Then : Post 𝓤 H = any_q (after_seq 𝓤 H (Wp 𝓤 H 𝓣.C 𝓣.Λ En (after 1 function.body) (at_return 𝓤 H En (Ends d))) (at_return 𝓤 H En (Ends d))) in
            open_ref ! tt (mem G) $
            use1 𝓛 (some' (λ (u : Val). ‵ (fat full_share (mir.Syntax.ty_enum ν all) b o (live 2 (vcons u vnil))) ⊛ ‵ (V.own_val xs (u ∷ []))))
            (opened 2 G V Spilled ν all (layout V) refl (λ us t. t) refl refl refl refl (λ x us. refl) 𝓛 b o xs) $
            pick ! (λ u. split ! $
            first ! $
            switches_on ! (load ! (through ! refl (vrt ! refl (fld ! refl (stop !)))) (look_tag ! 0 (whole !))) $
            exec ! 𝓣.C 𝓣.Λ En (arm_body 2 (head function.body)) Then $
            sets ! (addr ! (through ! refl (vrt ! refl (fld ! refl (stop !))))) refl (tt, tt) $
            sets ! (addr ! (through ! refl (stop !))) refl (tt, tt) $ group ! 5 $
            let at : ℕ = o + up (align (layout V)) 1 in
            use1 𝓛 (lent V Spilled xs at)
            (lends 2 G V Spilled ν all (layout V) refl (λ us t. t) refl refl refl refl (λ x us. refl) 𝓛 b o κ q γ xs u (G.coded.code d)) $
            await ! tt $ pick ! (λ δ. split3 ! $
            -- [the vector's reference; κ's token; the form follows it; the other token]
            let x : MutBor (List ℕ) = record { ref_ptr = (b, at); ghost_name = δ; now = xs } in
            let z : InVec.Ghost = (((κ, ([], tt)), (q, (full_share, tt)), (⊑_static κ, tt), (x, tt), (mut_vals x, tt)), tt) in
            nothing ! $ move ! (1 ∷ 0 ∷ []) $ fjoin ! $ nothing ! $
            use0 𝓛 (‵ (flft [] full_share)) (𝓛.lfts.lft-nil full_share) $ join ! $ move ! (2 ∷ 0 ∷ []) $ join ! $
            join ! $
            nothing ! $ use0 𝓛 (raw (fact 𝓤 ([] ⊑ []))) (fact_i 𝓤 ([] ⊑ []) (emp 𝓤) (⊑_static [])) $
            move ! (2 ∷ 0 ∷ 1 ∷ []) $ group ! 3 $ use1 𝓛 (raw (InVec.pre z)) (id⊢ 𝓤 _) $
            calls_at_last ! (fm_of 𝓤 H 𝓛.laws 𝓣) InVec vec z (and_then ! (get ! refl) (no_more !)) (λ w.
            use1 𝓛 (later (some' (λ (r : Answer). ((‵ (flft κ q) ⊛ ‵ (flft [] full_share) ⊛ ‵ ftrue) ⊛ ‵ ((result_row Items error_row).own_val r (w ∷ []))) ⊛
            some' (λ (ws : Unit {0} × Unit {0}).
            ‵ (lasts (E.ended Y u8_clone.ghosts u8_clone.dict drops) z.0.0 z.0.3 ws)
            ⊛ ‵ (follows_so V (Array u8 0) δ (name_if_lent r) (VecIs xs r) (VecStays xs r)) ⊛
            (raw (fact 𝓤 (ClonesAreEqual is_clone → IfOk r (λ s. s.now ≡ xs)))
            ⊛ raw (fact 𝓤 (IfOk r (λ s. length s.now ≡ length xs)))
            ⊛ raw (fact 𝓤 (IfErr r (λ e. e ≡ NoMemory))) ⊛ raw (fact 𝓤 (xs ≡ [] → IsOk r))
            ⊛ raw (fact 𝓤 (IfOk r (λ s. IsKept is_clone xs s.now)))))))) (id⊢ 𝓤 _) $
            await ! tt $ pick ! (λ r. split ! $ split ! $ split3 ! $ move ! (4 ∷ []) $ pick ! (λ ws. split3 ! $ drop ! $
            move ! (1 ∷ []) $ split3 ! $ heard ! _ (λ value. heard ! _ (λ len. split3 ! $
            heard ! _ (λ err. heard ! _ (λ empty. heard ! _ (λ kept.
            -- [the vector's clause; κ's token; the static one; nothing; the result; the form follows the vector; the other token]
            move ! (4 ∷ []) $
            peeks ! (result_row Items error_row) _ (shows 𝓛 (result_row Items error_row)) r (w ∷ []) (λ is.
            lands_last ! refl (result_typed κ u8 r w is) $
            exec ! 𝓣.C 𝓣.Λ En (after 1 function.body) (at_ret En (Ends d)) $
            sets ! (of_opd ! (get ! refl)) refl (result_typed κ u8 r w is) $
            returns ! (look_at ! 0 refl) $ free_all ! refl $ keep ! (0 ∷ 1 ∷ 2 ∷ 5 ∷ 6 ∷ []) $ move ! (3 ∷ 1 ∷ []) $
            use2 𝓛 (‵ (follows_so G (Array u8 0) γ (name_if_lent r) (FormIs d r) (FormStays d r)))
            (then_so 𝓛 G V (Array u8 0) γ δ (name_if_lent r) Spilled (VecIs xs r) (VecStays xs r) (FormIs d r) (FormStays d r)
            (λ ys m is ok long. ap (λ (zs : List ℕ). Spilled zs) (is ok long)) (λ m is. stays r xs m is)) $
            move ! (1 ∷ 2 ∷ 3 ∷ 0 ∷ []) $ by ! (exits d r w (spilled_facts r xs value err empty))))))))))))))))

    meets : (𝓣 : Tables 𝓤 H) → Triple 𝓤 (𝓣.C vec_key) InVec
        → Triple 𝓤 (𝓣.C (#cells args)) InCells → Triple 𝓤 (𝓣.C (#few args)) InFew
        → Meets 𝓛 ended.signature (WpFn 𝓤 H 𝓣.C 𝓣.Λ function) (closing 𝓛 ended held)
    meets 𝓣 vec cells few =
        walk_Meets 𝓛 ended stayed (Goes-spent_ref 𝓛 2 (0 ∷ []) tt (plain (λ _. G)), tt) held (WpFn 𝓤 H 𝓣.C 𝓣.Λ function) (WpFn-mono 𝓤 H 𝓛.laws 𝓣 function)
        (walked 𝓛 ended stayed held (WpFn 𝓤 H 𝓣.C 𝓣.Λ function) (λ κs. (mut_vals, tt)) (λ κs. (mut_Tells (named 0) κs.0 G, tt))
        (λ κs qs bounds a _ are. walk κs.0 κs.1.0 qs.0 qs.1.0 bounds a.0.ref_ptr.0 a.0.ref_ptr.1 a.0.ghost_name 𝓣 vec cells few a.0.now))

pub make_mut_spec : {M : Type 1} → stated.statement M
unfolding tables_of dropped.code
make_mut_spec 𝓤 𝓛 𝓜 𝓡 wired n fits =
    let 𝓣 : Tables 𝓤 𝓛.H = tables_of 𝓤 𝓛.H 𝓜 (tables 𝓤 𝓛.H 𝓜 𝓡 𝓡.env) in
    entered 𝓤 𝓛.H (triple_of 𝓛 (ended n).signature (closing 𝓛 (ended n) (held n 𝓛 𝓜.mem 𝓡.returns))) 𝓣.C 𝓣.Λ (#self (args n)) (function n)
    (code.unfolded 𝓤 𝓛.H 𝓜 𝓡 wired (number n, tt))
    (meets n 𝓛 𝓜.mem 𝓡.returns 𝓣
    (vec_thm.met 𝓤 𝓛 𝓜 𝓡 (code.calls-ecow_list::vec::EcoVec::make_mut 𝓡.env wired) Y Y-laws u8_clone.ghosts u8_clone.dict drops
    (u8_clone_met.passed 𝓡.env (code.calls-core::clone::U8Clone::clone 𝓡.env wired) _ 𝓤 𝓛 𝓜 𝓡)
    (glues "ecow_bytes::Destruct++none::drop" 𝓡.env (code.calls-ecow_bytes::Destruct++none::drop 𝓡.env wired) Y Y-laws _ 𝓤 𝓛 𝓜 𝓡))
    (cells_thm.met 𝓤 𝓛 𝓜 𝓡 (code.calls-ecow_bytes::cells::Cells::all_mut 𝓡.env wired) n fits)
    (few_thm.met 𝓤 𝓛 𝓜 𝓡 (code.calls-ecow_bytes::few::Few::as_mut_slice 𝓡.env wired) n fits))
