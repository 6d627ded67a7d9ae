-- `make_mut` hands on what the form lends, in a `Result`, so this proof walks the code by hand. It opens no borrow: both
-- calls get the reference for all the time that it has.
use mathlib.Core.Path.{◌≡◌, refl, sym, ap, subst, ◌∙◌}
use Prim.Native.Nat.{ℕ, ◌^◌, ◌<◌}
use native.Mathlib.Omega.{arith}
use mathlib.Core.List.{List, [], ◌∷◌}
use lib.ListN.{length}
use seplogic.Ra.Ura.{Ura}
use mir.Syntax.{Fn, Args, a_number, named}
use mir.MapTy.{inst_fn}
use mir.Val.{Val, vptr}
use base.Logic.{SProp, ent, sep, emp, id⊢}
use base.Fml.{Lft, GName, Share, ftrue, flft}
use prog.Memory.{Memory, size}
use prog.Routine.{Routine}
use prog.Wp.{WpFn, Tables}
use types.Logic.{Logic, sem}
use types.Kit.{‵, raw, some as some', later, ◌⊛◌, ◌$◌, ◌∵◌, !, qed, by, move, keep, drop, use0, use1, use2, split, split3, join, group, pick, await, fsplit3, fjoin, fjoin3, rewrite, feq_l, feq_i, suffices, frame, done}
use types.Run.{stop, addr, and_then, no_more, returns, enter}
use types.ByLocal.{alloc_all, pass_all, free_all, look_at, get, through, sets, lands_as}
use contract.BorrowLft.{◌⊑◌}
use contract.Lifetimes.{AllOutlive}
use contract.Monad.{Fun, fact, fact_i}
use contract.Running.{tables, tables_of}
use sound.WpLaws.{WpFn-mono, fm_of}
use denote.Array.{Array}
use denote.Builtin.{u8}
use denote.Exit.{no}
use denote.Follow.{follows, follows_so}
use denote.Laws.{shows}
use denote.Param.{number, param, layout, layouts}
use denote.RattleType.{RattleType}
use denote.Ref.{MutBor, MutRef, mut_vals, mut_Tells}
use denote.Signature.{plain, mut_ref_to}
use denote.Slice.{MutSlice}
use denote.Steps.{nothing, heard, peeks, only}
use denote.Triple.Call.{calls_at}
use denote.Triple.Clauses.{Clauses, Ended, closing, lasts}
use denote.Triple.Entry.{on_entry}
use denote.Triple.Spec.{Meets, triple_of}
use denote.Triple.Statement.{Contract, Triple}
use denote.Triple.Table.{entered}
use denote.Triple.Walked.{Stays, stay_dropped, walk_of, walked, ends_at, Goes-spent_ref, walk_Meets}
use Rattle.std.specs.declared.result.Result.{Result}
use Rattle.std.specs.declared.result.Result.TheVariants.{Ok, Err}
use Rattle.std.specs.contracts.result.Result.{the_row as result_row}
use Rattle.std.specs.Prelude.{false, IfOk, IfErr, IsOk, OnErr}
use Rattle.ecow_base.specs.Plain.{plain_bytes}
use Rattle.ecow_base.specs.declared.plain.PlainBytes.{PlainBytes}
use Rattle.ecow_bytes.specs.Form.{plain_of}
use Rattle.ecow_bytes.specs.Lends.{with_bytes, name_given}
use Rattle.ecow_bytes.specs.declared.form.Form.{Form}
use Rattle.ecow_list.specs.declared.error.EcoError.{EcoError}
use Rattle.ecow_list.specs.declared.error.EcoError.TheVariants.{Memory as NoMemory}
use Rattle.ecow_list.specs.contracts.error.EcoError.{the_row as error_row}
use Rattle.ecow_bytes.specs.contracts.form.Form.{the_row as form_row}
use Rattle.ecow_bytes.specs.contracts.bytes.SmallBytes.{the_row as bytes_row}
use Rattle.ecow_bytes.specs.contracts.bytes.SmallBytes.form_mut as W
use Rattle.ecow_bytes.specs.contracts.bytes.SmallBytes.form_mut.Key.{name as #whole}
use Rattle.ecow_bytes.specs.contracts.form.Form.make_mut as G
use Rattle.ecow_bytes.specs.contracts.form.Form.make_mut.Key.{name as #form}
use Rattle.ecow_bytes.specs.contracts.bytes.SmallBytes.make_mut as F
use Rattle.ecow_bytes.specs.contracts.bytes.SmallBytes.make_mut.Key.{name as #self}
use Rattle.ecow_bytes.proofs.bytes.SmallBytes.form_mut.Met as whole_thm
use Rattle.ecow_bytes.proofs.form.Form.make_mut.Met as form_thm
use Rattle.ecow_bytes.proofs.bytes.SmallBytes.make_mut.Statement as stated
use Rattle.ecow_bytes.proofs.bytes.SmallBytes.make_mut.Code as code
use Rattle.ecow_list.proofs.Loans.{then_so}
use Rattle.ecow_list.proofs.ResultTyped.{result_typed}
use Rattle.ecow_bytes.proofs.Forms.{plain_with}

module _ (n : ℕ) where
  abbrev args : Args
  args = layouts (a_number ∷ []) (number n, tt)

  abbrev function : Fn
  function = inst_fn args code.function

  abbrev ended : Ended
  ended = F.ended (number n)

  abbrev B : RattleType
  B = bytes_row (param 0 (number n))

  abbrev P : RattleType
  P = form_row (param 0 (number n))

  abbrev stayed : Stays ended.signature.params ended.kept
  stayed = (stay_dropped (mut_ref_to (0 ∷ []) tt (plain (λ _. B))) no, tt)

  module _ {M : Type 1} {𝓤 : Ura M} (𝓛 : Logic 𝓤) (at_mem : Memory → SProp 𝓤) (run : Routine → Fun 𝓤) where
    open 𝓛 use {H, A}

    abbrev held : Clauses 𝓤 ended
    held = F.clauses (number n) 𝓛 at_mem run

    abbrev Whole : Contract 𝓤
    Whole = triple_of 𝓛 (W.signature (number n)) (W.spec (number n) 𝓛 at_mem run)

    abbrev Formed : Contract 𝓤
    Formed = triple_of 𝓛 (G.signature (number n)) (G.spec (number n) 𝓛 at_mem run)

    module _ (κ κN : Lft) (q qN : Share) (bd : AllOutlive 2 ended.signature.outlives (κ, (κN, tt))) (b o : ℕ) (γ : GName) (d : PlainBytes) where
      abbrev self : MutBor PlainBytes
      self = record { ref_ptr = (b, o); ghost_name = γ; now = d }

      abbrev bound : (walk_of 𝓛 ended stayed held).Ghost
      bound = (((κ, (κN, tt)), (q, (qN, tt)), bd, (self, tt), (mut_vals self, tt)), tt)

      abbrev Ends : Val → SProp 𝓤
      Ends = (walk_of 𝓛 ended stayed held).post bound

      abbrev Items : RattleType
      Items = MutSlice (named 0) κ u8

      abbrev Answer : Type 0
      Answer = Result (MutBor (List ℕ)) EcoError

      abbrev FormIs : Form n → Answer → List ℕ → Form n → Type 0
      FormIs f r w m = IsOk r → length w ≡ length (plain_of f).bytes → m ≡ with_bytes f w

      abbrev FormStays : Form n → Answer → Form n → Type 0
      FormStays f r m = OnErr r (m ≡ f) × ((plain_of f).bytes ≡ [] → m ≡ f)

      abbrev BytesAre : Answer → List ℕ → PlainBytes → Type 0
      BytesAre r w m = IsOk r → length w ≡ length d.bytes → m ≡ plain_bytes w d.inline

      abbrev BytesStay : Answer → PlainBytes → Type 0
      BytesStay r m = OnErr r (m ≡ d) × (d.bytes ≡ [] → m ≡ d)

      none_of : (f : Form n) → plain_of f ≡ d → d.bytes ≡ [] → (plain_of f).bytes ≡ []
      none_of f same e = ap (λ (y : PlainBytes). y.bytes) same ∙ e

      stays : (r : Answer) (m f : Form n) → plain_of f ≡ d → FormStays f r m → BytesStay r (plain_of m)
      stays (Ok s) m f same is = (tt, λ e. ap plain_of (is.1 (none_of f same e)) ∙ same)
      stays (Err e) m f same is = (ap plain_of is.0 ∙ same, λ none. ap plain_of (is.1 (none_of f same none)) ∙ same)

      form_small : size (layout B) < 2 ^ 63 → size (layout P) < 2 ^ 63
      form_small small = omega arith

      -- the facts of a result, at the value's bytes and mode
      abbrev Facts : PlainBytes → Answer → Type 0
      Facts y r = IfOk r (λ s. s.now ≡ y.bytes) × (IfErr r (λ e. e ≡ NoMemory) × (OnErr r (y.inline ≡ false) × (y.bytes ≡ [] → IsOk r)))

      exits : (x : MutBor (Form n)) → plain_of x.now ≡ d → (r : Answer) (v : Val) → Facts d r
          → ent 𝓤 (sep 𝓤 (sem 𝓛 ((result_row Items error_row).own_val r (v ∷ [])))
          (sep 𝓤 (A.lft κ q) (sep 𝓤 (A.lft κN qN) (sep 𝓤 (sem 𝓛 (follows B P γ x.ghost_name plain_of))
          (sem 𝓛 (follows_so P (Array u8 0) x.ghost_name (name_given (plain_of x.now).inline r) (FormIs x.now r) (FormStays x.now r))))))) (Ends v)
      exits x same r v facts =
          let len : length (plain_of x.now).bytes ≡ length d.bytes = ap (λ (y : PlainBytes). length y.bytes) same in
          qed 𝓛 (‵ ((result_row Items error_row).own_val r (v ∷ [])) ∷ ‵ (flft κ q) ∷ ‵ (flft κN qN)
          ∷ ‵ (follows B P γ x.ghost_name plain_of)
          ∷ ‵ (follows_so P (Array u8 0) x.ghost_name (name_given (plain_of x.now).inline r) (FormIs x.now r) (FormStays x.now r)) ∷ []) ∵
          move ! (3 ∷ 4 ∷ []) $ use2 𝓛 (‵ (follows_so B (Array u8 0) γ (name_given (plain_of x.now).inline r) (BytesAre r) (BytesStay r)))
          (then_so 𝓛 B P (Array u8 0) γ x.ghost_name (name_given (plain_of x.now).inline r) plain_of
          (FormIs x.now r) (FormStays x.now r) (BytesAre r) (BytesStay r)
          (λ w m is ok long. ap plain_of (is ok (long ∙ sym len)) ∙ plain_with x.now w (long ∙ sym len) ∙ ap (λ (y : PlainBytes). plain_bytes w y.inline) same)
          (λ m. stays r m x.now same)) $
          rewrite ! 0 (λ (y : PlainBytes). ‵ (follows_so B (Array u8 0) γ (name_given y.inline r) (BytesAre r) (BytesStay r))) same refl $
          suffices ! _ (ends_at 𝓛 ended stayed held bound v r (tt, tt) (tt, tt)) $
          nothing ! $ nothing ! $ fjoin ! $ move ! (0 ∷ 2 ∷ []) $ join ! $ nothing ! $
          move ! (4 ∷ 0 ∷ []) $ join ! $ move ! (3 ∷ 0 ∷ []) $ join ! $ join ! $ frame ! $
          use0 𝓛 (raw (fact 𝓤 (d.bytes ≡ [] → IsOk r))) (fact_i 𝓤 (d.bytes ≡ [] → IsOk r) (emp 𝓤) facts.1.1.1) $
          use0 𝓛 (raw (fact 𝓤 (OnErr r (d.inline ≡ false)))) (fact_i 𝓤 (OnErr r (d.inline ≡ false)) (emp 𝓤) facts.1.1.0) $
          use0 𝓛 (raw (fact 𝓤 (IfErr r (λ e. e ≡ NoMemory)))) (fact_i 𝓤 (IfErr r (λ e. e ≡ NoMemory)) (emp 𝓤) facts.1.0) $
          use0 𝓛 (raw (fact 𝓤 (IfOk r (λ s. s.now ≡ d.bytes)))) (fact_i 𝓤 (IfOk r (λ s. s.now ≡ d.bytes)) (emp 𝓤) facts.0) $
          move ! (4 ∷ 0 ∷ 1 ∷ 2 ∷ 3 ∷ []) $ done !

      module _ (𝓣 : Tables 𝓤 H) (whole : Triple 𝓤 (𝓣.C (#whole args)) Whole) (formed : Triple 𝓤 (𝓣.C (#form args)) Formed) where
        walk : ent 𝓤 (sep 𝓤 (on_entry 𝓛 ended.signature (κ, (κN, tt)) (q, (qN, tt)) (self, tt) (mut_vals self, tt))
            ((held (κ, (κN, tt)) (self, tt)).requires tt)) (WpFn 𝓤 H 𝓣.C 𝓣.Λ function (vptr b o ∷ []) Ends)
        walk =
            let z : Whole.Ghost = (((κ, (κN, tt)), (q, (qN, tt)), bd, (self, tt), (mut_vals self, tt)), tt) in
            qed 𝓛 (raw (on_entry 𝓛 ended.signature (κ, (κN, tt)) (q, (qN, tt)) (self, tt) (mut_vals self, tt))
            ∷ raw (fact 𝓤 (κN ⊑ [])) ∷ raw (fact 𝓤 (size (layout B) < 2 ^ 63)) ∷ ‵ ftrue ∷ []) ∵
            move ! (1 ∷ []) $ heard ! _ (λ within. move ! (1 ∷ []) $ heard ! _ (λ small.
            use0 𝓛 (raw (fact 𝓤 (size (layout P) < 2 ^ 63))) (fact_i 𝓤 (size (layout P) < 2 ^ 63) (emp 𝓤) (form_small small)) $
            use0 𝓛 (raw (fact 𝓤 (size (layout B) < 2 ^ 63))) (fact_i 𝓤 (size (layout B) < 2 ^ 63) (emp 𝓤) small) $
            use0 𝓛 (raw (fact 𝓤 (κN ⊑ []))) (fact_i 𝓤 (κN ⊑ []) (emp 𝓤) within) $
            move ! (3 ∷ 0 ∷ 1 ∷ 2 ∷ 4 ∷ []) $ group ! 5 $ use1 𝓛 (raw (Whole.pre z)) (id⊢ 𝓤 _) $
            enter ! _ _ _ _ _ $ alloc_all ! (λ l. pass_all ! refl ((tt, tt), tt) $
            sets ! (addr ! (through ! refl (stop !))) refl (tt, tt) $
            calls_at ! (fm_of 𝓤 H 𝓛.laws 𝓣) Whole whole z (and_then ! (get ! refl) (no_more !)) (λ v.
            use1 𝓛 (later (some' (λ (x : MutBor (Form n)). ((‵ (flft κ q) ⊛ ‵ (flft κN qN) ⊛ ‵ ftrue) ⊛ ‵ ((MutRef (named 0) κ P).own_val x (v ∷ []))) ⊛
            some' (λ (ws : Unit {0} × Unit {0}). ‵ (lasts (W.ended (number n)) z.0.0 z.0.3 ws)
            ⊛ ‵ (follows B P γ x.ghost_name plain_of) ⊛ raw (fact 𝓤 (plain_of x.now ≡ d)))))) (id⊢ 𝓤 _) $
            await ! tt $ pick ! (λ x. split ! $ split ! $ split3 ! $ move ! (4 ∷ []) $ pick ! (λ ws. split3 ! $ drop ! $ move ! (1 ∷ []) $ heard ! _ (λ same.
            -- [the clause of `form_mut`; both tokens; nothing; the form's reference]
            move ! (4 ∷ []) $ fsplit3 ! $ feq_l ! (λ e. lands_as ! (ap only e) refl (tt, tt) $
            let p : Val = vptr x.ref_ptr.0 x.ref_ptr.1 in
            let z' : Formed.Ghost = (((κ, (κN, tt)), (q, (qN, tt)), bd, (x, tt), (mut_vals x, tt)), tt) in
            feq_i ! (List Val) (p ∷ []) (p ∷ []) refl $ fjoin3 ! $ nothing ! $ move ! (1 ∷ 0 ∷ []) $
            fjoin ! $ move ! (3 ∷ 4 ∷ []) $ join ! $ move ! (3 ∷ 0 ∷ []) $ join ! $ join ! $
            nothing ! $ use0 𝓛 (raw (fact 𝓤 (size (layout P) < 2 ^ 63))) (fact_i 𝓤 (size (layout P) < 2 ^ 63) (emp 𝓤) (form_small small)) $
            use0 𝓛 (raw (fact 𝓤 (κN ⊑ []))) (fact_i 𝓤 (κN ⊑ []) (emp 𝓤) within) $
            move ! (3 ∷ 0 ∷ 1 ∷ 2 ∷ []) $ group ! 4 $ use1 𝓛 (raw (Formed.pre z')) (id⊢ 𝓤 _) $
            calls_at ! (fm_of 𝓤 H 𝓛.laws 𝓣) Formed formed z' (and_then ! (get ! refl) (no_more !)) (λ w.
            use1 𝓛 (later (some' (λ (r : Answer). ((‵ (flft κ q) ⊛ ‵ (flft κN qN) ⊛ ‵ ftrue) ⊛ ‵ ((result_row Items error_row).own_val r (w ∷ []))) ⊛
            some' (λ (ws : Unit {0} × Unit {0}). ‵ (lasts (G.ended (number n)) z'.0.0 z'.0.3 ws)
            ⊛ ‵ (follows_so P (Array u8 0) x.ghost_name (name_given (plain_of x.now).inline r) (FormIs x.now r) (FormStays x.now r)) ⊛
            (raw (fact 𝓤 (IfOk r (λ s. s.now ≡ (plain_of x.now).bytes))) ⊛ raw (fact 𝓤 (IfErr r (λ e. e ≡ NoMemory)))
            ⊛ raw (fact 𝓤 (OnErr r ((plain_of x.now).inline ≡ false))) ⊛ raw (fact 𝓤 ((plain_of x.now).bytes ≡ [] → IsOk r))))))) (id⊢ 𝓤 _) $
            await ! tt $ pick ! (λ r. split ! $ split ! $ split3 ! $ move ! (4 ∷ []) $
            pick ! (λ ws. split3 ! $ drop ! $ move ! (1 ∷ []) $ split3 ! $
            heard ! _ (λ value. heard ! _ (λ err. split ! $ heard ! _ (λ free. heard ! _ (λ empty.
            -- [the clause of the form's `make_mut`; both tokens; nothing; the result; the clause of `form_mut`]
            move ! (4 ∷ []) $ peeks ! (result_row Items error_row) _ (shows 𝓛 (result_row Items error_row)) r (w ∷ []) (λ is.
            lands_as ! refl refl (result_typed κ u8 r w is) $
            returns ! (look_at ! 0 refl) $ free_all ! refl $ keep ! (0 ∷ 2 ∷ 3 ∷ 5 ∷ 1 ∷ []) $
            by ! (exits x same r w (subst (λ (y : PlainBytes). Facts y r) same (value, (err, (free, empty)))))))))))))))))))))

    meets : (𝓣 : Tables 𝓤 H) → Triple 𝓤 (𝓣.C (#whole args)) Whole → Triple 𝓤 (𝓣.C (#form args)) Formed
        → Meets 𝓛 ended.signature (WpFn 𝓤 H 𝓣.C 𝓣.Λ function) (closing 𝓛 ended held)
    meets 𝓣 whole formed =
        walk_Meets 𝓛 ended stayed (Goes-spent_ref 𝓛 2 (0 ∷ []) tt (plain (λ _. B)), tt) held (WpFn 𝓤 H 𝓣.C 𝓣.Λ function) (WpFn-mono 𝓤 H 𝓛.laws 𝓣 function)
        (walked 𝓛 ended stayed held (WpFn 𝓤 H 𝓣.C 𝓣.Λ function) (λ κs. (mut_vals, tt)) (λ κs. (mut_Tells (named 0) κs.0 B, tt))
        (λ κs qs bounds a _ are. walk κs.0 κs.1.0 qs.0 qs.1.0 bounds a.0.ref_ptr.0 a.0.ref_ptr.1 a.0.ghost_name a.0.now 𝓣 whole formed))

pub make_mut_spec : {M : Type 1} → stated.statement M
unfolding tables_of
make_mut_spec 𝓤 𝓛 𝓜 𝓡 wired n fits =
    let 𝓣 : Tables 𝓤 𝓛.H = tables_of 𝓤 𝓛.H 𝓜 (tables 𝓤 𝓛.H 𝓜 𝓡 𝓡.env) in
    entered 𝓤 𝓛.H (triple_of 𝓛 (ended n).signature (closing 𝓛 (ended n) (held n 𝓛 𝓜.mem 𝓡.returns))) 𝓣.C 𝓣.Λ (#self (args n)) (function n)
    (code.unfolded 𝓤 𝓛.H 𝓜 𝓡 wired (number n, tt))
    (meets n 𝓛 𝓜.mem 𝓡.returns 𝓣
    (whole_thm.met 𝓤 𝓛 𝓜 𝓡 (code.calls-ecow_bytes::bytes::SmallBytes::form_mut 𝓡.env wired) n fits)
    (form_thm.met 𝓤 𝓛 𝓜 𝓡 (code.calls-ecow_bytes::form::Form::make_mut 𝓡.env wired) n fits))
