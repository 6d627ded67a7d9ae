-- A call of the step that adds an owner, with the outcome that the caller's proof picks: `bumps`. The
-- library's `atomic_table` has the other steps. Assumes `Logic`.
use mathlib.Core.Path.{◌≡◌, refl, sym, ap}
use mathlib.Core.List.{List, [], ◌∷◌}
use Prim.Native.Nat.{ℕ, ◌<◌, ◌^◌}
use seplogic.Ra.Ura.{Ura}
use base.Fraction.{full_share}
use base.Logic.{SProp, ent, sep, emp, via, fst∗, emp∗, comm∗}
use base.Fml.{Fml, ftrue, fsep, flft}
use mir.Syntax.{Callee, Dict, tnil, dnil, impl, ty_struct, w64}
use mir.Val.{Val, vint}
use prog.Atomic.{bump}
use prog.Model.{Model}
use prog.Wired.{Wired}
use types.Logic.{Logic}
use types.Kit.{‵, raw, ◌⊛◌, some, later, given, mean, ◌$◌, ◌∵◌, !, qed, drop, split, join, fsplit, fjoin, feq_i, feq_l, flt_l, pick, show, check, use0, updating, await, now, done}
use contract.Monad.{fact, fact_i}
use contract.BorrowLft.{◌⊑◌, ⊑_static}
use contract.Running.{Running, MachineTables, tables}
use denote.Builtin.{u64}
use denote.Exit.{no}
use denote.Param.{arg}
use denote.Param.Laws.{Laws, arg_laws}
use denote.RattleType.{RattleType}
use denote.RawPtr.{Ptr, ptr_val}
use denote.Steps.{nothing, only}
use denote.Triple.Spec.{triple_of}
use Rattle.core.specs.Sync.RawAtomic.{asks, always}
use Rattle.core.specs.declared.atomic.Ordering.TheVariants.{SeqCst}
use Rattle.core.specs.declared.raw_atomic.Outcome as Outcome
use Rattle.core.specs.contracts.atomic.Ordering as Order
use Rattle.core.specs.contracts.marker.Brand as Brand
use Rattle.core.specs.contracts.raw_atomic.saturating_increment as up
use Rattle.core.proofs.marker.Brand.TheLaws.{the_row_laws}
use Rattle.core.proofs.raw_atomic.Ordered.{order_made}
use Rattle.core.proofs.raw_atomic.saturating_increment.Met as theirs
use Rattle.core.proofs.raw_atomic.saturating_increment.Symbol as named
use Rattle.atomic_table.proofs.Calls.{picked, seq_cst, found, fm}

abbrev marker : RattleType
marker = arg (ty_struct [] tnil) no Brand.the_row

marker_laws : Laws marker
marker_laws = arg_laws (ty_struct [] tnil) no Brand.the_row the_row_laws refl

abbrev dict : Dict
dict = impl [] tnil dnil

module _ {M : Type 1} {𝓤 : Ura M} (𝓛 : Logic 𝓤) (𝓜 : Model 𝓤 𝓛.H) (𝓡 : Running 𝓤 𝓛.H 𝓜) where
  open 𝓛 use {H, A}

  abbrev 𝓣 : MachineTables 𝓤 H 𝓜
  𝓣 = tables 𝓤 H 𝓜 𝓡 𝓡.env

  abbrev tokens : SProp 𝓤
  tokens = sep 𝓤 (A.lft [] full_share) (emp 𝓤)

  -- what the contract of the step ends in, as what was found
  answers : (W : Type 0) (L : W → Fml) (after : ℕ → Fml) (v : Val)
      → ent 𝓤 (mean 𝓛 (later (some (λ (n : ℕ). (raw tokens ⊛ ‵ (u64.own_val n (v ∷ []))) ⊛ some (λ (w : W). ‵ (L w) ⊛ ‵ (after n))))))
      (mean 𝓛 (found after v))
  answers W L after v =
      qed 𝓛 (later (some (λ (n : ℕ). (raw tokens ⊛ ‵ (u64.own_val n (v ∷ []))) ⊛ some (λ (w : W). ‵ (L w) ⊛ ‵ (after n)))) ∷ []) ∵
      updating ! $ await ! tt $ pick ! (λ n. split ! $ split ! $ drop ! $ fsplit ! $ feq_l ! (λ e. flt_l ! (λ fits. pick ! (λ w. split ! $ drop ! $ now ! $
      show ! (λ (m : ℕ). mean 𝓛 (given ((vint w64 m ≡ v) × (m < 2 ^ 64)) (‵ (after m)))) n $ check ! (sym (ap only e), fits) $ done !))))

  pub bumps : Wired 𝓡.env named.code → (p : Ptr) (after : ℕ → Fml)
      → ent 𝓤 (asks 𝓛 p bump always after) (𝓣.C (named.name picked) (ptr_val p ∷ seq_cst ∷ []) (λ v. mean 𝓛 (found after v)))
  bumps w p after =
      let g : Outcome.Ghosts marker.Denot = record { after = after } in let k : Callee = named.name picked in
      let vs : List Val = ptr_val p ∷ seq_cst ∷ [] in let X : SProp 𝓤 = asks 𝓛 p bump always after in
      let c = triple_of 𝓛 (up.ended marker g dict).signature (up.spec marker g dict 𝓛 𝓜.mem 𝓡.returns) in
      let y : c.Ghost = ((([], tt), (full_share, tt), tt, (p, (SeqCst, tt)), (ptr_val p ∷ [], (seq_cst ∷ [], tt))), tt) in
      let Z : Val → SProp 𝓤 = λ v. mean 𝓛 (found after v) in let C : SProp 𝓤 = 𝓣.C k vs (c.post y) in
      via 𝓤 (sep 𝓤 C (emp 𝓤)) (via 𝓤 C (via 𝓤 (c.pre y) (qed 𝓛 (raw X ∷ []) ∵
      use0 𝓛 (raw (fact 𝓤 (SeqCst ≡ SeqCst))) (fact_i 𝓤 (SeqCst ≡ SeqCst) (emp 𝓤) refl) $ join ! $
      use0 𝓛 (raw (fact 𝓤 ([] ⊑ []))) (fact_i 𝓤 ([] ⊑ []) (emp 𝓤) (⊑_static [])) $ join ! $
      nothing ! $ use0 𝓛 (‵ (Order.the_row.own_val SeqCst (seq_cst ∷ []))) (order_made 𝓛) $
      fjoin ! $ feq_i ! (List Val) (ptr_val p ∷ []) (ptr_val p ∷ []) refl $ fjoin ! $
      nothing ! $ use0 𝓛 (‵ (flft [] full_share)) (𝓛.lfts.lft-nil full_share) $ join ! $ join ! $ done !)
      (theirs.met 𝓤 𝓛 𝓜 𝓡 w marker marker_laws g dict record {} y))
      (via 𝓤 _ (emp∗ 𝓤 C) (comm∗ 𝓤 (emp 𝓤) C)))
      (fm 𝓛 𝓜 𝓡 k vs (c.post y) Z (emp 𝓤) (λ v. via 𝓤 (c.post y v) (fst∗ 𝓤 (c.post y v) (emp 𝓤))
      (answers (Unit {0} × (Unit {0} × Unit {0})) (λ _. fsep ftrue (fsep ftrue ftrue)) after v)))
