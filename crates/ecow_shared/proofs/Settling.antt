-- A sole owner becomes one of several. Assumes `Logic`.
use mathlib.Core.List.{[], ◌∷◌}
use Prim.Native.Nat.{ℕ}
use lib.Dec.{lit<}
use seplogic.Ra.Ura.{Ura}
use base.Fml.{Lft, Incl, Incl-trans, ftrue, flft, fbor}
use contract.BorrowLft.{meet_⊑_left, meet_⊑_right}
use types.Logic.{Logic}
use types.Kit.{‵, ◌⊛◌, later, some, ◌$◌, ◌∵◌, !, qed, move, use1, use2, split3, join, group, pick, await, updating, now, done, fsplit, fjoin3, fpick, fpack, flt_i}
use types.RcWeak as rc
use denote.RcWeak as handles
use denote.Param.Laws.{Laws}
use denote.RattleType.{RattleType}
use denote.Steps.{nothing}
use Rattle.std_alloc.proofs.ArcSteps.{Settles, either-Settles}
use Rattle.ecow_block.specs.Kept.{kept, seen, sole_owns}
use Rattle.ecow_shared.specs.Owners.{one_weak, key, counts, counted_owns, shared_owns}
use Rattle.ecow_block.specs.declared.block.Block.TheInside.{Inside}
use Rattle.ecow_block.proofs.Lent.{Lends-kept}

module _ (R : RattleType) (L : Laws R) (i : Inside R.Denot) where
  module _ {M : Type 1} {𝓤 : Ura M} (𝓛 : Logic 𝓤) (l : Lft) (within : Incl l R.lives) where
    sole_settles : Settles 𝓛 (sole_owns R i) (counted_owns R i) l
    sole_settles μ q inc =
        let k = key R i in let n = counts R i in let P = kept R i in
        qed 𝓛 (‵ (sole_owns R i) ∷ ‵ (flft μ q) ∷ []) ∵ updating ! $ fsplit ! $ flt_i ! 1 2 (lit< tt) $ nothing ! $
        -- [the count; the weak part; what is kept; nothing more; the token]
        move ! (2 ∷ 1 ∷ 3 ∷ 0 ∷ []) $ group ! 4 $
        use1 𝓛 (later (some (λ (a : ℕ × ℕ). ‵ (rc.part 64 a.0) ⊛ ‵ (rc.box 64 k n one_weak P ftrue ftrue a) ⊛ ‵ (fbor (a.0 ∷ []) P))))
        (rc.rc_new 64 k n one_weak P ftrue ftrue 𝓛 (lit< tt)) $ await ! tt $ pick ! (λ a. split3 ! $ fpick ! (λ e. fpick ! (λ one.
        move ! (0 ∷ 3 ∷ []) $ join ! $ move ! (2 ∷ 0 ∷ []) $
        use2 𝓛 (later (‵ (seen R i (a.0 ∷ [])) ⊛ ‵ (flft (a.0 ∷ []) e) ⊛ ‵ (flft μ q)))
        (Lends-kept R L i 𝓛 l within (a.0 ∷ []) ((a.0 ∷ [], e) ∷ (μ, q) ∷ [])
        (Incl-trans (meet_⊑_right (a.0 ∷ []) μ) inc) (meet_⊑_left (a.0 ∷ []) μ)) $ await ! tt $ split3 ! $
        move ! (1 ∷ []) $ use1 𝓛 (‵ (rc.part 64 a.0)) (rc.part_in 64 𝓛 a.0 e one) $ move ! (0 ∷ 3 ∷ 1 ∷ []) $ fjoin3 ! $
        fpack ! (ℕ × ℕ) (handles.handle 64 k n one_weak P ftrue ftrue (seen R i) (λ c. c.0)) a $ now ! $ done !)))

    pub settles : Settles 𝓛 (shared_owns R i) (counted_owns R i) l
    settles = either-Settles 𝓛 (sole_owns R i) (counted_owns R i) l sole_settles
