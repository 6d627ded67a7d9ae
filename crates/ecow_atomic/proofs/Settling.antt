-- A sole owner becomes one of several. Assumes `Logic`.
use mathlib.Core.Path.{◌≡◌, refl, sym}
use mathlib.Core.List.{[], ◌∷◌}
use Prim.Native.Nat.{◌+◌}
use seplogic.Ra.Ura.{Ura}
use base.Logic.{never, id⊢}
use base.Fml.{Lft, Fml, Incl, fsep, flft}
use types.Logic.{Logic}
use types.Kit.{‵, ◌$◌, ◌∵◌, !, qed, by, drop, rewrite, fsplit, fjoin}
use denote.Param.Laws.{Laws}
use denote.RattleType.{RattleType}
use denote.RawPtr.{block_of, count_of, in_a_block}
use Rattle.core.specs.Thread.Scope.{word_at}
use Rattle.std_alloc.specs.Rc.Ownership.{counter_at}
use Rattle.std_alloc.proofs.ArcSteps.{Settles, either-Settles, counted}
use Rattle.ecow_block.specs.Kept.{head_at, kept, seen, sole_owns}
use Rattle.ecow_atomic.specs.Owners.{counted_owns, shared_owns}
use Rattle.ecow_block.specs.declared.block.Block.TheInside.{Inside}
use Rattle.ecow_block.proofs.Lent.{seen_shr_laws, Lends-kept}

module _ (R : RattleType) (L : Laws R) (i : Inside R.Denot) where
  module _ {M : Type 1} {𝓤 : Ura M} (𝓛 : Logic 𝓤) (l : Lft) (within : Incl l R.lives) where
    sole_settles : Settles 𝓛 (sole_owns R i) (counted_owns R i) l
    sole_settles μ q inc =
        let p = head_at R i in let P = kept R i in
        qed 𝓛 (‵ (sole_owns R i) ∷ ‵ (flft μ q) ∷ []) ∵ fsplit ! $ in_a_block ! p (λ u. counter_at u 0 1) (id⊢ 𝓤 (never 𝓤)) (λ b o e. fsplit ! $ drop ! $
        let at_p : fsep (word_at b (o + 0) 1) P ≡ fsep (word_at (block_of p) (count_of p + 0) 1) P =
        λ j. let u = sym e j in fsep (word_at (block_of u) (count_of u + 0) 1) P in
        fjoin ! $ rewrite ! 0 (λ (F : Fml). ‵ F) at_p refl $
        by ! (counted P (block_of p) (count_of p + 0) (seen R i) (seen_shr_laws R L i) 𝓛 l (Lends-kept R L i 𝓛 l within) μ q inc))

    pub settles : Settles 𝓛 (shared_owns R i) (counted_owns R i) l
    settles = either-Settles 𝓛 (sole_owns R i) (counted_owns R i) l sole_settles
