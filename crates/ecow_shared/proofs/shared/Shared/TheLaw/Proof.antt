-- A `&` to an owner holds a share of its part of the count, where there is a head. Assumes `Logic`.
use mathlib.Core.Bool.{false}
use mathlib.Core.List.{[], ◌++◌}
use seplogic.Ra.Ura.{Ura}
use base.Logic.{ex_i}
use base.Fml.{Lft, Incl, Incl-trans, ftrue}
use contract.BorrowLft.{meet_⊑_left}
use types.Logic.{Logic, sem}
use denote.Param.Laws.{Laws}
use denote.Param.Shared.{copy_shared}
use denote.RattleType.{RattleType}
use denote.RawPtr.{Ptr, RawPtr, block_ptr, null_ptr}
use denote.RcWeak.{Lends-rc, rc_shr_laws}
use denote.Sharing.{ShrLaws}
use denote.SharingLaws.{nothing_shr_laws}
use denote.Struct.Laws.{field_copy, RawPtr-copy}
use denote.Struct.Lending.{Lends, Lends-nothing, of_Lends}
use Rattle.core.specs.contracts.marker.PhantomData as marker
use Rattle.std.proofs.alloc.Global.TheLaws as heap_laws
use Rattle.std.specs.contracts.alloc.Global as heap
use Rattle.std_alloc.specs.Owners.{sole_or_counted}
use Rattle.std_alloc.proofs.ArcSteps.{Lends-settled}
use Rattle.ecow_block.specs.Heads.{unless_null, lent_unless_null}
use Rattle.ecow_block.specs.Kept.{head_at, kept, seen, sole_owns}
use Rattle.ecow_shared.specs.Owners.{one_weak, key, counts, counted_owns, shared_owns, shared_lends}
use Rattle.ecow_block.specs.declared.block.Block.TheInside.{Inside}
use Rattle.ecow_block.specs.contracts.room.Top as top
use Rattle.ecow_shared.specs.contracts.shared.Nil as nil
use Rattle.ecow_shared.specs.contracts.shared.Shared.TheInside as S
use Rattle.ecow_block.proofs.Lent.{seen_shr_laws}
use Rattle.ecow_shared.proofs.Settling.{settles}
use Rattle.ecow_shared.proofs.shared.Shared.TheLaw.Statement.{statement}

module _ (R : RattleType) (L : Laws R) (i : Inside R.Denot) where
  shr_laws : (p : Ptr) → ShrLaws (lent_unless_null p (shared_lends R i))
  shr_laws (block_ptr b o) = rc_shr_laws 64 (key R i) (counts R i) one_weak (kept R i) ftrue ftrue (seen R i) (seen_shr_laws R L i)
  shr_laws null_ptr = nothing_shr_laws

  module _ {M : Type 1} {𝓤 : Ura M} (𝓛 : Logic 𝓤) (l : Lft) (within : Incl l R.lives) where
    Lends-owner : (p : Ptr) → Lends 𝓛 (unless_null p (shared_owns R i)) (lent_unless_null p (shared_lends R i)) l
    Lends-owner (block_ptr b o) =
        Lends-settled 𝓛 (shared_owns R i) (counted_owns R i) l (settles R L i 𝓛 l within) (shared_lends R i)
        (ex_i 𝓤 (λ y. sem 𝓛 (sole_or_counted (sole_owns R i) (counted_owns R i) y)) false)
        (Lends-rc 64 (key R i) (counts R i) one_weak (kept R i) ftrue ftrue (seen R i) 𝓛 (seen_shr_laws R L i) l)
    Lends-owner null_ptr = Lends-nothing 𝓛 ftrue l

pub shares : (R : RattleType) (L : Laws R) → statement R L
shares R L =
    let none = copy_shared (nil.the_field R) (field_copy (nil.the_type R) (field_copy (marker.the_type RawPtr) tt, tt)) in
    of_Lends (S.struct R) (S.the_codes R.Denot R.coded (top.the_row R).coded (nil.the_row R).coded heap.the_row.coded) (S.the_heap R) (S.the_lent R)
    (λ d p. shr_laws R L d.inside (head_at R d.inside))
    (copy_shared (top.the_field R) (field_copy (top.the_type R) (RawPtr-copy, tt)), (none, (none, (none, (heap_laws.the_field_shared, tt)))))
    (λ M 𝓤 𝓛 d p. let l = (S.the_row R).lives in
    Lends-owner R L d.inside 𝓛 l (Incl-trans (meet_⊑_left (R.lives ++ []) _) (meet_⊑_left R.lives [])) (head_at R d.inside))
