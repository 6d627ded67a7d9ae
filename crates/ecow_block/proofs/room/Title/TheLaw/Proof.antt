-- A `&` to a title lends the fields of its head. Assumes `Logic`.
use mathlib.Core.List.{[], ◌++◌}
use base.Fml.{Incl-trans}
use contract.BorrowLft.{meet_⊑_left}
use denote.Param.Laws.{Laws}
use denote.Param.Shared.{copy_shared}
use denote.RattleType.{RattleType}
use denote.RawPtr.{RawPtr}
use denote.Struct.Laws.{field_copy}
use denote.Struct.Lending.{of_Lends}
use Rattle.core.specs.contracts.marker.PhantomData as marker
use Rattle.core.specs.declared.alloc.Allocator.{Ghosts}
use Rattle.ecow_block.specs.contracts.room.Title as D
use Rattle.ecow_block.proofs.Lent.{title_shr_laws, Lends-title}
use Rattle.ecow_block.proofs.room.Title.TheLaw.Statement.{statement}

pub shares : (R A : RattleType) (g : Ghosts A.Denot) (L : Laws R) (K : Laws A) → statement R A g L K
shares R A g L K = of_Lends (D.struct R A g) (D.the_codes R.Denot A.Denot R.coded A.coded (marker.the_row RawPtr).coded) (D.the_heap R A g) (D.the_lent R A g)
    (λ d p. title_shr_laws R L d.at d.fields)
    (copy_shared (marker.the_field RawPtr) (field_copy (marker.the_type RawPtr) tt), tt)
    (λ M 𝓤 𝓛 d p. let l = (D.the_row R A g).lives in
    Lends-title R L 𝓛 l (Incl-trans (meet_⊑_left (R.lives ++ (A.lives ++ [])) []) (meet_⊑_left R.lives (A.lives ++ [])))
    (g.dealloc_token d.alloc) d.at d.fields d.places)
