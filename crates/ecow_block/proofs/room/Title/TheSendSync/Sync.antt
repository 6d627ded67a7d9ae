use denote.RattleType.{RattleType}
use denote.Param.Send.{IsSync}
use Rattle.core.specs.declared.alloc.Allocator.{Ghosts}
use Rattle.ecow_block.proofs.Crosses.{Title-sync}
use Rattle.ecow_block.specs.contracts.room.Title.{the_row}

pub sync : (R A : RattleType) (g : Ghosts A.Denot) → IsSync (the_row R A g)
sync = Title-sync
