use denote.RattleType.{RattleType}
use denote.Param.Send.{IsSync}
use Rattle.ecow_block.proofs.Crosses.{Room-sync}
use Rattle.ecow_block.specs.contracts.room.Room.{the_row}

pub sync : (R : RattleType) → IsSync R → IsSync (the_row R)
sync = Room-sync
