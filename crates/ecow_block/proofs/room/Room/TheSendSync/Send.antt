use denote.RattleType.{RattleType}
use denote.Param.Send.{IsSend}
use Rattle.ecow_block.proofs.Crosses.{Room-send}
use Rattle.ecow_block.specs.contracts.room.Room.{the_row}

pub send : (R : RattleType) → IsSend R → IsSend (the_row R)
send = Room-send
