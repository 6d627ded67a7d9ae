use denote.RattleType.{RattleType}
use denote.Param.Send.{IsSend, IsSync}
use Rattle.ecow_atomic.proofs.Owned.{Shared-send}
use Rattle.ecow_atomic.specs.contracts.shared.Shared.{the_row}

pub send : (R : RattleType) → IsSend R → IsSync R → IsSend (the_row R)
send = Shared-send
