use denote.RattleType.{RattleType}
use denote.Param.Send.{IsSend, IsSync}
use Rattle.ecow_atomic.proofs.Owned.{Shared-sync}
use Rattle.ecow_atomic.specs.contracts.shared.Shared.{the_row}

pub sync : (R : RattleType) → IsSend R → IsSync R → IsSync (the_row R)
sync = Shared-sync
