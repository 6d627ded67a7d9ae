use Rattle.std.proofs.Common.{rules}
use Rattle.ecow_list.proofs.vec.EcoVec.splice.Goals as goal

pub returns-clause-change : goal.returns-clause-change
returns-clause-change g c = record { ok = search rules; kept = search rules }
