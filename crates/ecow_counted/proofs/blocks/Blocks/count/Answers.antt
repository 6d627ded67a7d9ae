use Rattle.std.proofs.Common.{ap}
use Rattle.ecow_counted.proofs.Updates.{shared_names_are}
use Rattle.ecow_counted.proofs.blocks.Blocks.count.Goals as goal

pub returns-clause-sharing : goal.returns-clause-sharing
returns-clause-sharing g c = shared_names_are c.self.inside.places c.self.inside.table c.self.invariant c.args.self.now.names (ap (λ s. s.names) c.self.view_is)
