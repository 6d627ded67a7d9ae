use Rattle.std.proofs.Common.{ap}
use Rattle.ecow_counted.proofs.Updates.{begun_names, begun_table}
use Rattle.ecow_counted.proofs.Placing.{sharing-table}
use Rattle.ecow_counted.proofs.blocks.Blocks.begin.Goals as goal

pub invariant_of-self-2 : goal.invariant_of-self-2
invariant_of-self-2 g c =
    begun_table c.self.inside.places c.self.inside.table c.self.invariant c.args.self.now.names
    (ap (λ s. s.names) c.self.view_is) c.args.name c.insert.new.self c.in_ok-insert.ensures.ok c.requires.free

pub returns-clause-ok : goal.returns-clause-ok
returns-clause-ok g c =
    begun_names c.self.inside.places c.self.inside.table c.self.invariant c.args.self.now.names
    (ap (λ s. s.names) c.self.view_is) c.args.name c.insert.new.self c.in_ok-insert.ensures.ok c.requires.free

pub returns-in_err-insert-clause-sharing : goal.returns-in_err-insert-clause-sharing
returns-in_err-insert-clause-sharing g c = rw c.in_err-insert.ensures.unchanged (sharing-table c.self.inside.places c.self.inside.table c.self.invariant)

pub returns-clause-sharing : goal.returns-clause-sharing
returns-clause-sharing g c = sharing-table c.insert.new.self c.self.inside.table (invariant_of-self-2 g c)
