use Rattle.std.proofs.Common.{ap}
use Rattle.ecow_counted.proofs.Updates.{out_names, out_table}
use Rattle.ecow_counted.proofs.Placing.{sharing-table}
use Rattle.ecow_counted.proofs.blocks.Blocks.remove.Goals as goal

pub invariant_of-self : goal.invariant_of-self
invariant_of-self g c =
    out_table c.self.inside.places c.self.inside.table c.self.invariant c.args.self.now.names
    (ap (λ s. s.names) c.self.view_is) c.args.name c.requires.bare c.remove-none.new.self c.remove-none.ensures.removed

pub returns : goal.returns
returns g c =
    record {
      names = out_names c.self.inside.places c.self.inside.table c.self.invariant c.args.self.now.names
          (ap (λ s. s.names) c.self.view_is) c.args.name c.requires.bare c.remove-none.new.self c.remove-none.ensures.removed;
      sharing =
          sharing-table c.remove-none.new.self c.self.inside.table (invariant_of-self g c);
    }
