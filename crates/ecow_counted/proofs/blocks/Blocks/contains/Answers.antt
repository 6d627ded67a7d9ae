use Rattle.std.proofs.Common.{ap, ◌∙◌}
use Rattle.ecow_counted.proofs.Updates.{contained}
use Rattle.ecow_counted.proofs.blocks.Blocks.contains.Goals as goal

pub returns : goal.returns
returns g c =
    c.contains.ensures ∙ contained c.self.inside.places c.self.inside.table c.self.invariant c.args.self.now.names
    (ap (λ s. s.names) c.self.view_is) c.args.name
