use Rattle.std.proofs.Common.{ap, [], ◌∙◌}
use Rattle.std.specs.FinMap as finite
use Rattle.ecow_model.specs.Names.{settle}
use Rattle.ecow_counted.proofs.Settled.{get-settle, settle-settle}
use Rattle.ecow_counted.proofs.blocks.Blocks.make.Goals as goal

pub place-requires-clause-bare : goal.place-requires-clause-bare
place-requires-clause-bare g c = ap (λ n. finite.get n c.args.name) c.in_ok-begin.ensures.ok ∙ get-settle c.reserve.new.self.names c.args.name [] 0

pub returns-clause-ok : goal.returns-clause-ok
returns-clause-ok g c =
    c.place.ensures.names
    ∙ ap (settle c.args.name c.args.block.items c.args.block.capacity) c.in_ok-begin.ensures.ok
    ∙ settle-settle c.reserve.new.self.names c.args.name [] c.args.block.items 0 c.args.block.capacity
    ∙ ap (settle c.args.name c.args.block.items c.args.block.capacity) c.in_ok-reserve.ensures.names
