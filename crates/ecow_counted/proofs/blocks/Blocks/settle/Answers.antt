use Rattle.std.proofs.Common.{ap, [], ◌∙◌}
use Rattle.std.specs.FinMap as finite
use Rattle.ecow_model.specs.Names.{settle}
use Rattle.ecow_counted.proofs.Settled.{get-settle, settle-settle}
use Rattle.ecow_counted.proofs.blocks.Blocks.settle.Goals as goal

pub place-requires-clause-bare : goal.place-requires-clause-bare
place-requires-clause-bare g c = ap (λ n. finite.get n c.args.name) c.take-old.ensures.names ∙ get-settle c.args.self.now.names c.args.name [] 0

pub returns-then-capacity-gt0 : goal.returns-then-capacity-gt0
returns-then-capacity-gt0 g c = record {
  names = c.place.ensures.names
      ∙ ap (settle c.args.name c.args.block.items c.args.block.capacity) c.take-old.ensures.names
      ∙ settle-settle c.args.self.now.names c.args.name [] c.args.block.items 0 c.args.block.capacity;
  sharing = c.place.ensures.sharing;
}
