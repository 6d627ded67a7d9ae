use Rattle.std.proofs.Common.{ap, [], ◌∙◌}
use Rattle.std.specs.FinMap as finite
use Rattle.ecow_model.specs.Names.{forget}
use Rattle.ecow_counted.proofs.Settled.{get-settle, forget-settle}
use Rattle.ecow_counted.proofs.blocks.Blocks.drop_name.Goals as goal

pub remove-requires : goal.remove-requires
remove-requires g c = record { bare = ap (λ n. finite.get n c.args.name) c.take-last.ensures.names ∙ get-settle c.args.self.now.names c.args.name [] 0 }

pub returns : goal.returns
returns g c =
    record {
      names = c.remove.ensures.names ∙ ap (forget c.args.name) c.take-last.ensures.names
          ∙ forget-settle c.args.self.now.names c.args.name [] 0;
      sharing = c.remove.ensures.sharing;
    }
