use Rattle.std.proofs.Common.{rules, ◌∙◌, sym}
use Rattle.ecow_block.proofs.Lists.{goes_on}
use Rattle.ecow_block.proofs.block.Block.remove.Goals as goal

pub returns-clause-value : goal.returns-clause-value
returns-clause-value g c =
    let here = (goes_on c.args.index c.self.inside.room.items _ _ (sym c.split_off-tail.ensures.rest_items ∙ c.shift_first-item.ensures.items)).0 in
    search rules

pub returns-clause-block : goal.returns-clause-block
returns-clause-block g c =
    let behind = (goes_on c.args.index c.self.inside.room.items _ _ (sym c.split_off-tail.ensures.rest_items ∙ c.shift_first-item.ensures.items)).1 in
    search rules
