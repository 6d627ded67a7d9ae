use Rattle.std.proofs.Common.{rules, ◌+◌, ◌≤◌, length}
use Rattle.ecow_block.proofs.Splices.{inserted, other_inserted, drained, other_drained}
use Rattle.ecow_block.proofs.block.Block.splice_within_capacity.Goals as goal

pub returns-clause-removed : goal.returns-clause-removed
returns-clause-removed g c =
    let here : c.args.start + c.min-both.result ≤ length c.args.self.now.items = search rules in
    let enough : c.min-both.result ≤ length c.args.replacement.items = search rules in
    let ordered : c.args.start + c.min-both.result ≤ c.args.end = search rules in
    let other = other_inserted c.args.self.now.items c.args.replacement.items c.args.start c.min-both.result here enough in
    let placed = inserted c.args.self.now.items c.args.replacement.items c.args.start c.min-both.result here enough in
    let all = other_drained c.args.self.now.items c.args.replacement.items c.args.start c.min-both.result c.args.end ordered c.requires.in_bounds in
    search rules

pub returns-clause-block : goal.returns-clause-block
returns-clause-block g c =
    let here : c.args.start + c.min-both.result ≤ length c.args.self.now.items = search rules in
    let enough : c.min-both.result ≤ length c.args.replacement.items = search rules in
    let ordered : c.args.start + c.min-both.result ≤ c.args.end = search rules in
    let placed = inserted c.args.self.now.items c.args.replacement.items c.args.start c.min-both.result here enough in
    let all = drained c.args.self.now.items c.args.replacement.items c.args.start c.min-both.result c.args.end ordered c.requires.in_bounds in
    search rules
