use Rattle.std.proofs.Common.{rules, ◌≡◌, ◌+◌, ◌<◌, length, arith}
use Rattle.ecow_list.proofs.Fronts.{on_err}
use Rattle.ecow_bytes.proofs.Limits.{past_by_one}
use Rattle.ecow_bytes.proofs.bytes.SmallBytes.from_iter.Goals as goal

pub returns-in_err-extend-clause-refused : goal.returns-in_err-extend-clause-refused
returns-in_err-extend-clause-refused g c =
    let given = c.in_err-extend.ensures in
    let len : length given.refused.0 ≡ length c.extend.new.self.bytes + 1 = search rules in
    let past : g.row.N < length c.extend.new.self.bytes + 1 =
    past_by_one g.row.N c.new-target.result.inline c.extend.new.self.inline
    (length c.extend.new.self.bytes) c.new-target.ensures.mode given.mode given.free in
    on_err c.from_residual.result (given.refused.0, given.refused.1, omega arith, ((λ is. search rules), (λ more. search rules)))
