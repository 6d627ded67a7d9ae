use Rattle.std.proofs.Common.{rules, ◌≡◌, arith}
use Rattle.std.specs.Str.{encode_utf8_all}
use Rattle.ecow_nested.proofs.ByName.{field_set}
use Rattle.ecow_uses.proofs.Laid.{laid}
use Rattle.ecow_uses.proofs.layers.merge.Goals as goal

pub loop-index-preserved : goal.loop-index-preserved
loop-index-preserved c query =
    let name : c.deref.result.now ≡ encode_utf8_all c.field_at-field.result.now.name.chars = c.deref.ensures.0 in
    let value : c.in_ok-clone.field-0 ≡ c.field_at-field.result.now.value = search rules in
    let set = field_set _ _ _ _ _ c.deref.utf8 c.in_ok-set_field.ensures.change query in
    laid query c.args.layer.now c.loop-index.index c.field_at-field.result.now _ _ _ c.loop-index-test.true
    c.field_at-field.ensures (c.loop-index.invariant query) (rw (name, value) at set)

pub returns-clause-meaning : goal.returns-clause-meaning
returns-clause-meaning c query =
    let none : c.loop-index.index ≡ 0 = omega (arith, c.loop-index-test.false) in
    rw none at (c.loop-index.invariant query)
