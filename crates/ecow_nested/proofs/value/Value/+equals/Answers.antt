use Rattle.std.proofs.Common.{rules, arith, ◌≡◌, ◌≢◌, ◌∙◌, sym, length}
use Rattle.ecow_nested.specs.Values.{value_eq, field_eq}
use Rattle.ecow_nested.specs.declared.value.Value.{out-Value}
use Rattle.ecow_nested.specs.declared.value.Value.TheOpen.{Value-F}
use Rattle.ecow_nested.specs.declared.value.Value.TheViews.{the_lemmas}
use Rattle.std.proofs.lemmas.Option.{slice_get_within}
use Rattle.ecow_nested.proofs.Equality.{and_false, equal_items, equal_fields, lists_apart, next_fields}
use Rattle.ecow_nested.proofs.value.Value.+equals.Goals as goal

pub returns-then-len-others : goal.returns-then-len-others
returns-then-len-others t c =
    let xs = c.in-List-List.left in
    let ys = c.in-List-List.right in
    let apart : length xs.items ≢ length ys.items = search rules in
    let left : out-Value c.args.self.now ≡ Value-F.List xs = search (rules, the_lemmas) in
    let right : out-Value c.args.other.now ≡ Value-F.List ys = search (rules, the_lemmas) in
    sym (equal_items c.args.self.now c.args.other.now xs ys left right ∙ lists_apart value_eq xs.items ys.items apart)

pub returns-then-len : goal.returns-then-len
returns-then-len t c =
    let xs = c.in-Fields-Fields.left in
    let ys = c.in-Fields-Fields.right in
    let apart : length xs.items ≢ length ys.items = λ same. c.if-len.true (c.len-in-Fields-Fields.ensures ∙ same ∙ sym c.len-in-Fields-Fields-2.ensures) in
    let left : out-Value c.args.self.now ≡ Value-F.Fields xs = search (rules, the_lemmas) in
    let right : out-Value c.args.other.now ≡ Value-F.Fields ys = search (rules, the_lemmas) in
    sym (equal_fields c.args.self.now c.args.other.now xs ys left right ∙ lists_apart field_eq xs.items ys.items apart)

pub loop-index-init : goal.loop-index-init
loop-index-init t c =
    let xs = c.in-Fields-Fields.left in
    let ys = c.in-Fields-Fields.right in
    let left : out-Value c.args.self.now ≡ Value-F.Fields xs = search (rules, the_lemmas) in
    let right : out-Value c.args.other.now ≡ Value-F.Fields ys = search (rules, the_lemmas) in (
      sym c.len-in-Fields-Fields.ensures ∙ c.if-len.false ∙ c.len-in-Fields-Fields-2.ensures,
      omega arith,
      equal_fields c.args.self.now c.args.other.now xs ys left right,
    )

pub returns-then-ne : goal.returns-then-ne
returns-then-ne t c =
    let inv = c.loop-index.invariant in
    let step = next_fields c.in-Fields-Fields.left.items c.in-Fields-Fields.right.items c.loop-index.index c.field_at-field.result.now c.field_at-other.result.now c.field_at-field.ensures c.field_at-other.ensures in
    search (rules, inv.2, step, c.if-ne.ensures, c.ne.ensures, c.if-ne.true)

pub returns-then-not-equals-2 : goal.returns-then-not-equals-2
returns-then-not-equals-2 t c =
    let inv = c.loop-index.invariant in
    let step = next_fields c.in-Fields-Fields.left.items c.in-Fields-Fields.right.items c.loop-index.index c.field_at-field.result.now c.field_at-other.result.now c.field_at-field.ensures c.field_at-other.ensures in
    search (rules, inv.2, step, c.if-ne.ensures, c.ne.ensures, c.if-ne.false, c.equals-in-loop-index.ensures, c.if-not-equals-2.true, and_false)

pub loop-index-preserved : goal.loop-index-preserved
loop-index-preserved t c =
    let inv = c.loop-index.invariant in
    let step = next_fields c.in-Fields-Fields.left.items c.in-Fields-Fields.right.items c.loop-index.index c.field_at-field.result.now c.field_at-other.result.now c.field_at-field.ensures c.field_at-other.ensures in
    let within = slice_get_within c.in-Fields-Fields.left.items c.loop-index.index c.field_at-field.result.now c.field_at-field.ensures in (
      inv.0,
      omega (arith, within),
      search (rules, inv.2, step, c.if-ne.ensures, c.ne.ensures, c.if-ne.false, c.equals-in-loop-index.ensures, c.if-not-equals-2.false),
    )
