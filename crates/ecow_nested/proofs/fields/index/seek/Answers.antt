use Rattle.std.proofs.Common.{rules, arith, Some, ◌∙◌, ap, sym}
use Rattle.std.proofs.lemmas.Option.{slice_get-get_or}
use Rattle.ecow_nested.specs.Index.{nodes_in, node_of}
use Rattle.ecow_nested.proofs.Index.{step, nodes_get, nodes_length}
use Rattle.ecow_nested.proofs.fields.index.seek.Goals as goal

pub returns-then-bears-clause-end : goal.returns-then-bears-clause-end
returns-then-bears-clause-end g c =
    let inv = c.loop-bytes.invariant in
    let e = c.index-entries-at.result in
    let there = nodes_get c.args.entries.now c.loop-bytes.at e (slice_get-get_or c.args.entries.now c.loop-bytes.at e inv.1 ∙ ap Some (sym c.index-entries-at.is)) in
    let one = step (nodes_in c.args.entries.now) c.args.name.now c.loop-bytes.at c.loop-bytes.depth (node_of e) there (omega (arith, nodes_length c.args.entries.now, inv.0, inv.1)) in
    search (rules, inv.2, one, c.if-bears.true, c.bears.ensures)

pub returns-then-next-eq0-clause-end : goal.returns-then-next-eq0-clause-end
returns-then-next-eq0-clause-end g c =
    let inv = c.loop-bytes.invariant in
    let e = c.index-entries-at.result in
    let there = nodes_get c.args.entries.now c.loop-bytes.at e (slice_get-get_or c.args.entries.now c.loop-bytes.at e inv.1 ∙ ap Some (sym c.index-entries-at.is)) in
    let one = step (nodes_in c.args.entries.now) c.args.name.now c.loop-bytes.at c.loop-bytes.depth (node_of e) there (omega (arith, nodes_length c.args.entries.now, inv.0, inv.1)) in
    search (rules, inv.2, one, c.if-bears.false, c.bears.ensures, c.turns_right-right.ensures, c.link-next.ensures, c.if-next-eq0.true, c.as_bytes-bytes.ensures)

pub loop-bytes-smaller : goal.loop-bytes-smaller
loop-bytes-smaller g c =
    let inv = c.loop-bytes.invariant in
    let e = c.index-entries-at.result in
    let there = nodes_get c.args.entries.now c.loop-bytes.at e (slice_get-get_or c.args.entries.now c.loop-bytes.at e inv.1 ∙ ap Some (sym c.index-entries-at.is)) in
    let further = c.requires.ascends c.turns_right-right.result c.loop-bytes.at (node_of e) there (omega (arith, c.link-next.ensures, c.if-next-eq0.false)) in
    omega (arith, inv.1, further.0, further.1, c.link-next.ensures, nodes_length c.args.entries.now)

pub loop-bytes-preserved : goal.loop-bytes-preserved
loop-bytes-preserved g c =
    let inv = c.loop-bytes.invariant in
    let e = c.index-entries-at.result in
    let there = nodes_get c.args.entries.now c.loop-bytes.at e (slice_get-get_or c.args.entries.now c.loop-bytes.at e inv.1 ∙ ap Some (sym c.index-entries-at.is)) in
    let one = step (nodes_in c.args.entries.now) c.args.name.now c.loop-bytes.at c.loop-bytes.depth (node_of e) there (omega (arith, nodes_length c.args.entries.now, inv.0, inv.1)) in
    let further = c.requires.ascends c.turns_right-right.result c.loop-bytes.at (node_of e) there (omega (arith, c.link-next.ensures, c.if-next-eq0.false)) in (
      omega (arith, inv.0, further.0, c.link-next.ensures),
      omega (arith, further.1, c.link-next.ensures, nodes_length c.args.entries.now),
      search (rules, inv.2, one, c.if-bears.false, c.bears.ensures, c.turns_right-right.ensures, c.link-next.ensures, c.if-next-eq0.false, c.as_bytes-bytes.ensures),
    )
