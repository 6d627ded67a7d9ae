use Rattle.std.proofs.Common.{slice_set, ap, ◌∙◌}
use Rattle.ecow_nested.specs.Index.{bare}
use Rattle.ecow_nested.proofs.Index.{again_included, bares_cleared, bares_joined, below, first_included, gap_included, its_name, joined_included, linked_bare, no_name, sought}
use Rattle.ecow_nested.proofs.fields.index.include.Goals as goal

pub returns-then-count-eq0-clause-indexed : goal.returns-then-count-eq0-clause-indexed
returns-then-count-eq0-clause-indexed g c =
    first_included c.args.entries.now c.args.count c.index-entries-count.result c.clear_links.new.self c.clear_links.ensures c.requires.within
    c.requires.before c.if-count-eq0.true

pub returns-then-count-eq0-clause-same : goal.returns-then-count-eq0-clause-same
returns-then-count-eq0-clause-same g c =
    bares_cleared c.args.entries.now c.args.count c.index-entries-count.result c.clear_links.new.self c.clear_links.ensures c.requires.within

pub returns-in_default-clause-indexed : goal.returns-in_default-clause-indexed
returns-in_default-clause-indexed g c =
    let none = no_name c.args.entries.now c.args.count c.index-entries-count.result c.clear_links.new.self c.clear_links.ensures c.requires.within
    c.index-shared-count.result c.in_default.is in
    gap_included c.args.entries.now c.args.count c.index-entries-count.result c.clear_links.new.self c.clear_links.ensures c.requires.within
    c.requires.before none

pub returns-in_default-clause-same : goal.returns-in_default-clause-same
returns-in_default-clause-same g c =
    bares_cleared c.args.entries.now c.args.count c.index-entries-count.result c.clear_links.new.self c.clear_links.ensures c.requires.within

pub returns-in-Ok-clause-indexed : goal.returns-in-Ok-clause-indexed
returns-in-Ok-clause-indexed g c =
    let has = its_name c.args.entries.now c.args.count c.index-entries-count.result c.clear_links.new.self c.clear_links.ensures c.requires.within
    c.index-shared-count.result c.in-Some.field c.as_str.result.now c.in-Some.is c.as_str.ensures.bytes in
    let ended = sought c.args.entries.now c.args.count c.index-entries-count.result c.clear_links.new.self c.clear_links.ensures c.requires.within
    c.as_str.result.now c.seek.result c.seek.ensures.end in
    again_included c.args.entries.now c.args.count c.index-entries-count.result c.clear_links.new.self c.clear_links.ensures c.requires.within
    c.requires.before c.in-Ok.at c.index-entries-at.result c.mark_again.new.self
    (below c.in-Ok.at c.args.count (slice_set c.args.entries.now c.args.count c.clear_links.new.self) c.in-Ok.ensures.within)
    c.as_str.result.now has c.mark_again.ensures (rw c.in-Ok.is at ended)

pub returns-in-Ok-clause-same : goal.returns-in-Ok-clause-same
returns-in-Ok-clause-same g c =
    bares_joined c.args.entries.now c.args.count c.index-entries-count.result c.clear_links.new.self c.clear_links.ensures c.requires.within
    c.requires.before c.in-Ok.at c.index-entries-at.result c.mark_again.new.self
    (below c.in-Ok.at c.args.count (slice_set c.args.entries.now c.args.count c.clear_links.new.self) c.in-Ok.ensures.within)
    (ap (λ e. bare e) c.mark_again.ensures)

pub returns-in-Err-clause-indexed : goal.returns-in-Err-clause-indexed
returns-in-Err-clause-indexed g c =
    let has = its_name c.args.entries.now c.args.count c.index-entries-count.result c.clear_links.new.self c.clear_links.ensures c.requires.within
    c.index-shared-count.result c.in-Some.field c.as_str.result.now c.in-Some.is c.as_str.ensures.bytes in
    let ended = sought c.args.entries.now c.args.count c.index-entries-count.result c.clear_links.new.self c.clear_links.ensures c.requires.within
    c.as_str.result.now c.seek.result c.seek.ensures.end in
    joined_included c.args.entries.now c.args.count c.index-entries-count.result c.clear_links.new.self c.clear_links.ensures c.requires.within
    c.requires.before c.in-Err.at c.index-entries-at-in-Err.result c.set_link.new.self
    (below c.in-Err.at c.args.count (slice_set c.args.entries.now c.args.count c.clear_links.new.self) c.in-Err.ensures.within)
    c.as_str.result.now has c.in-Err.right c.set_link.ensures (rw c.in-Err.is at ended)

pub returns-in-Err-clause-same : goal.returns-in-Err-clause-same
returns-in-Err-clause-same g c =
    bares_joined c.args.entries.now c.args.count c.index-entries-count.result c.clear_links.new.self c.clear_links.ensures c.requires.within
    c.requires.before c.in-Err.at c.index-entries-at-in-Err.result c.set_link.new.self
    (below c.in-Err.at c.args.count (slice_set c.args.entries.now c.args.count c.clear_links.new.self) c.in-Err.ensures.within)
    (ap (λ e. bare e) c.set_link.ensures ∙ linked_bare c.in-Err.right c.args.count _)
