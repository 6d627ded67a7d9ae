use Rattle.std.proofs.Common.{sym, ap, ◌∙◌}
use Rattle.ecow_base.specs.declared.plain.PlainText.{PlainText}
use Rattle.ecow_string.proofs.Replaced.{stays_utf8, replaced_chars}
use Rattle.ecow_string.proofs.string.SmallText.replace_range.Goals as goal

pub invariant_of-self-2 : goal.invariant_of-self-2
invariant_of-self-2 g c =
    let order = rw c.unwrap-start.ensures at c.resolve.ensures.ordered in
    stays_utf8 c.self.inside.bytes.bytes c.as_bytes.result.now c.replace_range.new.self.bytes c.args.self.now.chars
    (ap (λ (t : PlainText). t.chars) c.self.view_is)
    c.self.invariant c.as_bytes.ensures.utf8 _ c.len.result c.unwrap-start.result.0 c.unwrap-start.result.1 c.len.ensures.len
    (sym (c.resolve.ensures.value c.requires.known) ∙ c.unwrap-start.ensures) order c.requires.boundaries c.in_ok-replace_range.ensures.bytes

pub returns-clause-chars : goal.returns-clause-chars
returns-clause-chars g c =
    let order = rw c.unwrap-start.ensures at c.resolve.ensures.ordered in
    rw (← c.as_bytes.ensures.value)
    (replaced_chars c.self.inside.bytes.bytes c.as_bytes.result.now c.replace_range.new.self.bytes c.args.self.now.chars
    (ap (λ (t : PlainText). t.chars) c.self.view_is)
    c.self.invariant c.as_bytes.ensures.utf8 _ c.len.result c.unwrap-start.result.0 c.unwrap-start.result.1 c.len.ensures.len
    (sym (c.resolve.ensures.value c.requires.known) ∙ c.unwrap-start.ensures) order c.requires.boundaries c.in_ok-replace_range.ensures.bytes)
