use Rattle.std.proofs.Common.{◌≡◌, sym, ap, ◌∙◌, ◌+◌, ◌-◌, arith, drop, length, refl, rules, take}
use Rattle.std.specs.Str.{encode_utf8_all}
use Rattle.std.specs.List.{copy_within, remove_range}
use Rattle.std.specs.Char.{len_utf8}
use Rattle.ecow_base.proofs.Boundaries.{passes_boundary}
use Rattle.ecow_base.specs.declared.plain.PlainText.{PlainText}
use Rattle.ecow_string.proofs.Moved.{cut_in_front}
use Rattle.ecow_string.proofs.Removal.{Removed, removed}
use Rattle.ecow_string.proofs.Texts.{boundary_of_front}
use Rattle.ecow_string.proofs.string.SmallText.remove.Given.{Over}
use Rattle.ecow_string.proofs.string.SmallText.remove.Goals as goal

pub range_from-requires : goal.range_from-requires
range_from-requires g c =
    λ _. rw c.as_str.ensures.bytes (boundary_of_front _ c.args.index c.as_str.ensures.valid (passes_boundary _ c.args.index c.requires.boundary))

taken : (g : Over) (c : goal.In_ok-rewrite g) → Removed c.self.inside.bytes.bytes c.args.index c.unwrap-c.result
taken g c =
    let same : c.self.inside.bytes.bytes ≡ c.as_str.result.now =
    sym c.self.invariant.spelling ∙ ap (λ (t : PlainText). encode_utf8_all t.chars) c.self.view_is ∙ sym c.as_str.ensures.bytes in
    let read = (rw c.unwrap-c.ensures at c.next.ensures.steps).0 in
    let boundary = rw (← c.self.view_is) at c.requires.boundary in
    removed _ _ c.args.index c.unwrap-c.result c.self.invariant boundary
    (ap (drop c.args.index) same ∙ sym c.range_from.ensures.value ∙ sym c.chars.ensures.rest ∙ read)

-- what the closure moved down and cut off
cut : (g : Over) (c : goal.In_ok-rewrite g)
    → c.rewrite.new.self.bytes ≡ remove_range c.self.inside.bytes.bytes c.args.index (c.args.index + len_utf8 c.unwrap-c.result)
cut g c =
    let wrote = c.in_ok-rewrite.ensures.bytes in
    let d = c.self.inside.bytes.bytes in
    let start = c.args.index in
    let end = start + len_utf8 c.unwrap-c.result in
    let moved : wrote.1 ≡ copy_within d end (length d) start = search rules in
    let len : wrote.0 ≡ length d - (end - start) = search rules in
    wrote.4 ∙ (λ i. take (len i) (moved i)) ∙ cut_in_front d start end (length d) (omega arith) (taken g c).fits refl

pub invariant_of-self-2 : goal.invariant_of-self-2
invariant_of-self-2 g c = rw (cut g c) (taken g c).utf8

pub returns-clause-value : goal.returns-clause-value
returns-clause-value g c = rw (← c.self.view_is) (taken g c).item

pub returns-clause-chars : goal.returns-clause-chars
returns-clause-chars g c = rw (← c.self.view_is, cut g c) (taken g c).left
