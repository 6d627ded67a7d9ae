use Rattle.std.proofs.Common.{◌≡◌, ◌++◌, ◌∷◌, [], length, take, refl, sym, ap, ◌∙◌, encode_utf8}
use Rattle.std.specs.Str.{chars, encode_utf8_all}
use Rattle.std.proofs.lemmas.List.{take_at, nil_from_length}
use Rattle.ecow_base.specs.declared.plain.PlainText.{PlainText}
use Rattle.ecow_string.proofs.Texts.{AreUtf8-from, chars_of_nil, last_char, last_of, nothing_last}
use Rattle.ecow_string.proofs.string.SmallText.pop.Given.{Over}
use Rattle.ecow_string.proofs.string.SmallText.pop.Goals as goal

no_chars : (g : Over) (c : goal.In_default g) → c.args.self.now.chars ≡ []
no_chars g c = sym c.as_str.ensures.chars ∙ chars_of_nil _ (sym c.chars-rest.ensures.rest ∙ nil_from_length _ c.in_default.ensures.steps.0)

pub returns-in_default-clause-value : goal.returns-in_default-clause-value
returns-in_default-clause-value g c = sym (nothing_last _ (no_chars g c)).0

pub returns-in_default-clause-chars : goal.returns-in_default-clause-chars
returns-in_default-clause-chars g c = sym (nothing_last _ (no_chars g c)).1

-- the bytes are those of the rest and then those of the last character
whole : (g : Over) (c : goal.In_ok-truncate g) → c.self.inside.bytes.bytes ≡ c.as_str-len.result.now ++ encode_utf8 c.in-Some.last
whole g c =
    sym (c.chars-rest.ensures.rest ∙ c.as_str.ensures.bytes ∙ sym (ap (λ (t : PlainText). encode_utf8_all t.chars) c.self.view_is) ∙ c.self.invariant.spelling)
    ∙ c.in-Some.ensures.steps ∙ ap (λ l. l ++ encode_utf8 c.in-Some.last) (sym c.as_str-len.ensures)

left : (g : Over) (c : goal.In_ok-truncate g) → c.truncate.new.self.bytes ≡ c.as_str-len.result.now
left g c =
    let front = c.as_str-len.result.now in
    rw c.in_ok-truncate.ensures.bytes (ap (take (length front)) (whole g c) ∙ take_at front _ (length front) refl)

ends : (g : Over) (c : goal.In_ok-truncate g) → c.args.self.now.chars ≡ chars c.as_str-len.result.now ++ c.in-Some.last ∷ []
ends g c = ap (λ (t : PlainText). t.chars) (sym c.self.view_is) ∙ last_char _ _ c.in-Some.last c.self.invariant c.as_str-len.utf8 (whole g c)

pub invariant_of-self-2 : goal.invariant_of-self-2
invariant_of-self-2 g c = rw (left g c) (AreUtf8-from _ c.as_str-len.utf8)

pub returns-clause-value : goal.returns-clause-value
returns-clause-value g c = (last_of _ _ c.in-Some.last (ends g c)).0

pub returns-clause-chars : goal.returns-clause-chars
returns-clause-chars g c = ap chars (left g c) ∙ (last_of _ _ c.in-Some.last (ends g c)).1
