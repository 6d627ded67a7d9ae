use Rattle.std.proofs.Common.{◌≡◌, ◌++◌, ℕ, List, [], ◌∷◌, length, sym, ap, ◌∙◌, arith}
use Rattle.std.specs.Prelude.{encode_utf8}
use Rattle.std.specs.Str.{chars, IsUtf8}
use Rattle.std.proofs.lemmas.Str.{chars_past_char, IsUtf8-past_char, chars-nil}
use Rattle.ecow_script.specs.Words.{only}
use Rattle.ecow_script.proofs.quoted.only_char.Goals as goal

no_chars : (bytes : List ℕ) → length bytes ≡ 0 → chars bytes ≡ []
no_chars [] h = chars-nil
no_chars (b ∷ bs) h = absurd (omega arith)

pub returns-in-None : goal.returns-in-None
returns-in-None c =
    let first = c.in_ok-first.first in
    let rest = c.next.new.self.rest.now in
    let e : c.args.text.now ≡ encode_utf8 first ++ rest =
    sym c.chars-chars.ensures.rest ∙ c.in_ok-first.ensures.steps.0 in
    sym (ap only (chars_past_char c.args.text.now rest first c.utf8.text e
    ∙ ap (λ (cs : List ℕ). first ∷ cs) (no_chars rest c.in-None.ensures.steps.0.0)))

pub returns-in-Some : goal.returns-in-Some
returns-in-Some c =
    let first = c.in_ok-first.first in
    let second = c.in-Some.field-0 in
    let rest = c.next.new.self.rest.now in
    let behind = c.next-2.new.self.rest.now in
    let e : c.args.text.now ≡ encode_utf8 first ++ rest =
    sym c.chars-chars.ensures.rest ∙ c.in_ok-first.ensures.steps.0 in
    let utf8 : IsUtf8 rest = IsUtf8-past_char c.args.text.now rest first c.utf8.text e in
    sym (ap only (chars_past_char c.args.text.now rest first c.utf8.text e
    ∙ ap (λ (cs : List ℕ). first ∷ cs)
    (chars_past_char rest behind second utf8 c.in-Some.ensures.steps.0)))
