use Rattle.std.proofs.Common.{◌≡◌, rules, sym, ap, ◌∙◌}
use Rattle.std.specs.Prelude.{map}
use Rattle.std.proofs.lemmas.Str.{encodes-chars}
use Rattle.ecow_base.specs.Inline.{inline_for}
use Rattle.ecow_string.specs.Case.{in_case, str_in_case}
use Rattle.ecow_string.proofs.Cased.{encoded-in_case, len-in_case}
use Rattle.ecow_string.proofs.Steps.{utf8_len-chars}
use Rattle.ecow_string.proofs.string.SmallText.to_case.Goals as goal

-- a copy of an ASCII text is mapped
pub returns-then-is_ascii : goal.returns-then-is_ascii
returns-then-is_ascii g c =
    let are = rw c.as_str-text.ensures.bytes at c.if-is_ascii.ensures.cases in
    let mapped : c.make_ascii.new.self.chars ≡ map (in_case c.args.case) c.args.self.now.chars =
    c.in_ok-make_ascii.ensures.chars ∙ ap (map (in_case c.args.case)) c.in_ok-ascii.ensures.chars in
    record {
      bytes = rw mapped (encoded-in_case c.args.case _ are);
      ascii = λ _. mapped;
      mode =
          rw (mapped, len-in_case c.args.case c.args.self.now.chars)
          (c.in_ok-make_ascii.ensures.mode.mode ∙ c.in_ok-ascii.ensures.mode ∙ ap (inline_for g.row.N) c.len.ensures.len);
      memory = search rules;
      free = search rules;
    }

-- past ASCII it is std's text
pub returns : goal.returns
returns g c = record {
  bytes =
      rw c.in_ok-target.ensures.chars
      (encodes-chars _ c.as_str.utf8 ∙ c.as_str.ensures.value ∙ c.in_ok-cased.ensures ∙ ap (str_in_case c.args.case) c.as_str-text.ensures.bytes);
  ascii = search rules;
  mode = rw c.in_ok-target.ensures.chars (c.in_ok-target.ensures.mode ∙ ap (inline_for g.row.N) (sym (utf8_len-chars _ c.as_str.utf8)));
  memory = search rules;
  free = search rules;
}
