use Rattle.std.proofs.Common.{◌≡◌, ◌∙◌, arith, length, rules}
use Rattle.std.proofs.lemmas.List.{take_all}
use Rattle.std.specs.Prelude.{map}
use Rattle.ecow_string.specs.Case.{in_case}
use Rattle.ecow_string.proofs.Cased.{AreUtf8-in_case, chars-in_case}
use Rattle.ecow_string.proofs.string.SmallText.make_ascii.Given.{Over}
use Rattle.ecow_string.proofs.string.SmallText.make_ascii.Goals as goal

-- what the closure mapped
mapped : (g : Over) (c : goal.In_ok-rewrite g) → c.rewrite.new.self.bytes ≡ map (in_case c.args.case) c.self.inside.bytes.bytes
mapped g c =
    let wrote = c.in_ok-rewrite.ensures.bytes in
    let all : wrote.1 ≡ map (in_case c.args.case) c.self.inside.bytes.bytes = search rules in
    let len : wrote.0 ≡ length wrote.1 = search rules in
    wrote.4 ∙ take_all wrote.0 wrote.1 (omega (arith, len)) ∙ all

pub invariant_of-self-2 : goal.invariant_of-self-2
invariant_of-self-2 g c = rw (mapped g c) (AreUtf8-in_case c.args.case _ c.self.invariant)

pub returns-clause-chars : goal.returns-clause-chars
returns-clause-chars g c = rw (← c.self.view_is, mapped g c) (chars-in_case c.args.case _ c.self.invariant)
