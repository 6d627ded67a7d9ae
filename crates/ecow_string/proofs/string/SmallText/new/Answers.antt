use Rattle.ecow_string.proofs.Texts.{AreUtf8-nil, chars_of_nil}
use Rattle.ecow_string.proofs.string.SmallText.new.Goals as goal

pub invariant_of-result : goal.invariant_of-result
invariant_of-result g c = AreUtf8-nil _ c.new.ensures.bytes

pub returns-clause-chars : goal.returns-clause-chars
returns-clause-chars g c = chars_of_nil _ c.new.ensures.bytes
