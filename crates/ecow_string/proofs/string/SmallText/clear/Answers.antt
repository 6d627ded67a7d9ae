use Rattle.ecow_string.proofs.Texts.{AreUtf8-nil, chars_of_nil}
use Rattle.ecow_string.proofs.string.SmallText.clear.Goals as goal

pub invariant_of-self : goal.invariant_of-self
invariant_of-self g c = AreUtf8-nil _ c.clear.ensures.bytes

pub returns-clause-chars : goal.returns-clause-chars
returns-clause-chars g c = chars_of_nil _ c.clear.ensures.bytes
