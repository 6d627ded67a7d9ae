use Rattle.ecow_string.proofs.Texts.{AreUtf8-from}
use Rattle.ecow_string.proofs.string.SmallText.inline.Goals as goal

pub invariant_of-result : goal.invariant_of-result
invariant_of-result g c = rw (c.inline.ensures.bytes, c.as_bytes.ensures.value) (AreUtf8-from _ c.utf8.text)
