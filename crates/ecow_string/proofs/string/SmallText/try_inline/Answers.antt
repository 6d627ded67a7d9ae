use Rattle.ecow_string.proofs.Texts.{AreUtf8-from}
use Rattle.ecow_string.proofs.string.SmallText.try_inline.Goals as goal

pub invariant_of-result : goal.invariant_of-result
invariant_of-result g c = rw (c.in_ok-bytes.ensures.bytes, c.as_bytes.ensures.value) (AreUtf8-from _ c.utf8.text)
