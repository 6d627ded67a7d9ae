use Rattle.std.proofs.lemmas.Str.{chars-append}
use Rattle.ecow_string.proofs.Texts.{AreUtf8-from, AreUtf8-append, IsUtf8-from}
use Rattle.ecow_string.proofs.string.SmallText.push_str.Goals as goal

pub invariant_of-self-2 : goal.invariant_of-self-2
invariant_of-self-2 g c =
    rw (c.in_ok-extend_from_slice.ensures.bytes, c.as_bytes.ensures.value)
    (AreUtf8-append _ _ c.self.invariant (AreUtf8-from _ c.utf8.text))

pub returns-clause-chars : goal.returns-clause-chars
returns-clause-chars g c =
    rw (← c.self.view_is, c.in_ok-extend_from_slice.ensures.bytes, c.as_bytes.ensures.value)
    (chars-append _ _ (IsUtf8-from _ c.self.invariant))
