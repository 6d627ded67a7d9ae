use Rattle.std.proofs.Common.{rules}
use Rattle.ecow_string.proofs.Texts.{AreUtf8-nil, chars_of_nil}
use Rattle.ecow_string.proofs.string.SmallText.with_capacity.Goals as goal

pub invariant_of-result : goal.invariant_of-result
invariant_of-result g c = AreUtf8-nil _ c.in_ok-bytes.ensures.bytes

pub returns : goal.returns
returns g c = record {
  chars = chars_of_nil _ c.in_ok-bytes.ensures.bytes;
  mode = search rules;
  free = search rules;
  capacity = search rules;
}
