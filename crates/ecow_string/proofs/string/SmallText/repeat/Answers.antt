use Rattle.std.proofs.Common.{rules}
use Rattle.ecow_string.proofs.Repeats.{AreUtf8-repeat, chars-repeat}
use Rattle.ecow_string.proofs.string.SmallText.repeat.Goals as goal

pub invariant_of-result : goal.invariant_of-result
invariant_of-result g c = rw c.in_ok-bytes.ensures.bytes (AreUtf8-repeat _ _ c.self.invariant)

pub returns : goal.returns
returns g c = record {
  chars = rw (← c.self.view_is, c.in_ok-bytes.ensures.bytes) (chars-repeat _ _ c.self.invariant);
  mode = search rules;
  free = search rules;
  capacity = search rules;
}
