use Rattle.std.proofs.Common.{◌≡◌, ◌+◌, ◌≤◌}
use Rattle.std.specs.Str.{chars}
use denote.Shadow.{shadow}
use denote.Text.{Utf8}
use Rattle.ecow_base.specs.declared.capacity.TheConstants.{MAX_LEN}
use Rattle.ecow_base.specs.Utf8.{utf8_len}
use Rattle.ecow_base.specs.Replaced.{replacen}
use Rattle.ecow_string.proofs.string.replace.pattern.replacement_len.Given as goal

abbrev pub invariant-loop-left : goal.invariant-loop-left
invariant-loop-left l = record {
  text : shadow (Utf8 l.rest);
  bounded : l.total ≤ MAX_LEN;
  counted : l.total + utf8_len (replacen l.left (chars l.pattern) (chars l.replacement) (chars l.rest))
      ≡ utf8_len (replacen l.fn.count (chars l.pattern) (chars l.replacement) (chars l.text));
}

abbrev pub decreases-loop-left : goal.decreases-loop-left
decreases-loop-left l = l.left
