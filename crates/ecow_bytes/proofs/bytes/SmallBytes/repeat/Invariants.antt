use Rattle.std.proofs.Common.{◌≡◌, ◌*◌, ◌≤◌, ◌-◌, length}
use Rattle.std.specs.List.{repeat}
use Rattle.ecow_base.specs.Inline.{inline_for}
use Rattle.ecow_bytes.proofs.bytes.SmallBytes.repeat.Given as goal

abbrev pub invariant-loop-copies : goal.invariant-loop-copies
invariant-loop-copies g l = record {
  some : 1 ≤ l.copies;
  within : l.copies ≤ l.count;
  joined : l.target.bytes ≡ repeat l.copies l.fn.self.bytes;
  long : length l.target.bytes ≡ l.copies * l.len;
  mode : l.target.inline ≡ inline_for g.row.N (l.len * l.count);
}

abbrev pub decreases-loop-copies : goal.decreases-loop-copies
decreases-loop-copies g l = l.count - l.copies
