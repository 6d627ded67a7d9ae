use Rattle.std.proofs.Common.{◌≡◌, ◌≤◌, length, take, drop}
use Rattle.std.specs.Vec.Iter.{into_iter_items, into_iter_len}
use Rattle.ecow_base.specs.Clones.{ClonesAreEqual}
use Rattle.ecow_model.specs.Names.{IsSharing}
use Rattle.ecow_counted.specs.Filling.{IsRunOf, filling, accepted}
use Rattle.ecow_counted.proofs.Filling.{IsFilling}
use Rattle.ecow_counted.proofs.counted.Counted.fill.Given as goal

-- the items so far were pushed, and those that are left are the rest
abbrev pub invariant-loop-value : goal.invariant-loop-value
invariant-loop-value g l = record {
  within : l.accepted ≤ length l.fn.items.items;
  left : into_iter_items l.rest ≡ drop l.accepted l.fn.items.items;
  sharing : IsSharing l.self.names;
  run : ClonesAreEqual g.T.Clone.is_clone → IsRunOf l.fn.self (filling l.fn.name (take l.accepted l.fn.items.items)) (accepted l.accepted) l.self;
  moves : ClonesAreEqual g.T.Clone.is_clone → IsFilling l.fn.self.moved l.fn.name l.accepted l.self;
}

abbrev pub decreases-loop-value : goal.decreases-loop-value
decreases-loop-value g l = into_iter_len l.rest
