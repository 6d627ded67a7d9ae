use Rattle.std.proofs.Common.{◌≡◌, ◌<◌, ◌≤◌, length}
use Rattle.ecow_script.specs.Scripts.{commands_ahead, with_front}
use Rattle.ecow_script.proofs.script.Script.next_piece.Given as goal

-- the commands that were read, and those that are left; with a command the text is shorter
abbrev pub invariant-loop-self : goal.invariant-loop-self
invariant-loop-self g l = record {
  commands : commands_ahead g.C.Scripted.form l.fn.self
      ≡ with_front l.piece.items (commands_ahead g.C.Scripted.form l.self);
  shorter : 0 < length l.piece.items → length l.self.text < length l.fn.self.text;
  behind : length l.self.text ≤ length l.fn.self.text;
}

abbrev pub decreases-loop-self : goal.decreases-loop-self
decreases-loop-self g l = length l.self.text
