use Rattle.std.proofs.Common.{ap, sym, ◌∙◌, arith}
use Rattle.ecow_script.specs.Scripts.{commands_ahead, with_front}
use Rattle.ecow_script.proofs.Lines.{front_behind}
use Rattle.ecow_script.proofs.script.Script.next_piece.Goals as goal

pub loop-self-preserved : goal.loop-self-preserved
loop-self-preserved g c =
    let form = g.C.Scripted.form in
    let front = c.loop-self.piece.items in
    record {
      commands =
          c.loop-self.invariant.commands
          ∙ ap (λ r. with_front front r) c.in_ok-command.ensures.commands
          ∙ front_behind front c.in_ok-command.command (commands_ahead form c.next_line.new.self)
          ∙ ap (λ xs. with_front xs (commands_ahead form c.next_line.new.self))
          (sym c.in_ok-put.ensures);
      shorter = λ _. omega (arith, c.in_ok-command.ensures.shorter, c.loop-self.invariant.behind);
      behind = omega (arith, c.in_ok-command.ensures.shorter, c.loop-self.invariant.behind);
    }
