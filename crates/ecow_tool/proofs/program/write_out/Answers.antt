use Rattle.std.proofs.Common.{◌++◌, ◌∙◌, ap, append_assoc, sym, List, ℕ}
use Rattle.ecow_tool.proofs.KnownBytes.{appends_more}
use Rattle.ecow_tool.proofs.program.write_out.Goals as goal

pub loop-preserved : goal.loop-preserved
loop-preserved g c =
    let before = c.loop.invariant in
    let more = c.in-Some.ensures.written in (
      before.0 ++ more.0,
      appends_more _ _ _ before.0 more.0 before.1 more.1,
      before.2 ∙ ap (λ (bytes : List ℕ). before.0 ++ bytes) more.2
          ∙ sym (append_assoc before.0 more.0 c.in-Some.left.now),
    )
