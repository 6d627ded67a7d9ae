use Rattle.std.proofs.Common.{◌≡◌, ◌++◌, ℕ, List}
use Rattle.std.specs.Io.KnownBytes.{Appends}
use Rattle.ecow_tool.proofs.program.write_out.Given as goal

-- some bytes are written, and the others are left
abbrev pub invariant-loop : goal.invariant-loop
invariant-loop g l =
    (written : List ℕ) × Appends (g.W.Write.contents l.fn.writer)
    (g.W.Write.contents l.writer) written
    × (l.fn.answers ≡ written ++ l.rest)
