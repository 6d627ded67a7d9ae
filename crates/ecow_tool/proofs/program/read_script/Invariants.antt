use Rattle.std.proofs.Common.{◌≤◌, ◌<◌, length}
use Rattle.std.specs.Io.KnownBytes.{Consumes}
use Rattle.ecow_tool.specs.Programs.{size_limit}
use Rattle.ecow_tool.proofs.program.read_script.Given as goal

-- the script is what the reader gave, and not too long
abbrev pub invariant-loop : goal.invariant-loop
invariant-loop g l = record {
  read : Consumes (g.R.Read.remaining l.fn.reader) (g.R.Read.remaining l.reader) l.script.items;
  fits : length l.script.items ≤ size_limit;
  room : 0 < length l.piece;
}
