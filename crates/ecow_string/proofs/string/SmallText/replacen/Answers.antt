use Rattle.std.proofs.Common.{sym}
use Rattle.ecow_string.proofs.Texts.{chars_of_none}
use Rattle.ecow_string.proofs.string.SmallText.replacen.Goals as goal

pub returns-then-is_empty : goal.returns-then-is_empty
returns-then-is_empty g c = rw (chars_of_none c.args.pattern.now (sym c.if-is_empty.ensures)) c.interleave.ensures
