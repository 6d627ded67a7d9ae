use Rattle.std.proofs.Common.{◌≡◌, ◌++◌, []}
use Rattle.std.specs.Str.{chars}
use denote.Shadow.{shadow}
use denote.Text.{Utf8}
use Rattle.ecow_base.specs.Inline.{inline_for}
use Rattle.ecow_base.specs.Replaced.{replacen}
use Rattle.ecow_string.proofs.string.replace.interleave.push_interleaving.Given as goal

abbrev pub invariant-loop-left : goal.invariant-loop-left
invariant-loop-left g l = record {
  text : shadow (Utf8 l.rest);
  joined : l.target.chars ++ replacen l.left [] (chars l.replacement) (chars l.rest)
      ≡ l.fn.target.chars ++ replacen l.fn.count [] (chars l.replacement) (chars l.text);
  mode : l.target.inline ≡ inline_for g.row.N l.most;
}

abbrev pub decreases-loop-left : goal.decreases-loop-left
decreases-loop-left g l = l.left
