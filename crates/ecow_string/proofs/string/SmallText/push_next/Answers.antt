use Rattle.ecow_string.proofs.Joined.{text_more}
use Rattle.ecow_string.proofs.string.SmallText.push_next.Goals as goal

pub returns-clause-len : goal.returns-clause-len
returns-clause-len g c = text_more c.args.self.now.chars c.args.text.now c.utf8.text

pub returns-in_err-push_str-clause-len : goal.returns-in_err-push_str-clause-len
returns-in_err-push_str-clause-len g c = text_more c.args.self.now.chars c.args.text.now c.utf8.text
