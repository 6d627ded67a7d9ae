use Rattle.std.proofs.Common.{ap, ◌∙◌}
use Rattle.std.specs.Str.{encode_utf8_all}
use Rattle.std.specs.Cmp.Lexicographic.{bytes_decides}
use Rattle.std.proofs.lemmas.Str.{chars_from_encodes, encodes-chars}
use Rattle.ecow_string.proofs.laws.a_str_decides_the_characters.Goals as goal

pub returns-clause-same : goal.returns-clause-same
returns-clause-same c = λ t s valid e. chars_from_encodes t.chars s valid ((bytes_decides (encode_utf8_all t.chars) s).0 e)

pub returns-clause-equal : goal.returns-clause-equal
returns-clause-equal c = λ t s valid e. (bytes_decides (encode_utf8_all t.chars) s).1 (ap encode_utf8_all e ∙ encodes-chars s valid)
