use Rattle.std.specs.Str.{encode_utf8_all}
use Rattle.std.specs.Cmp.Lexicographic.{bytes_decides}
use Rattle.std.proofs.lemmas.Str.{encodes_same}
use Rattle.ecow_string.proofs.laws.equal_texts_have_the_same_characters.Goals as goal

pub returns-clause-same : goal.returns-clause-same
returns-clause-same c = λ t u e. encodes_same t.chars u.chars ((bytes_decides (encode_utf8_all t.chars) (encode_utf8_all u.chars)).0 e)
