use Rattle.std.proofs.lemmas.Str.{IsUtf8-from_ascii, is_utf8-from_IsUtf8}
use Rattle.ecow_string.proofs.Texts.{not_utf8}
use Rattle.ecow_c.proofs.text.to_str.Goals as goal

pub from_utf8_unchecked-requires : goal.from_utf8_unchecked-requires
from_utf8_unchecked-requires c = IsUtf8-from_ascii _ (c.are_few_ascii.ensures.0 c.if-are_few_ascii.true).1

pub returns-in-Ok-clause-utf8 : goal.returns-in-Ok-clause-utf8
returns-in-Ok-clause-utf8 c = is_utf8-from_IsUtf8 _ c.in-Ok.ensures.cases.1

pub returns-in-Err-clause-utf8 : goal.returns-in-Err-clause-utf8
returns-in-Err-clause-utf8 c = not_utf8 _ c.in-Err.ensures.cases.0

pub returns-then-are_few_ascii-clause-utf8 : goal.returns-then-are_few_ascii-clause-utf8
returns-then-are_few_ascii-clause-utf8 c =
    is_utf8-from_IsUtf8 _ (IsUtf8-from_ascii _ (c.are_few_ascii.ensures.0 c.if-are_few_ascii.true).1)
