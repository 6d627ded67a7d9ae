use Rattle.std.proofs.Common.{refl}
use Rattle.std.specs.Str.{encode_utf8_all}
use Rattle.std.proofs.lemmas.Str.{IsUtf8-from_is_utf8, is_utf8-from_IsUtf8, encodes-chars, chars-encodes, scalars-chars}
use Rattle.ecow_string.proofs.laws.texts_are_their_bytes.Goals as goal

pub returns-clause-passes : goal.returns-clause-passes
returns-clause-passes c = λ held text. is_utf8-from_IsUtf8 held.bytes text

pub returns-clause-is : goal.returns-clause-is
returns-clause-is c = λ held passes. IsUtf8-from_is_utf8 held.bytes passes

pub returns-clause-kept : goal.returns-clause-kept
returns-clause-kept c = λ held passes. λ i. record { bytes = encodes-chars held.bytes (IsUtf8-from_is_utf8 held.bytes passes) i; inline = held.inline }

pub returns-clause-valid : goal.returns-clause-valid
returns-clause-valid c = λ held passes. scalars-chars held.bytes (IsUtf8-from_is_utf8 held.bytes passes)

pub returns-clause-again_passes : goal.returns-clause-again_passes
returns-clause-again_passes c = λ text are. is_utf8-from_IsUtf8 (encode_utf8_all text.chars) (text.chars, (are, refl))

pub returns-clause-again : goal.returns-clause-again
returns-clause-again c = λ text are. λ i. record { chars = chars-encodes text.chars are i; inline = text.inline }
