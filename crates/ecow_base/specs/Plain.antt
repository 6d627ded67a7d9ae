-- Bytes and texts as contracts see them.
use Rattle.std.specs.Prelude.{ℕ, Bool, List}
use Rattle.std.specs.Str.{chars, encode_utf8_all}
use Rattle.ecow_base.specs.declared.plain.PlainBytes.{PlainBytes}
use Rattle.ecow_base.specs.declared.plain.PlainText.{PlainText}

-- bytes, and whether they stand in the value itself
abbrev pub plain_bytes : List ℕ → Bool → PlainBytes
plain_bytes bytes inline = record { bytes = bytes; inline = inline }

-- the UTF-8 bytes of a text, in its mode
abbrev pub bytes_of : PlainText → PlainBytes
bytes_of text = plain_bytes (encode_utf8_all text.chars) text.inline

-- characters, and whether their bytes stand in the value itself
abbrev pub plain_text : List ℕ → Bool → PlainText
plain_text cs inline = record { chars = cs; inline = inline }

-- the text that bytes spell, in their mode
abbrev pub text_of : PlainBytes → PlainText
text_of b = plain_text (chars b.bytes) b.inline
