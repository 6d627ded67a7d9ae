-- How texts are compared, and what a hasher is fed of one.
use Rattle.std.specs.Prelude.{ℕ, Bool, List, Option, nat_eq, slice_get}
use Rattle.std.specs.Cmp.Lexicographic.{pointwise, slice_cmp}
use Rattle.std.specs.Ordering.{nat_cmp}
use Rattle.std.specs.Hash as fed
use Rattle.std.specs.Str.{encode_utf8_all}
use Rattle.std.specs.declared.cmp.Ordering.{Ordering}
use Rattle.ecow_base.specs.Utf8.{chars_before, utf8_len}
use Rattle.ecow_base.specs.declared.plain.PlainText.{PlainText}

-- the character that begins at an index
abbrev pub char_from : ℕ → PlainText → Option ℕ
char_from index text = slice_get text.chars (chars_before text.chars index)

-- they have the same bytes
abbrev pub text_eq : PlainText → PlainText → Bool
text_eq x y = pointwise nat_eq (encode_utf8_all x.chars) (encode_utf8_all y.chars)

-- the order of their bytes
abbrev pub text_cmp : PlainText → PlainText → Ordering
text_cmp x y = slice_cmp nat_cmp (encode_utf8_all x.chars) (encode_utf8_all y.chars)

-- the pieces that a hasher is fed: those of a `str`
abbrev pub text_fed : PlainText → List (List ℕ)
text_fed text = fed.str (encode_utf8_all text.chars)
