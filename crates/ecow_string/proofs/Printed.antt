-- What is printed to a text.
use Rattle.std.proofs.Common.{◌≡◌, List, ℕ, ◌++◌, Option, None, Some, IfSome}
use Rattle.std.specs.Fmt.{WritesText}
use Rattle.std.specs.Str.{encode_utf8_all}
use Rattle.std.proofs.lemmas.Fmt.{contents_after_writes}
use Rattle.ecow_base.specs.declared.plain.PlainText.{PlainText}

-- some calls of `write_str` append what they write
pub text_after_writes : (old new : PlainText) (o : Option (List ℕ))
    → WritesText (λ (t : PlainText) (bytes : List ℕ) (u : PlainText). encode_utf8_all u.chars ≡ encode_utf8_all t.chars ++ bytes) old o new
    → IfSome o (λ bytes. encode_utf8_all new.chars ≡ encode_utf8_all old.chars ++ bytes)
text_after_writes old new None written = tt
text_after_writes old new (Some bytes) written = contents_after_writes _ (λ (t : PlainText). encode_utf8_all t.chars) (λ t bs u e. e) old bytes new written
