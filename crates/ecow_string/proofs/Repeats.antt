-- Repetition of a text.
use Rattle.std.proofs.Common.{◌≡◌, ℕ, zero, suc, List, ◌++◌, ap, ◌∙◌, IsUtf8}
use Rattle.std.specs.List.{repeat}
use Rattle.std.specs.Str.{chars}
use Rattle.std.proofs.lemmas.Str.{chars-nil, chars-append, IsUtf8-append, IsUtf8-nil}
use Rattle.ecow_string.specs.Text.{AreUtf8}
use Rattle.ecow_string.proofs.Texts.{AreUtf8-from, IsUtf8-from}

IsUtf8-repeat : (n : ℕ) (bs : List ℕ) → IsUtf8 bs → IsUtf8 (repeat n bs)
IsUtf8-repeat zero bs text = IsUtf8-nil
IsUtf8-repeat (suc n) bs text = IsUtf8-append bs (repeat n bs) text (IsUtf8-repeat n bs text)

pub AreUtf8-repeat : (n : ℕ) (bs : List ℕ) → AreUtf8 bs → AreUtf8 (repeat n bs)
AreUtf8-repeat n bs text = AreUtf8-from (repeat n bs) (IsUtf8-repeat n bs (IsUtf8-from bs text))

pub chars-repeat : (n : ℕ) (bs : List ℕ) → AreUtf8 bs → chars (repeat n bs) ≡ repeat n (chars bs)
chars-repeat zero bs text = chars-nil
chars-repeat (suc n) bs text = chars-append bs (repeat n bs) (IsUtf8-from bs text) ∙ ap (λ l. chars bs ++ l) (chars-repeat n bs text)
