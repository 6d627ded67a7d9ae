-- What a form shows once other bytes stand in place of its own.
use Rattle.std.proofs.Common.{◌≡◌, ℕ, List, length, true, refl, ap, ◌∙◌}
use Rattle.std_alloc.proofs.VecSteps.Gaps.{all_new}
use Rattle.ecow_base.specs.Plain.{plain_bytes}
use Rattle.ecow_bytes.specs.Form.{plain_of}
use Rattle.ecow_bytes.specs.Lends.{with_bytes}
use Rattle.ecow_bytes.specs.declared.form.Form.{Form}
use Rattle.ecow_bytes.specs.declared.form.Form.TheVariants.{Short, Full, Spilled}

pub plain_with : {N : ℕ} (f : Form N) (xs : List ℕ) → length xs ≡ length (plain_of f).bytes
    → plain_of (with_bytes f xs) ≡ plain_bytes xs (plain_of f).inline
plain_with (Short few) xs long = ap (λ (ys : List ℕ). plain_bytes ys true) (all_new (length few) few xs long)
plain_with (Full cells) xs long = refl
plain_with (Spilled v) xs long = refl

-- inline bytes that are written over stay inline
pub inline_with : {N : ℕ} (f : Form N) (xs : List ℕ) → (plain_of f).inline ≡ true
    → length xs ≡ length (plain_of f).bytes → plain_of (with_bytes f xs) ≡ plain_bytes xs true
inline_with f xs inline long = plain_with f xs long ∙ ap (λ mode. plain_bytes xs mode) inline
