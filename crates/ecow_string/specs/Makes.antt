-- What a call answers that makes a text.
use Rattle.std.specs.Prelude.{◌≡◌, ◌<◌, ◌≤◌, ◌↔◌, ℕ, Bool, false, List, map, Result, IfOk, IfErr, IsOk, OnErr, IsErrOf}
use Rattle.std.specs.Str.{encode_utf8_all, IsAscii}
use Rattle.ecow_base.specs.declared.capacity.TheConstants.{MAX_LEN}
use Rattle.ecow_base.specs.Inline.{inline_for}
use Rattle.ecow_base.specs.Utf8.{utf8_len}
use Rattle.ecow_base.specs.declared.plain.PlainText.{PlainText}
use Rattle.ecow_list.specs.declared.error.EcoError.{EcoError}
use Rattle.ecow_list.specs.declared.error.EcoError.TheVariants.{Capacity, Memory}
use Rattle.ecow_string.specs.Case.{in_case, str_in_case}
use Rattle.ecow_string.specs.declared.case.Case.{Case}

-- the characters cs, in a text made for n bytes: inline exactly where n is within the limit, which
-- is never refused; else for capacity exactly where n passes the greatest length, or for memory
pub record MakesText (limit n : ℕ) (cs : List ℕ) (result : Result PlainText EcoError) : Type 0 where
  pub chars : IfOk result (λ text. text.chars ≡ cs)
  pub mode : IfOk result (λ text. text.inline ≡ inline_for limit n)
  pub free : n ≤ limit → IsOk result
  pub capacity : IsErrOf result Capacity ↔ (MAX_LEN < n)

-- the characters cs in a given mode; it is never refused inline, and else for memory alone
pub record MakesTextIn (inline : Bool) (cs : List ℕ) (result : Result PlainText EcoError) : Type 0
  where
    pub chars : IfOk result (λ text. text.chars ≡ cs)
    pub mode : IfOk result (λ text. text.inline ≡ inline)
    pub free : OnErr result (inline ≡ false)
    pub memory : IfErr result (λ error. error ≡ Memory)

-- the characters cs in one case, as std's `str` has them; in ASCII the letters alone are mapped.
-- It is inline where it fits. A refusal is for memory alone; ASCII that fits is never refused.
pub record MakesCased (limit : ℕ) (case : Case) (cs : List ℕ) (result : Result PlainText EcoError)
    : Type 0 where
  pub bytes : IfOk result
      (λ text. encode_utf8_all text.chars ≡ str_in_case case (encode_utf8_all cs))
  pub ascii : IsAscii (encode_utf8_all cs)
      → IfOk result (λ text. text.chars ≡ map (in_case case) cs)
  pub mode : IfOk result (λ text. text.inline ≡ inline_for limit (utf8_len text.chars))
  pub memory : IfErr result (λ error. error ≡ Memory)
  pub free : IsAscii (encode_utf8_all cs) → utf8_len cs ≤ limit → IsOk result
