-- What a call answers that makes bytes.
use Rattle.std.specs.Prelude.{◌≡◌, ◌<◌, ◌≤◌, ◌↔◌, ℕ, List, Result, IfOk, IsOk, IsErrOf}
use Rattle.ecow_base.specs.declared.capacity.TheConstants.{MAX_LEN}
use Rattle.ecow_base.specs.Inline.{inline_for}
use Rattle.ecow_base.specs.declared.plain.PlainBytes.{PlainBytes}
use Rattle.ecow_list.specs.declared.error.EcoError.{EcoError}
use Rattle.ecow_list.specs.declared.error.EcoError.TheVariants.{Capacity}

-- the bytes xs, in a value made for n: inline exactly where n is within the limit, which is never
-- refused; else for capacity exactly where n passes the greatest length, or for memory
pub record MakesBytes (limit n : ℕ) (xs : List ℕ) (result : Result PlainBytes EcoError) : Type 0
  where
    pub bytes : IfOk result (λ b. b.bytes ≡ xs)
    pub mode : IfOk result (λ b. b.inline ≡ inline_for limit n)
    pub free : n ≤ limit → IsOk result
    pub capacity : IsErrOf result Capacity ↔ (MAX_LEN < n)
