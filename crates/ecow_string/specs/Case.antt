-- The letters of a text in one case.
use Rattle.std.specs.Prelude.{ℕ, List}
use Rattle.std.specs.Char.{to_ascii_lowercase, to_ascii_uppercase}
use Rattle.std.specs.StrCase.Lower.{str_to_lowercase}
use Rattle.std.specs.StrCase.Upper.{str_to_uppercase}
use Rattle.ecow_string.specs.declared.case.Case.{Case}
use Rattle.ecow_string.specs.declared.case.Case.TheVariants.{Lower, Upper}

-- a letter `A` to `Z` or `a` to `z` in the case, and any other number as it is
abbrev pub in_case : Case → ℕ → ℕ
in_case Lower = to_ascii_lowercase
in_case Upper = to_ascii_uppercase

-- the bytes of a text in the case, as std's `str` has them, past ASCII too
abbrev pub str_in_case : Case → List ℕ → List ℕ
str_in_case Lower = str_to_lowercase
str_in_case Upper = str_to_uppercase
