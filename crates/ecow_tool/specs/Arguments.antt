-- What the words after the program's name ask for.
use Rattle.std.specs.Prelude.{ℕ, nat_eq, Bool, true, false, if◌then◌else◌, List, [], ◌∷◌, Option, None, Some, String, string_bytes, codes}
use Rattle.std.specs.Cmp.Lexicographic.{pointwise}

-- whether a word asks for the counted store
abbrev pub is_flag : {Z : Type 0} → String Z → Bool
is_flag word = pointwise nat_eq (string_bytes word) (codes "--counted")

-- whether the counted store is asked for, and the place of the file's name
abbrev pub request : {Z : Type 0} → List (String Z) → Option (Bool × ℕ)
request (file ∷ []) = if is_flag file then None else Some (false, 0)
request (flag ∷ file ∷ []) = if is_flag flag then Some (true, 1) else None
request _ = None
