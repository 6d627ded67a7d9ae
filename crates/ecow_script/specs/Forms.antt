-- The forms of commands: a word in a table, and its arguments.
use Rattle.std.specs.Prelude.{ℕ, List, [], ◌∷◌, if◌then◌else◌, Option, Some, None, Result}
use Rattle.std.specs.Option.{option_and_then}
use Rattle.ecow_script.specs.Words.{Reading, Place, ◌>>=◌, gives, expected, same}
use Rattle.ecow_script.specs.declared.reason.Reason.{Reason}
use Rattle.ecow_script.specs.declared.reason.Reason.TheVariants as reason

-- what is made of so many arguments, which stand one after another
abbrev pub one : {A C : Type 0} → (A → C) → Reading A → Reading C
one make a = do
  x ← a
  gives (make x)

-- what is made of two arguments
abbrev pub two : {A B C : Type 0} → (A → B → C) → Reading A → Reading B → Reading C
two make a b = do
  x ← a
  y ← b
  gives (make x y)

-- what is made of four arguments
abbrev pub four : {A B C D E : Type 0} → (A → B → C → D → E) → Reading A → Reading B → Reading C
    → Reading D → Reading E
four make a b c d = do
  w ← a
  x ← b
  y ← c
  z ← d
  gives (make w x y z)

-- what stands beside a word in a table
abbrev pub beside : {A : Type 0} → List ℕ → List (List ℕ × A) → Option A
beside word [] = None
beside word (entry ∷ table) = if same word entry.0 then Some entry.1 else beside word table

-- what is read behind the next word, which is one of these
abbrev pub behind_of : {W C : Type 0} → (W → Reading C) → Option W → Reading C
behind_of form None = expected reason.Command
behind_of form (Some word) = form word

-- the command whose word was found, and that place after it
abbrev pub command_at : {W C : Type 0} → (List ℕ → Option W) → (W → Reading C)
    → Option (List ℕ) × Place → Result (C × Place) Reason
command_at words form found = behind_of form (option_and_then words found.0) found.1
