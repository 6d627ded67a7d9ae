-- What the program writes and how it ends, by the bytes that it reads.
use Rattle.std.specs.Prelude.{◌≡◌, ◌<◌, ◌≤◌, ℕ, List, [], ◌++◌, length, Err, ⊤}
use Rattle.std.specs.Str.{IsUtf8}
use Rattle.ecow_script.specs.Words.{Reading}
use Rattle.ecow_script.specs.Scripts.{script_commands}
use Rattle.ecow_tool.specs.declared.program.End.{End}
use Rattle.ecow_tool.specs.declared.program.End.TheVariants as program

-- the most bytes that a script has
abbrev pub size_limit : ℕ
size_limit = 16777216

-- bytes that are text, and not too many
abbrev pub IsScript : List ℕ → Type 0
IsScript bytes = (length bytes ≤ size_limit) × IsUtf8 bytes

module _ {C : Type 0} (form : List ℕ → Reading C) (Answers : List ℕ → List ℕ → Type 0) where
  -- how the program ends on these bytes, and what it has written by then
  abbrev pub EndsBy : List ℕ → List ℕ → End → Type 0
  EndsBy bytes written program.Done = IsScript bytes × Answers bytes written
  EndsBy bytes written (program.Unreadable line reason) =
      IsScript bytes × (script_commands form bytes ≡ Err (line, reason)) × (written ≡ [])
  EndsBy bytes written program.NotUtf8 =
      (length bytes ≤ size_limit) × (IsUtf8 bytes → ⊥) × (written ≡ [])
  EndsBy bytes written program.TooLarge = (size_limit < length bytes) × (written ≡ [])
  EndsBy bytes written program.File = written ≡ []
  EndsBy bytes written program.Memory = written ≡ []
  EndsBy bytes written program.Output =
      IsScript bytes × ((rest : List ℕ) × Answers bytes (written ++ rest))

-- why a reader's bytes are no list of bytes here
abbrev pub EndsReading : List ℕ → End → Type 0
EndsReading bytes program.TooLarge = size_limit < length bytes
EndsReading bytes program.File = ⊤
EndsReading bytes program.Memory = ⊤
EndsReading bytes program.Done = ⊥
EndsReading bytes (program.Unreadable line reason) = ⊥
EndsReading bytes program.NotUtf8 = ⊥
EndsReading bytes program.Output = ⊥

-- how the writing of answers ends, and what is written by then
abbrev pub EndsWriting : List ℕ → List ℕ → End → Type 0
EndsWriting answers written program.Done = written ≡ answers
EndsWriting answers written program.Output = (rest : List ℕ) × (answers ≡ written ++ rest)
EndsWriting answers written program.TooLarge = ⊥
EndsWriting answers written program.File = ⊥
EndsWriting answers written program.Memory = ⊥
EndsWriting answers written (program.Unreadable line reason) = ⊥
EndsWriting answers written program.NotUtf8 = ⊥
