-- How the program ends on the bytes that it reads, where these are known.
use Rattle.std.proofs.Common.{◌≡◌, ℕ, ◌≤◌, List, [], length, Option, Some, None, refl, sym, subst}
use Rattle.std.specs.Prelude.{IfSome}
use Rattle.std.specs.Str.{IsUtf8}
use Rattle.std.specs.Io.KnownBytes.{Appends}
use Rattle.ecow_script.specs.Words.{Reading}
use Rattle.ecow_script.specs.Scripts.{script_commands, IsFaultOf}
use Rattle.ecow_script.specs.declared.script.Fault.{Fault}
use Rattle.ecow_script.specs.declared.script.Fault.TheVariants as fault
use Rattle.ecow_tool.specs.Ends.{end_for}
use Rattle.ecow_tool.specs.Programs.{EndsBy, EndsReading, EndsWriting, IsScript, size_limit}
use Rattle.ecow_tool.specs.declared.program.End.{End}
use Rattle.ecow_tool.specs.declared.program.End.TheVariants as program
use Rattle.ecow_tool.proofs.KnownBytes.{begins_writing}

module _ {C : Type 0} (form : List ℕ → Reading C) (Answers : List ℕ → List ℕ → Type 0) where
  -- what is said of the end, and of what was written by then
  abbrev pub IsEnd : Option (List ℕ) → Option (List ℕ) → List ℕ → End → Type 0
  IsEnd old new bytes end =
      (written : List ℕ) × Appends old new written × EndsBy form Answers bytes written end

  -- an end of all bytes that are known
  of_all : (known : Option (List ℕ)) (script : List ℕ) (P : List ℕ → Type 0)
      → IfSome known (λ bytes. script ≡ bytes) → P script → IfSome known P
  of_all None script P h k = tt
  of_all (Some bytes) script P h k = subst P h k

  -- the reader failed, or had too much
  unread_end : (contents : Option (List ℕ)) (bytes : List ℕ) (end : End) → EndsReading bytes end
      → IsEnd contents contents bytes end
  unread_end contents bytes program.TooLarge h = ([], begins_writing contents, (h, refl))
  unread_end contents bytes program.File h = ([], begins_writing contents, refl)
  unread_end contents bytes program.Memory h = ([], begins_writing contents, refl)
  unread_end contents bytes program.Done h = absurd h
  unread_end contents bytes (program.Unreadable line reason) h = absurd h
  unread_end contents bytes program.NotUtf8 h = absurd h
  unread_end contents bytes program.Output h = absurd h

  pub ends_unread : (known contents : Option (List ℕ)) (end : End)
      → IfSome known (λ bytes. EndsReading bytes end)
      → IfSome known (λ bytes. IsEnd contents contents bytes end)
  ends_unread None contents end h = tt
  ends_unread (Some bytes) contents end h = unread_end contents bytes end h

  -- the bytes are no text
  pub ends_without_text : (known contents : Option (List ℕ)) (script : List ℕ)
      → IfSome known (λ bytes. script ≡ bytes) → length script ≤ size_limit → (IsUtf8 script → ⊥)
      → IfSome known (λ bytes. IsEnd contents contents bytes program.NotUtf8)
  ends_without_text known contents script read fits h =
      of_all known script (λ bytes. IsEnd contents contents bytes program.NotUtf8) read
      ([], begins_writing contents, (fits, h, refl))

  fault_end : (contents : Option (List ℕ)) (script : List ℕ) (f : Fault) → IsScript script
      → IsFaultOf f (script_commands form script) → IsEnd contents contents script (end_for f)
  fault_end contents script (fault.Unreadable line reason) text h =
      ([], begins_writing contents, (text, h, refl))
  fault_end contents script fault.Memory text h = ([], begins_writing contents, refl)

  -- a line doesn't fit, or memory is lacking
  pub ends_with_fault : (known contents : Option (List ℕ)) (script : List ℕ) (f : Fault) (end : End)
      → end ≡ end_for f → IfSome known (λ bytes. script ≡ bytes) → IsScript script
      → IsFaultOf f (script_commands form script)
      → IfSome known (λ bytes. IsEnd contents contents bytes end)
  ends_with_fault known contents script f end is read text h =
      of_all known script (λ bytes. IsEnd contents contents bytes end) read
      (subst (IsEnd contents contents script) (sym is) (fault_end contents script f text h))

  written_end : (old new : Option (List ℕ)) (script answers written : List ℕ) (end : End)
      → IsScript script → Answers script answers → Appends old new written
      → EndsWriting answers written end → IsEnd old new script end
  written_end old new script answers written program.Done text h appends ends =
      (written, appends, (text, subst (Answers script) (sym ends) h))
  written_end old new script answers written program.Output text h appends ends =
      (written, appends, (text, (ends.0, subst (Answers script) ends.1 h)))
  written_end old new script answers written program.TooLarge text h appends ends = absurd ends
  written_end old new script answers written program.File text h appends ends = absurd ends
  written_end old new script answers written program.Memory text h appends ends = absurd ends
  written_end old new script answers written (program.Unreadable line reason) text h appends ends =
      absurd ends
  written_end old new script answers written program.NotUtf8 text h appends ends = absurd ends

  -- the answers are written, or a front of them
  pub ends_written : (known old new : Option (List ℕ)) (script answers written : List ℕ) (end : End)
      → IfSome known (λ bytes. script ≡ bytes) → IsScript script → Answers script answers
      → Appends old new written → EndsWriting answers written end
      → IfSome known (λ bytes. IsEnd old new bytes end)
  ends_written known old new script answers written end read text h appends ends =
      of_all known script (λ bytes. IsEnd old new bytes end) read
      (written_end old new script answers written end text h appends ends)
