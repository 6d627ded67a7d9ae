-- A script: its lines, and the commands on them.
use Rattle.std.specs.Prelude.{◌≡◌, ℕ, ◌+◌, Bool, false, if◌then◌else◌, ◌==◌, List, [], ◌∷◌, ◌++◌, Option, Some, None, Result, Ok, Err}
use Rattle.std.specs.List.{slice_split}
use Rattle.ecow_script.specs.Words.{Reading, Place, place, next_word, ◌>>=◌}
use Rattle.ecow_script.specs.declared.reason.Reason.{Reason}
use Rattle.ecow_script.specs.declared.reason.Reason.TheVariants as reason
use Rattle.ecow_script.specs.declared.script.Fault.{Fault}
use Rattle.ecow_script.specs.declared.script.Fault.TheVariants as fault

-- a line feed (10)
abbrev pub is_feed : ℕ → Bool
is_feed c = c == 10

-- a line without a carriage return (13) at its end
abbrev pub without_return : List ℕ → List ℕ
without_return [] = []
without_return (c ∷ []) = if c == 13 then [] else c ∷ []
without_return (c ∷ d ∷ ds) = c ∷ without_return (d ∷ ds)

-- what stands behind the last line feed is no line where it is empty
abbrev pub last_line : List ℕ → List (List ℕ)
last_line [] = []
last_line (c ∷ cs) = without_return (c ∷ cs) ∷ []

-- the lines that parts between line feeds are
abbrev pub lines_of_parts : List (List ℕ) → List (List ℕ)
lines_of_parts [] = []
lines_of_parts (part ∷ []) = last_line part
lines_of_parts (part ∷ next ∷ parts) = without_return part ∷ lines_of_parts (next ∷ parts)

-- the lines of a script
abbrev pub script_lines : List ℕ → List (List ℕ)
script_lines script = lines_of_parts (slice_split is_feed script)

-- a first word that begins a comment, with `#` (35)
abbrev pub is_comment : List ℕ → Bool
is_comment [] = false
is_comment (c ∷ cs) = c == 35

-- the line ends here
abbrev pub ended_at : {A : Type 0} → A → Option (List ℕ) × Place
    → Result (A × Place) Reason
ended_at x (None, new) = Ok (x, new)
ended_at x (Some word, new) = Err reason.Arguments

-- a value, behind which the line ends
abbrev pub ended : {A : Type 0} → A → Reading A
ended x old = ended_at x (next_word old)

-- commands, or the number of the first line that doesn't fit, and the reason
abbrev pub Commands : Type 0 → Type 0
Commands C = Result (List C) (ℕ × Reason)

module _ {C : Type 0} where
  -- the command of a line in front of those behind it
  abbrev pub with_command : Option C → Commands C → Commands C
  with_command None rest = rest
  with_command (Some command) (Ok commands) = Ok (command ∷ commands)
  with_command (Some command) (Err fault) = Err fault

  -- the commands from a line on, of which this number is the line's
  abbrev pub behind_line : ℕ → Result (Option C × Place) Reason
      → (List (List ℕ) → Commands C) → Commands C
  behind_line number (Err reason) rest = Err (number, reason)
  behind_line number (Ok read) rest = with_command read.0 (rest read.1.names)

  -- commands in front of others
  abbrev pub with_front : List C → Commands C → Commands C
  with_front front (Ok commands) = Ok (front ++ commands)
  with_front front (Err fault) = Err fault

module _ {C : Type 0} (form : List ℕ → Reading C) where
  -- what a line has behind its first word: nothing where it is blank or a comment
  abbrev pub whole_command : List ℕ → Reading (Option C)
  whole_command kind = do
    command ← form kind
    ended (Some command)

  -- what a line has from its first word on
  abbrev pub line_at : Option (List ℕ) × Place → Result (Option C × Place) Reason
  line_at (None, new) = Ok (None, new)
  line_at (Some kind, new) = if is_comment kind then Ok (None, new) else whole_command kind new

  -- the command on a line, or nothing where it is blank or a comment
  abbrev pub line_command : Reading (Option C)
  line_command old = line_at (next_word old)

  -- the commands on lines, of which the first has this number, behind names
  abbrev pub commands_on : List (List ℕ) → ℕ → List (List ℕ) → Commands C
  commands_on [] number names = Ok []
  commands_on (line ∷ lines) number names =
      behind_line number (line_command (place line names)) (commands_on lines (number + 1))

  -- the commands of a script
  abbrev pub script_commands : List ℕ → Commands C
  script_commands script = commands_on (script_lines script) 1 []

-- what is left of a script: its text, the number of the next line, and the names that were read
pub record Unread : Type 0 where
  pub text : List ℕ
  pub number : ℕ
  pub names : List (List ℕ)

-- a script from a place on
abbrev pub unread : List ℕ → ℕ → List (List ℕ) → Unread
unread text number names = record { text = text; number = number; names = names }

-- the commands that are still to come
abbrev pub commands_ahead : {C : Type 0} → (List ℕ → Reading C) → Unread → Commands C
commands_ahead form l = commands_on form (script_lines l.text) l.number l.names

-- a script that wasn't read
abbrev pub IsFaultOf : {C : Type 0} → Fault → Commands C → Type 0
IsFaultOf (fault.Unreadable number reason) commands = commands ≡ Err (number, reason)
IsFaultOf fault.Memory commands = Unit {0}
