-- What the reader of quoted texts answers, by what it holds.
use Rattle.std.specs.Prelude.{◌≡◌, ◌<◌, ℕ, List, [], ◌∷◌, ◌==◌, if◌then◌else◌, length, Option, Some, None, Result, Ok, Err, String, string_bytes, encode_utf8}
use Rattle.ecow_script.specs.Quoted.{text_from, behind_bytes}
use Rattle.ecow_script.specs.declared.reason.Reason.TheVariants as reason
use Rattle.ecow_script.specs.declared.reason.Misfit.{Misfit}
use Rattle.ecow_script.specs.declared.reason.Misfit.TheVariants.{Expected, Memory}
use Rattle.ecow_script.specs.declared.quoted.Turn.{Turn}
use Rattle.ecow_script.specs.declared.quoted.Turn.TheVariants as turn
use denote.Ref.{Bor}

-- a character, and what stands behind its escape
abbrev pub escape_view : Option (ℕ × Bor (List ℕ)) → Option (ℕ × List ℕ)
escape_view None = None
escape_view (Some e) = Some (e.0, e.1.now)

-- what a turn found at the start of a text
abbrev pub TurnIs : Turn → List ℕ → Type 0
TurnIs (turn.End behind) text = text_from text ≡ Some ([], behind.now)
TurnIs (turn.Char c behind) text =
    (text_from text ≡ behind_bytes (encode_utf8 c) (text_from behind.now))
    × (length behind.now < length text)
TurnIs turn.Misfit text = text_from text ≡ None

-- the text that was read, and what stands behind it
abbrev pub GivesText : {Z : Type 0} → Result (String Z × Bor (List ℕ)) Misfit
    → Option (List ℕ × List ℕ) → Type 0
GivesText (Ok r) form = form ≡ Some (string_bytes r.0, r.1.now)
GivesText (Err Memory) form = Unit {0}
GivesText (Err (Expected other)) form = (form ≡ None) × (other ≡ reason.Text)

-- what stands behind the quote that a text begins with
abbrev pub behind_quote : List ℕ → Option (List ℕ)
behind_quote [] = None
behind_quote (c ∷ cs) = if c == 34 then Some cs else None
