-- How the pieces of a template grow, character by character.
use Rattle.std.proofs.Common.{◌≡◌, ◌≢◌, ℕ, Bool, true, false, List, [], ◌∷◌, ◌++◌, All, append_assoc, append-nil, ap, sym, ◌∙◌}
use Rattle.std.specs.List.{flat_map}
use Rattle.std.proofs.lemmas.List.Elements.{All-nil, All-push}
use Rattle.ecow_list.proofs.Views.{flat_map_push}
use Rattle.ecow_base.specs.declared.plain.PlainText.{PlainText}
use Rattle.ecow_uses.specs.declared.template.Piece.{Piece}
use Rattle.ecow_uses.specs.declared.template.Piece.TheVariants.{Text, Hole}
use Rattle.ecow_uses.specs.Template.{IsPlain, IsUnclosed, Lacks, Spells, closing, opening, form_of}

-- these pieces and this part, of a name or of a text, spell the characters so far
abbrev pub SoFar : List Piece → Bool → List ℕ → List ℕ → Type 0
SoFar pieces true name cs = All IsPlain pieces × Lacks closing name × (flat_map form_of pieces ++ opening ∷ name ≡ cs)
SoFar pieces false text cs = All IsPlain pieces × Lacks opening text × (flat_map form_of pieces ++ text ≡ cs)

module _ (pieces new : List Piece) (text : PlainText) (cs part : List ℕ) (c : ℕ) where
  -- one more character of a name, and of a text
  pub longer_name : c ≢ closing → part ≡ text.chars ++ c ∷ [] → SoFar pieces true text.chars cs → SoFar pieces true part (cs ++ c ∷ [])
  longer_name other grown so_far =
      rw grown (
        so_far.0,
        All-push (λ x. x ≢ closing) text.chars c so_far.1 other,
        sym (append_assoc (flat_map form_of pieces) (opening ∷ text.chars) (c ∷ [])) ∙ ap (λ xs. xs ++ c ∷ []) so_far.2,
      )

  pub longer_text : c ≢ opening → part ≡ text.chars ++ c ∷ [] → SoFar pieces false text.chars cs → SoFar pieces false part (cs ++ c ∷ [])
  longer_text other grown so_far =
      rw grown (
        so_far.0,
        All-push (λ x. x ≢ opening) text.chars c so_far.1 other,
        sym (append_assoc (flat_map form_of pieces) text.chars (c ∷ [])) ∙ ap (λ xs. xs ++ c ∷ []) so_far.2,
      )

  -- a text ends where a hole opens
  pub opens : c ≡ opening → part ≡ [] → new ≡ pieces ++ Text text ∷ [] → SoFar pieces false text.chars cs → SoFar new true part (cs ++ c ∷ [])
  opens brace empty grown so_far =
      rw (brace, empty, grown) (
        All-push IsPlain pieces (Text text) so_far.0 so_far.1,
        All-nil (λ x. x ≢ closing),
        ap (λ xs. xs ++ opening ∷ []) (flat_map_push form_of pieces (Text text) ∙ so_far.2),
      )

  -- a name ends where its hole is closed
  pub closes : c ≡ closing → part ≡ [] → new ≡ pieces ++ Hole text ∷ [] → SoFar pieces true text.chars cs → SoFar new false part (cs ++ c ∷ [])
  closes brace empty grown so_far =
      rw (brace, empty, grown) (
        All-push IsPlain pieces (Hole text) so_far.0 so_far.1,
        All-nil (λ x. x ≢ opening),
        append-nil (flat_map form_of (pieces ++ Hole text ∷ [])) ∙ flat_map_push form_of pieces (Hole text)
            ∙ sym (append_assoc (flat_map form_of pieces) (opening ∷ text.chars) (closing ∷ [])) ∙ ap (λ xs. xs ++ closing ∷ []) so_far.2,
      )

  -- the characters end in a text, or in a hole
  pub ends : new ≡ pieces ++ Text text ∷ [] → SoFar pieces false text.chars cs → Spells new cs
  ends grown so_far = rw grown (record { spells = flat_map_push form_of pieces (Text text) ∙ so_far.2; plain = All-push IsPlain pieces (Text text) so_far.0 so_far.1 })

pub ends_open : (pieces : List Piece) (name cs : List ℕ) → SoFar pieces true name cs → IsUnclosed cs
ends_open pieces name cs so_far = record { pieces = pieces; name = name; before = so_far.0; open_hole = so_far.1; ends = so_far.2 }
