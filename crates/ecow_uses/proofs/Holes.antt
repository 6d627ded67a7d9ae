-- What a template without `{` is filled to.
use Rattle.std.proofs.Common.{◌≡◌, ◌≢◌, ℕ, List, [], ◌∷◌, ◌++◌, length, All, refl, sym, ap, subst, ◌∙◌}
use Rattle.std.specs.BTreeMap.{BTreeMap}
use Rattle.std.specs.List.{flat_map}
use Rattle.std.proofs.Math.Seq.{drop-append_seam}
use Rattle.std.proofs.lemmas.List.Elements.{All-drop, All-head}
use Rattle.ecow_base.specs.declared.plain.PlainText.{PlainText}
use Rattle.ecow_uses.specs.declared.template.Piece.{Piece}
use Rattle.ecow_uses.specs.declared.template.Piece.TheVariants.{Text, Hole}
use Rattle.ecow_uses.specs.Template.{IsUnclosed, Lacks, Spells, closing, filled, opening, form_of}

behind : (P : ℕ → Type 0) (xs ys : List ℕ) → All P (xs ++ ys) → All P ys
behind P xs ys all = subst (All P) (drop-append_seam xs ys) (All-drop P (length xs) (xs ++ ys) all)

module _ (values : BTreeMap PlainText PlainText) where
  only_texts : (pieces : List Piece) → Lacks opening (flat_map form_of pieces) → flat_map (filled values) pieces ≡ flat_map form_of pieces
  only_texts [] lacks = refl
  only_texts (Text text ∷ pieces) lacks = ap (λ cs. text.chars ++ cs) (only_texts pieces (behind (λ x. x ≢ opening) text.chars (flat_map form_of pieces) lacks))
  only_texts (Hole name ∷ pieces) lacks = absurd (All-head (λ x. x ≢ opening) opening ((name.chars ++ closing ∷ []) ++ flat_map form_of pieces) lacks refl)

  -- a template that opens no hole is filled to itself
  pub no_hole : (pieces : List Piece) (cs : List ℕ) → Spells pieces cs → Lacks opening cs → flat_map (filled values) pieces ≡ cs
  no_hole pieces cs spells lacks = only_texts pieces (subst (Lacks opening) (sym spells.spells) lacks) ∙ spells.spells

-- and it ends in none
pub no_open_end : (cs : List ℕ) → IsUnclosed cs → Lacks opening cs → ⊥
no_open_end cs unclosed lacks =
    All-head (λ x. x ≢ opening) opening unclosed.name (behind (λ x. x ≢ opening) (flat_map form_of unclosed.pieces)
    (opening ∷ unclosed.name) (subst (Lacks opening) (sym unclosed.ends) lacks)) refl
