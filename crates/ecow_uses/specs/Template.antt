-- What a template spells, and what it is filled to.
use Rattle.std.specs.Prelude.{◌≡◌, ◌≢◌, ℕ, List, [], ◌∷◌, ◌++◌, All, flat_map}
use Rattle.std.specs.BTreeMap.{BTreeMap, get}
use Rattle.std.specs.Cmp.Lexicographic.{slice_cmp}
use Rattle.std.specs.Option.{option_map_or}
use Rattle.std.specs.Ordering.{nat_cmp}
use Rattle.std.specs.declared.cmp.Ordering.{Ordering}
use Rattle.std.specs.Str.{encode_utf8_all}
use Rattle.ecow_base.specs.declared.plain.PlainText.{PlainText}
use Rattle.ecow_uses.specs.declared.template.Piece.{Piece}
use Rattle.ecow_uses.specs.declared.template.Piece.TheVariants.{Text, Hole}

-- the characters `{` and `}`
abbrev pub opening : ℕ
opening = 123

-- the character that ends a name
abbrev pub closing : ℕ
closing = 125

-- the character isn't among these
abbrev pub Lacks : ℕ → List ℕ → Type 0
Lacks c cs = All (λ x. x ≢ c) cs

-- how a piece stands in its template
abbrev pub form_of : Piece → List ℕ
form_of (Text text) = text.chars
form_of (Hole name) = opening ∷ name.chars ++ closing ∷ []

-- a text opens no hole, and a name doesn't close one
abbrev pub IsPlain : Piece → Type 0
IsPlain (Text text) = Lacks opening text.chars
IsPlain (Hole name) = Lacks closing name.chars

-- the pieces spell these characters
pub record Spells (pieces : List Piece) (cs : List ℕ) : Type 0 where
  pub spells : flat_map form_of pieces ≡ cs
  pub plain : All IsPlain pieces

-- the characters end in a hole that isn't closed
pub record IsUnclosed (cs : List ℕ) : Type 0 where
  pub pieces : List Piece
  pub name : List ℕ
  pub before : All IsPlain pieces
  pub open_hole : Lacks closing name
  pub ends : flat_map form_of pieces ++ opening ∷ name ≡ cs

-- texts in the order of their bytes
abbrev pub text_cmp : PlainText → PlainText → Ordering
text_cmp t u = slice_cmp nat_cmp (encode_utf8_all t.chars) (encode_utf8_all u.chars)

module _ (values : BTreeMap PlainText PlainText) where
  -- what stands in the place of a piece; nothing where a hole has no value
  abbrev pub filled : Piece → List ℕ
  filled (Text text) = text.chars
  filled (Hole name) = option_map_or (λ value. value.chars) (get text_cmp values name) []
