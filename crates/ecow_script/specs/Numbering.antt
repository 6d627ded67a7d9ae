-- Names that the code has numbered, and whose list a proof alone keeps.
use Rattle.std.specs.Prelude.{◌≡◌, ℕ, ◌<◌, List, length, Option, Some, slice_get, slice_index}
use Rattle.std.specs.Coded.{×_prop, Π_prop, →_prop, le_prop, Coded-set, coded_option, coded_ℕ}
use Rattle.std.proofs.Common.{[], get_or, sym, ◌∙◌}
use Rattle.std.proofs.lemmas.List.{ext_get_or}
use Rattle.std.proofs.lemmas.Option.{slice_get-get_or}
use Rattle.std.proofs.lemmas.List.Quantifiers.{position-Some}
use Rattle.std.proofs.lemmas.Slice.Eq.{bytes_eq-Decides}
use mathlib.Core.HLevel.{×₃_prop, Σ_prop_path}
use Rattle.ecow_script.specs.Naming.{IsBytes}
use Rattle.ecow_script.specs.Words.{number_of, same}

-- a word of bytes that stands first at this place
abbrev pub IsFirst : List (List ℕ) → List ℕ → ℕ → Type 0
IsFirst names word i = IsBytes word × (number_of word names ≡ Some i)

-- each of these names stands first at its place
abbrev pub AreNames : List (List ℕ) → Type 0
AreNames names = (i : ℕ) (name : List ℕ) → slice_get names i ≡ Some name → IsFirst names name i

-- `number` gives each word its number among these names
abbrev pub Numbers : (List ℕ → Option ℕ) → List (List ℕ) → Type 0
Numbers number names = (word : List ℕ) → IsBytes word → number word ≡ number_of word names

-- these are `count` names, and `number` gives their numbers
abbrev pub AreNumbered : (List ℕ → Option ℕ) → ℕ → List (List ℕ) → Type 0
AreNumbered number count names =
    (length names ≡ count) × AreNames names × Numbers number names

-- the names that are numbered so, in the order of their numbers
abbrev pub Numbering : (List ℕ → Option ℕ) → ℕ → Type 0
Numbering number count = (names : List (List ℕ)) × AreNumbered number count names

-- ---- there is one list of such names at most

number-prop : (o p : Option ℕ) → IsProp (o ≡ p)
number-prop o p = Coded-set (coded_option coded_ℕ) o p

IsBytes-prop : (word : List ℕ) → IsProp (IsBytes word)
IsBytes-prop word = Π_prop {B = λ i. slice_index word i < 256} λ i. le_prop

AreNames-prop : (names : List (List ℕ)) → IsProp (AreNames names)
AreNames-prop names =
    Π_prop λ i. Π_prop λ name. →_prop (×_prop (IsBytes-prop name)
    (number-prop (number_of name names) (Some i)))

Numbers-prop : (number : List ℕ → Option ℕ) (names : List (List ℕ)) → IsProp (Numbers number names)
Numbers-prop number names =
    Π_prop λ word. →_prop (number-prop (number word) (number_of word names))

AreNumbered-prop : (number : List ℕ → Option ℕ) (count : ℕ) (names : List (List ℕ))
    → IsProp (AreNumbered number count names)
AreNumbered-prop number count names =
    ×₃_prop (Coded-set coded_ℕ (length names) count) (AreNames-prop names)
    (Numbers-prop number names)

one_numbering : (number : List ℕ → Option ℕ) (count : ℕ) (names others : List (List ℕ))
    → AreNumbered number count names → AreNumbered number count others → names ≡ others
one_numbering number count names others a b =
    ext_get_or [] names others (a.0 ∙ sym b.0) λ i within.
    let name = get_or names i [] in
    let is = a.1 i name (slice_get-get_or names i [] within) in
    let found : number_of name others ≡ Some i = sym (b.2 name is.0) ∙ a.2 name is.0 ∙ is.1 in
    (bytes_eq-Decides name (get_or others i [])).0 (position-Some (same name) others i [] found).1

pub Numbering-prop : (number : List ℕ → Option ℕ) (count : ℕ) → IsProp (Numbering number count)
Numbering-prop number count a b =
    Σ_prop_path (AreNumbered-prop number count) (one_numbering number count a.0 b.0 a.1 b.1)
