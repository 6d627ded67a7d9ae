-- What appending several texts leaves.
-- A character is a Unicode scalar value: a number below 1114112, outside 55296 to 57343.
use Rattle.std.specs.Prelude.{◌≡◌, ℕ, List, [], ◌∷◌, ◌++◌, flat_map}
use Rattle.std.specs.Str.{chars}
use denote.Ref.{Bor}
use Rattle.ecow_base.specs.declared.plain.PlainText.{PlainText}

-- the characters of the texts, end to end
abbrev pub joined_by : {T : Type 0} → (T → List ℕ) → List T → List ℕ
joined_by text_of texts = flat_map text_of texts

-- a `str` is its bytes
abbrev pub joined_strs : List (Bor (List ℕ)) → List ℕ
joined_strs texts = joined_by (λ text. chars text.now) texts

-- the characters of texts, end to end
abbrev pub joined_texts : List PlainText → List ℕ
joined_texts texts = joined_by (λ text. text.chars) texts

-- new has the characters of old and then those of the texts
abbrev pub AppendsBy : {T : Type 0} → (T → List ℕ) → List ℕ → List T → List ℕ → Type 0
AppendsBy text_of old texts new = new ≡ old ++ joined_by text_of texts

-- new has the characters of old and then those of each `str`
abbrev pub AppendsStrs : List ℕ → List (Bor (List ℕ)) → List ℕ → Type 0
AppendsStrs old texts new = new ≡ old ++ joined_strs texts

-- one text is left out, the last of items: new has the characters of old and then those of the
-- others
abbrev pub LeavesLastOut : {T : Type 0} → (T → List ℕ) → List ℕ → List T → List ℕ → Type 0
LeavesLastOut {T} text_of old items new =
    (others : List T) × (last : T) × (items ≡ others ++ last ∷ [])
    × AppendsBy text_of old others new
