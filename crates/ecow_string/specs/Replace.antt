-- How a text is split for a replacement, and its parts are put together. A `str` is its bytes.
use Rattle.std.specs.Prelude.{◌≡◌, ◌<◌, ℕ, MatchOption, List, [], ◌∷◌, ◌++◌, Option, Some, None, Result, IfErr, OnErr, OnOk}
use Rattle.std.specs.Str.{chars, IsUtf8}
use denote.Ref.{Bor}
use Rattle.ecow_base.specs.Inline.{inline_for}
use Rattle.ecow_base.specs.Replaced.{first_split}
use Rattle.ecow_base.specs.declared.plain.PlainText.{PlainText}
use Rattle.ecow_list.specs.declared.error.EcoError.{EcoError}
use Rattle.ecow_list.specs.declared.error.EcoError.TheVariants.{Memory}

-- the texts before and behind the first p in s
pub record IsFirstSplit (p s before behind : List ℕ) : Type 0 where
  pub split : first_split (chars p) (chars s) ≡ Some (chars before, chars behind)
  pub before_utf8 : IsUtf8 before
  pub behind_utf8 : IsUtf8 behind

-- the parts are what stands before and behind the first p in s
abbrev pub SplitsFirst : List ℕ → List ℕ → Option (Bor (List ℕ) × Bor (List ℕ)) → Type 0
SplitsFirst p s r =
    MatchOption r (first_split (chars p) (chars s) ≡ None)
    (λ parts. IsFirstSplit p s parts.0.now parts.1.now)

-- the first character of s, as a text, and the text behind it
pub record IsCharSplit (s first behind : List ℕ) : Type 0 where
  pub char : ℕ
  pub first_chars : chars first ≡ char ∷ []
  pub split : chars s ≡ char ∷ chars behind
  pub first_utf8 : IsUtf8 first
  pub behind_utf8 : IsUtf8 behind

-- the parts are the first character of s and what stands behind it
abbrev pub SplitsChar : List ℕ → Option (Bor (List ℕ) × Bor (List ℕ)) → Type 0
SplitsChar s r = MatchOption r (chars s ≡ []) (λ parts. IsCharSplit s parts.0.now parts.1.now)

-- the characters cs are appended to a text that was made for `most` bytes, in the mode for these;
-- it is refused only where these spill
pub record AppendsWithin {A : Type 0} (limit most : ℕ) (old : PlainText) (cs : List ℕ)
    (result : Result A EcoError) (new : PlainText) : Type 0 where
  pub chars : OnOk result (new.chars ≡ old.chars ++ cs)
  pub mode : OnOk result (new.inline ≡ inline_for limit most)
  pub memory : IfErr result (λ error. error ≡ Memory)
  pub free : OnErr result (limit < most)
