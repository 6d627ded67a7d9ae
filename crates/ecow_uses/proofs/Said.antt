-- What lines say after a change that kept or cloned them.
use Rattle.std.proofs.Common.{◌≡◌, List, [], ◌∷◌, ◌++◌, map}
use Rattle.std.specs.String.{string_bytes}
use Rattle.std.specs.declared.string.String.{String}
use Rattle.ecow_list.specs.Vectors.{IsKeptIn}
use Rattle.ecow_list.proofs.Kept.{kept_alike}
use Rattle.std.proofs.lemmas.List.{map_push}

module _ {Z : Type 0} where
  abbrev pub says_same : String Z → String Z → Type 0
  says_same s t = string_bytes t ≡ string_bytes s

  pub pushed : (old new : List (String Z)) (x : String Z) → IsKeptIn says_same old (λ kept. kept ++ x ∷ []) new
      → map string_bytes new ≡ map string_bytes old ++ string_bytes x ∷ []
  pushed old new x h =
      let kept = kept_alike says_same string_bytes (λ s t same. same) old h.0 h.1 in
      let after = map_push string_bytes h.0 x in
      let same = h.2 in
      cc (kept, after, same)
