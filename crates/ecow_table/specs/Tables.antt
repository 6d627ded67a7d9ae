-- Values under names: those of small names each in the slot of its number, the others as entries.
use Rattle.std.specs.Prelude.{ℕ, suc, Bool, not, List, [], ◌∷◌, ◌++◌, map, take, Option, Some, None, nat_lt}
use Rattle.std.specs.Ordering.{nat_cmp}
use Rattle.std.specs.FinMap as finite
use Rattle.std.specs.FinMap.Entries.{where_key}

-- how many names have slots
abbrev pub SLOTS : ℕ
SLOTS = 65536

-- whether a name has a slot
abbrev pub has_slot : ℕ → Bool
has_slot name = nat_lt name SLOTS

module _ {V : Type 0} where
  -- each value under the name after its own
  abbrev pub shifted : List (ℕ × V) → List (ℕ × V)
  shifted es = map (λ e. (suc e.0, e.1)) es

  -- the values in slots, of which the first is that of name 0
  abbrev pub filled : List (Option V) → List (ℕ × V)
  filled [] = []
  filled (None ∷ slots) = shifted (filled slots)
  filled (Some value ∷ slots) = (0, value) ∷ shifted (filled slots)

  -- the names below `SLOTS` have what stands in their slots, the others their entries
  abbrev pub values_of : List (Option V) → List (ℕ × V) → finite.FinMap nat_cmp V
  values_of slots es =
      finite.from_entries
      (filled (take SLOTS slots) ++ where_key nat_cmp (λ name. not (has_slot name)) es)
