-- How names are kept: short ones as numbers, long ones by their bytes, and further ones in a tree.
use Rattle.std.specs.Prelude.{◌≡◌, ℕ, ◌+◌, ◌*◌, ◌<◌, if◌then◌else◌, nat_eq, nat_le, List, [], ◌∷◌, length, Option, Some, None, slice_index}
use Rattle.std.specs.Str.{bytes_eq}
use Rattle.std.specs.Ordering.{nat_cmp}
use Rattle.std.specs.Cmp.Lexicographic.{slice_cmp}
use Rattle.std.specs.HashMap.{HashMap}
use Rattle.std.specs.HashMap as hash
use Rattle.std.specs.BTreeMap.{BTreeMap}
use Rattle.std.specs.BTreeMap as tree
use denote.Ref.{Bor}
use Rattle.ecow_script.specs.declared.names.Maps.{Maps}

-- each of these is a byte
abbrev pub IsBytes : List ℕ → Type 0
IsBytes word = (i : ℕ) → slice_index word i < 256

-- the number whose base-256 digits are those of `key` and then these
abbrev pub key_behind : ℕ → List ℕ → ℕ
key_behind key [] = key
key_behind key (b ∷ bs) = key_behind (key * 256 + b) bs

-- a short word as a number: its length, and then its bytes
abbrev pub packed : List ℕ → Option ℕ
packed word = if nat_le (length word) 7 then Some (key_behind (length word) word) else None

-- a number, or where there is none another
abbrev pub or_else : Option ℕ → Option ℕ → Option ℕ
or_else (Some x) o = Some x
or_else None o = o

-- the number of a short word by its key, and of a long one by itself
abbrev pub by_key : (ℕ → Option ℕ) → Option ℕ → Option ℕ → Option ℕ
by_key short (Some key) long = short key
by_key short None long = long

-- the number that the three maps have for a word
abbrev pub number_under : (ℕ → Option ℕ) → (List ℕ → Option ℕ) → (List ℕ → Option ℕ)
    → List ℕ → Option ℕ
number_under short long further word =
    or_else (by_key short (packed word) (long word)) (further word)

-- the number under a key
abbrev pub short_at : {S : Type 0} → HashMap ℕ ℕ S → ℕ → Option ℕ
short_at m key = hash.get nat_eq m key

-- the number under a word, among those that are hashed
abbrev pub long_at : {S : Type 0} → HashMap (Bor (List ℕ)) ℕ S → List ℕ → Option ℕ
long_at m word = hash.get_by (λ k. bytes_eq word k.now) m

-- the number under a word, among those in the tree
abbrev pub further_at : BTreeMap (Bor (List ℕ)) ℕ → List ℕ → Option ℕ
further_at m word = tree.get_by (λ k. slice_cmp nat_cmp word k.now) m

-- the number of a name
abbrev pub number_at : Maps → List ℕ → Option ℕ
number_at maps = number_under (short_at maps.short) (long_at maps.long) (further_at maps.further)

-- a word gets a number, and the others keep theirs
abbrev pub Puts : (List ℕ → Option ℕ) → (List ℕ → Option ℕ) → List ℕ → ℕ → Type 0
Puts old new word number =
    (q : List ℕ) → new q ≡ (if bytes_eq word q then Some number else old q)
