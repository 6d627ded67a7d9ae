-- How names are found among many fields.
use Rattle.std.specs.Prelude.{◌≡◌, ◌≤◌, ◌<◌, ◌+◌, ◌-◌, ◌*◌, ◌^◌, ◌/◌, ◌%◌, ◌==◌, ℕ, zero, suc, Bool, true, false, List, [], ◌∷◌, map, length, slice_get, take, Option, None, Some, Result, if◌then◌else◌, nat_lt}
use Rattle.std.specs.List.{fold}
use Rattle.std.specs.Option.{option_map}
use Rattle.std.specs.declared.result.Result.TheVariants.{Ok, Err}
use Rattle.std.specs.Str.{bytes_eq, encode_utf8_all}
use Rattle.ecow_base.specs.declared.plain.PlainText.{PlainText}
use Rattle.ecow_nested.specs.declared.fields.Field.{Field}
use Rattle.ecow_nested.specs.declared.fields.Entry.{Entry}

-- whether something is there
abbrev pub is_there : {X : Type 0} → Option X → Bool
is_there None = false
is_there (Some x) = true

-- what is there, in order
abbrev pub present : {X : Type 0} → List (Option X) → List X
present [] = []
present (None ∷ slots) = present slots
present (Some x ∷ slots) = x ∷ present slots

-- at which places nothing is, in rising order, if the first place is `at`
abbrev pub gaps_from : {X : Type 0} → ℕ → List (Option X) → List ℕ
gaps_from at [] = []
gaps_from at (None ∷ slots) = at ∷ gaps_from (suc at) slots
gaps_from at (Some x ∷ slots) = gaps_from (suc at) slots

-- the place that is reached from `at` by one step more for each gap up to it
abbrev pub past : List ℕ → ℕ → ℕ
past [] at = at
past (gap ∷ gaps) at = if nat_lt at gap then at else past gaps (suc at)

-- what entries hold: a field each, or nothing
abbrev pub slots_in : {T : Type 0} → List (Entry T) → List (Option (Field T))
slots_in entries = map (λ e. e.field) entries

-- the fields of entries
abbrev pub fields_in : {T : Type 0} → List (Entry T) → List (Field T)
fields_in entries = present (slots_in entries)

-- the gaps that the first entry notes
abbrev pub gaps_in : {T : Type 0} → List (Entry T) → List ℕ
gaps_in [] = []
gaps_in (e ∷ es) = e.gaps

-- the first entry notes all gaps
abbrev pub NotesGaps : {T : Type 0} → List (Entry T) → Type 0
NotesGaps entries = gaps_in entries ≡ gaps_from 0 (slots_in entries)

-- the number of fields before a place
abbrev pub fields_before : {T : Type 0} → List (Entry T) → ℕ → ℕ
fields_before entries place = length (present (take place (slots_in entries)))

-- the field at the index is at the place
abbrev pub IsPlaceOf : {T : Type 0} → List (Entry T) → ℕ → ℕ → Type 0
IsPlaceOf {T} entries index place = (field : Field T)
    × (slice_get (slots_in entries) place ≡ Some (Some field))
    × (fields_before entries place ≡ index)

-- what the index has of an entry
pub record Node : Type 0 where
  pub name : Option PlainText
  pub left : ℕ
  pub right : ℕ
  pub again : Bool

abbrev pub node_of : {T : Type 0} → Entry T → Node
node_of e =
    record {
      name = option_map (λ f. f.name) e.field;
      left = e.left;
      right = e.right;
      again = e.again;
    }

abbrev pub nodes_in : {T : Type 0} → List (Entry T) → List Node
nodes_in entries = map node_of entries

-- whether a node has the name, which is given by its bytes
abbrev pub bears : List ℕ → Node → Bool
bears name node =
    elim node.name [ None ↦ false | Some text ↦ bytes_eq (encode_utf8_all text.chars) name ]

-- the place that a node links on a side, and 0 where it links none there
abbrev pub link_of : Bool → Node → ℕ
link_of right node = if right then node.right else node.left

abbrev pub hash_of : List ℕ → ℕ
hash_of name = fold (λ hash byte. (hash + byte) % 2 ^ 64 * 11400714819323198485 % 2 ^ 64) 0 name

-- on which side the way of a name goes on at a depth: by the bits of its hash, and then by its own
abbrev pub turns : List ℕ → ℕ → Bool
turns name depth =
    if nat_lt depth 64 then hash_of name / 2 ^ (63 - depth) % 2 == 1
    else elim (slice_get name ((depth - 64) / 8)) [
      | None ↦ true
      | Some byte ↦ byte / 2 ^ ((depth - 64) % 8) % 2 == 1
    ]

-- what the way of a name comes to at a node: to the place of the name, to an end on a side, or to
-- what `rest` says of the next place
abbrev pub stop : List ℕ → Bool → ℕ → (ℕ → Option (Result ℕ (ℕ × Bool))) → Option Node
    → Option (Result ℕ (ℕ × Bool))
stop name right at rest None = None
stop name right at rest (Some node) =
    if bears name node then Some (Ok at)
    else if link_of right node == 0 then Some (Err (at, right))
    else rest (link_of right node)

-- a node with a link to another place
abbrev pub linked : Bool → ℕ → Node → Node
linked right place node =
    if right
    then record { name = node.name; left = node.left; right = place; again = node.again }
    else record { name = node.name; left = place; right = node.right; again = node.again }

-- to what the way of a name comes in so many steps from a place
abbrev pub way : List Node → List ℕ → ℕ → ℕ → ℕ → Option (Result ℕ (ℕ × Bool))
way nodes name zero depth at = None
way nodes name (suc steps) depth at =
    stop name (turns name depth) at (λ next. way nodes name steps (depth + 1) next)
    (slice_get nodes at)

-- to what it comes from the first place
abbrev pub end_of : List Node → List ℕ → Option (Result ℕ (ℕ × Bool))
end_of nodes name = way nodes name (length nodes) 0 0

-- all links lead further on, to nodes that are there
abbrev pub Ascends : List Node → Type 0
Ascends nodes = (right : Bool) (i : ℕ) (node : Node) → slice_get nodes i ≡ Some node
    → 0 < link_of right node → (i < link_of right node) × (link_of right node < length nodes)

-- the place that the way of a name comes to, and the number of nodes where it comes to none
abbrev pub place_of : List Node → List ℕ → ℕ
place_of nodes name = elim (end_of nodes name) [ Some (Ok at) ↦ at | _ ↦ length nodes ]

-- whether a node says that a later one has its name
abbrev pub is_again : Option Node → Bool
is_again node = elim node [ None ↦ false | Some n ↦ n.again ]

-- the way of each name comes to the first node that has it, which says whether another one has
abbrev pub Leads : List Node → Type 0
Leads nodes = (i : ℕ) (node : Node) (name : List ℕ)
    → slice_get nodes i ≡ Some node → bears name node ≡ true
    → (place_of nodes name ≤ i)
    × (place_of nodes name < i → is_again (slice_get nodes (place_of nodes name)) ≡ true)

abbrev pub IsIndexed : List Node → Type 0
IsIndexed nodes = Ascends nodes × Leads nodes

-- the first entry says that there is no index
abbrev pub is_dropped : {T : Type 0} → List (Entry T) → Bool
is_dropped [] = true
is_dropped (e ∷ es) = nat_lt (2 ^ 63) e.left

-- from `few` entries on they have an index, unless it was dropped
abbrev pub IsFoundFrom : {T : Type 0} → ℕ → List (Entry T) → Type 0
IsFoundFrom few entries =
    few ≤ length entries → is_dropped entries ≡ false → IsIndexed (nodes_in entries)

-- an entry without what the index has of it, one with another link, and one whose name comes again
abbrev pub bare : {T : Type 0} → Entry T → Entry T
bare e = record { field = e.field; left = 0; right = 0; again = false; gaps = e.gaps }

abbrev pub with_link : {T : Type 0} → Bool → ℕ → Entry T → Entry T
with_link right place e =
    if right
    then record { field = e.field; left = e.left; right = place; again = e.again; gaps = e.gaps }
    else record { field = e.field; left = place; right = e.right; again = e.again; gaps = e.gaps }

abbrev pub with_again : {T : Type 0} → Entry T → Entry T
with_again e =
    record { field = e.field; left = e.left; right = e.right; again = true; gaps = e.gaps }

-- but for the index, the entries are the same
abbrev pub bares_in : {T : Type 0} → List (Entry T) → List (Entry T)
bares_in entries = map bare entries
