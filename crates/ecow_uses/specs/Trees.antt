-- Trees of named nodes.
use Rattle.std.specs.Prelude.{◌≡◌, ◌≢◌, ◌⊎◌, ℕ, ◌+◌, List, [], ◌∷◌, ◌++◌, Option, Some, slice_get, slice_set, sum}
use Rattle.std.specs.Option.{option_and_then}
use Rattle.ecow_uses.specs.declared.tree.Node.{Node, out-Node}
use Rattle.ecow_uses.specs.declared.tree.Node.TheOpen.{Node-F}
use Rattle.ecow_uses.specs.declared.tree.Node.TheFolds.{fold-Node}

-- the characters of a node's name
abbrev pub name_of : Node → List ℕ
name_of node = (out-Node node).name.chars

-- the nodes below a node
abbrev pub children_of : Node → List Node
children_of node = (out-Node node).children

-- one node, with the sizes of its children in their places
abbrev pub size_step : Node-F ℕ → ℕ
size_step node = 1 + sum node.children

-- how many nodes there are, from this one down
abbrev pub size : Node → ℕ
size = fold-Node ℕ size_step

-- a space before each of these texts, one behind the other
abbrev pub spaced : List (List ℕ) → List ℕ
spaced [] = []
spaced (text ∷ texts) = 32 ∷ (text ++ spaced texts)

-- one node, with its children's printed texts in their places
abbrev pub print_step : Node-F (List ℕ) → List ℕ
print_step node = 40 ∷ (node.name.chars ++ (spaced node.children ++ 41 ∷ []))

-- the tree as `(name (child) (child))`
abbrev pub printed : Node → List ℕ
printed = fold-Node (List ℕ) print_step

-- the node that a path leads to: each step is the number of a child
abbrev pub node_at : Node → List ℕ → Option Node
node_at node [] = Some node
node_at node (step ∷ path) = option_and_then (λ child. node_at child path)
    (slice_get (children_of node) step)

-- new is old with `node` at the end of the path, and all else as it was
abbrev pub IsReplaced : List ℕ → Node → Node → Node → Type 0
IsReplaced [] node old new = new ≡ node
IsReplaced (step ∷ path) node old new =
    (before : Node) × (after : Node) × (slice_get (children_of old) step ≡ Some before)
    × IsReplaced path node before after
    × (name_of new ≡ name_of old) × (children_of new ≡ slice_set (children_of old) step after)

-- new is old with this name, by its characters, for the child at the index
abbrev pub IsRenamed : ℕ → List ℕ → List Node → List Node → Type 0
IsRenamed index name old new =
    (before : Node) × (after : Node) × (slice_get old index ≡ Some before)
    × (new ≡ slice_set old index after)
    × (name_of after ≡ name) × (children_of after ≡ children_of before)

-- two paths that part: neither goes on from the other's end
abbrev pub IsApart : List ℕ → List ℕ → Type 0
IsApart [] other = ⊥
IsApart (step ∷ path) [] = ⊥
IsApart (step ∷ path) (other ∷ others) = (step ≢ other) ⊎ ((step ≡ other) × IsApart path others)
