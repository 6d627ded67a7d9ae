-- What stands below a node.
use Rattle.std.specs.Prelude.{◌≡◌, ◌⊎◌, ℕ, ◌+◌, ◌^◌, ◌<◌, ◌≤◌, List, [], ◌++◌, Some, length, take, slice_get}
use Rattle.std.specs.List.{flat_map, AllByRecursion}
use denote.Param.Weighed.{most}
use Rattle.ecow_tree.specs.Grown.{Grown}

module _ {T : Type 0} where
  -- the elements of all nodes, in order
  abbrev pub items_of : List (Grown T) → List T
  items_of nodes = flat_map (λ node. node.items) nodes

  -- one more than the height of the highest node
  abbrev pub tallest : List (Grown T) → ℕ
  tallest nodes = most (λ node. node.height + 1) nodes

  -- a node below another is one lower, and has at least 4^height elements
  pub record Fits (above : ℕ) (node : Grown T) : Type 0 where
    pub height : node.height + 1 ≡ above
    pub weight : 4 ^ node.height ≤ length node.items

  abbrev pub AllFit : ℕ → List (Grown T) → Type 0
  AllFit above nodes = AllByRecursion (Fits above) nodes

  -- a node whose nodes below, or which itself, may stand below one of that height
  abbrev pub CanStand : ℕ → Grown T → Type 0
  CanStand above node = ((0 < above) × (node.height ≡ above)) ⊎ Fits above node

  -- the index `index` of all elements is `rest` in the node at `at`
  pub record LeadsTo (nodes : List (Grown T)) (index at rest : ℕ) : Type 0 where
    pub node : Grown T
    pub found : slice_get nodes at ≡ Some node
    pub inside : rest ≤ length node.items
    pub before : length (items_of (take at nodes)) + rest ≡ index

  -- a node that may lose an element and still stand below another: a leaf that is empty is removed
  abbrev pub CanSpare : Grown T → Type 0
  CanSpare node = (node.height ≡ 0) ⊎ (4 ^ node.height < length node.items)

  -- what each node keeps: a leaf has elements of its own, and any other node has nodes below
  pub record IsNode (height len : ℕ) (own : List T) (nodes : List (Grown T)) : Type 0 where
    pub low : tallest nodes ≤ height
    pub counted : len ≡ length (own ++ items_of nodes)
    pub fit : AllFit height nodes
    pub inner : 0 < height → (own ≡ []) × (0 < length nodes)
