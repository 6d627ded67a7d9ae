-- What a table of blocks, and of each name's place in it, stands for.
use Rattle.std.specs.Prelude.{◌≡◌, ℕ, ◌<◌, ◌≤◌, Bool, false, List, map, length, Option, Some, None, IsSome, filter, ◌==◌, nat_lt}
use Rattle.std.specs.Ordering.{nat_cmp}
use Rattle.std.specs.FinMap as finite
use Rattle.slab.specs.Slab.{Slab, get, slab_len}
use Rattle.ecow_base.specs.Capacity.{MAX}
use Rattle.ecow_model.specs.CountedRun.{nothing}
use Rattle.ecow_model.specs.Names.{Names, Holding, blocks, map_values}
use Rattle.ecow_counted.specs.declared.blocks.Entry.{Entry}

-- each name's place; a name without a block has none
abbrev pub Places : Type 0
Places = finite.FinMap nat_cmp (Option ℕ)

-- whether the name's place is this one
abbrev pub is_at : ℕ → Option ℕ → Bool
is_at place None = false
is_at place (Some other) = other == place

-- the names at a place, in rising order
abbrev pub names_in : ℕ → List (ℕ × Option ℕ) → List ℕ
names_in place entries = map (λ e. e.0) (filter (λ e. is_at place e.1) entries)

-- the names whose block stands at a place, in rising order
abbrev pub names_at : ℕ → Places → List ℕ
names_at place places = names_in place (finite.entries places)

module _ {T : Type 0} where
  -- what the names of a group hold together
  abbrev pub holding_together : List ℕ → Option (Entry T) → Holding T
  holding_together group None = nothing
  holding_together group (Some entry) =
      record { items = entry.block.items; group = group; capacity = entry.block.capacity }

  -- what a name with this place holds
  abbrev pub holding_in : Places → Slab (Entry T) → Option ℕ → Holding T
  holding_in places table None = nothing
  holding_in places table (Some place) = holding_together (names_at place places) (get table place)

  -- the entry at a name's place, if it has one
  abbrev pub entry_in : Slab (Entry T) → Option (Option ℕ) → Option (Entry T)
  entry_in table None = None
  entry_in table (Some None) = None
  entry_in table (Some (Some place)) = get table place

  -- what each name holds
  abbrev pub names_of : Places → Slab (Entry T) → Names T
  names_of places table = map_values (holding_in places table) places

  -- whether one more block fits in the table with no more memory
  abbrev pub has_room : Slab (Entry T) → Bool
  has_room table = nat_lt (slab_len table) table.capacity

  -- an entry that these names own
  pub record IsOwned (entry : Entry T) (owners : List ℕ) : Type 0 where
    pub counted : entry.owners ≡ length owners
    pub some : 0 < entry.owners
    pub fits : length entry.block.items ≤ entry.block.capacity
    pub small : entry.block.capacity ≤ MAX
    pub backed : 0 < entry.block.capacity

  -- each place of a name has an entry, each entry counts its names, and no entry is without one
  pub record IsTable (places : Places) (table : Slab (Entry T)) : Type 0 where
    pub placed : (x place : ℕ) → finite.get places x ≡ Some (Some place) → IsSome (get table place)
    pub owned : (place : ℕ) (entry : Entry T) → get table place ≡ Some entry
        → IsOwned entry (names_at place places)
    pub blocks_are : slab_len table ≡ blocks (names_of places table)
