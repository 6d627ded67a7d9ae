-- What a block for one name alone has, and what it cost.
use Rattle.std.specs.Prelude.{◌≡◌, ℕ, ◌≤◌, true, false, nat_le, length, take, List, if◌then◌else◌}
use Rattle.ecow_model.specs.Names.{Holding, is_shared}
use Rattle.ecow_block.specs.Contents.{Contents}
use Rattle.ecow_counted.specs.declared.own.Owned.{Owned}
use Rattle.ecow_counted.specs.declared.own.Want.{Want}

-- how many elements move where a block of so many places grows to what is wanted: those that stay
abbrev pub moves_from : Want → ℕ → ℕ
moves_from want capacity = if nat_le want.capacity capacity then 0 else want.staying

module _ {T : Type 0} where
  -- a name that holds h can have what it wants: copies that there are and that fit, or no smaller a
  -- block than its own
  pub record CanHave (want : Want) (h : Holding T) : Type 0 where
    pub copies : is_shared h ≡ true → want.copies ≤ length h.items
    pub fits : is_shared h ≡ true → want.copies ≤ want.capacity
    pub grows : is_shared h ≡ false → h.capacity ≤ want.capacity
    pub staying : want.staying ≤ length h.items

  -- the block has the capacity that is wanted; so many elements were copied into it and moved
  pub record HasCost (want : Want) (copies moves : ℕ) (own : Owned T) : Type 0 where
    pub capacity : own.block.capacity ≡ want.capacity
    pub copied : own.copied ≡ copies
    pub moved : own.moved ≡ moves

  -- the elements for a name that holds h: copies of the first where it shares its block
  abbrev pub items_for : Want → Holding T → List T
  items_for want h = if is_shared h then take want.copies h.items else h.items

  -- how many elements that are
  abbrev pub length_for : Want → Holding T → ℕ
  length_for want h = if is_shared h then want.copies else length h.items

  -- how many elements are copied for a name that holds h: none where it shares its block with none
  abbrev pub copies_for : Want → Holding T → ℕ
  copies_for want h = if is_shared h then want.copies else 0

  -- how many elements are moved for a name that holds h
  abbrev pub moves_for : Want → Holding T → ℕ
  moves_for want h = if is_shared h then 0 else moves_from want h.capacity

  -- the capacity that a name which holds h has for nothing
  abbrev pub capacity_for : Holding T → ℕ
  capacity_for h = if is_shared h then 0 else h.capacity
