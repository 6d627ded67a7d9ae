-- Arrays of items of one size. Their bytes are in one list, item after item.
use Rattle.std.specs.Prelude.{◌≡◌, ◌↔◌, ◌<◌, ◌≤◌, ◌+◌, ◌-◌, ◌*◌, ◌/◌, ◌%◌, ◌&&◌, ◌==◌, ℕ, Bool, true, false, List, [], length, nat_lt, Option, IsSomeAnd}
use Rattle.std.specs.Option.{option_map_or}
use Rattle.std.specs.List.{concat}
use Rattle.std.specs.Simd.{first_chunks}
use Rattle.ecow_base.specs.declared.capacity.TheConstants.{MAX_LEN}
use Rattle.ecow_c.specs.Answers.{Alters}
use Rattle.ecow_c.specs.declared.status.TheConstants.{KIND}

-- how many items of that size there are in the bytes, and the items
abbrev pub count_in : ℕ → List ℕ → ℕ
count_in size bytes = length bytes / size

abbrev pub items_in : ℕ → List ℕ → List (List ℕ)
items_in size bytes = first_chunks size (count_in size bytes) bytes

-- whether the bytes are items of that size, with none left over
abbrev pub are_items : ℕ → List ℕ → Bool
are_items size bytes = nat_lt 0 size && (length bytes % size == 0)

-- the bytes of an array; at a null pointer there are none
abbrev pub array_at : Option (List ℕ) → List ℕ
array_at value = option_map_or (λ bytes. bytes) value []

-- the bytes are what `change` makes of them; a refused call leaves them as they were
abbrev pub AltersArray : (List ℕ → List ℕ) → Option (List ℕ) → ℕ → Option (List ℕ) → Type 0
AltersArray = Alters (λ bytes. bytes)

-- the bytes are those of the items that `change` makes of the items
abbrev pub AltersItems : ℕ → (List (List ℕ) → List (List ℕ)) → Option (List ℕ) → ℕ
    → Option (List ℕ) → Type 0
AltersItems size change = AltersArray (λ bytes. concat (change (items_in size bytes)))

-- the value is there, its bytes are items of that size, and P holds of them
abbrev pub HasItemsAnd : ℕ → Option (List ℕ) → (List ℕ → Type 0) → Type 0
HasItemsAnd size old P = IsSomeAnd old (λ bytes. (are_items size bytes ≡ true) × P bytes)

-- the value is there, its bytes and the added ones are items of that size, and P holds of its bytes
abbrev pub BothHaveItemsAnd : ℕ → List ℕ → Option (List ℕ) → (List ℕ → Type 0) → Type 0
BothHaveItemsAnd size added old P =
    HasItemsAnd size old (λ bytes. (are_items size added ≡ true) × P bytes)

-- the status is KIND exactly where the bytes aren't items of that size
abbrev pub RefusesSize : ℕ → Option (List ℕ) → ℕ → Type 0
RefusesSize size old status =
    status ≡ KIND ↔ IsSomeAnd old (λ bytes. are_items size bytes ≡ false)

-- the status is KIND exactly where the bytes, or the added ones, aren't items of that size
abbrev pub RefusesSizes : ℕ → List ℕ → Option (List ℕ) → ℕ → Type 0
RefusesSizes size added old status =
    status ≡ KIND ↔ IsSomeAnd old (λ bytes. are_items size bytes && are_items size added ≡ false)

-- the range is within the items, and with the added bytes in its place they pass the limit
abbrev pub ItemsPass : ℕ → ℕ → ℕ → List ℕ → List ℕ → Type 0
ItemsPass size start end added bytes =
    (start ≤ end) × (end ≤ count_in size bytes)
    × (MAX_LEN < length bytes - (end - start) * size + length added)
