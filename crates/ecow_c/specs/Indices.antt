-- Which indices and ranges a call takes, and what it answers of others.
use Rattle.std.specs.Prelude.{◌≡◌, ◌≢◌, ◌<◌, ◌≤◌, ◌+◌, ◌-◌, ◌||◌, ℕ, Bool, false, ◌==◌, List, nat_lt, if◌then◌else◌}
use Rattle.ecow_base.specs.Utf8.{utf8_len, is_boundary}
use Rattle.ecow_base.specs.declared.capacity.TheConstants.{MAX_LEN}
use Rattle.ecow_c.specs.declared.status.TheConstants.{OK, INDEX, BOUNDARY}

-- an index past the end, one inside a character, or a boundary
abbrev pub index_status : List ℕ → ℕ → ℕ
index_status cs index =
    if nat_lt (utf8_len cs) index then INDEX else (if is_boundary cs index then OK else BOUNDARY)

-- both ends of a range, the later one first
abbrev pub range_status : List ℕ → ℕ → ℕ → ℕ
range_status cs start end =
    if nat_lt end start then INDEX
    else (if index_status cs end == OK then index_status cs start else index_status cs end)

-- the index is inside a character
abbrev pub IsInside : List ℕ → ℕ → Type 0
IsInside cs index = (index < utf8_len cs) × (is_boundary cs index ≡ false)

-- the range is out of order, or passes the end of a list of that length
abbrev pub is_outside : ℕ → ℕ → ℕ → Bool
is_outside start end len = nat_lt end start || nat_lt len end

-- the range is within such a list, and with `added` items in its place the list passes the limit
abbrev pub SplicePasses : ℕ → ℕ → ℕ → ℕ → Type 0
SplicePasses start end added len =
    (start ≤ end) × (end ≤ len) × (MAX_LEN < len - (end - start) + added)

-- the index is within such a list, and with one item more the list passes the limit
abbrev pub InsertPasses : ℕ → ℕ → Type 0
InsertPasses index len = (index ≤ len) × (MAX_LEN ≤ len)

-- a call answers what the test of its indices answers, unless that is OK, and then neither of its
-- refusals
abbrev pub Heeds : ℕ → ℕ → Type 0
Heeds test status =
    (test ≢ OK → status ≡ test)
    × (test ≡ OK → (status ≢ INDEX) × (status ≢ BOUNDARY))
