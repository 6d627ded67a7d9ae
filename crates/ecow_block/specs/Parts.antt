-- What holds of the parts of a block.
use Rattle.std.specs.Prelude.{◌≡◌, ◌^◌, ◌<◌, ◌≤◌, ◌-◌, ℕ, length, nat_lt, if◌then◌else◌}
use denote.RawPtr.{Ptr, InBlock, Testable, null_ptr, ◌+ₚ◌}
use Rattle.ecow_block.specs.declared.parts.TheConstants.{TOGETHER}
use Rattle.ecow_block.specs.declared.room.Base.{Base}
use Rattle.ecow_block.specs.declared.room.Deed.{Deed}
use Rattle.ecow_block.specs.declared.room.Room.{Room}
use Rattle.ecow_block.specs.declared.room.Title.{Title}
use Rattle.ecow_block.specs.declared.room.Top.{Top}

-- how many places a block has by the number in its head: past 2 ^ 63 it is that much less, and the
-- places take no bytes
abbrev pub capacity_of : ℕ → ℕ
capacity_of n = if nat_lt n (2 ^ 63) then n else n - 2 ^ 63

module _ {X A : Type 0} where
  -- the title is that of the head at top, of alloc, which says that c places begin at p; there is
  -- no head where there are none. Where the block has fewer, they take no bytes, and are 2 ^ 63
  pub record IsHead (top : Top X) (title : Title X A) (alloc : A) (p : Ptr) (c : ℕ) : Type 0 where
    pub at : title.at ≡ top.ptr
    pub alloc_same : title.alloc ≡ alloc
    pub base : title.fields.base.ptr ≡ p
    pub capacity : title.fields.capacity < 2 ^ 63 → title.fields.capacity ≡ c
    pub nowhere : 2 ^ 63 ≤ title.fields.capacity → c ≡ 2 ^ 63
    pub within : capacity_of title.fields.capacity ≤ c
    pub small : capacity_of title.fields.capacity < 2 ^ 63
    pub testable : Testable top.ptr
    pub none : top.ptr ≡ null_ptr → c ≡ 0
    pub headed : 0 < c → InBlock top.ptr
    pub some : InBlock top.ptr → 0 < c

  -- the c places from p on are right behind the head
  pub record IsNear (p : Ptr) (c : ℕ) (title : Title X A) : Type 0 where
    pub at : p ≡ title.at +ₚ 32
    pub places : c ≡ title.places

  -- they are a block of their own, which is the deed's, for alloc
  pub record IsApart (p : Ptr) (c : ℕ) (title : Title X A) (deed : Deed X A)
      (alloc : A) : Type 0 where
    pub places : title.places ≡ 0
    pub deed_at : deed.at ≡ p
    pub deed_capacity : deed.capacity ≡ c
    pub deed_alloc : deed.alloc ≡ alloc

  -- few places are right behind their head, and many are apart
  pub record IsBacked (p : Ptr) (c : ℕ) (title : Title X A) (deed : Deed X A)
      (alloc : A) : Type 0 where
    pub few : c ≤ TOGETHER → InBlock title.at → IsNear p c title
    pub many : TOGETHER < c → IsApart p c title deed alloc

  -- these are the parts of a block of alloc
  pub record IsParts (top : Top X) (room : Room X) (title : Title X A) (deed : Deed X A)
      (alloc : A) : Type 0 where
    pub head : IsHead top title alloc room.at room.capacity
    pub start : room.start ≡ 0
    pub len : title.fields.len ≡ length room.items
    pub fits : length room.items ≤ capacity_of title.fields.capacity
    pub backed : IsBacked room.at room.capacity title deed alloc

  -- the title with another number of items
  abbrev pub with_len : Title X A → ℕ → Title X A
  with_len t n = record {
    mark = t.mark;
    at = t.at;
    fields = record { base = t.fields.base; len = n; capacity = t.fields.capacity };
    places = t.places;
    alloc = t.alloc;
  }

  -- the title with other places
  abbrev pub with_places : Title X A → Base X → ℕ → Title X A
  with_places t base c = record {
    mark = t.mark;
    at = t.at;
    fields = record { base = base; len = t.fields.len; capacity = c };
    places = t.places;
    alloc = t.alloc;
  }
