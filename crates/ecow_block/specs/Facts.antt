-- What holds of the fields of a block, and of an owner, is a fact: two proofs of it are equal.
use Rattle.std.specs.Prelude.{◌≡◌}
use mathlib.Core.Path.{refl}
use native.Mathlib.Nat.{ℕ_set}
use native.Mathlib.Bridge.{le_prop}
use base.Stored.{Coded-set}
use denote.RawPtr.{Ptr, InBlock, block_ptr, null_ptr, coded_ptr}
use Rattle.std.specs.declared.alloc.Global.{Global}
use Rattle.std.specs.contracts.alloc.Global as heap
use Rattle.ecow_block.specs.Fields.{IsBlock}
use Rattle.ecow_block.specs.Kept.{IsOwner}
use Rattle.ecow_block.specs.declared.block.Block.TheInside.{Inside}
use Rattle.ecow_block.specs.declared.room.Top.{Top}

InBlock-prop : (p : Ptr) (x y : InBlock p) → x ≡ y
InBlock-prop (block_ptr b o) x y = refl
InBlock-prop null_ptr x y = absurd x

pub IsBlock-prop : {X : Type 0} (b : Inside X) → IsProp (IsBlock b)
IsBlock-prop b p q = λ i. record {
  head = record {
    at = Coded-set coded_ptr _ _ p.head.at q.head.at i;
    alloc_same = Coded-set heap.the_row.coded _ _ p.head.alloc_same q.head.alloc_same i;
    base = Coded-set coded_ptr _ _ p.head.base q.head.base i;
    capacity = λ e. ℕ_set _ _ (p.head.capacity e) (q.head.capacity e) i;
    nowhere = λ e. ℕ_set _ _ (p.head.nowhere e) (q.head.nowhere e) i;
    within = le_prop p.head.within q.head.within i;
    small = le_prop p.head.small q.head.small i;
    testable = le_prop p.head.testable q.head.testable i;
    none = λ e. ℕ_set _ _ (p.head.none e) (q.head.none e) i;
    headed = λ e. InBlock-prop b.top.ptr (p.head.headed e) (q.head.headed e) i;
    some = λ e. le_prop (p.head.some e) (q.head.some e) i;
  };
  start = ℕ_set _ _ p.start q.start i;
  len = ℕ_set _ _ p.len q.len i;
  fits = le_prop p.fits q.fits i;
  backed = record {
    few = λ e f. record {
      at = Coded-set coded_ptr _ _ (p.backed.few e f).at (q.backed.few e f).at i;
      places = ℕ_set _ _ (p.backed.few e f).places (q.backed.few e f).places i;
    };
    many = λ e. record {
      places = ℕ_set _ _ (p.backed.many e).places (q.backed.many e).places i;
      deed_at = Coded-set coded_ptr _ _ (p.backed.many e).deed_at (q.backed.many e).deed_at i;
      deed_capacity =
          ℕ_set _ _ (p.backed.many e).deed_capacity (q.backed.many e).deed_capacity i;
      deed_alloc =
          Coded-set heap.the_row.coded _ _ (p.backed.many e).deed_alloc (q.backed.many e).deed_alloc
          i;
    };
  };
}

pub IsOwner-prop : {X : Type 0} (top : Top X) (alloc : Global) (b : Inside X)
    → IsProp (IsOwner top alloc b)
IsOwner-prop top alloc b p q = λ i. record {
  top_is = Coded-set coded_ptr _ _ p.top_is q.top_is i;
  alloc_is = Coded-set heap.the_row.coded _ _ p.alloc_is q.alloc_is i;
  is_block = IsBlock-prop b p.is_block q.is_block i;
}
