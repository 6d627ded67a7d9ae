-- `Shared` as a type that may hold the type that holds it.
use Rattle.std.specs.Prelude.{◌≡◌, ◌+◌, ℕ, Bool, List}
use mathlib.Core.Path.{refl}
use mathlib.Core.Former.{Former, this, const, pair, via, children}
use base.Fml.{Lft, Fml, fsep, fex}
use denote.RattleType.{RattleType}
use denote.RawPtr.{Ptr, block_of, count_of}
use denote.Sharing.{beside, some}
use denote.Struct.Struct.{Struct}
use denote.Struct.Owning.{shape, to}
use denote.HoleLaws.{Alike}
use denote.HolePlaces.{Recodes}
use denote.Hole.Carrier.{listed}
use denote.Hole.Fix.{over}
use denote.Param.Weighed.{Weighed}
use denote.Model.Placed.{view_places}
use Rattle.core.specs.declared.marker.PhantomData.{PhantomData}
use Rattle.std.specs.declared.alloc.Global.{Global}
use Rattle.std.specs.contracts.alloc.Global as heap
use Rattle.std.specs.contracts.impls.GlobalAllocator.TheImpl.{ghosts}
use Rattle.std_alloc.specs.Arc.Ownership.{owner_owns as part_owns, owner_shares as part_lends}
use Rattle.std_alloc.specs.Owners.{sole_or_counted}
use Rattle.std_alloc.specs.Rc.Ownership.{counter_at}
use Rattle.ecow_block.specs.Contents.{Contents}
use Rattle.ecow_block.specs.Facts.{IsOwner-prop}
use Rattle.ecow_block.specs.Heads.{unless_null, lent_unless_null}
use Rattle.ecow_block.specs.Kept.{IsOwner, head_at, kept, seen}
use Rattle.ecow_atomic.specs.Owners.{owner_owns, owner_lends}
use Rattle.ecow_block.specs.declared.block.Block.TheInside.{Inside as BlockParts}
use Rattle.ecow_atomic.specs.declared.shared.Shared.TheInside.{Inside}
use Rattle.ecow_atomic.specs.declared.shared.Shared.TheView.{view, invariant}
use Rattle.ecow_atomic.specs.contracts.shared.Shared as C
use Rattle.ecow_atomic.specs.contracts.shared.Shared.TheInside as I
use Rattle.ecow_block.specs.formers.block.Block as block
use Rattle.ecow_block.specs.formers.room.Room as room
use Rattle.ecow_block.specs.formers.room.Deed as deed
use Rattle.ecow_block.specs.formers.room.Title as title

-- an owner as a container of what its block holds
abbrev pub the_former : Former {0} → Former {0}
the_former g = block.the_former g

-- its measure is the block's
abbrev pub the_weighed : {g : Former {0}} → Weighed g → Weighed (the_former g)
the_weighed w = block.the_weighed w

pub the_empty : Contents ⊥
the_empty = block.the_empty

-- what an owner's block holds
abbrev pub the_items : (X : Type 0) → Contents X → List X
the_items X b = b.items

pub the_items_listed : (X : Type 0) (b : Contents X) → listed _ (children (the_former this) X b)
    ≡ the_items X b
the_items_listed X b = block.the_items_listed X b

-- what an owner has beside its block's parts: where the head is, and three times nothing
abbrev Rest : Type 0
Rest = Ptr × PhantomData Ptr × PhantomData Ptr × PhantomData Ptr × Global

abbrev fields : Former {0}
fields = via (pair (const Rest) (block.fields)) Inside
    (λ X s. ((s.top.ptr, s.room.mark, s.title.mark, s.deed.mark, s.alloc), s.inside))
    (λ X v. record {
      top = record { ptr = v.0.0 };
      room = record { mark = v.0.1 };
      title = record { mark = v.0.2 };
      deed = record { mark = v.0.3 };
      alloc = v.0.4;
      inside = v.1;
    })
    (λ X s. refl) (λ X v. refl)

module _ {X Y : Type 0} (h : X → Y) (s : Inside X) where
  abbrev mapped : Inside Y
  mapped = fields.map X Y h s

  is_to : IsOwner s.top s.alloc s.inside → IsOwner mapped.top mapped.alloc mapped.inside
  is_to p = record {
    top_is = p.top_is;
    alloc_is = p.alloc_is;
    is_block = block.IsBlock-to h s.inside p.is_block;
  }

  is_from : IsOwner mapped.top mapped.alloc mapped.inside → IsOwner s.top s.alloc s.inside
  is_from p = record {
    top_is = p.top_is;
    alloc_is = p.alloc_is;
    is_block = block.IsBlock-from h s.inside p.is_block;
  }

-- what an owner owns and lends, of what is kept and seen
module _ (p : Ptr) where
  abbrev owned : Fml → (Lft → Fml) → Fml
  owned K S =
      unless_null p
      (fex Bool (sole_or_counted (fsep (counter_at p 0 1) K)
      (fex ℕ (λ a. part_owns K (block_of p) (count_of p + 0) a S))))

  abbrev lent : Fml → (Lft → Fml) → Lft → Fml
  lent K S = lent_unless_null p (some ℕ (λ a. part_lends K (block_of p) (count_of p + 0) a S))

module _ (R S : RattleType) (h : R.Denot → S.Denot) (a : Alike R S h) (i : BlockParts R.Denot) where
  abbrev over_parts : BlockParts S.Denot
  over_parts = block.fields.map R.Denot S.Denot h i

  abbrev p : Ptr
  p = head_at R i

  kept_same : kept S over_parts ≡ kept R i
  kept_same = λ j. fsep
      (fsep (title.rest_placed R S h a (ghosts.dealloc_token i.title.alloc) p i.title.fields
      i.title.places j)
      (room.room_placed R S h a i.room.at i.room.start i.room.capacity i.room.items j))
      (deed.placed heap.the_row ghosts R S h a (ghosts.dealloc_token i.deed.alloc) i.deed.at
      i.deed.capacity j)

  seen_same : seen S over_parts ≡ seen R i
  seen_same = λ j. beside (title.fields_lent R S h a p i.title.fields j)
      (room.room_lent R S h a i.room.at i.room.start i.room.capacity i.room.items j)

  owned_same : owner_owns S over_parts ≡ owner_owns R i
  owned_same = λ j. owned p (kept_same j) (seen_same j)

  lent_same : owner_lends S over_parts ≡ owner_lends R i
  lent_same = λ j. lent p (kept_same j) (seen_same j)

module _ (R S : RattleType) (h : R.Denot → S.Denot) where
  inside_places : Alike R S h
      → Alike (I.the_row R) (I.the_row S) (fields.map R.Denot S.Denot h)
  inside_places a = record {
    mir_same = refl;
    own_same = λ d j vs. fsep ((Struct (shape (I.the_type R))).own_val (to (I.the_type R) d) vs)
        (owned_same R S h a d.inside j);
    shr_same = λ d j b o. beside ((Struct (shape (I.the_type R))).shr_at (to (I.the_type R) d) b o)
        (lent_same R S h a d.inside j);
  }

  pub the_places : Alike R S h
      → Alike (C.the_row R) (C.the_row S) ((the_former this).map R.Denot S.Denot h)
  the_places a = view_places fields (the_former this) view (λ X Y k u. refl)
      (λ X u. refl) R.Denot S.Denot h (C.the_row R).coded (C.the_row S).coded
      (invariant R.Denot) (invariant S.Denot) (λ s. IsOwner-prop s.top s.alloc s.inside)
      (λ s. IsOwner-prop s.top s.alloc s.inside) (is_to h) (is_from h)
      (over (I.the_row R)) (over (I.the_row S)) (inside_places a)

  pub the_codes_placed : Recodes R S h
      → Recodes (C.the_row R) (C.the_row S) ((the_former this).map R.Denot S.Denot h)
  the_codes_placed e b = block.the_codes_placed R S h e b
