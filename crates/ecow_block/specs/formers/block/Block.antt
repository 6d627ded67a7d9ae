-- `Block` as a type that may hold the type that holds it.
use Rattle.std.specs.Prelude.{◌≡◌, ◌≤◌, ℕ, List, []}
use mathlib.Core.Path.{refl, sym, subst, ◌∙◌}
use mathlib.Core.Former.{Former, this, const, pair, list, via, children}
use lib.ListN.{length-map}
use base.Stored.{Gv, gcons}
use denote.RattleType.{RattleType}
use denote.RawPtr.{Ptr}
use denote.HoleLaws.{Alike}
use denote.HolePlaces.{Recodes, struct_places, laid}
use denote.Hole.Carrier.{listed, list-listed}
use denote.Hole.Fix.{over}
use denote.Param.Weighed.{Weighed, w_const, w_pair, w_list}
use denote.Model.Placed.{view_places}
use Rattle.core.specs.declared.marker.PhantomData.{PhantomData}
use Rattle.std.specs.declared.alloc.Global.{Global}
use Rattle.std.specs.contracts.alloc.Global as heap
use Rattle.std.specs.contracts.impls.GlobalAllocator.TheImpl.{ghosts}
use Rattle.std_alloc.specs.Vec.Recursive.{codes_placed}
use Rattle.ecow_block.specs.Contents.{Contents, contents}
use Rattle.ecow_block.specs.Facts.{IsBlock-prop}
use Rattle.ecow_block.specs.Fields.{IsBlock}
use Rattle.ecow_block.specs.Parts.{IsHead, IsBacked, capacity_of}
use Rattle.ecow_block.specs.declared.block.Block.TheInside.{Inside}
use Rattle.ecow_block.specs.declared.block.Block.TheView.{view, invariant}
use Rattle.ecow_block.specs.contracts.block.Block as C
use Rattle.ecow_block.specs.contracts.block.Block.TheInside as I
use Rattle.ecow_block.specs.formers.room.Room as room
use Rattle.ecow_block.specs.formers.room.Deed as deed
use Rattle.ecow_block.specs.formers.room.Title as title

-- a block as a container of what it holds
abbrev pub the_former : Former {0} → Former {0}
the_former g = via (pair (list g) (const ℕ)) (λ X. Contents (g.Of X)) (λ X b. (b.items, b.capacity))
    (λ X v. contents v.0 v.1) (λ X b. refl) (λ X v. refl)

-- its measure is the largest among the values that it holds
abbrev pub the_weighed : {g : Former {0}} → Weighed g → Weighed (the_former g)
the_weighed w =
    let v = w_pair (w_list w) (w_const ℕ) in
    record {
      weight = λ X μ b. v.weight X μ (b.items, b.capacity);
      puts = λ X μ b. v.puts X μ (b.items, b.capacity);
    }

pub the_empty : Contents ⊥
the_empty = contents [] 0

-- what a block holds
abbrev pub the_items : (X : Type 0) → Contents X → List X
the_items X b = b.items

pub the_items_listed : (X : Type 0) (b : Contents X) → listed _ (children (the_former this) X b)
    ≡ the_items X b
the_items_listed X b = list-listed X b.items

abbrev Rest : Type 0
Rest = Ptr × title.Parts Global × (PhantomData Ptr × Ptr × ℕ × Global) × Global

abbrev pub fields : Former {0}
fields = via (pair (const Rest) (room.the_former this)) Inside
    (λ X b. (
      (
        b.top.ptr,
        title.parts_of b.title,
        (b.deed.mark, b.deed.at, b.deed.capacity, b.deed.alloc),
        b.alloc,
      ),
      b.room,
    ))
    (λ X v. record {
      top = record { ptr = v.0.0 };
      room = v.1;
      title = title.of_parts v.0.1;
      deed = record { mark = v.0.2.0; at = v.0.2.1; capacity = v.0.2.2; alloc = v.0.2.3 };
      alloc = v.0.3;
    })
    (λ X b. refl) (λ X v. refl)

module _ {X Y : Type 0} (h : X → Y) (b : Inside X) where
  abbrev mapped : Inside Y
  mapped = fields.map X Y h b

  head_to : IsHead b.top b.title b.alloc b.room.at b.room.capacity
      → IsHead mapped.top mapped.title mapped.alloc mapped.room.at mapped.room.capacity
  head_to p = record {
    at = p.at;
    alloc_same = p.alloc_same;
    base = p.base;
    capacity = p.capacity;
    nowhere = p.nowhere;
    within = p.within;
    small = p.small;
    testable = p.testable;
    none = p.none;
    headed = p.headed;
    some = p.some;
  }

  head_from : IsHead mapped.top mapped.title mapped.alloc mapped.room.at mapped.room.capacity
      → IsHead b.top b.title b.alloc b.room.at b.room.capacity
  head_from p = record {
    at = p.at;
    alloc_same = p.alloc_same;
    base = p.base;
    capacity = p.capacity;
    nowhere = p.nowhere;
    within = p.within;
    small = p.small;
    testable = p.testable;
    none = p.none;
    headed = p.headed;
    some = p.some;
  }

  backed_to : IsBacked b.room.at b.room.capacity b.title b.deed b.alloc
      → IsBacked mapped.room.at mapped.room.capacity mapped.title mapped.deed mapped.alloc
  backed_to p = record {
    few = λ e f. let near = p.few e f in record { at = near.at; places = near.places };
    many =
        λ e. let apart = p.many e in
        record {
          places = apart.places;
          deed_at = apart.deed_at;
          deed_capacity = apart.deed_capacity;
          deed_alloc = apart.deed_alloc;
        };
  }

  backed_from : IsBacked mapped.room.at mapped.room.capacity mapped.title mapped.deed mapped.alloc
      → IsBacked b.room.at b.room.capacity b.title b.deed b.alloc
  backed_from p = record {
    few = λ e f. let near = p.few e f in record { at = near.at; places = near.places };
    many =
        λ e. let apart = p.many e in
        record {
          places = apart.places;
          deed_at = apart.deed_at;
          deed_capacity = apart.deed_capacity;
          deed_alloc = apart.deed_alloc;
        };
  }

  pub IsBlock-to : IsBlock b → IsBlock mapped
  IsBlock-to p = record {
    head = head_to p.head;
    start = p.start;
    len = p.len ∙ sym (length-map b.room.items h);
    fits = subst (λ n. n ≤ capacity_of b.title.fields.capacity) (sym (length-map b.room.items h)) p.fits;
    backed = backed_to p.backed;
  }

  pub IsBlock-from : IsBlock mapped → IsBlock b
  IsBlock-from p = record {
    head = head_from p.head;
    start = p.start;
    len = p.len ∙ length-map b.room.items h;
    fits = subst (λ n. n ≤ capacity_of b.title.fields.capacity) (length-map b.room.items h) p.fits;
    backed = backed_from p.backed;
  }

first : {a b c : Gv} → a ≡ b → gcons a c ≡ gcons b c
first {c = c} e = λ i. gcons (e i) c

module _ (R S : RattleType) (h : R.Denot → S.Denot) where
  pub the_places : Alike R S h
      → Alike (C.the_row R) (C.the_row S) ((the_former this).map R.Denot S.Denot h)
  the_places a = view_places fields (the_former this) view (λ X Y k u. refl)
      (λ X u. refl) R.Denot S.Denot h (C.the_row R).coded (C.the_row S).coded
      (invariant R.Denot) (invariant S.Denot) IsBlock-prop IsBlock-prop (IsBlock-to h)
      (IsBlock-from h)
      (over (I.the_row R)) (over (I.the_row S))
      (struct_places (I.the_type R) (I.the_type S) (
        title.top_over,
        (
          room.map_room h,
          (
            (title.the_former this Global).map R.Denot S.Denot h,
            ((deed.the_former this Global).map R.Denot S.Denot h, (λ n. n, tt)),
          ),
        ),
      ) _
      (λ d. refl) refl (
        laid _ _ _ (title.top_places R S h a),
        (
          laid _ _ _ (room.the_places R S h a),
          (
            laid _ _ _ (title.the_places heap.the_row ghosts R S h a),
            (
              laid _ _ _ (deed.the_places heap.the_row ghosts R S h a),
              ((refl, (λ n. refl, λ n. refl)), tt),
            ),
          ),
        ),
      ))

  pub the_codes_placed : Recodes R S h
      → Recodes (C.the_row R) (C.the_row S) ((the_former this).map R.Denot S.Denot h)
  the_codes_placed e b = first (codes_placed R.coded.code S.coded.code h e b.items)
