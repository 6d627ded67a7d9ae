-- A title as a type that may name the type that holds it; and that a top goes along. Neither holds
-- an item.
use Rattle.std.specs.Prelude.{◌≡◌, ℕ, List, []}
use mathlib.Core.Path.{refl}
use mathlib.Core.Former.{Former, this, const, none_left, via, children}
use mir.Syntax.{Ty}
use base.Fml.{Fml, ftrue, fsep}
use base.Stored.{gnil}
use denote.RattleType.{RattleType}
use denote.Memory.{part_of}
use denote.RawPtr.{Ptr, null_ptr}
use denote.Sharing.{nothing, beside}
use denote.Struct.Struct.{Struct}
use denote.Struct.Owning.{shape, to}
use denote.HoleLaws.{Alike}
use denote.HolePlaces.{Recodes, one_value}
use denote.Hole.Carrier.{listed}
use denote.Param.Weighed.{Weighed, w_const}
use Rattle.core.specs.declared.alloc.Allocator.{Ghosts}
use Rattle.core.specs.declared.marker.PhantomData.{PhantomData}
use Rattle.ecow_block.specs.Heads.{head_rest, title_owns, title_shares}
use Rattle.ecow_block.specs.declared.room.Fields.{Fields}
use Rattle.ecow_block.specs.declared.room.Title.{Title}
use Rattle.ecow_block.specs.declared.room.Top.{Top}
use Rattle.ecow_block.specs.contracts.room.Title as C
use Rattle.ecow_block.specs.contracts.room.Top as top_type

abbrev pub Parts : Type 0 → Type 0
Parts A = PhantomData Ptr × Ptr × (Ptr × ℕ × ℕ) × ℕ × A

abbrev pub parts_of : {X A : Type 0} → Title X A → Parts A
parts_of t = (
  t.mark,
  t.at,
  (t.fields.base.ptr, t.fields.len, t.fields.capacity),
  t.places,
  t.alloc,
)

abbrev pub of_parts : {X A : Type 0} → Parts A → Title X A
of_parts v = record {
  mark = v.0;
  at = v.1;
  fields = record { base = record { ptr = v.2.0 }; len = v.2.1; capacity = v.2.2 };
  places = v.3;
  alloc = v.4;
}

-- a title as a container of nothing
abbrev pub the_former : Former {0} → Type 0 → Former {0}
the_former g A = via (const (Parts A)) (λ X. Title (g.Of X) A) (λ X t. parts_of t)
    (λ X v. of_parts v) (λ X t. refl) (λ X v. refl)

-- its measure is that of its own parts
abbrev pub the_weighed : {g : Former {0}} → Weighed g → (A : Type 0) → Weighed (the_former g A)
the_weighed w A =
    let v = w_const (Parts A) in
    record {
      weight = λ X μ t. v.weight X μ (parts_of t);
      puts = λ X μ t. v.puts X μ (parts_of t);
    }

pub the_empty : (A : Type 0) → A → Title ⊥ A
the_empty A alloc = of_parts (record {}, null_ptr, (null_ptr, 0, 0), 0, alloc)

-- what a title holds: nothing
abbrev pub the_items : (A X : Type 0) → Title X A → List X
the_items A X t = []

pub the_items_listed : (A X : Type 0) (t : Title X A)
    → listed none_left (children (the_former this A) X t) ≡ the_items A X t
the_items_listed A X t = refl

-- the fields of a head, over other elements
abbrev pub fields_over : {X Y : Type 0} → Fields X → Fields Y
fields_over x = record { base = record { ptr = x.base.ptr }; len = x.len; capacity = x.capacity }

-- the top of a block of other items: the pointer alone
abbrev pub top_over : {X Y : Type 0} → Top X → Top Y
top_over t = record { ptr = t.ptr }

module _ (R R' : RattleType) (h : R.Denot → R'.Denot) (a : Alike R R' h) where
  owned : (t : Ty → Ptr → Fml) (p : Ptr) (x : Fields R.Denot) (c : ℕ)
      → title_owns t R' p (fields_over x) c ≡ title_owns t R p x c
  unfolding part_of
  owned t p x c =
      λ i. title_owns t (one_value R (a.mir_same i) (λ _. ftrue) (λ _ _. nothing) gnil) p
      (fields_over x) c

  pub rest_placed : (t : Ty → Ptr → Fml) (p : Ptr) (x : Fields R.Denot) (c : ℕ)
      → head_rest t R' p (fields_over x) c ≡ head_rest t R p x c
  unfolding part_of
  rest_placed t p x c =
      λ i. head_rest t (one_value R (a.mir_same i) (λ _. ftrue) (λ _ _. nothing) gnil) p
      (fields_over x) c

  pub fields_lent : (p : Ptr) (x : Fields R.Denot)
      → title_shares R' p (fields_over x) ≡ title_shares R p x
  unfolding part_of
  fields_lent p x =
      λ i. title_shares (one_value R (a.mir_same i) (λ _. ftrue) (λ _ _. nothing) gnil) p
      (fields_over x)

  pub top_places : Alike (top_type.the_row R) (top_type.the_row R') top_over
  top_places = record { mir_same = refl; own_same = λ d. refl; shr_same = λ d. refl }

module _ (A : RattleType) (G : Ghosts A.Denot) (R R' : RattleType) (h : R.Denot → R'.Denot) where
  pub the_places : Alike R R' h
      → Alike (C.the_row R A G) (C.the_row R' A G)
      ((the_former this A.Denot).map R.Denot R'.Denot h)
  the_places a = record {
    mir_same = refl;
    own_same =
        λ d i vs. fsep ((Struct (shape (C.the_type R A G))).own_val (to (C.the_type R A G) d) vs)
        (owned R R' h a (G.dealloc_token d.alloc) d.at d.fields d.places i);
    shr_same =
        λ d i b o. beside
        ((Struct (shape (C.the_type R A G))).shr_at (to (C.the_type R A G) d) b o)
        (fields_lent R R' h a d.at d.fields i);
  }

  pub the_codes_placed : Recodes R R' h
      → Recodes (C.the_row R A G) (C.the_row R' A G)
      ((the_former this A.Denot).map R.Denot R'.Denot h)
  the_codes_placed e d = refl
