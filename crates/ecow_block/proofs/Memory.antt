-- What the walks share, at any element type. Assumes `Logic`.
--     base_had, base_made, mark_had, mark_made      a value of one pointer, and one of no bytes
--     item_had      the machine value of an item
--     Held, Spare      the items of a room, and its empty places, o bytes into the block b
--     room_had, room_made      a room by value is taken apart and made
--     room_opens, room_closes      a `&mut` to one is opened and closed
use mathlib.Core.Path.{◌≡◌, refl, sym, subst}
use Prim.Native.Nat.{ℕ, ◌+◌, ◌-◌, ◌*◌, ◌<◌, ◌^◌}
use mathlib.Core.List.{List, [], ◌∷◌, ◌++◌}
use lib.ListN.{length}
use seplogic.Ra.Ura.{Ura}
use base.Fraction.{full_share}
use base.Logic.{ent, emp, never, id⊢}
use base.Stored.{Gv}
use base.Fml.{Lft, GName, Share, Fml, fsep, flt, flft, fobs, fauth, fbor, fobor, froom}
use mir.Syntax.{ty_array}
use mir.Val.{Val, vstruct, vcons, vnil, of_list}
use mir.Raw.{raw as bare}
use types.Logic.{Logic, sem}
use types.SemTy.{Body}
use types.Kit.{Goal, Soaks, Step, step, Seq, Item, ‵, ◌$◌, move, drop, use0, rewrite, fsplit, fjoin, fpick, feq_l, flt_l, flt_i}
use denote.RattleType.{RattleType}
use denote.Memory.{cell_at, part_at, mem}
use denote.Array.{Array}
use denote.RawPtr.{Ptr, block_ptr, in_block, in_a_block}
use denote.Shadow.{makes_shadow}
use denote.Steps.{opens, closes, peeks}
use denote.Laws.{Is, shows}
use denote.Struct.Struct.{Struct}
use denote.Struct.Owning.{shape}
use Rattle.core.proofs.mem.Param.{El, R, el_x, elτ, Good, one, lawful}
use Rattle.std_alloc.proofs.RcSteps.{word}
use Rattle.std.specs.Mem.{type_size}
use Rattle.ecow_block.specs.Ownership.{place, lies_with_room}
use Rattle.ecow_block.specs.contracts.room.Room as Room-type
use Rattle.ecow_block.specs.contracts.room.Base as Base-type

module _ (E : El) where
  abbrev pub Rm : RattleType
  Rm = Room-type.the_row (R E)

  abbrev pub Bs : RattleType
  Bs = Base-type.the_row (R E)

  abbrev pub room_d : Type 0
  room_d = Rm.Denot

  -- the one field of a room that is there when the program runs
  abbrev pub Mark : RattleType
  Mark = Struct (shape (Room-type.the_type (R E)))

  abbrev pub sz : ℕ
  sz = type_size (R E)

  -- the items
  abbrev pub Held : ℕ → ℕ → List (el_x E) → Fml
  Held b o xs = part_at (Array (R E) (length xs)) full_share xs b o

  -- n empty places
  abbrev pub Spare : ℕ → ℕ → ℕ → Fml
  Spare b o n = froom (bare (ty_array (elτ E) n)) b o

  abbrev pub held_of : room_d → ℕ → ℕ → Fml
  held_of d b o = Held b (o + d.start * sz) d.items

  abbrev pub spare_of : room_d → ℕ → ℕ → Fml
  spare_of d b o = Spare b (o + d.start * sz + length d.items * sz) (d.capacity - length d.items)

  -- the places end below 2 ^ 63 bytes
  abbrev pub Small : room_d → Type 0
  Small d = (d.start + d.capacity) * sz < 2 ^ 63

abbrev pub mark : Val
mark = vstruct (vcons (vstruct vnil) vnil)

pub mark_made : (E : El) {M : Type 1} {𝓤 : Ura M} (𝓛 : Logic 𝓤) → ent 𝓤 (emp 𝓤) (sem 𝓛 ((Mark E).own_val (tt, tt) (mark ∷ [])))
mark_made E 𝓛 =
    makes_shadow 𝓛 ((Mark E).own_val (tt, tt) (mark ∷ []))
    (λ vss. (tt, ((λ uss. (tt, tt)), tt))) ((vstruct vnil ∷ [], tt), (refl, ((tt, (refl, tt)), tt)))

module _ {M : Type 1} {𝓤 : Ura M} {𝓛 : Logic 𝓤} {K : Type 0} {Γ : List (Item 𝓤)} {G : Goal 𝓤 𝓛.H} (E : El) where
  pub mark_had : K → (vs : List Val) → (vs ≡ mark ∷ [] → Seq K 𝓛 Γ G) → Seq K 𝓛 (‵ ((Mark E).own_val (tt, tt) vs) ∷ Γ) G
  mark_had t vs k = fpick t (λ vss. fsplit t $ feq_l t (λ whole. fsplit t $ fpick t (λ none. fsplit t $ feq_l t (λ field. drop t $ drop t $
      k (subst (λ (ws : List Val). vs ≡ vstruct (of_list (ws ++ [])) ∷ []) field whole)))))

  pub base_had : K → (base : (Bs E).Denot) (vs : List Val) → (vs ≡ word base.ptr ∷ [] → Seq K 𝓛 Γ G) → Seq K 𝓛 (‵ ((Bs E).own_val base vs) ∷ Γ) G
  base_had t base vs k =
      fpick t (λ vss. fsplit t $
      feq_l t (λ whole. fsplit t $
      feq_l t (λ field. drop t $ k (subst (λ (ws : List Val). vs ≡ vstruct (of_list (ws ++ [])) ∷ []) field whole))))

module _ {M : Type 1} {𝓤 : Ura M} {𝓛 : Logic 𝓤} {K : Type 0} {Γ : List (Item 𝓤)} {G : Goal 𝓤 𝓛.H} (E : El) where
  -- an item's machine value is one, of its type
  pub item_had : K → (x : el_x E) (vs : List Val) → ((v : Val) → vs ≡ v ∷ [] → Good E v → Seq K 𝓛 (‵ (E.row.own_val x (v ∷ [])) ∷ Γ) G)
      → Seq K 𝓛 (‵ ((R E).own_val x vs) ∷ Γ) G
  item_had t x vs k =
      peeks t (R E) (Is (R E)) (shows 𝓛 (R E)) x vs (λ is.
      let got = one E vs ((lawful E 𝓛).typed x vs is) in
      rewrite t 0 (λ (us : List Val). ‵ (E.row.own_val x us)) got.1 refl $ k got.0 got.1 got.2)

  pub room_had : K → (d : room_d E) (vs : List Val)
      → ((b o : ℕ) → d.at ≡ block_ptr b o → vs ≡ mark ∷ [] → Small E d → Seq K 𝓛 (‵ (held_of E d b o) ∷ ‵ (spare_of E d b o) ∷ Γ) G)
      → Seq K 𝓛 (‵ ((Rm E).own_val d vs) ∷ Γ) G
  room_had t d vs k =
      fsplit t $ mark_had E t vs (λ is. fsplit t $ flt_l t (λ small.
      in_a_block t d.at (λ p. in_block p (lies_with_room (R E) (place (R E) p d.start) d.capacity d.items)) (id⊢ 𝓤 (never 𝓤))
      (λ b o at_b. fsplit t $ k b o at_b is small)))

  pub room_made : K → (d : room_d E) (b o : ℕ) → d.at ≡ block_ptr b o → Small E d
      → Step K 𝓛 (‵ ((Rm E).own_val d (mark ∷ [])) ∷ Γ) G (‵ (held_of E d b o) ∷ ‵ (spare_of E d b o) ∷ Γ) G
  room_made t d b o at_b small = step (λ s.
      fjoin t $ flt_i t ((d.start + d.capacity) * sz E) (2 ^ 63) small $ fjoin t $
      rewrite t 0 (λ (p : Ptr). ‵ (fsep (flt ((d.start + d.capacity) * sz E) (2 ^ 63))
      (in_block p (lies_with_room (R E) (place (R E) p d.start) d.capacity d.items)))) (sym at_b) refl $
      use0 𝓛 (‵ ((Mark E).own_val (tt, tt) (mark ∷ []))) (mark_made E 𝓛) $ fjoin t $ s)

module _ {M : Type 1} {𝓤 : Ura M} {𝓛 : Logic 𝓤} {K : Type 0} {Γ : List (Item 𝓤)} {G : Goal 𝓤 𝓛.H} (E : El) where
  -- [the items; the empty places; the mark's cell; the open borrow; obs; auth]
  pub room_opens : K → Soaks G → {κ : Lft} {q : Share} {γ : GName} (d : room_d E) (rb ro : ℕ)
      → ((b o : ℕ) → d.at ≡ block_ptr b o → Small E d
      → Seq K 𝓛 (‵ (held_of E d b o) ∷ ‵ (spare_of E d b o) ∷ ‵ (cell_at full_share (Rm E).mir (mark ∷ []) rb ro)
      ∷ ‵ (fobor κ q (Body (mem (Rm E)) rb ro γ)) ∷ ‵ (fobs γ ((Rm E).coded.code d)) ∷ ‵ (fauth γ ((Rm E).coded.code d)) ∷ Γ) G)
      → Seq K 𝓛 (‵ (fobs γ ((Rm E).coded.code d)) ∷ ‵ (fbor κ (Body (mem (Rm E)) rb ro γ)) ∷ ‵ (flft κ q) ∷ Γ) G
  room_opens t z d rb ro k =
      opens t z (Rm E) {h = d} rb ro (λ vs. move t (1 ∷ []) $ room_had E t d vs (λ b o at_b is small.
      rewrite t 2 (λ (ws : List Val). ‵ (cell_at full_share (Rm E).mir ws rb ro)) is refl $ k b o at_b small))

  pub room_closes : K → Soaks G → {κ : Lft} {q : Share} {u v : Gv} {γ : GName} (d : room_d E) (b o rb ro : ℕ) → d.at ≡ block_ptr b o → Small E d
      → Step K 𝓛 (‵ (fobs γ ((Rm E).coded.code d)) ∷ ‵ (fbor κ (Body (mem (Rm E)) rb ro γ)) ∷ ‵ (flft κ q) ∷ Γ) G
      (‵ (held_of E d b o) ∷ ‵ (spare_of E d b o) ∷ ‵ (cell_at full_share (Rm E).mir (mark ∷ []) rb ro)
      ∷ ‵ (fobor κ q (Body (mem (Rm E)) rb ro γ)) ∷ ‵ (fobs γ u) ∷ ‵ (fauth γ v) ∷ Γ) G
  room_closes t z d b o rb ro at_b small = step (λ s. room_made E t d b o at_b small $ move t (1 ∷ 0 ∷ []) $ closes t z (Rm E) d (mark ∷ []) rb ro $ s)
