-- What lends the value at a pointer from C, whatever its type: the code, and that it meets its contract. Assumes `Logic`.
use mathlib.Core.Path.{◌≡◌, refl, sym, subst, ap}
use Prim.Native.Nat.{ℕ, ◌<◌, ◌^◌}
use mathlib.Core.List.{List, [], ◌∷◌, ◌++◌}
use seplogic.Ra.Ura.{Ura}
use lib.Dec.{lit<}
use base.Fraction.{full_share}
use base.Logic.{SProp, ent, sep, emp, via, fst∗, never_e}
use base.Fml.{Lft, GName, Share, Fml, ftrue, fsep, flft, fres}
use mir.Syntax.{Fn, named}
use mir.Val.{Val, vptr, vstruct, vcons, vnil, of_list}
use prog.Wp.{Env, Calls, Loops, WpFn, Tables}
use types.Logic.{Logic, sem}
use contract.Monad.{fact}
use sound.WpLaws.{WpFn-mono}
use types.Kit.{Item, Goal, Seq, Step, step, ‵, some, later, ◌⊛◌, at_ret, given, learn, ◌$◌, ◌∵◌, !, qed, move, keep, drop, use0, use1, split, split3, join, group, pick, await, rewrite, fsplit, fsplit3, fjoin, fpick, fpack, flt_l, flt_i, feq_l, feq_i, suffices, frame, done}
use types.Match.{live}
use types.Part.{look_in, sub, whole, agg}
use types.Run.{stop, fld, addr, load, lit, bin, of_opd, and_then, no_more, first, blocks, skips, branches, exec, returns, returns_within, enter}
use types.ByLocal.{alloc_all, pass_all, free_all, look_at, get, through, sets, sets_last, is, env}
use denote.Exit.{no}
use denote.Follow.{follows, follows_by, lends_Part}
use denote.Memory.{mem, lone, cell_at, part_at, part_of}
use denote.RattleType.{RattleType, Valss, owns}
use denote.RawPtr.{Ptr, RawPtr, block_ptr, null_ptr, ptr_val, count_of, tests_null}
use denote.Ref.{MutRef, MutBor, mut_vals, mut_Tells}
use denote.Signature.{mut_ref_to, plain, type_at}
use denote.Steps.{nothing, opens, closes}
use denote.Struct.Struct.{Struct, within}
use denote.Struct.Owning.{shape}
use denote.Triple.Clauses.{Clauses, Ended, closing}
use denote.Triple.Entry.{on_entry}
use denote.Triple.Spec.{Meets}
use denote.Triple.Walked.{says, Stays, stay_dropped, walk_of, walked, ends_at, Goes-spent_ref, walk_Meets}
use Rattle.core.specs.contracts.option.Option as Opt
use Rattle.core.specs.declared.option.Option.{Option}
use Rattle.core.specs.declared.option.Option.TheVariants.{None, Some}
use Rattle.core.proofs.option.Made.{Some-of, none_of}
use Rattle.std_alloc.proofs.VecSteps.Shapes.{after}
use mathlib.Core.List.{List}
use mir.Syntax.{Sym, Ty, Local, erased, mut, ty_ptr, ty_bool, ty_ref, ty_named, ty_struct, ty_enum, tcons, tnil, ttcons, ttnil, local, value_local, place as place_at, deref, field, copy, int, w8, w64, ptr_eq, op2, rv_opd, addr_of, aggregate, seq, assign, cond, block, skip, return}
use base.Stored.{Coded}
use denote.Builtin.{RefMutOf, One}
use denote.Struct.Owning.{Owning, owning, row}
use denote.Struct.Record.{Record, Also, Done}
use denote.Struct.Field.{RawPtr-field}
use denote.Follow.{follows_if}
use Rattle.core.specs.Option.{option_map, ghost_name_of}
use Rattle.ecow_c.specs.Pointers.{lies_there, pointer_owns}

-- the type behind the reference that the code makes of the pointer, as it is written there
abbrev pub lent_by : List Local → Ty
lent_by (l₀ ∷ l₁ ∷ l₂ ∷ l₃ ∷ local (ty_ref lifetime access written) how ∷ ls) = written
lent_by ls = ty_ptr

-- a type of value, and the struct by which C passes its pointer
pub record Kind : Type 1 where
  -- the struct's name
  pub name : Sym
  -- the value's type, as it stands behind a reference
  pub written : Ty
  pub R : RattleType
  pub one : One R.mir
  -- what contracts see of the struct
  pub D : Type 0
  pub at : D → Ptr
  pub value : D → Option R.Denot
  pub make : Ptr → Option R.Denot → D
  pub eta : (d : D) → make (at d) (value d) ≡ d
  pub at-make : (p : Ptr) (v : Option R.Denot) → at (make p v) ≡ p
  pub value-make : (p : Ptr) (v : Option R.Denot) → value (make p v) ≡ v
  pub codes : RawPtr-field.Value × Unit {0} → Coded (Also (Option R.Denot) (λ value. Done))

abbrev OPTION : Sym
OPTION = 99 ∷ 111 ∷ 114 ∷ 101 ∷ 58 ∷ 58 ∷ 111 ∷ 112 ∷ 116 ∷ 105 ∷ 111 ∷ 110 ∷ 58 ∷ 58 ∷ 79 ∷ 112 ∷ 116 ∷ 105 ∷ 111 ∷ 110 ∷ []

module _ (E : Kind) where
  abbrev pub to_value : Ty
  to_value = ty_ref (named 0) mut E.written

  abbrev Ghost : RawPtr-field.Value × Unit {0} → Type 0
  Ghost v = Also (Option E.R.Denot) (λ value. Done)

  abbrev pub struct : Record
  struct = record {
    name = E.name;
    args = [];
    types = [];
    parts = RawPtr-field ∷ [];
    D = E.D;
    as_values = λ d. (E.at d, tt);
    Ghost = Ghost;
    ghosts = λ d. (E.value d, tt);
    make = λ v g. E.make v.0 g.0;
    eta = E.eta;
    beta = λ v g. (λ i. (E.at-make v.0 g.0 i, tt));
  }

  abbrev pub pointer : Owning
  pointer = owning struct E.codes (λ d. pointer_owns E.R (E.at d) (E.value d))

  abbrev pub B : RattleType
  B = row pointer

  abbrev R : RattleType
  R = E.R

  abbrev laid_out : Ty
  laid_out = ty_struct E.name (tcons ty_ptr tnil)

  -- the code as it is generated
  abbrev pub here : Fn
  here = record {
    lifetimes = 1;
    outlives = [];
    ty_params = [];
    givens = 0;
    params = 1;
    locals = local (ty_enum OPTION (ttcons tnil (ttcons (tcons to_value tnil) ttnil))) value_local
        ∷ local (ty_ref (named 0) mut (ty_named (E.name, []) tnil)) value_local ∷ local ty_ptr value_local ∷ local ty_bool value_local
        ∷ local (ty_ref erased mut E.written) value_local ∷ local (ty_ref erased mut E.written) value_local
        ∷ local ty_ptr value_local ∷ local ty_ptr value_local ∷ [];
    body = seq (assign (place_at 2 []) (rv_opd (copy (place_at 1 (deref laid_out ∷ field 0 ∷ [])))))
        (seq (assign (place_at 3 []) (op2 ptr_eq (copy (place_at 2 [])) (int w64 0)))
        (seq (cond (copy (place_at 3 [])) (seq (assign (place_at 0 []) (aggregate (int w8 0 ∷ []))) return) skip)
        (seq (block (seq (assign (place_at 6 []) (rv_opd (copy (place_at 1 (deref laid_out ∷ field 0 ∷ [])))))
        (seq (assign (place_at 7 []) (rv_opd (copy (place_at 6 [])))) (assign (place_at 5 []) (addr_of (place_at 7 (deref (lone E.R.mir) ∷ [])))))))
        (seq (assign (place_at 4 []) (rv_opd (copy (place_at 5 []))))
        (seq (assign (place_at 0 []) (aggregate (int w8 1 ∷ copy (place_at 4 []) ∷ []))) return)))));
  }

  abbrev pub ended : Ended
  ended = record {
    signature = record {
      lifetimes = 1;
      outlives = [];
      params = RefMutOf (0 ∷ []) tt (plain (λ _. B)) (λ _. tt) ∷ [];
      result = plain (λ κs. Opt.the_row (type_at {n = 1} (RefMutOf (0 ∷ []) tt (plain (λ _. R)) (λ _. E.one)) κs));
    };
    kept = (no, tt);
  }

  abbrev stayed : Stays ended.signature.params ended.kept
  stayed = (stay_dropped (mut_ref_to (0 ∷ []) tt (plain (λ _. B))) no, tt)

  abbrev Lent : Lft → RattleType
  Lent κ = MutRef (named 0) κ R

  -- the pointer as a field
  abbrev word : Ptr → Val
  word p = vstruct (vcons (ptr_val p) vnil)

  abbrev Word : RattleType
  Word = Struct (shape pointer)

  -- the place with another value
  abbrev with_value : E.D → R.Denot → E.D
  with_value d x = E.make (E.at d) (Some x)

  abbrev pub spec : {M : Type 1} {𝓤 : Ura M} (𝓛 : Logic 𝓤) → Clauses 𝓤 ended
  spec {𝓤 = 𝓤} 𝓛 κs a =
      record {
        ghost = Unit {0};
        requires = λ _. emp 𝓤;
        ensures =
            λ _ r _. sep 𝓤 (sem 𝓛 (follows_if B R a.0.ghost_name (ghost_name_of r) (with_value a.0.now) a.0.now))
            (fact 𝓤 (option_map (λ b. b.now) r ≡ E.value a.0.now));
      }

  module _ (c : Ptr) {M : Type 1} {𝓤 : Ura M} {𝓛 : Logic 𝓤} {K : Type 0} {Γ : List (Item 𝓤)} {G : Goal 𝓤 𝓛.H} where
    word_had : K → (vs : List Val) → (vs ≡ word c ∷ [] → Seq K 𝓛 Γ G) → Seq K 𝓛 (‵ (Word.own_val (c, tt) vs) ∷ Γ) G
    word_had t vs k = fpick t (λ vss. fsplit t $ feq_l t (λ whole. fsplit t $ feq_l t (λ field. drop t $
        k (subst (λ (ws : List Val). vs ≡ vstruct (of_list (ws ++ [])) ∷ []) field whole))))

    word_made : K → Step K 𝓛 (‵ (Word.own_val (c, tt) (word c ∷ [])) ∷ Γ) G Γ G
    word_made t = step (λ s.
        nothing t $ feq_i t (List Val) (ptr_val c ∷ []) (ptr_val c ∷ []) refl $ fjoin t $ feq_i t (List Val) (word c ∷ []) (word c ∷ []) refl $ fjoin t $
        fpack t (Valss (RawPtr ∷ [])) (within (shape pointer) (c, tt) (word c ∷ [])) (ptr_val c ∷ [], tt) $ s)

  -- what lies at the pointer: nothing at null, and else a value
  module _ {M : Type 1} {𝓤 : Ura M} {𝓛 : Logic 𝓤} {K : Type 0} {Γ : List (Item 𝓤)} {G : Goal 𝓤 𝓛.H} where
    cases : K → (p : Ptr) (v : Option R.Denot) → (p ≡ null_ptr → v ≡ None → Seq K 𝓛 Γ G)
        → ((b o : ℕ) (x : R.Denot) → p ≡ block_ptr b o → v ≡ Some x → Seq K 𝓛 (‵ (part_at R full_share x b o) ∷ Γ) G)
        → Seq K 𝓛 (‵ (lies_there R p v) ∷ Γ) G
    cases t null_ptr None n s = drop t $ n refl refl
    cases t null_ptr (Some x) n s = use1 𝓛 (given ⊥ (‵ ftrue)) (never_e 𝓤 _) $ learn t (λ z. absurd z)
    cases t (block_ptr b o) None n s = use1 𝓛 (given ⊥ (‵ ftrue)) (never_e 𝓤 _) $ learn t (λ z. absurd z)
    cases t (block_ptr b o) (Some x) n s = s b o x refl refl

  module _ {M : Type 1} {𝓤 : Ura M} (𝓛 : Logic 𝓤) (C : Calls 𝓤 𝓛.H) (Λ : Loops 𝓤 𝓛.H)
      (κ : Lft) (q : Share) (rb ro : ℕ) (γ : GName) (d : E.D) where
    open 𝓛 use {H}

    abbrev held : Clauses 𝓤 ended
    held = spec 𝓛

    abbrev bound : (walk_of 𝓛 ended stayed held).Ghost
    bound = (((κ, tt), (q, tt), tt, (record { ref_ptr = (rb, ro); ghost_name = γ; now = d }, tt), (vptr rb ro ∷ [], tt)), tt)

    abbrev Post : Val → SProp 𝓤
    Post = (walk_of 𝓛 ended stayed held).post bound

    -- all of the place but its value
    abbrev Rest : Fml
    Rest = cell_at full_share B.mir (word (E.at d) ∷ []) rb ro

    back : (b o : ℕ) → E.at d ≡ block_ptr b o → count_of (E.at d) < 2 ^ 63 → (w : R.Denot)
        → ent 𝓤 (sep 𝓤 (sem 𝓛 ((mem R).own_at w b o)) (sem 𝓛 Rest)) (sem 𝓛 ((mem B).own_at (with_value d w) rb ro))
    unfolding part_of
    back b o e low w =
        let there : E.at (with_value d w) ≡ E.at d = E.at-make (E.at d) (Some w) in
        qed 𝓛 (‵ (part_at R full_share w b o) ∷ ‵ Rest ∷ []) ∵ rewrite ! 0 (λ (p : Ptr). ‵ (lies_there R p (Some w))) (sym e) refl $
        flt_i ! (count_of (E.at d)) (2 ^ 63) low $ fjoin ! $
        rewrite ! 0 (λ (v : Option R.Denot). ‵ (pointer_owns R (E.at d) v)) (sym (E.value-make (E.at d) (Some w))) refl $
        rewrite ! 0 (λ (p : Ptr). ‵ (pointer_owns R p (E.value (with_value d w)))) (sym there) refl $
        word_made (E.at d) ! $ rewrite ! 0 (λ (p : Ptr). ‵ (Word.own_val (p, tt) (word (E.at d) ∷ []))) (sym there) refl $
        fjoin ! $ move ! (1 ∷ 0 ∷ []) $ fjoin ! $
        fpack ! (List Val) (λ us. fsep (cell_at full_share B.mir us rb ro) (B.own_val (with_value d w) us)) (word (E.at d) ∷ []) $ done !

    walk : ent 𝓤 (on_entry 𝓛 ended.signature (κ, tt) (q, tt) (record { ref_ptr = (rb, ro); ghost_name = γ; now = d }, tt)
        (vptr rb ro ∷ [], tt)) (WpFn 𝓤 H C Λ here (vptr rb ro ∷ []) Post)
    unfolding follows_by
    walk =
        qed 𝓛 ((‵ (flft κ q) ⊛ ‵ ftrue)
        ∷ ‵ (owns (MutRef (named 0) κ B ∷ []) (record { ref_ptr = (rb, ro); ghost_name = γ; now = d }, tt) (vptr rb ro ∷ [], tt)) ∷ []) ∵
        enter ! C Λ here (vptr rb ro ∷ []) _ $ alloc_all ! (λ l. pass_all ! refl ((tt, tt), tt) $
        let En : Env 𝓤 H = env here.locals l in
        move ! (1 ∷ []) $ fsplit ! $ fsplit3 ! $ drop ! $ move ! (3 ∷ []) $ split ! $ move ! (2 ∷ 3 ∷ 0 ∷ []) $
        opens ! tt B {h = d} rb ro (λ vs. move ! (1 ∷ []) $ fsplit ! $
        word_had (E.at d) ! vs (λ ev. rewrite ! 1 (λ (ws : List Val). ‵ (cell_at full_share B.mir ws rb ro)) ev refl $
        fsplit ! $ flt_l ! (λ low. cases ! (E.at d) (E.value d)
        (λ e none. sets ! (is ! (of_opd ! (load ! (through ! refl (fld ! refl (stop !))) (look_in ! 0 (sub ! 0 refl (whole !)))))
        (ap ptr_val e)) refl (tt, record { fits = lit< tt }) $
        sets ! (bin ! (get ! refl) (lit ! tt) tt) refl (tt, tt) $ first ! $ branches ! (get ! refl)
        (λ null. sets ! (agg ! (and_then ! (lit ! tt) (no_more !))) refl (tt, (record { fits = lit< tt }, tt)) $
        nothing ! $ rewrite ! 0 (λ (p : Ptr). ‵ (lies_there R p None)) (sym e) refl $
        rewrite ! 0 (λ (v : Option R.Denot). ‵ (lies_there R (E.at d) v)) (sym none) refl $
        flt_i ! (count_of (E.at d)) (2 ^ 63) low $ fjoin ! $ word_made (E.at d) ! $ fjoin ! $
        move ! (1 ∷ 0 ∷ 2 ∷ 3 ∷ 4 ∷ []) $ closes ! tt B d (word (E.at d) ∷ []) rb ro $
        use1 𝓛 (‵ (fres γ (B.coded.code d))) (𝓛.names.obs-res γ (B.coded.code d)) $ move ! (1 ∷ []) $ drop ! $
        use0 𝓛 (‵ ((Opt.the_row (Lent κ)).own_val None (live 0 vnil ∷ []))) (none_of 𝓛 (Lent κ)) $
        returns_within ! Post refl (look_at ! 0 refl) $ free_all ! refl $ keep ! (0 ∷ 2 ∷ 1 ∷ []) $
        suffices ! _ (ends_at 𝓛 ended stayed held bound (live 0 vnil) None (tt, tt) (tt, tt)) $
        nothing ! $ nothing ! $ fjoin ! $ join ! $ nothing ! $ move ! (2 ∷ 0 ∷ []) $ join ! $ join ! $ frame ! $ says ! (sym none) $ done !)
        (λ null. absurd null))
        (λ b o x e there. let at : Val = vptr b o in
        sets ! (is ! (of_opd ! (load ! (through ! refl (fld ! refl (stop !))) (look_in ! 1 (sub ! 0 refl (whole !))))) (ap ptr_val e)) refl (tt, tt) $
        sets ! (bin ! (get ! refl) (lit ! tt) (tests_null (block_ptr b o) (subst (λ (p : Ptr). count_of p < 2 ^ 63) e low))) refl
        (tt, tt) $ first ! $ branches ! (get ! refl)
        (λ null. absurd null)
        (λ null. skips ! $ exec ! C Λ En (after 3 here.body) (at_ret En Post) $ first ! $ blocks ! $
        sets ! (is ! (of_opd ! (load ! (through ! refl (fld ! refl (stop !))) (look_in ! 1 (sub ! 0 refl (whole !))))) (ap ptr_val e)) refl (tt, tt) $
        sets ! (of_opd ! (get ! refl)) refl (tt, tt) $ sets_last ! (addr ! (through ! refl (stop !))) refl (tt, tt) $
        exec ! C Λ En (after 4 here.body) (at_ret En Post) $ sets ! (of_opd ! (get ! refl)) refl (tt, tt) $
        sets ! (agg ! (and_then ! (lit ! tt) (and_then ! (get ! refl) (no_more !)))) refl (tt, (record { fits = lit< tt }, (tt, tt))) $
        move ! (2 ∷ 3 ∷ 4 ∷ 0 ∷ 1 ∷ []) $ group ! 5 $
        use1 𝓛 (later (some (λ (γ' : GName). ‵ ((Lent κ).own_val (record { ref_ptr = (b, o); ghost_name = γ'; now = x }) (at ∷ []))
        ⊛ ‵ (flft κ q) ⊛ ‵ (follows B R γ γ' (with_value d)))))
        (lends_Part 𝓛 B R (with_value d) (named 0) κ q rb ro b o γ (sem 𝓛 Rest) (back b o e low) (B.coded.code d) (B.coded.code d) x) $
        await ! tt $ pick ! (λ γ'.
        let r : MutBor R.Denot = record { ref_ptr = (b, o); ghost_name = γ'; now = x } in
        split3 ! $ use1 𝓛 (‵ ((Opt.the_row (Lent κ)).own_val (Some r) (live 1 (vcons at vnil) ∷ []))) (Some-of 𝓛 (Lent κ) r at) $
        returns ! (look_at ! 0 refl) $ free_all ! refl $ keep ! (0 ∷ 1 ∷ 2 ∷ []) $
        suffices ! _ (ends_at 𝓛 ended stayed held bound (live 1 (vcons at vnil)) (Some r) (tt, tt) (tt, tt)) $
        nothing ! $ nothing ! $ fjoin ! $ join ! $ nothing ! $ move ! (2 ∷ 0 ∷ []) $ join ! $ join ! $ frame ! $ says ! (sym there) $ done !)))))))

  pub meets : {M : Type 1} {𝓤 : Ura M} (𝓛 : Logic 𝓤) (𝓣 : Tables 𝓤 𝓛.H)
      → Meets 𝓛 ended.signature (WpFn 𝓤 𝓛.H 𝓣.C 𝓣.Λ here) (closing 𝓛 ended (spec 𝓛))
  meets {𝓤 = 𝓤} 𝓛 𝓣 =
      walk_Meets 𝓛 ended stayed (Goes-spent_ref 𝓛 1 (0 ∷ []) tt (plain (λ _. B)), tt) (spec 𝓛) (WpFn 𝓤 𝓛.H 𝓣.C 𝓣.Λ here) (WpFn-mono 𝓤 𝓛.H 𝓛.laws 𝓣 here)
      (walked 𝓛 ended stayed (spec 𝓛) (WpFn 𝓤 𝓛.H 𝓣.C 𝓣.Λ here) (λ κs. (mut_vals, tt)) (λ κs. (mut_Tells (named 0) κs.0 B, tt))
      (λ κs qs bounds a g are. via 𝓤 _ (fst∗ 𝓤 _ (emp 𝓤)) (walk 𝓛 𝓣.C 𝓣.Λ κs.0 qs.0 a.0.ref_ptr.0 a.0.ref_ptr.1 a.0.ghost_name a.0.now)))
