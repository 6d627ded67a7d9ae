-- An enum of variants of one field each is opened behind a `&mut`, at one of them, and the field is lent. Assumes `Logic`.
--     opened      the enum at that variant is a cell with the tag k, and what the field owns
--     lends       the field is lent, and the enum follows it
use mathlib.Core.Path.{◌≡◌, refl, sym, ap, ◌∙◌}
use mathlib.Core.List.{List, [], ◌∷◌, ◌++◌}
use mathlib.Core.Option.{some as some'}
use Prim.Native.Nat.{ℕ, ◌+◌}
use seplogic.Ra.Ura.{Ura}
use lib.Dec.{T}
use mir.Facts.{and_yes}
use mir.Syntax.{Ty, Tyss, Sym, named, ty_enum, tcons, tnil, ttcons, ttnil}
use mir.Val.{Val, Vals, vcons, vnil, of_list, has_ty, has_tys_of, WT}
use mir.Raw.{raw as bare}
use base.Fraction.{full_share}
use base.Logic.{SProp, ent, sep, wand, ex, all, all_e, apply∗}
use base.Stored.{Gv}
use base.Fml.{Lft, GName, Share, Fml, fsep, fex, feq, fat, fobor, fobs, fauth}
use prog.Memory.{up, align, variant_at}
use types.Logic.{Logic, sem}
use types.Kit.{‵, raw, some, given, ◌⊛◌, ◌$◌, ◌∵◌, !, qed, by, move, keep, use1, use2, split, group, pick, learn, show, rewrite, fsplit, fjoin, fpick, fpack, feq_l, feq_i, done}
use types.Match.{live}
use types.SemTy.{Body}
use denote.RattleType.{RattleType, Valss, owns}
use denote.Memory.{lone, mem, part_at}
use denote.Enum.Enum.{in_a_row}
use denote.Steps.{nothing, only}
use denote.Follow.{Part, lends_Part}
use borrow.Table.OneValue.{part_in_at, part_out_at}

-- what a value of the variant k owns, at the field's row F
abbrev pub tagged : ℕ → (F : RattleType) → F.Denot → List Val → List Val → Fml
tagged k F y vs us = fsep (feq (List Val) vs (live k (of_list us) ∷ [])) (fex (Valss (F ∷ [])) (in_a_row (F ∷ []) (owns (F ∷ []) (y, tt)) us))

-- the enum as the code has it, of three variants, where these are the types of their fields
abbrev pub variants : Ty → Ty → Ty → Tyss
variants ρ σ τ = ttcons (tcons ρ tnil) (ttcons (tcons σ tnil) (ttcons (tcons τ tnil) ttnil))

module _ (k : ℕ) (R F : RattleType) (make : F.Denot → R.Denot) (ν : Sym) (τss : Tyss) (τ : Ty)
    (at_k : variant_at τss k ≡ some' (tcons τ tnil)) (typed : (vs : Vals) → T (has_ty (ty_enum ν τss) (live k vs)) → T (has_tys_of (tcons τ tnil) vs))
    (one_R : R.mir ≡ lone R.mir ∷ []) (one_F : F.mir ≡ lone F.mir ∷ []) (is_R : bare (ty_enum ν τss) ≡ bare (lone R.mir)) (is_F : bare τ ≡ bare (lone F.mir))
    (owns_is : (y : F.Denot) (vs : List Val) → R.own_val (make y) vs ≡ fex (List Val) (tagged k F y vs))
    {M : Type 1} {𝓤 : Ura M} (𝓛 : Logic 𝓤) (b o : ℕ) where
  open 𝓛 use {H, A}

  abbrev ω : Ty
  ω = ty_enum ν τss

  abbrev at : ℕ
  at = o + up (align τ) 1

  abbrev cell : Val → Fml
  cell v = fat full_share ω b o (live k (vcons v vnil))

  abbrev Opened : F.Denot → Val → SProp 𝓤
  Opened y v = sep 𝓤 (sem 𝓛 (cell v)) (sem 𝓛 (F.own_val y (v ∷ [])))

  one_value : (y : F.Denot) (ws : List Val) → T (has_tys_of (tcons τ tnil) (of_list (ws ++ [])))
      → ent 𝓤 (sep 𝓤 (H.at full_share ω b o (live k (of_list (ws ++ [])))) (sem 𝓛 (F.own_val y ws))) (ex 𝓤 (Opened y))
  one_value y [] t = absurd t
  one_value y (v ∷ []) t = qed 𝓛 (‵ (cell v) ∷ ‵ (F.own_val y (v ∷ [])) ∷ []) ∵ show ! (Opened y) v $ done !
  one_value y (v ∷ u ∷ us) t = absurd (and_yes (has_ty τ v) _ t).1

  pub opened : (y : F.Denot) → ent 𝓤 (sem 𝓛 (part_at R full_share (make y) b o)) (ex 𝓤 (Opened y))
  opened y =
      qed 𝓛 (‵ (part_at R full_share (make y) b o) ∷ []) ∵
      use1 𝓛 (some (λ (w : Val). ‵ (fat full_share ω b o w) ⊛ ‵ (R.own_val (make y) (w ∷ []))))
      (part_out_at 𝓛 R one_R full_share (make y) b o ω is_R) $ pick ! (λ w. split ! $
      rewrite ! 1 (λ (G : Fml). ‵ G) (owns_is y (w ∷ [])) refl $ move ! (1 ∷ []) $
      fpick ! (λ us. fsplit ! $ feq_l ! (λ e. fpick ! (λ vss. fsplit ! $ feq_l ! (λ f. fsplit ! $
      let u : Val = live k (of_list (vss.0 ++ [])) in
      rewrite ! 2 (λ (v : Val). ‵ (fat full_share ω b o v)) (ap only e ∙ ap (λ (vs : List Val). live k (of_list vs)) f) refl $ keep ! (2 ∷ 0 ∷ []) $
      use1 𝓛 (given (T (has_ty ω u) × WT u) (‵ (fat full_share ω b o u))) (𝓛.laws.at_wt full_share ω b o u) $
      learn ! (λ g. by ! (one_value y vss.0 (typed (of_list (vss.0 ++ [])) g.0))))))))

  abbrev Back : Val → SProp 𝓤
  Back u = wand 𝓤 (H.at full_share τ b at u) (sem 𝓛 (cell u))

  pub back : (w : F.Denot) → ent 𝓤 (sep 𝓤 (sem 𝓛 ((mem F).own_at w b at)) (all 𝓤 Back)) (sem 𝓛 ((mem R).own_at (make w) b o))
  back w =
      qed 𝓛 (‵ (part_at F full_share w b at) ∷ raw (all 𝓤 Back) ∷ []) ∵
      use1 𝓛 (some (λ (v : Val). ‵ (fat full_share τ b at v) ⊛ ‵ (F.own_val w (v ∷ []))))
      (part_out_at 𝓛 F one_F full_share w b at τ is_F) $ pick ! (λ v. split ! $
      let u : Val = live k (vcons v vnil) in
      move ! (2 ∷ []) $ use1 𝓛 (raw (Back v)) (all_e 𝓤 Back v) $ move ! (1 ∷ 0 ∷ []) $
      use2 𝓛 (‵ (cell v)) (apply∗ 𝓤 (H.at full_share τ b at v) (sem 𝓛 (cell v))) $
      nothing ! $ move ! (2 ∷ 0 ∷ []) $ fjoin ! $ feq_i ! (List Val) (v ∷ []) (v ∷ []) refl $ fjoin ! $
      fpack ! (Valss (F ∷ [])) (in_a_row (F ∷ []) (owns (F ∷ []) (w, tt)) (v ∷ [])) (v ∷ [], tt) $
      feq_i ! (List Val) (u ∷ []) (u ∷ []) refl $ fjoin ! $ fpack ! (List Val) (tagged k F w (u ∷ [])) (v ∷ []) $
      rewrite ! 0 (λ (G : Fml). ‵ G) (sym (owns_is w (u ∷ []))) refl $ move ! (1 ∷ 0 ∷ []) $ by ! (part_in_at 𝓛 R one_R full_share (make w) b o ω is_R u))

  module _ (κ : Lft) (q : Share) (γ : GName) where
    abbrev pub Lent : F.Denot → GName → SProp 𝓤
    Lent = Part 𝓛 R F make (named 0) κ q b o b at γ (all 𝓤 Back) back

    pub lends : (y : F.Denot) (v : Val) (g : Gv)
        → ent 𝓤 (sep 𝓤 (sem 𝓛 (cell v))
        (sep 𝓤 (sem 𝓛 (F.own_val y (v ∷ []))) (sep 𝓤 (A.obor κ q (Body (mem R) b o γ)) (sep 𝓤 (A.obs γ g) (A.auth γ g))))) (H.⇛ (ex 𝓤 (Lent y)))
    lends y v g =
        qed 𝓛 (‵ (cell v) ∷ ‵ (F.own_val y (v ∷ [])) ∷ ‵ (fobor κ q (Body (mem R) b o γ)) ∷ ‵ (fobs γ g) ∷ ‵ (fauth γ g) ∷ []) ∵
        use1 𝓛 (‵ (fat full_share τ b at v) ⊛ raw (all 𝓤 Back))
        (𝓛.laws.at_variant full_share ν τss k (tcons τ tnil) at_k 0 τ (up (align τ) 1) refl b o (vcons v vnil)) $ split ! $
        move ! (0 ∷ 2 ∷ []) $ use2 𝓛 (‵ (part_at F full_share y b at)) (part_in_at 𝓛 F one_F full_share y b at τ is_F v) $
        move ! (2 ∷ 3 ∷ 4 ∷ 0 ∷ 1 ∷ []) $ group ! 5 $
        by ! (lends_Part 𝓛 R F make (named 0) κ q b o b at γ (all 𝓤 Back) back g g y)
