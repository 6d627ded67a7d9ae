-- The machine value of a `Result` of a slice for writing is well typed.
use mathlib.Core.Path.{◌≡◌, sym, ap, subst, ◌∙◌}
use mathlib.Core.List.{List, [], ◌∷◌, ◌++◌}
use lib.Dec.{T, lit<}
use mir.Syntax.{named}
use mir.Val.{Val, of_list, has_ty, WT}
use base.Fml.{Lft}
use types.Match.{live}
use denote.Laws.{Is}
use denote.Param.{layout}
use denote.RattleType.{RattleType}
use denote.Ref.{MutBor}
use denote.Slice.{MutSlice}
use denote.Steps.{only}
use Rattle.std.specs.declared.result.Result.{Result}
use Rattle.std.specs.declared.result.Result.TheVariants.{Ok, Err}
use Rattle.std.specs.contracts.result.Result.{the_row as result_row}
use Rattle.ecow_list.specs.declared.error.EcoError.{EcoError}
use Rattle.ecow_list.specs.declared.error.EcoError.TheVariants.{Capacity, Memory}
use Rattle.ecow_list.specs.contracts.error.EcoError.{the_row as error_row}

abbrev pub refused : EcoError → Val
refused Capacity = live 0 (of_list [])
refused Memory = live 1 (of_list [])

pub refused_is : (e : EcoError) (ws : List Val) → Is error_row e ws → ws ≡ refused e ∷ []
refused_is Capacity ws is = is.1.0 ∙ ap (λ us. live 0 (of_list us) ∷ []) is.1.1.1.0
refused_is Memory ws is = is.1.0 ∙ ap (λ us. live 1 (of_list us) ∷ []) is.1.1.1.0

Refuted : EcoError → Type 0
Refuted Capacity = Unit {0}
Refuted Memory = ⊥

pub not_memory : Capacity ≡ Memory → ⊥
unfolding Refuted
not_memory e = subst Refuted e tt

module _ (κ : Lft) (R : RattleType) where
  abbrev Row : RattleType
  Row = result_row (MutSlice (named 0) κ R) error_row

  abbrev Typed : Val → Type 0
  Typed v = T (has_ty (layout Row) v) × WT v

  pub err_typed : (e : EcoError) → Typed (live 1 (of_list (refused e ∷ [])))
  err_typed Capacity = (tt, (record { fits = lit< tt }, ((record { fits = lit< tt }, tt), tt)))
  err_typed Memory = (tt, (record { fits = lit< tt }, ((record { fits = lit< tt }, tt), tt)))

  pub result_typed : (r : Result (MutBor (List R.Denot)) EcoError) (v : Val) → Is Row r (v ∷ []) → Typed v
  result_typed (Ok s) v is =
      subst Typed (sym (ap only is.1.0 ∙ ap (λ us. live 0 (of_list us)) (is.1.1.1.0 ∙ ap (λ ws. ws ++ []) is.1.1.1.1.0.0.0)))
      (tt, (record { fits = lit< tt }, ((tt, (record { fits = is.1.1.1.1.0.0.1.0 }, tt)), tt)))
  result_typed (Err e) v is =
      subst Typed (sym (ap only is.1.0 ∙ ap (λ us. live 1 (of_list us)) (is.1.1.1.0 ∙ ap (λ ws. ws ++ []) (refused_is e _ is.1.1.1.1.0)))) (err_typed e)
