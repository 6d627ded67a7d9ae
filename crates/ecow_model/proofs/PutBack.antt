-- A value that is put back where it stands.
use Rattle.std.proofs.Common.{◌≡◌, ℕ, true, false, cond, Option, Some, None, Ok, refl, sym, ap, ◌∙◌}
use Rattle.std.specs.Ordering.{nat_cmp, eq_by_cmp}
use Rattle.std.specs.Cmp.{nat_cmp_total}
use Rattle.std.specs.FinMap.{FinMap, get, insert, same_map, get-insert, nat_cmp-IsAntisymmetric}
use Rattle.std.proofs.lemmas.Map.Views.{tells_apart}
use Rattle.std.proofs.lemmas.Map.Lookups.{exact_unsigned}
use Rattle.std.specs.Option.{ok_or}
use Rattle.ecow_model.specs.declared.command.Refusal.TheVariants.{NoName}

put_back : {V : Type 0} (m : FinMap nat_cmp V) (k : ℕ) (v : V) → get m k ≡ Some v → (q : ℕ) → cond (eq_by_cmp nat_cmp q k) (Some v) (get m q) ≡ get m q
put_back m k v h q =
    elim (eq_by_cmp nat_cmp q k) as (λ b. eq_by_cmp nat_cmp q k ≡ b → cond b (Some v) (get m q) ≡ get m q) [
      | true ↦ λ e. sym (ap (get m) (tells_apart exact_unsigned q k e) ∙ h)
      | false ↦ λ e. refl
    ] refl

-- to put back what is there changes nothing
pub insert_same : {V : Type 0} (m : FinMap nat_cmp V) (k : ℕ) (v : V) → get m k ≡ Some v → insert m k v ≡ m
insert_same m k v h = same_map nat_cmp_total nat_cmp-IsAntisymmetric _ _ (λ q. get-insert nat_cmp_total m k v q ∙ put_back m k v h q)

pub found_value : {V : Type 0} (o : Option V) (v : V) → ok_or o NoName ≡ Ok v → o ≡ Some v
found_value None v e = cc
found_value (Some w) v e = cc
