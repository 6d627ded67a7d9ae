use Rattle.std.proofs.Common.{rules, ◌≡◌, ◌+◌, ◌<◌, [], List, append-nil, refl, sym, inl, ap, subst, length, Ok, Err}
use Rattle.std.proofs.lemmas.List.{nil_from_length}
use Rattle.std.specs.Prelude.{◌↔◌, Result}
use Rattle.ecow_base.specs.declared.capacity.TheConstants.{MAX_LEN}
use Rattle.ecow_list.specs.declared.error.EcoError.{EcoError}
use Rattle.ecow_list.specs.declared.error.EcoError.TheVariants.{Capacity}
use Rattle.ecow_list.proofs.vec.EcoVec.append.Goals as goal

abbrev error_of : {T : Type 0} → Result T EcoError → EcoError
error_of (Ok x) = Capacity
error_of (Err e) = e

pub returns-then-is_empty-clause-kept : goal.returns-then-is_empty-clause-kept
returns-then-is_empty-clause-kept g c =
    let none : c.args.other.now ≡ [] = nil_from_length c.args.other.now (search rules) in
    ([], inl (sym none), (c.args.self.now, inl refl, sym (append-nil c.args.self.now)))

pub returns-in-Err-append_block-clause-refused : goal.returns-in-Err-append_block-clause-refused
returns-in-Err-append_block-clause-refused g c =
    let moved : c.in-Ok.block.items ≡ c.args.other.now = search rules in let refused = c.in-Err-append_block.ensures.refused in
    let capacity : (c.in-Err-append_block.rejected.error ≡ Capacity) ↔ (MAX_LEN < length c.args.self.now + length c.args.other.now)
    = subst (λ xs. (c.in-Err-append_block.rejected.error ≡ Capacity) ↔ (MAX_LEN < length c.args.self.now + length xs)) moved refused.capacity in record {
      unchanged = refused.unchanged;
      capacity = (λ e. capacity.0 (ap error_of e), λ past. ap Err (capacity.1 past));
    }
