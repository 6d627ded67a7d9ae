-- A range of a list starts and ends within it.
use Rattle.std.proofs.Common.{◌≡◌, ℕ, ◌+◌, ◌<◌, ◌≤◌, Bool, true, false, Option, Some, None, refl, ap, arith, if◌then◌else◌}
use Rattle.std.specs.Prelude.{nat_lt, nat_le, option_and_then}
use Rattle.std.proofs.lemmas.Bool.{ltb-true, leb-true}
use Rattle.std.proofs.lemmas.Option.{none-some, same_Some}
use Rattle.std.specs.declared.ops.Bound.{Bound}
use Rattle.std.specs.declared.ops.Bound.TheVariants.{Included, Excluded, Unbounded}
use Rattle.ecow_base.specs.Range.{range_of, end_of, start_of}

pick : (b : Bool) (k v : ℕ) → (if b then Some k else None) ≡ Some v → (b ≡ true) × (k ≡ v)
pick true k v e = (refl, same_Some k v e)
pick false k v e = absurd (none-some v e)

end_fits : (bound : Bound ℕ) (n v : ℕ) → end_of bound n ≡ Some v → v ≤ n
end_fits (Included e) n v h = let p = pick (nat_lt e n) (e + 1) v h in let lt : e < n = ltb-true e n p.0 in omega (arith, p.1)
end_fits (Excluded e) n v h = let p = pick (nat_le e n) e v h in let le : e ≤ n = leb-true e n p.0 in omega (arith, p.1)
end_fits Unbounded n v h = let same : n ≡ v = same_Some n v h in omega arith

start_fits : (bound : Bound ℕ) (n v : ℕ) → start_of bound n ≡ Some v → v ≤ n
start_fits (Excluded s) n v h = let p = pick (nat_lt s n) (s + 1) v h in let lt : s < n = ltb-true s n p.0 in omega (arith, p.1)
start_fits (Included s) n v h = let p = pick (nat_le s n) s v h in let le : s ≤ n = leb-true s n p.0 in omega (arith, p.1)
start_fits Unbounded n v h = let same : 0 ≡ v = same_Some 0 v h in omega arith

paired : (o : Option ℕ) (end : ℕ) (range : ℕ × ℕ) → option_and_then (λ start. Some (start, end)) o ≡ Some range → (o ≡ Some range.0) × (end ≡ range.1)
paired None end range h = absurd (none-some range h)
paired (Some start) end range h = let same : (start, end) ≡ range = same_Some _ range h in (ap (λ p. Some p.0) same, ap (λ p. p.1) same)

pub range_fits : (bounds : Bound ℕ × Bound ℕ) (n : ℕ) (range : ℕ × ℕ) → range_of bounds n ≡ Some range → (range.0 ≤ range.1) × (range.1 ≤ n)
range_fits bounds n range h =
    elim (end_of bounds.1 n) as (λ o. end_of bounds.1 n ≡ o
    → option_and_then (λ end. option_and_then (λ start. Some (start, end)) (start_of bounds.0 end)) o ≡ Some range
    → (range.0 ≤ range.1) × (range.1 ≤ n)) [
      | None ↦ λ _ h. absurd (none-some range h)
      | Some end ↦ λ e h.
          let p = paired (start_of bounds.0 end) end range h in
          let at_end : end ≤ n = end_fits bounds.1 n end e in
          let at_start : range.0 ≤ end = start_fits bounds.0 end range.0 p.0 in
          (omega (arith, p.1), omega (arith, p.1))
    ] refl h
