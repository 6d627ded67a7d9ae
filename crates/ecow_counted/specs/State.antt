-- What contracts see of the counted store.
use Rattle.std.specs.Prelude.{ℕ, ◌<◌, ◌^◌, refl}
use Rattle.std.specs.Coded.{Coded, code_by, coded×, coded_ℕ}
use Rattle.ecow_model.specs.Names.{Names, IsSharing}
use Rattle.ecow_counted.specs.Standing.{names_code}

-- what each name holds, and how many elements were copied and moved
pub record CountedState (T : Type 0) : Type 0 where
  pub names : Names T
  pub copied : ℕ
  pub moved : ℕ

-- how a proof tells stores apart
abbrev pub counted_code : {T : Type 0} → Coded T → Coded (CountedState T)
counted_code {T} code =
    code_by (Names T × (ℕ × ℕ)) (coded× (names_code code) (coded× coded_ℕ coded_ℕ))
    (λ k. (k.names, (k.copied, k.moved)))
    (λ p. record { names = p.0; copied = p.1.0; moved = p.1.1 }) (λ _. refl)

-- the names of a group hold one block, and the totals fit their words
pub record IsValid {T : Type 0} (k : CountedState T) : Type 0 where
  pub sharing : IsSharing k.names
  pub copied : k.copied < 2 ^ 64
  pub moved : k.moved < 2 ^ 64
