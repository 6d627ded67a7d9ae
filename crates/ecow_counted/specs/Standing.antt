-- What contracts see of named lists in a table of blocks.
use Rattle.std.specs.Prelude.{ℕ, Bool, List, refl}
use Rattle.std.specs.Coded.{Coded, code_by, coded×, coded_ℕ, coded_bool, coded_list}
use Rattle.std.specs.FinMap as finite
use Rattle.ecow_model.specs.Names.{Names, Holding}

-- what each name holds, and whether one more block has room in the table
pub record Standing (T : Type 0) : Type 0 where
  pub names : Names T
  pub has_room : Bool

-- how a proof tells what a name holds apart
abbrev pub holding_code : {T : Type 0} → Coded T → Coded (Holding T)
holding_code {T} code =
    code_by
    (List T × (List ℕ × ℕ))
    (coded× (coded_list code) (coded× (coded_list coded_ℕ) coded_ℕ))
    (λ h. (h.items, (h.group, h.capacity)))
    (λ p. record { items = p.0; group = p.1.0; capacity = p.1.1 })
    (λ _. refl)

-- how a proof tells apart what all names hold
abbrev pub names_code : {T : Type 0} → Coded T → Coded (Names T)
names_code code = finite.code coded_ℕ (holding_code code)

-- how a proof tells tables apart
abbrev pub standing_code : {T : Type 0} → Coded T → Coded (Standing T)
standing_code {T} code =
    code_by (Names T × Bool) (coded× (names_code code) coded_bool) (λ s. (s.names, s.has_room))
    (λ p. record { names = p.0; has_room = p.1 }) (λ _. refl)
