-- What is left where the list, bytes or text in a value is lent for writing.
use Rattle.std.specs.Prelude.{ℕ, Result}
use Rattle.std.specs.Borrow.{LendsIfOk, MutBor, Fml}
use Rattle.std.specs.FinMap.{insert}
use denote.RattleType.{RattleType}
use Rattle.ecow_model.specs.Values.{Named}
use Rattle.ecow_model.specs.declared.command.Refusal.{Refusal}
use Rattle.ecow_table.specs.contracts.table.Table.{the_row}

-- what is written through r is kept as a value of its kind, unless r is a refusal
abbrev pub LendsPayload : (V K : RattleType) → (K.Denot → V.Denot) → MutBor V.Denot
    → Result (MutBor K.Denot) Refusal → Fml
LendsPayload V K wrap held r = LendsIfOk V K held r wrap held.now

-- what is written through r stands under the name as a value of its kind, unless r is a refusal
abbrev pub LendsPayloadAt : (V K : RattleType) → (K.Denot → V.Denot) → MutBor (Named V.Denot) → ℕ
    → Result (MutBor K.Denot) Refusal → Fml
LendsPayloadAt V K wrap table name r =
    LendsIfOk (the_row V) K table r (λ x. insert table.now name (wrap x)) table.now
