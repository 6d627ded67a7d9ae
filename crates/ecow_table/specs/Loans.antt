-- What is left where a value in a table is lent for writing.
use Rattle.std.specs.Prelude.{ℕ, Option}
use Rattle.std.specs.Borrow.{LendsIf, MutBor, Fml}
use Rattle.std.specs.FinMap.{FinMap, insert}
use Rattle.std.specs.Ordering.{nat_cmp}
use denote.RattleType.{RattleType}
use Rattle.ecow_table.specs.contracts.table.Table.{the_row}

-- what is written through r stands under the name, if it lends a value
abbrev pub LendsValue : (V : RattleType) → MutBor (FinMap nat_cmp V.Denot) → ℕ
    → Option (MutBor V.Denot) → Fml
LendsValue V table name r =
    LendsIf (the_row V) V table r (insert table.now name) table.now
