use Rattle.std.proofs.Common.{ap, sym, subst, ◌∙◌}
use Rattle.ecow_counted.specs.Places.{IsTable, names_of}
use Rattle.ecow_counted.proofs.Updates.{no_names, empty_table}
use Rattle.ecow_counted.proofs.blocks.Blocks.new.Goals as goal

pub invariant_of-result : goal.invariant_of-result
invariant_of-result g c = subst (λ m. IsTable m c.new-2.result) (sym c.new.ensures) (empty_table c.new-2.result c.new-2.ensures.empty)

pub returns : goal.returns
returns g c = ap (λ m. names_of m c.new-2.result) c.new.ensures ∙ no_names c.new-2.result c.new-2.ensures.empty
