use Rattle.std.proofs.Common.{[]}
use Rattle.ecow_script.specs.Naming.{number_at}
use Rattle.ecow_script.proofs.NamesLemmas.{none_numbered}
use Rattle.ecow_script.proofs.names.Names.new.Goals as goal

pub invariant_of-result : goal.invariant_of-result
invariant_of-result c = (([], none_numbered (number_at c.new.result) c.new.ensures), tt)
