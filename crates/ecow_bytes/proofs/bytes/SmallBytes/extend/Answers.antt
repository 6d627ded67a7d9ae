use Rattle.std.proofs.Common.{length, ap, ◌∙◌, length-append}
use Rattle.ecow_list.specs.Vectors.{Appends}
use Rattle.ecow_list.proofs.Fronts.{refused_at}
use Rattle.ecow_bytes.proofs.bytes.SmallBytes.extend.Goals as goal

pub returns-clause-refused : goal.returns-clause-refused
returns-clause-refused g c =
    refused_at g.I.IntoIterator.into_iter_gives g.I.IntoIter.Iterator.next_gives c.args.iter Appends
    c.into_iter.result c.args.self.now.bytes c.extend_from.new.self.bytes c.extend_from.result c.extend_from.new.iter
    (λ xs went. ap length went ∙ length-append c.args.self.now.bytes xs) c.into_iter.ensures.into_iter_gives c.extend_from.ensures.bytes
