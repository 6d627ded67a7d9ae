use Rattle.std.proofs.Common.{length, ap, subst, sym, ◌∙◌}
use Rattle.ecow_nested.specs.Index.{NotesGaps}
use Rattle.ecow_nested.proofs.Held.{gaps_counted, gaps_within}
use Rattle.ecow_nested.proofs.fields.Fields.len.Goals as goal

pub overflow_sub-result : goal.overflow_sub-result
overflow_sub-result g c =
    gaps_within c.as_slice-entries.result.now c.gaps_of.result.now c.gaps_of.ensures
    (subst (λ es. NotesGaps es) (sym c.as_slice-entries.ensures) c.self.invariant.1)

pub returns : goal.returns
returns g c =
    gaps_counted c.as_slice-entries.result.now c.gaps_of.result.now c.gaps_of.ensures
    (subst (λ es. NotesGaps es) (sym c.as_slice-entries.ensures) c.self.invariant.1)
    ∙ ap length (rw c.as_slice-entries.ensures c.self.view_is)
