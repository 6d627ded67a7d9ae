use Rattle.ecow_model.proofs.CallerLemmas.{share_reads, shared_write_sets, other_lists_stay}
use Rattle.ecow_model.proofs.callers.shared_steps.Goals as goal

pub returns : goal.returns
returns g c = record { fork = share_reads; write = shared_write_sets; others = other_lists_stay }
