use Rattle.ecow_model.proofs.CallerLemmas.{fork_reads, write_sets, others_stay}
use Rattle.ecow_model.proofs.callers.plain_steps.Goals as goal

pub returns : goal.returns
returns g c = record { fork = fork_reads; write = write_sets; others = others_stay }
