use Rattle.ecow_counted.proofs.Bounds.{run_shares, copies_at_most_eagerly, moves_are_paid, copies_from_nothing, moves_from_nothing}
use Rattle.ecow_counted.proofs.laws.runs_are_paid.Goals as goal

pub returns : goal.returns
returns g c =
    record {
      sharing = run_shares;
      copies = copies_at_most_eagerly;
      moves = moves_are_paid;
      copies_from_nothing = copies_from_nothing;
      moves_from_nothing = moves_from_nothing;
    }
