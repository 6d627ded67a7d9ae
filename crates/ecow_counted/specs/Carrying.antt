-- What carrying out one command in a table of blocks comes to.
use Rattle.std.specs.Prelude.{◌≡◌}
use Rattle.ecow_model.specs.Refusing.{OnRefused}
use Rattle.ecow_model.specs.Vecs.{VecUsage}
use Rattle.ecow_model.specs.CountedRun.{IsCountedUse, IsCountedVerdict, if_accepted, copied_in, moved_in}
use Rattle.ecow_model.specs.Names.{Names}
use Rattle.ecow_model.specs.declared.command.Outcome.{Outcome}
use Rattle.ecow_counted.specs.declared.commands.Carried.{Carried}

module _ {T : Type 0} where
  -- an answer for which nothing was copied or moved
  abbrev pub still : Outcome T → Carried T
  still outcome = record { outcome = outcome; copied = 0; moved = 0 }

  -- the answer and the names after it, where clones are lawful; and, also where they aren't,
  -- whether it is refused, that a refusal changes nothing, and what is counted
  pub record IsCarried (lawful : Type 0) (old : Names T) (usage : VecUsage T) (done : Carried T)
      (new : Names T) : Type 0 where
    pub step : lawful → IsCountedUse old usage done.outcome new
    pub verdict : IsCountedVerdict old usage done.outcome
    pub refused : OnRefused done.outcome (new ≡ old)
    pub copied : done.copied ≡ if_accepted done.outcome (copied_in usage old)
    pub moved : done.moved ≡ if_accepted done.outcome (moved_in usage old)
