-- How the elements of a tree come, block by block.
use Rattle.std.specs.Prelude.{◌≡◌, ◌<◌, List, [], Option, ◌++◌, length}
use Rattle.std.specs.Option.{MatchOption}
use denote.Ref.{Bor}

-- the next elements of those that were left come, at least one; or none was left
abbrev pub YieldsRun : {T : Type 0} → List T → Option (Bor (List T)) → List T → Type 0
YieldsRun old run new = MatchOption run ((old ≡ []) × (new ≡ []))
    (λ run. (0 < length run.now) × (old ≡ run.now ++ new))

-- the same from the back
abbrev pub YieldsLastRun : {T : Type 0} → List T → Option (Bor (List T)) → List T → Type 0
YieldsLastRun old run new = MatchOption run ((old ≡ []) × (new ≡ []))
    (λ run. (0 < length run.now) × (old ≡ new ++ run.now))
