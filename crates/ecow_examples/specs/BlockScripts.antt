-- What scripts on lists in shared blocks answer, and what they leave: owners and capacity of each
-- name, the number of blocks, copied and moved elements.
use Rattle.std.specs.Prelude.{◌≡◌, false, [], ◌∷◌, Some}
use Rattle.ecow_model.specs.declared.vecs.VecCommand.TheVariants as vec
use Rattle.ecow_model.specs.declared.command.Outcome.TheVariants as gives
use Rattle.ecow_examples.specs.Tables.{table, leaves, tally, sums}

-- three names of one list, changed apart
abbrev pub ThreeNamesEndInThreeBlocks : Type 0
ThreeNamesEndInThreeBlocks =
    table (0 ∷ 1 ∷ 2 ∷ []) (
    vec.FromList 0 (1 ∷ 2 ∷ 3 ∷ [])
    ∷ vec.Clone 0 1
    ∷ vec.Push 1 4
    ∷ vec.Clone 0 2
    ∷ vec.Truncate 2 1
    ∷ vec.Clear 0
    ∷ vec.Contents 0
    ∷ vec.Contents 1
    ∷ vec.Contents 2
    ∷ []
    )
    ≡ leaves (
    gives.Done
    ∷ gives.Done
    ∷ gives.Done
    ∷ gives.Done
    ∷ gives.Done
    ∷ gives.Done
    ∷ gives.Elements []
    ∷ gives.Elements (1 ∷ 2 ∷ 3 ∷ 4 ∷ [])
    ∷ gives.Elements (1 ∷ [])
    ∷ []
    ) (Some 1 ∷ Some 1 ∷ Some 1 ∷ []) (Some 4 ∷ Some 4 ∷ Some 4 ∷ []) 3 4 0

-- an empty block that two names share
abbrev pub AnEmptyBlockIsShared : Type 0
AnEmptyBlockIsShared =
    table (0 ∷ 1 ∷ []) (
    vec.WithCapacity 0 3
    ∷ vec.Clone 0 1
    ∷ vec.Unique 0
    ∷ []
    )
    ≡ leaves (
    gives.Done
    ∷ gives.Done
    ∷ gives.Flag false
    ∷ []
    ) (Some 2 ∷ Some 2 ∷ []) (Some 3 ∷ Some 3 ∷ []) 1 0 0

-- a block stays as long as one name holds it
abbrev pub BlocksGoWithTheirLastName : Type 0
BlocksGoWithTheirLastName =
    table (0 ∷ []) (
    vec.FromList 0 (1 ∷ 2 ∷ 3 ∷ [])
    ∷ vec.Clone 0 1
    ∷ vec.Reserve 0 0
    ∷ vec.Drop 1
    ∷ []
    )
    ≡ leaves (
    gives.Done
    ∷ gives.Done
    ∷ gives.Done
    ∷ gives.Done
    ∷ []
    ) (Some 1 ∷ []) (Some 4 ∷ []) 1 3 0

-- what these moved is paid by what was copied and by twice the input
abbrev pub PushesAfterAPopArePaid : Type 0
PushesAfterAPopArePaid =
    tally (
    vec.FromList 0 (1 ∷ 2 ∷ 3 ∷ 4 ∷ [])
    ∷ vec.Extend 0 (5 ∷ [])
    ∷ vec.Clone 0 1
    ∷ vec.Pop 0
    ∷ vec.Push 0 6
    ∷ vec.Push 0 7
    ∷ []
    )
    ≡ sums 5 5 0 9 7 4

-- each of three names that share five items pushes one: the last is sole and copies nothing
abbrev pub EachWrittenCloneIsCopiedOnce : Type 0
EachWrittenCloneIsCopiedOnce =
    tally (
    vec.FromList 0 (1 ∷ 2 ∷ 3 ∷ 4 ∷ 5 ∷ [])
    ∷ vec.Clone 0 1
    ∷ vec.Clone 0 2
    ∷ vec.Push 0 1
    ∷ vec.Push 1 1
    ∷ vec.Push 2 1
    ∷ []
    )
    ≡ sums 10 10 0 5 8 6

-- two clones that nobody writes to are still owed
abbrev pub UnwrittenClonesAreOwed : Type 0
UnwrittenClonesAreOwed =
    tally (
    vec.FromList 0 (1 ∷ 2 ∷ 3 ∷ 4 ∷ 5 ∷ [])
    ∷ vec.Clone 0 1
    ∷ vec.Clone 0 2
    ∷ []
    )
    ≡ sums 0 10 10 0 5 5

-- and cost nothing where they are dropped first
abbrev pub DroppedClonesCostNothing : Type 0
DroppedClonesCostNothing =
    tally (
    vec.FromList 0 (1 ∷ 2 ∷ 3 ∷ 4 ∷ 5 ∷ [])
    ∷ vec.Clone 0 1
    ∷ vec.Clone 0 2
    ∷ vec.Drop 1
    ∷ vec.Drop 2
    ∷ vec.Push 0 1
    ∷ []
    )
    ≡ sums 0 10 0 5 6 2

-- what sharing copies is what copying at each clone would, and the last push moves the hundred
