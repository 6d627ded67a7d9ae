use Rattle.std.proofs.Common.{◌≡◌, ℕ, List, drop}
use Rattle.std.specs.Option.{option_or}
use Rattle.ecow_nested.specs.Values.{field_of, look_up}
use Rattle.ecow_uses.proofs.layers.merge.Given as goal

abbrev pub invariant-loop-index : goal.invariant-loop-index
invariant-loop-index l = (name : List ℕ) → field_of l.changed name
    ≡ option_or (look_up name (drop l.index l.layer)) (field_of l.fn.settings name)
