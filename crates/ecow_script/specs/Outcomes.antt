-- What a reader answers, beside what a form gives.
use Rattle.std.specs.Prelude.{◌≡◌, Option, Some, None, Result, Ok, Err, List, Vec}
use Rattle.ecow_script.specs.declared.reason.Reason.{Reason}
use Rattle.ecow_script.specs.declared.reason.Misfit.{Misfit}
use Rattle.ecow_script.specs.declared.reason.Misfit.TheVariants.{Expected, Memory}

-- a reader fails where the form does, and for its reason, unless memory ran out
abbrev pub Fails : {A : Type 0} → Misfit → Result A Reason → Type 0
Fails (Expected reason) form = form ≡ Err reason
Fails Memory form = Unit {0}

-- a word's value, or that it spells none, unless memory ran out
abbrev pub Spells : {A : Type 0} → Reason → Result A Misfit → Option A → Type 0
Spells reason (Ok x) form = form ≡ Some x
Spells reason (Err Memory) form = Unit {0}
Spells reason (Err (Expected other)) form = (form ≡ None) × (other ≡ reason)

-- a word's values in a vector, or that it spells none, unless memory ran out
abbrev pub SpellsItems : {A Z : Type 0} → Reason → Result (Vec A Z) Misfit → Option (List A)
    → Type 0
SpellsItems reason (Ok v) form = form ≡ Some v.items
SpellsItems reason (Err Memory) form = Unit {0}
SpellsItems reason (Err (Expected other)) form = (form ≡ None) × (other ≡ reason)
