-- Why a vector is no array.
use Rattle.std.specs.Prelude.{◌≡◌, List}
use Rattle.ecow_list.specs.declared.error.EcoError.TheVariants.{Memory}
use Rattle.ecow_list.specs.declared.error.IntoArray.{IntoArray}
use Rattle.ecow_list.specs.declared.error.IntoArray.TheVariants.{Length, Refused}

module _ {T : Type 0} where
  -- the vector has another length
  abbrev pub IsLength : IntoArray T → Type 0
  IsLength (Length ys) = Unit {0}
  IsLength (Refused e ys) = ⊥

  -- the vector is handed back
  abbrev pub HandsBack : IntoArray T → List T → Type 0
  HandsBack (Length ys) xs = ys ≡ xs
  HandsBack (Refused e ys) xs = ys ≡ xs

  -- there was no memory, unless the length is another
  abbrev pub IsForMemory : IntoArray T → Type 0
  IsForMemory (Length ys) = Unit {0}
  IsForMemory (Refused e ys) = e ≡ Memory
