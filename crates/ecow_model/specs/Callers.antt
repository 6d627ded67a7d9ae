-- What a caller asks of a command.
use Rattle.std.specs.Prelude.{◌≡◌, ◌≢◌, ℕ, List, Option, slice_set}
use Rattle.std.specs.Option.{option_map}
use Rattle.ecow_model.specs.Bytes.{bytes_usage}
use Rattle.ecow_model.specs.Texts.{text_usage}
use Rattle.ecow_model.specs.Vecs.{vec_usage}
use Rattle.ecow_model.specs.declared.command.Command.{Command}
use Rattle.ecow_model.specs.declared.command.Command.TheVariants.{Vec, Bytes, Text}
use Rattle.ecow_model.specs.declared.command.Outcome.{Outcome}
use Rattle.ecow_model.specs.declared.command.Outcome.TheVariants.{Done}
use Rattle.ecow_model.specs.declared.usage.Usage.{Usage}
use Rattle.ecow_model.specs.declared.usage.Usage.TheVariants.{Make, Derive, Drop, Edit, Ask}
use Rattle.ecow_model.specs.declared.vecs.VecCommand.{VecCommand}
use Rattle.ecow_model.specs.declared.vecs.VecCommand.TheVariants.{Clone, Write}

-- the command neither makes, changes nor drops what stands under this name
abbrev pub LeavesName : {M D E Q : Type 0} → Usage M D E Q → ℕ → Type 0
LeavesName (Make name how) q = q ≢ name
LeavesName (Derive from to how) q = q ≢ to
LeavesName (Drop name) q = q ≢ name
LeavesName (Edit name edit) q = q ≢ name
LeavesName (Ask name question) q = Unit {0}

-- the same of a command on any kind of value
abbrev pub Leaves : {T : Type 0} → Command T → ℕ → Type 0
Leaves (Vec c) q = LeavesName (vec_usage c) q
Leaves (Bytes c) q = LeavesName (bytes_usage c) q
Leaves (Text c) q = LeavesName (text_usage c) q

-- commands on lists, by the values before, the command, its outcome and the values after; and what
-- a name reads as among some values
module _ {T S R : Type 0} (Step : S → VecCommand T → Outcome T → S → Type 0)
    (read : S → ℕ → R) where
  -- a fork reads as its source did
  abbrev pub ForksRead : Type 0
  ForksRead =
      (old new : S) (outcome : Outcome T) (from to : ℕ) → Step old (Clone from to) outcome new
      → outcome ≡ Done → read new to ≡ read old from

  -- all other names read as they did
  abbrev pub OthersStay : Type 0
  OthersStay =
      (old new : S) (outcome : Outcome T) (command : VecCommand T) (name : ℕ)
      → Step old command outcome new → LeavesName (vec_usage command) name
      → read new name ≡ read old name

module _ {T S : Type 0} (Step : S → VecCommand T → Outcome T → S → Type 0)
    (list : S → ℕ → Option (List T)) where
  -- a write sets one element
  abbrev pub WritesSet : Type 0
  WritesSet =
      (old new : S) (outcome : Outcome T) (name index : ℕ) (value : T)
      → Step old (Write name index value) outcome new → outcome ≡ Done
      → list new name ≡ option_map (λ xs. slice_set xs index value) (list old name)
