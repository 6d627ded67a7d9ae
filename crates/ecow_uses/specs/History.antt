-- What an undo history holds, and what edits, `undo` and `redo` make of it.
use Rattle.std.specs.Prelude.{◌≡◌, List, [], ◌∷◌, ◌++◌}

-- a value, those before it, the last of them last, and those that were taken back, the next one last
pub record Timeline (T : Type 0) : Type 0 where
  pub present : T
  pub past : List T
  pub future : List T

module _ {T : Type 0} where
  -- an edit that leaves this value
  abbrev pub edited : Timeline T → T → Timeline T
  edited h value = record { present = value; past = h.past ++ h.present ∷ []; future = [] }

  -- one step back: the last of the past is the present, and the present is the next of the future
  pub record IsUndone (old new : Timeline T) : Type 0 where
    pub present : old.past ≡ new.past ++ new.present ∷ []
    pub future : new.future ≡ old.future ++ old.present ∷ []
