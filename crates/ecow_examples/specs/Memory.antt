-- Values on which memory may be wanting.
use Rattle.std.specs.Prelude.{ℕ, Bool, [], ◌∷◌, replicate}
use Rattle.ecow_model.specs.Names.{Names}
use Rattle.ecow_base.specs.Plain.{plain_bytes}
use Rattle.ecow_base.specs.declared.plain.PlainBytes.{PlainBytes}
use Rattle.ecow_model.specs.declared.vecs.VecCommand.TheVariants.{FromList, Clone}
use Rattle.ecow_examples.specs.Tables.{left_by}

-- a list of 1, 2 and 3 in a block with room for four
abbrev pub three_of_four : Names ℕ
three_of_four = left_by (FromList 0 (1 ∷ 2 ∷ 3 ∷ []) ∷ [])

-- a list that fills its block
abbrev pub four_of_four : Names ℕ
four_of_four = left_by (FromList 0 (1 ∷ 2 ∷ 3 ∷ 4 ∷ []) ∷ [])

-- a block that the names 0 and 1 share
abbrev pub shared_block : Names ℕ
shared_block = left_by (FromList 0 (1 ∷ 2 ∷ 3 ∷ []) ∷ Clone 0 1 ∷ [])

-- so many bytes, inline or spilled
abbrev pub bytes_of_number : ℕ → Bool → PlainBytes
bytes_of_number n inline = plain_bytes (replicate n 7) inline
