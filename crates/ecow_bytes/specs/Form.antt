-- The bytes and the mode of each form.
use Rattle.std.specs.Prelude.{ℕ, true, false}
use Rattle.ecow_base.specs.Plain.{plain_bytes}
use Rattle.ecow_base.specs.declared.plain.PlainBytes.{PlainBytes}
use Rattle.ecow_bytes.specs.declared.form.Form.{Form}
use Rattle.ecow_bytes.specs.declared.form.Form.TheVariants.{Short, Full, Spilled}

-- bytes in the value itself are inline, and those of a vector are not
abbrev pub plain_of : {N : ℕ} → Form N → PlainBytes
plain_of (Short few) = plain_bytes few true
plain_of (Full cells) = plain_bytes cells.bytes true
plain_of (Spilled v) = plain_bytes v false
