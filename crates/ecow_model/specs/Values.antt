-- What stands under names, and the tests that a name passes.
use Rattle.std.specs.Prelude.{ℕ, if◌then◌else◌, Result, Ok, Err}
use Rattle.std.specs.Ordering.{nat_cmp}
use Rattle.std.specs.FinMap.{FinMap, get, contains_key}
use Rattle.std.specs.Option.{ok_or}
use Rattle.ecow_model.specs.Refusing.{◌>>=◌}
use Rattle.ecow_model.specs.declared.value.Value.{Value}
use Rattle.ecow_model.specs.declared.value.Value.TheVariants.{Vec as VecValue, Bytes as BytesValue, Text as TextValue}
use Rattle.ecow_model.specs.declared.command.Refusal.{Refusal}
use Rattle.ecow_model.specs.declared.command.Refusal.TheVariants.{NoName, Taken, Kind}

-- what stands under each name
abbrev pub Named : Type 0 → Type 0
Named V = FinMap nat_cmp V

-- what stands under a name, refused where the name isn't there
abbrev pub there : {V : Type 0} → Named V → ℕ → Result V Refusal
there old name = ok_or (get old name) NoName

-- refused where the name is there
abbrev pub unused : {V : Type 0} → Named V → ℕ → Result (Unit {0}) Refusal
unused old name = if contains_key old name then Err Taken else Ok tt

-- refused where the value is of another kind
abbrev pub as_vec : {L B S : Type 0} → Value L B S → Result L Refusal
as_vec (VecValue xs) = Ok xs
as_vec (BytesValue b) = Err Kind
as_vec (TextValue t) = Err Kind

-- the bytes of a value, refused where it is of another kind
abbrev pub as_bytes : {L B S : Type 0} → Value L B S → Result B Refusal
as_bytes (VecValue xs) = Err Kind
as_bytes (BytesValue b) = Ok b
as_bytes (TextValue t) = Err Kind

-- the text of a value, refused where it is of another kind
abbrev pub as_text : {L B S : Type 0} → Value L B S → Result S Refusal
as_text (VecValue xs) = Err Kind
as_text (BytesValue b) = Err Kind
as_text (TextValue t) = Ok t

-- the list under a name
abbrev pub vec_at : {L B S : Type 0} → Named (Value L B S) → ℕ → Result L Refusal
vec_at old name = there old name >>= as_vec
