-- What each command on bytes does. `limit` is the greatest number of bytes that stand in the value
-- itself.
use Rattle.std.specs.Prelude.{ℕ, ◌+◌, ◌-◌, ◌*◌, Bool, true, false, ◌||◌, ◌==◌, if◌then◌else◌, nat_le, max, Some, None, List, [], ◌∷◌, ◌++◌, length, take, slice_get, slice_set, Result, Ok}
use Rattle.std.specs.List.{insert as insert_at, remove as remove_at, insert_slice, repeat}
use Rattle.std.specs.Option.{ok_or}
use Rattle.ecow_base.specs.Inline.{inline_for, inline_after, inline_shrunk}
use Rattle.ecow_model.specs.State.{Plain}
use Rattle.ecow_model.specs.Refusing.{◌>>=◌, check, allowed, Effect, becomes}
use Rattle.ecow_model.specs.Values.{as_bytes, as_text}
use Rattle.ecow_model.specs.Uses.{Observation, Rules}
use Rattle.ecow_base.specs.Plain.{plain_bytes, bytes_of}
use Rattle.ecow_base.specs.declared.plain.PlainBytes.{PlainBytes}
use Rattle.ecow_model.specs.declared.value.Value.TheVariants.{Bytes as BytesValue}
use Rattle.ecow_model.specs.declared.command.Outcome.{Outcome}
use Rattle.ecow_model.specs.declared.command.Outcome.TheVariants.{Byte, PoppedByte, Bytes, Count, Flag}
use Rattle.ecow_model.specs.declared.command.Refusal.{Refusal}
use Rattle.ecow_model.specs.declared.command.Refusal.TheVariants.{Index}
use Rattle.ecow_model.specs.declared.usage.NewValue.{NewValue}
use Rattle.ecow_model.specs.declared.usage.NewValue.TheVariants.{Always, Tried}
use Rattle.ecow_model.specs.declared.usage.Usage.{Usage}
use Rattle.ecow_model.specs.declared.usage.Usage.TheVariants.{Make, Derive, Drop, Edit, Ask}
use Rattle.ecow_model.specs.declared.bytes.BytesCommand.{BytesCommand}
use Rattle.ecow_model.specs.declared.bytes.BytesCommand.TheVariants as command
use Rattle.ecow_model.specs.declared.bytes.BytesMake.{BytesMake}
use Rattle.ecow_model.specs.declared.bytes.BytesMake.TheVariants.{New, TryInline, WithCapacity, FromList, FromEcoVec}
use Rattle.ecow_model.specs.declared.bytes.BytesDerive.{BytesDerive}
use Rattle.ecow_model.specs.declared.bytes.BytesDerive.TheVariants.{FromText, Clone, Repeat}
use Rattle.ecow_model.specs.declared.bytes.BytesEdit.{BytesEdit}
use Rattle.ecow_model.specs.declared.bytes.BytesEdit.TheVariants.{Push, Pop, Insert, Remove, Extend, InsertSlice, Truncate, Clear, Reserve, Write, ShrinkToFit}
use Rattle.ecow_model.specs.declared.bytes.BytesAsk.{BytesAsk}
use Rattle.ecow_model.specs.declared.bytes.BytesAsk.TheVariants.{Read, Len, Capacity, Contents, IsInline}

-- the byte at an index, refused past the end
abbrev pub byte_at : PlainBytes → ℕ → Result ℕ Refusal
byte_at b index = ok_or (slice_get b.bytes index) Index

-- a question that takes no memory
abbrev pub bytes_ask_is_free : BytesAsk → Bool
bytes_ask_is_free Contents = false
bytes_ask_is_free _ = true

module _ (limit : ℕ) where
  -- inline bytes, if they are within the limit
  abbrev pub try_bytes : List ℕ → Result (NewValue PlainBytes) Refusal
  try_bytes bytes = if nat_le (length bytes) limit then (do
    _ ← allowed (length bytes)
    Ok (Tried (Some (plain_bytes bytes true)))) else Ok (Tried None)

  -- the bytes that are made
  abbrev pub make_bytes : BytesMake → Result (NewValue PlainBytes) Refusal
  make_bytes New = Ok (Always (plain_bytes [] true))
  make_bytes (TryInline bytes) = try_bytes bytes
  make_bytes (WithCapacity capacity) = do
    _ ← allowed capacity
    Ok (Always (plain_bytes [] (inline_for limit capacity)))
  make_bytes (FromList bytes) = do
    _ ← allowed (length bytes)
    Ok (Always (plain_bytes bytes (inline_for limit (length bytes))))
  make_bytes (FromEcoVec bytes) = do
    _ ← allowed (length bytes)
    Ok (Always (plain_bytes bytes false))

  -- a change that takes no memory on the bytes `b`, whoever shares them
  abbrev pub bytes_edit_is_free : BytesEdit → PlainBytes → Bool
  bytes_edit_is_free (Push byte) b = inline_after limit b.inline (length b.bytes) 1
  bytes_edit_is_free Pop b = b.inline || length b.bytes == 0
  bytes_edit_is_free (Insert index byte) b = inline_after limit b.inline (length b.bytes) 1
  bytes_edit_is_free (Remove index) b = b.inline
  bytes_edit_is_free (Extend bytes) b =
      inline_after limit b.inline (length b.bytes) (length bytes) || length bytes == 0
  bytes_edit_is_free (InsertSlice index bytes) b =
      inline_after limit b.inline (length b.bytes) (length bytes)
  bytes_edit_is_free (Truncate target) b = b.inline || target == 0 || nat_le (length b.bytes) target
  bytes_edit_is_free Clear b = true
  bytes_edit_is_free (Reserve additional) b =
      inline_after limit b.inline (length b.bytes) additional
  bytes_edit_is_free (Write index byte) b = b.inline
  bytes_edit_is_free ShrinkToFit b = true

module _ {T : Type 0} (limit : ℕ) where
  -- the bytes that are made from the value of a name, which stays as it is
  abbrev pub derive_bytes : BytesDerive → Plain T → Result PlainBytes Refusal
  derive_bytes FromText value = do
    text ← as_text value
    Ok (bytes_of text)
  derive_bytes Clone value = as_bytes value
  derive_bytes (Repeat n) value = do
    b ← as_bytes value
    _ ← allowed (length b.bytes * n)
    Ok (plain_bytes (repeat n b.bytes) (inline_for limit (length b.bytes * n)))

  -- the value gets n more bytes and is `bytes` from now on, if they may be so many
  abbrev pub bytes_grow : PlainBytes → ℕ → List ℕ → Effect T PlainBytes
  bytes_grow old n bytes = do
    _ ← allowed (length bytes)
    becomes (plain_bytes bytes (inline_after limit old.inline (length old.bytes) n))

  -- what is answered, and the bytes after the change of `b`
  abbrev pub edit_bytes : BytesEdit → PlainBytes → Effect T PlainBytes
  edit_bytes (Push byte) b = bytes_grow b 1 (b.bytes ++ byte ∷ [])
  edit_bytes Pop b =
      Ok (
        PoppedByte (slice_get b.bytes (length b.bytes - 1)),
        plain_bytes (take (length b.bytes - 1) b.bytes) b.inline,
      )
  edit_bytes (Insert index byte) b = do
    _ ← check (nat_le index (length b.bytes)) Index
    bytes_grow b 1 (insert_at b.bytes index byte)
  edit_bytes (Remove index) b = do
    byte ← byte_at b index
    Ok (Byte byte, plain_bytes (remove_at b.bytes index) b.inline)
  edit_bytes (Extend bytes) b = bytes_grow b (length bytes) (b.bytes ++ bytes)
  edit_bytes (InsertSlice index bytes) b = do
    _ ← check (nat_le index (length b.bytes)) Index
    bytes_grow b (length bytes) (insert_slice b.bytes index bytes)
  edit_bytes (Truncate target) b = becomes (plain_bytes (take target b.bytes) b.inline)
  edit_bytes Clear b = becomes (plain_bytes [] b.inline)
  edit_bytes (Reserve additional) b = do
    _ ← allowed (length b.bytes + additional)
    becomes (plain_bytes b.bytes (inline_after limit b.inline (length b.bytes) additional))
  edit_bytes (Write index byte) b = do
    old ← byte_at b index
    becomes (plain_bytes (slice_set b.bytes index byte) b.inline)
  edit_bytes ShrinkToFit b =
      becomes (plain_bytes b.bytes (inline_shrunk limit b.inline (length b.bytes)))

  -- what the bytes `b` answer; the capacity that is read is the limit inline, and else not below
  -- their number
  abbrev pub ask_bytes : Observation → BytesAsk → PlainBytes → Result (Outcome T) Refusal
  ask_bytes seen (Read index) b = do
    byte ← byte_at b index
    Ok (Byte byte)
  ask_bytes seen Len b = Ok (Count (length b.bytes))
  ask_bytes seen Capacity b =
      Ok (Count (if b.inline then limit else max seen.capacity (length b.bytes)))
  ask_bytes seen Contents b = Ok (Bytes b.bytes)
  ask_bytes seen IsInline b = Ok (Flag b.inline)

  -- the rules of bytes
  abbrev pub bytes_rules : Rules T (Plain T) PlainBytes BytesMake BytesDerive BytesEdit BytesAsk
  bytes_rules = record {
    payload = as_bytes;
    wrap = BytesValue;
    make = make_bytes limit;
    derive = derive_bytes;
    edit = edit_bytes;
    ask = ask_bytes;
    edit_is_free = bytes_edit_is_free limit;
    ask_is_free = bytes_ask_is_free;
  }

-- the parts of a command
abbrev pub bytes_usage : BytesCommand → Usage BytesMake BytesDerive BytesEdit BytesAsk
bytes_usage (command.New name) = Make name New
bytes_usage (command.TryInline name bytes) = Make name (TryInline bytes)
bytes_usage (command.WithCapacity name capacity) = Make name (WithCapacity capacity)
bytes_usage (command.FromList name bytes) = Make name (FromList bytes)
bytes_usage (command.FromEcoVec name bytes) = Make name (FromEcoVec bytes)
bytes_usage (command.FromText from to) = Derive from to FromText
bytes_usage (command.Clone from to) = Derive from to Clone
bytes_usage (command.Drop name) = Drop name
bytes_usage (command.Push name byte) = Edit name (Push byte)
bytes_usage (command.Pop name) = Edit name Pop
bytes_usage (command.Insert name index byte) = Edit name (Insert index byte)
bytes_usage (command.Remove name index) = Edit name (Remove index)
bytes_usage (command.Extend name bytes) = Edit name (Extend bytes)
bytes_usage (command.InsertSlice name index bytes) = Edit name (InsertSlice index bytes)
bytes_usage (command.Truncate name target) = Edit name (Truncate target)
bytes_usage (command.Clear name) = Edit name Clear
bytes_usage (command.Reserve name additional) = Edit name (Reserve additional)
bytes_usage (command.Write name index byte) = Edit name (Write index byte)
bytes_usage (command.Read name index) = Ask name (Read index)
bytes_usage (command.Repeat from to n) = Derive from to (Repeat n)
bytes_usage (command.ShrinkToFit name) = Edit name ShrinkToFit
bytes_usage (command.Len name) = Ask name Len
bytes_usage (command.Capacity name) = Ask name Capacity
bytes_usage (command.Contents name) = Ask name Contents
bytes_usage (command.IsInline name) = Ask name IsInline
