-- What each command on texts does. A text is a list of characters, and `limit` the greatest number
-- of UTF-8 bytes that stand in the value itself.
-- A character is a Unicode scalar value: a number below 1114112, outside 55296 to 57343.
use Rattle.std.specs.Prelude.{ℕ, ◌+◌, ◌-◌, ◌*◌, Bool, true, false, ◌||◌, ◌==◌, if◌then◌else◌, nat_le, nat_lt, max, Some, None, List, [], ◌∷◌, ◌++◌, map, length, take, slice_get, Result, Ok}
use Rattle.std.specs.List.{insert as insert_at, remove as remove_at, insert_slice, repeat}
use Rattle.std.specs.Char.{len_utf8, to_ascii_lowercase, to_ascii_uppercase}
use Rattle.std.specs.Str.{is_utf8}
use Rattle.std.specs.Option.{ok_or}
use Rattle.ecow_base.specs.Inline.{inline_for, inline_after, inline_shrunk}
use Rattle.ecow_base.specs.Utf8.{utf8_len, chars_before, is_boundary}
use Rattle.ecow_base.specs.Replaced.{replacen}
use Rattle.ecow_model.specs.State.{Plain}
use Rattle.ecow_model.specs.Refusing.{◌>>=◌, check, allowed, Effect, becomes}
use Rattle.ecow_model.specs.Values.{as_bytes, as_text}
use Rattle.ecow_model.specs.Uses.{Observation, Rules}
use Rattle.ecow_base.specs.Plain.{plain_text, text_of}
use Rattle.ecow_base.specs.declared.plain.PlainBytes.{PlainBytes}
use Rattle.ecow_base.specs.declared.plain.PlainText.{PlainText}
use Rattle.ecow_model.specs.declared.value.Value.TheVariants.{Text as TextValue}
use Rattle.ecow_model.specs.declared.command.Outcome.{Outcome}
use Rattle.ecow_model.specs.declared.command.Outcome.TheVariants.{Char, PoppedChar, Text as Texted, Count, Flag}
use Rattle.ecow_model.specs.declared.command.Refusal.{Refusal}
use Rattle.ecow_model.specs.declared.command.Refusal.TheVariants.{Boundary, NotUtf8}
use Rattle.ecow_model.specs.declared.usage.NewValue.{NewValue}
use Rattle.ecow_model.specs.declared.usage.NewValue.TheVariants.{Always, Tried}
use Rattle.ecow_model.specs.declared.usage.Usage.{Usage}
use Rattle.ecow_model.specs.declared.usage.Usage.TheVariants.{Make, Derive, Drop, Edit, Ask}
use Rattle.ecow_model.specs.declared.texts.TextCommand.{TextCommand}
use Rattle.ecow_model.specs.declared.texts.TextCommand.TheVariants as command
use Rattle.ecow_model.specs.declared.texts.TextMake.{TextMake}
use Rattle.ecow_model.specs.declared.texts.TextMake.TheVariants.{New, TryInline, WithCapacity, FromStr, FromChar}
use Rattle.ecow_model.specs.declared.texts.TextDerive.{TextDerive}
use Rattle.ecow_model.specs.declared.texts.TextDerive.TheVariants.{FromBytes, Clone, Replace, Repeat, ToAsciiLower, ToAsciiUpper}
use Rattle.ecow_model.specs.declared.texts.TextEdit.{TextEdit}
use Rattle.ecow_model.specs.declared.texts.TextEdit.TheVariants.{Push, Pop, PushStr, Insert, InsertStr, Remove, Truncate, Clear, Reserve, AsciiLower, AsciiUpper, ShrinkToFit}
use Rattle.ecow_model.specs.declared.texts.TextAsk.{TextAsk}
use Rattle.ecow_model.specs.declared.texts.TextAsk.TheVariants.{Len, Capacity, Contents, IsInline}

-- the text of which bytes are the UTF-8, in their mode; refused where they are not UTF-8
abbrev pub text_from_bytes : PlainBytes → Result PlainText Refusal
text_from_bytes b = do
  _ ← check (is_utf8 b.bytes) NotUtf8
  Ok (text_of b)

-- the text in ASCII lower or upper case, in its mode
abbrev pub to_ascii_lower : PlainText → PlainText
to_ascii_lower t = plain_text (map to_ascii_lowercase t.chars) t.inline

-- the text with the letters a to z in upper case
abbrev pub to_ascii_upper : PlainText → PlainText
to_ascii_upper t = plain_text (map to_ascii_uppercase t.chars) t.inline

-- a question that takes no memory
abbrev pub text_ask_is_free : TextAsk → Bool
text_ask_is_free Contents = false
text_ask_is_free _ = true

module _ (limit : ℕ) where
  -- an inline text, if its bytes are within the limit
  abbrev pub try_text : List ℕ → Result (NewValue PlainText) Refusal
  try_text text = if nat_le (utf8_len text) limit then (do
    _ ← allowed (utf8_len text)
    Ok (Tried (Some (plain_text text true)))) else Ok (Tried None)

  -- characters whose mode goes by their bytes, if these may be so many
  abbrev pub text_by_length : List ℕ → Result PlainText Refusal
  text_by_length cs = do
    _ ← allowed (utf8_len cs)
    Ok (plain_text cs (inline_for limit (utf8_len cs)))

  -- the text that is made
  abbrev pub make_text : TextMake → Result (NewValue PlainText) Refusal
  make_text New = Ok (Always (plain_text [] true))
  make_text (TryInline text) = try_text text
  make_text (WithCapacity capacity) = do
    _ ← allowed capacity
    Ok (Always (plain_text [] (inline_for limit capacity)))
  make_text (FromStr text) = do
    t ← text_by_length text
    Ok (Always t)
  make_text (FromChar c) = do
    t ← text_by_length (c ∷ [])
    Ok (Always t)

  -- a change that takes no memory on the text `t`, whoever shares its bytes
  abbrev pub text_edit_is_free : TextEdit → PlainText → Bool
  text_edit_is_free (Push c) t = inline_after limit t.inline (utf8_len t.chars) (len_utf8 c)
  text_edit_is_free Pop t = t.inline || length t.chars == 0
  text_edit_is_free (PushStr text) t =
      inline_after limit t.inline (utf8_len t.chars) (utf8_len text) || length text == 0
  text_edit_is_free (Insert index c) t = inline_after limit t.inline (utf8_len t.chars) (len_utf8 c)
  text_edit_is_free (InsertStr index text) t =
      inline_after limit t.inline (utf8_len t.chars) (utf8_len text)
  text_edit_is_free (Remove index) t = t.inline
  text_edit_is_free (Truncate target) t =
      t.inline || target == 0 || nat_le (utf8_len t.chars) target
  text_edit_is_free Clear t = true
  text_edit_is_free (Reserve additional) t =
      inline_after limit t.inline (utf8_len t.chars) additional
  text_edit_is_free AsciiLower t = t.inline
  text_edit_is_free AsciiUpper t = t.inline
  text_edit_is_free ShrinkToFit t = true

module _ {T : Type 0} (limit : ℕ) where
  -- the text that is made from the value of a name, which stays as it is
  abbrev pub derive_text : TextDerive → Plain T → Result PlainText Refusal
  derive_text FromBytes value = do
    b ← as_bytes value
    text_from_bytes b
  derive_text Clone value = as_text value
  derive_text (Replace pattern replacement count) value = do
    t ← as_text value
    text_by_length limit (replacen count pattern replacement t.chars)
  derive_text (Repeat n) value = do
    t ← as_text value
    _ ← allowed (utf8_len t.chars * n)
    Ok (plain_text (repeat n t.chars) (inline_for limit (utf8_len t.chars * n)))
  derive_text ToAsciiLower value = do
    t ← as_text value
    Ok (to_ascii_lower t)
  derive_text ToAsciiUpper value = do
    t ← as_text value
    Ok (to_ascii_upper t)

  -- the text gets n more bytes and is `cs` from now on, if its bytes may be so many
  abbrev pub text_grows : PlainText → ℕ → List ℕ → Effect T PlainText
  text_grows old n cs = do
    _ ← allowed (utf8_len cs)
    becomes (plain_text cs (inline_after limit old.inline (utf8_len old.chars) n))

  -- what is answered, and the text after the change of `t`
  abbrev pub edit_text : TextEdit → PlainText → Effect T PlainText
  edit_text (Push c) t = text_grows t (len_utf8 c) (t.chars ++ c ∷ [])
  edit_text Pop t =
      Ok (
        PoppedChar (slice_get t.chars (length t.chars - 1)),
        plain_text (take (length t.chars - 1) t.chars) t.inline,
      )
  edit_text (PushStr text) t = text_grows t (utf8_len text) (t.chars ++ text)
  edit_text (Insert index c) t = do
    _ ← check (is_boundary t.chars index) Boundary
    text_grows t (len_utf8 c) (insert_at t.chars (chars_before t.chars index) c)
  edit_text (InsertStr index text) t = do
    _ ← check (is_boundary t.chars index) Boundary
    text_grows t (utf8_len text) (insert_slice t.chars (chars_before t.chars index) text)
  edit_text (Remove index) t = do
    _ ← check (is_boundary t.chars index) Boundary
    c ← ok_or (slice_get t.chars (chars_before t.chars index)) Boundary
    Ok (Char c, plain_text (remove_at t.chars (chars_before t.chars index)) t.inline)
  edit_text (Truncate target) t = do
    _ ← check (is_boundary t.chars target || nat_lt (utf8_len t.chars) target) Boundary
    becomes (plain_text (take (chars_before t.chars target) t.chars) t.inline)
  edit_text Clear t = becomes (plain_text [] t.inline)
  edit_text (Reserve additional) t = do
    _ ← allowed (utf8_len t.chars + additional)
    becomes (plain_text t.chars (inline_after limit t.inline (utf8_len t.chars) additional))
  edit_text AsciiLower t = becomes (to_ascii_lower t)
  edit_text AsciiUpper t = becomes (to_ascii_upper t)
  edit_text ShrinkToFit t =
      becomes (plain_text t.chars (inline_shrunk limit t.inline (utf8_len t.chars)))

  -- what the text `t` answers; the capacity that is read is the limit inline, and else not below
  -- the number of its bytes
  abbrev pub ask_text : Observation → TextAsk → PlainText → Result (Outcome T) Refusal
  ask_text seen Len t = Ok (Count (utf8_len t.chars))
  ask_text seen Capacity t =
      Ok (Count (if t.inline then limit else max seen.capacity (utf8_len t.chars)))
  ask_text seen Contents t = Ok (Texted t.chars)
  ask_text seen IsInline t = Ok (Flag t.inline)

  -- the rules of texts
  abbrev pub text_rules : Rules T (Plain T) PlainText TextMake TextDerive TextEdit TextAsk
  text_rules = record {
    payload = as_text;
    wrap = TextValue;
    make = make_text limit;
    derive = derive_text;
    edit = edit_text;
    ask = ask_text;
    edit_is_free = text_edit_is_free limit;
    ask_is_free = text_ask_is_free;
  }

-- the parts of a command
abbrev pub text_usage : TextCommand → Usage TextMake TextDerive TextEdit TextAsk
text_usage (command.New name) = Make name New
text_usage (command.TryInline name text) = Make name (TryInline text)
text_usage (command.WithCapacity name capacity) = Make name (WithCapacity capacity)
text_usage (command.FromStr name text) = Make name (FromStr text)
text_usage (command.FromChar name c) = Make name (FromChar c)
text_usage (command.FromBytes from to) = Derive from to FromBytes
text_usage (command.Clone from to) = Derive from to Clone
text_usage (command.Drop name) = Drop name
text_usage (command.Push name c) = Edit name (Push c)
text_usage (command.Pop name) = Edit name Pop
text_usage (command.PushStr name text) = Edit name (PushStr text)
text_usage (command.Insert name index c) = Edit name (Insert index c)
text_usage (command.InsertStr name index text) = Edit name (InsertStr index text)
text_usage (command.Remove name index) = Edit name (Remove index)
text_usage (command.Truncate name target) = Edit name (Truncate target)
text_usage (command.Clear name) = Edit name Clear
text_usage (command.Reserve name additional) = Edit name (Reserve additional)
text_usage (command.Replace from to pattern replacement count) =
    Derive from to (Replace pattern replacement count)
text_usage (command.Repeat from to n) = Derive from to (Repeat n)
text_usage (command.AsciiLower name) = Edit name AsciiLower
text_usage (command.AsciiUpper name) = Edit name AsciiUpper
text_usage (command.ToAsciiLower from to) = Derive from to ToAsciiLower
text_usage (command.ToAsciiUpper from to) = Derive from to ToAsciiUpper
text_usage (command.ShrinkToFit name) = Edit name ShrinkToFit
text_usage (command.Len name) = Ask name Len
text_usage (command.Capacity name) = Ask name Capacity
text_usage (command.Contents name) = Ask name Contents
text_usage (command.IsInline name) = Ask name IsInline
