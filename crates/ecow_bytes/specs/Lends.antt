-- What bytes end as, where they are lent for writing.
use mathlib.Core.Option as maybe
use Rattle.std.specs.Prelude.{◌≡◌, ℕ, Bool, true, false, List, [], ◌++◌, length, take, drop, Result, IsOk, OnErr}
use Rattle.std.specs.List.{refill}
use Rattle.std.specs.Borrow.{Lends, follows_so, name_if_ok, Fml, GName, RattleType, MutBor, Array, u8 as byte}
use Rattle.ecow_base.specs.Plain.{plain_bytes}
use Rattle.ecow_base.specs.declared.plain.PlainBytes.{PlainBytes}
use Rattle.ecow_list.specs.Lends.{name_if_lent}
use Rattle.ecow_bytes.specs.Form.{plain_of}
use Rattle.ecow_bytes.specs.declared.form.Form.{Form}
use Rattle.ecow_bytes.specs.declared.form.Form.TheVariants.{Short, Full, Spilled}
use Rattle.ecow_bytes.specs.contracts.cells.Cells.{the_row as cells_row}
use Rattle.ecow_bytes.specs.contracts.few.Few.{the_row as few_row}
use Rattle.ecow_bytes.specs.contracts.form.Form.{the_row as form_row}
use Rattle.ecow_bytes.specs.contracts.bytes.SmallBytes.{the_row as bytes_row}

-- xs with ws in place of the first len, cut or filled up to as many
abbrev pub with_front : ℕ → List ℕ → List ℕ → List ℕ
with_front len xs ws = refill len (take len xs) ws ++ drop len xs

-- once the borrow r ends, what was written through r stands in place of the first len bytes
abbrev pub lends_first : MutBor (List ℕ) → ℕ → MutBor (List ℕ) → Fml
lends_first all len r = Lends (Array byte 0) (Array byte 0) all r (with_front len all.now)

module _ (N : RattleType) where
  -- once the borrow r ends, the array is what was written through r
  abbrev pub lends_all : MutBor (cells_row N).Denot → MutBor (List ℕ) → Fml
  lends_all cells r =
      Lends (cells_row N) (Array byte 0) cells r (λ written. record { bytes = written })

  -- it stands in place of the first len bytes of the array
  abbrev pub lends_front : MutBor (cells_row N).Denot → ℕ → MutBor (List ℕ) → Fml
  lends_front cells len r =
      Lends (cells_row N) (Array byte 0) cells r
      (λ written. record { bytes = with_front len cells.now.bytes written })

  -- the bytes of the list are what was written, as many as they were
  abbrev pub lends_few : MutBor (List ℕ) → MutBor (List ℕ) → Fml
  lends_few v r = Lends (few_row N) (Array byte 0) v r (refill (length v.now) v.now)

-- the name of what is lent: inline bytes have one, and spilled bytes where there are some
abbrev pub name_given : {E : Type 0} → Bool → Result (MutBor (List ℕ)) E → maybe.Option GName
name_given true r = name_if_ok (λ s. s.ghost_name) r
name_given false r = name_if_lent r

-- a form with as many other bytes in place of its own
abbrev pub with_bytes : {N : ℕ} → Form N → List ℕ → Form N
with_bytes (Short few) xs = Short (refill (length few) few xs)
with_bytes (Full cells) xs = Full (record { bytes = xs })
with_bytes (Spilled v) xs = Spilled xs

module _ (N : RattleType) where
  -- inline bytes are what was written
  abbrev pub lends_inline : MutBor (form_row N).Denot → MutBor (List ℕ) → Fml
  lends_inline v r = Lends (form_row N) (Array byte 0) v r (with_bytes v.now)

  -- the form has the bytes that were written last through the slice, as many as there were; at
  -- `Err` it stays
  abbrev pub lends_form : MutBor (form_row N).Denot → {E : Type 0} → Result (MutBor (List ℕ)) E
      → Fml
  lends_form v r =
      follows_so (form_row N) (Array byte 0) v.ghost_name (name_given (plain_of v.now).inline r)
      (λ written n. IsOk r → length written ≡ length (plain_of v.now).bytes
      → n ≡ with_bytes v.now written)
      (λ n. OnErr r (n ≡ v.now) × ((plain_of v.now).bytes ≡ [] → n ≡ v.now))

  -- the bytes are those of the form
  abbrev pub lends_whole : MutBor PlainBytes → MutBor (form_row N).Denot → Fml
  lends_whole v r = Lends (bytes_row N) (form_row N) v r plain_of

  -- the bytes are those that were written last through the slice, as many as there were, in their
  -- mode; where there are none, none come, and at `Err` they stay
  abbrev pub lends_bytes : MutBor PlainBytes → {E : Type 0} → Result (MutBor (List ℕ)) E → Fml
  lends_bytes v r =
      follows_so (bytes_row N) (Array byte 0) v.ghost_name (name_given v.now.inline r)
      (λ written n. IsOk r → length written ≡ length v.now.bytes
      → n ≡ plain_bytes written v.now.inline)
      (λ n. OnErr r (n ≡ v.now) × (v.now.bytes ≡ [] → n ≡ v.now))
