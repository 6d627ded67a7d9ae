-- What a pointer from C owns, once a borrow of the value there has ended: the pointer stays, and
-- the value is the one that was lent.
use Rattle.std.specs.Prelude.{List, ℕ, ℤ, Option, Some}
use Rattle.std.specs.Borrow.{LendsIf, Fml, MutBor}
use Rattle.ecow_base.specs.declared.plain.PlainBytes.{PlainBytes}
use Rattle.ecow_base.specs.declared.plain.PlainText.{PlainText}
use Rattle.ecow_nested.specs.declared.value.Value.{Value}
use Rattle.ecow_c.specs.Rows.{list_row, array_row, bytes_row, text_row, texts_row, value_row}
use Rattle.ecow_c.specs.contracts.pointer.ListPointer.{the_row as list_pointer}
use Rattle.ecow_c.specs.contracts.pointer.ArrayPointer.{the_row as array_pointer}
use Rattle.ecow_c.specs.contracts.pointer.BytesPointer.{the_row as bytes_pointer}
use Rattle.ecow_c.specs.contracts.pointer.TextPointer.{the_row as text_pointer}
use Rattle.ecow_c.specs.contracts.pointer.TextsPointer.{the_row as texts_pointer}
use Rattle.ecow_c.specs.contracts.pointer.ValuePointer.{the_row as value_pointer}

abbrev pub lends_list : MutBor list_pointer.Denot → Option (MutBor (List ℤ)) → Fml
lends_list pointer lent =
    LendsIf list_pointer list_row pointer lent
    (λ numbers. record { at = pointer.now.at; value = Some numbers }) pointer.now

abbrev pub lends_array : MutBor array_pointer.Denot → Option (MutBor (List ℕ)) → Fml
lends_array pointer lent =
    LendsIf array_pointer array_row pointer lent
    (λ bytes. record { at = pointer.now.at; value = Some bytes }) pointer.now

abbrev pub lends_bytes : MutBor bytes_pointer.Denot → Option (MutBor PlainBytes) → Fml
lends_bytes pointer lent =
    LendsIf bytes_pointer bytes_row pointer lent
    (λ bytes. record { at = pointer.now.at; value = Some bytes }) pointer.now

abbrev pub lends_text : MutBor text_pointer.Denot → Option (MutBor PlainText) → Fml
lends_text pointer lent =
    LendsIf text_pointer text_row pointer lent
    (λ text. record { at = pointer.now.at; value = Some text }) pointer.now

abbrev pub lends_texts : MutBor texts_pointer.Denot → Option (MutBor (List PlainText)) → Fml
lends_texts pointer lent =
    LendsIf texts_pointer texts_row pointer lent
    (λ texts. record { at = pointer.now.at; value = Some texts }) pointer.now

abbrev pub lends_value : MutBor value_pointer.Denot → Option (MutBor Value) → Fml
lends_value pointer lent =
    LendsIf value_pointer value_row pointer lent
    (λ value. record { at = pointer.now.at; value = Some value }) pointer.now
