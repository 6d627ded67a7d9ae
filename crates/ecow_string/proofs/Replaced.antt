-- A text with another in place of a range that begins and ends at boundaries.
use Rattle.std.proofs.Common.{◌≡◌, ◌≤◌, ℕ, List, length, Some, true, sym, ap, arith, ◌∙◌, IsUtf8}
use Rattle.std.specs.declared.ops.Bound.{Bound}
use Rattle.std.specs.declared.ops.Bound.TheVariants.{Included, Excluded}
use Rattle.std.specs.List.{replace_range}
use Rattle.std.specs.Str.{chars}
use Rattle.ecow_base.specs.Range.{range_of}
use Rattle.ecow_base.specs.Utf8.{utf8_len, is_boundary, chars_before}
use Rattle.ecow_list.specs.Ranges.{AtRange}
use Rattle.ecow_list.proofs.Ranges.{within}
use Rattle.ecow_string.specs.Text.{AreUtf8}
use Rattle.ecow_string.proofs.Texts.{AreUtf8-replace, chars-replace}

module _ (bs ds new cs : List ℕ) (view : chars bs ≡ cs) (text : AreUtf8 bs) (put : IsUtf8 ds)
    (bounds : Bound ℕ × Bound ℕ) (len start end : ℕ) (size : len ≡ utf8_len cs)
    (found : range_of bounds len ≡ Some (start, end)) (order : (start ≤ end) × (end ≤ len))
    (cuts : AtRange bounds (utf8_len cs) (λ s e. (is_boundary cs s ≡ true) × (is_boundary cs e ≡ true)))
    (target : AtRange (Included start, Excluded end) (length bs) (λ s e. new ≡ replace_range bs s e ds)) where
  found_here : range_of bounds (utf8_len cs) ≡ Some (start, end)
  found_here = ap (range_of bounds) (sym size) ∙ found

  cuts_here : (is_boundary (chars bs) start ≡ true) × (is_boundary (chars bs) end ≡ true)
  cuts_here = rw view (rw found_here at cuts)

  fits : end ≤ length bs
  fits = omega (arith, order.1, size, ap utf8_len view, ap length text.spelling)

  made_here : new ≡ replace_range bs start end ds
  made_here = rw (within start end (length bs) order.0 fits) at target

  pub stays_utf8 : AreUtf8 new
  stays_utf8 = rw made_here (AreUtf8-replace bs ds start end text put cuts_here.0 cuts_here.1)

  pub replaced_chars : AtRange bounds (utf8_len cs) (λ s e. chars new ≡ replace_range cs (chars_before cs s) (chars_before cs e) (chars ds))
  replaced_chars = rw (found_here, made_here, ← view) (chars-replace bs ds start end text put cuts_here.0 cuts_here.1)
