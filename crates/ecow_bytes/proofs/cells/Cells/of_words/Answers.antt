use Rattle.std.proofs.Common.{rules, ◌≡◌, ◌<◌, ◌≤◌, ◌^◌, ◌-◌, ◌*◌, length, take, drop, ℕ, ◌+◌, ◌/◌, ◌%◌, List, get_or, refl, sym, ap, ◌∙◌, ◌++◌, ◌∷◌, arith, slice_set, slice_index_or}
use Rattle.std.specs.Int.{w16, w32, w64, from_le_bytes, to_le_bytes}
use Rattle.ecow_bytes.specs.Digits.{number, digits}
use Rattle.ecow_bytes.proofs.Digits.{in_pieces}
use lib.ListN.{replicate}
use borrow.Rule.Slice.PartMut.{put_mid}
use Rattle.ecow_bytes.proofs.cells.Cells.of_words.Goals as goal

joined : (n x l m k : ℕ) (a b d : List ℕ) → n ≡ 15
    → a ≡ to_le_bytes w16 l → b ≡ to_le_bytes w32 m → d ≡ to_le_bytes w64 k
    → put_mid 7 (length (put_mid 3 4 (put_mid 1 2 (slice_set (replicate n 0) 0 x) a) b) - 7)
    (put_mid 3 4 (put_mid 1 2 (slice_set (replicate n 0) 0 x) a) b) d
    ≡ (x ∷ to_le_bytes w16 l) ++ (to_le_bytes w32 m ++ to_le_bytes w64 k)
joined n x l m k a b d en ea eb ed = rw (en, ea, eb, ed)

pub returns : goal.returns
returns g c =
    let low = c.args.low in
    let v = low + 2 ^ 64 * c.args.high in
    let top : low / 2 ^ 56 + c.args.high * 2 ^ 8 % 2 ^ 64 ≡ v / 2 ^ 56 = omega arith in
    record {
      bytes = joined g.row.N (low % 2 ^ 8) (low / 2 ^ 8 % 2 ^ 16) (low / 2 ^ 24 % 2 ^ 32) (v / 2 ^ 56)
          c.copy_from_slice.new.self c.copy_from_slice-2.new.self c.copy_from_slice-3.new.self c.requires.cells
          (c.copy_from_slice.ensures.after ∙ c.to_le_bytes.ensures) (c.copy_from_slice-2.ensures.after ∙ c.to_le_bytes-2.ensures)
          (c.copy_from_slice-3.ensures.after ∙ c.to_le_bytes-3.ensures ∙ ap (to_le_bytes w64) top)
          ∙ in_pieces low c.args.high v refl;
    }
