use Rattle.std.proofs.Common.{◌≡◌, ◌++◌, ◌-◌, length, take, refl, sym, ap, ◌∙◌, length-append}
use native.Mathlib.Omega.{arith}
use Rattle.std.proofs.lemmas.List.{length-take-le, take_at}
use Rattle.ecow_block.specs.Contents.{contents}
use Rattle.ecow_list.proofs.Replaced.{replaced_again}
use Rattle.ecow_list.proofs.vec.insert_slice.replace_copies.Goals as goal

pub returns : goal.returns
returns g c =
    let items = c.args.block.now.items in
    let elements = c.args.elements.now in
    let start = c.args.start in
    let end = c.args.end in
    let behind = take c.saturating_sub-more.result elements in
    let size = length-append items behind in
    let more : length behind ≡ length elements - (end - start) =
    length-take-le c.saturating_sub-more.result elements (omega (arith, c.saturating_sub-more.ensures)) ∙ c.saturating_sub-more.ensures in
    let long = c.len-len.ensures.len in
    let within = c.requires.in_bounds in
    let ordered = c.requires.ordered in
    record {
      block = c.truncate.ensures ∙ rw (c.copy_from_slice.ensures.after, c.copy_within.ensures, c.as_mut_slice-all.ensures.value, c.extend_copies.ensures)
          (ap (λ l. contents l c.args.block.now.capacity) (replaced_again (items ++ behind) items elements start end c.len-len.result (length elements)
          (sym (take_at items behind c.len-len.result (sym long))) (omega (arith, long, size)) refl ordered
          (omega (arith, long, within)) (omega (arith, long, size, more, ordered, within))));
    }
