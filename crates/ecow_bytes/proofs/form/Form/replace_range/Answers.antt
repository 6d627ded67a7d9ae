use Rattle.std.proofs.Common.{◌≡◌, ◌+◌, ◌-◌, length, take, refl, sym, ap, true, arith, ◌∙◌}
use Rattle.std.proofs.lemmas.List.{take_all}
use Rattle.std.specs.List.{copy_within}
use Rattle.ecow_list.proofs.Replaced.{replaced}
use Rattle.ecow_base.specs.Plain.{plain_bytes}
use Rattle.ecow_base.specs.declared.plain.PlainBytes.{PlainBytes}
use Rattle.ecow_bytes.specs.Form.{plain_of}
use Rattle.ecow_bytes.proofs.Forms.{inline_with}
use Rattle.ecow_bytes.proofs.form.Form.replace_range.Goals as goal
use borrow.Rule.Slice.PartMut.{put_mid, same_len_mid}

pub returns : goal.returns
returns g c =
    let old = (plain_of c.args.self.now).bytes in
    let longer = (plain_of c.set_len.new.self).bytes in
    let start = c.args.start in
    let end = c.args.end in
    let len = c.len-len.result in
    let added = length c.args.bytes.now in
    let long = c.len-len.ensures.len in
    let room : length longer ≡ c.max.result = c.set_len.ensures.len in
    let ordered = c.requires.ordered in
    let within = c.requires.in_bounds in
    let moved = c.copy_within.new.self in
    let shown = c.inline_mut-all.ensures.value in
    let moves : moved ≡ copy_within longer end len (start + added) =
    c.copy_within.ensures.after ∙ ap (λ xs. copy_within xs end len (start + added)) shown in
    let written = put_mid start (start + added - start) moved c.copy_from_slice.new.self in
    let size : length written ≡ length longer =
    same_len_mid start (start + added - start) moved c.copy_from_slice.new.self c.copy_from_slice.ensures.len ∙ c.copy_within.ensures.len ∙ ap length shown in
    let front : take len longer ≡ old =
    ap (λ n. take n longer) long ∙ c.set_len.ensures.kept ∙ take_all c.max.result old (omega (arith, long, c.max.ensures)) in
    c.truncate.ensures
    ∙ ap (λ (p : PlainBytes). plain_bytes (take (len - (end - start) + added) p.bytes) true)
    (inline_with c.set_len.new.self written c.set_len.ensures.mode size)
    ∙ ap (λ xs. plain_bytes xs true)
    (rw (moves, c.copy_from_slice.ensures.after)
    (replaced longer old c.args.bytes.now start end len added (sym front) (omega (arith, room, c.max.ensures)) refl ordered (omega (arith, long, within))
    (omega (arith, room, c.max.ensures))))
