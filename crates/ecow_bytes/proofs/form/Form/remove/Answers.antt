use Rattle.std.proofs.Common.{◌≡◌, ◌+◌, ◌-◌, ◌<◌, length, take, ap, true, arith, ◌∙◌}
use Rattle.std.specs.List.{copy_within}
use Rattle.ecow_base.specs.Plain.{plain_bytes}
use Rattle.ecow_base.specs.declared.plain.PlainBytes.{PlainBytes}
use Rattle.ecow_bytes.specs.Form.{plain_of}
use Rattle.ecow_bytes.proofs.Forms.{inline_with}
use Rattle.ecow_bytes.proofs.Moves.{removed}
use Rattle.ecow_bytes.proofs.form.Form.remove.Goals as goal

pub returns-clause-bytes : goal.returns-clause-bytes
returns-clause-bytes g c =
    let old = (plain_of c.args.self.now).bytes in
    let index = c.args.index in
    let len = length c.inline_mut-all.result.now in
    let moved = c.copy_within.new.self in
    let shown = c.inline_mut-all.ensures.value in
    let moves : moved ≡ copy_within old (index + 1) len index =
    c.copy_within.ensures.after ∙ ap (λ d. copy_within d (index + 1) len index) shown in
    let written = inline_with c.args.self.now moved c.requires.inline (c.copy_within.ensures.len ∙ ap length shown) in
    let within : index < len = omega (arith, ap length shown) in
    c.truncate.ensures ∙ ap (λ (p : PlainBytes). plain_bytes (take (len - 1) p.bytes) true) written
    ∙ ap (λ bytes. plain_bytes bytes true) (removed old moved index len (ap length shown) within moves)
