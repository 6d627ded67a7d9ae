use Rattle.std.proofs.Common.{◌≡◌, drop, length}
use Rattle.std.specs.Prelude.{◌==◌}
use Rattle.std.specs.List.{slice_split}
use Rattle.ecow_script.specs.Numbers.{each_in, byte_in}
use Rattle.ecow_script.specs.Parts.{behind}
use Rattle.ecow_script.proofs.lists.bytes_in.Given as goal

abbrev pub invariant-loop-part : goal.invariant-loop-part
invariant-loop-part l =
    behind l.items.items
    (each_in byte_in
    (drop (length l.yielded) (slice_split (λ b. b == 44) l.inner))) ≡ each_in byte_in
    (slice_split (λ b. b == 44) l.inner)
