use Rattle.std.proofs.Common.{◌≤◌, ◌≡◌, ◌∙◌, refl, ap, arith, rules, length, take}
use Rattle.std.specs.List.{refill}
use Rattle.ecow_bytes.specs.Counts.{counted}
use Rattle.ecow_bytes.proofs.Counted.{length-with_front, counted-with_front, seen-with_front}
use Rattle.ecow_bytes.proofs.few.Few.as_mut_slice.Goals as goal

pub invariant_of-self-lent : goal.invariant_of-self-lent
invariant_of-self-lent g c =
    let cells = c.self.inside.cells.bytes in
    let len = c.len-len.result in
    let within : len ≤ length cells = search rules in
    let counts : len ≡ counted g.row.N cells = search rules in λ w.
    let kept = counted-with_front g.row.N len cells w counts c.len-len.ensures.fits within in
    let size = length-with_front len cells w within in (omega arith, omega arith)

pub returns : goal.returns
returns g c =
    let cells = c.self.inside.cells.bytes in
    let len = c.len-len.result in
    let within : len ≤ length cells = search rules in
    let counts : len ≡ counted g.row.N cells = search rules in
    let front : take len cells ≡ c.args.self.now = search rules in (
      (
        refl,
        λ w. seen-with_front g.row.N len cells w counts c.len-len.ensures.fits within
            ∙ ap (λ bytes. refill (length bytes) bytes w) front,
      ),
      record { writes_back = tt; value = c.front_mut.ensures.value ∙ front },
    )
