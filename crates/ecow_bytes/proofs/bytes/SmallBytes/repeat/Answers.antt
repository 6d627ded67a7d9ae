use Rattle.std.proofs.Common.{◌≡◌, ◌+◌, ◌*◌, ◌<◌, ◌≤◌, length, arith, rules, ◌∙◌, sym, ap}
use Rattle.std.proofs.Math.Nat.{le-mul_of_pos_right}
use Rattle.std.proofs.lemmas.Result.{IfOk-from_err}
use Rattle.std.specs.List.{repeat}
use Rattle.std_alloc.proofs.Concat.{repeat-nil, length-repeat}
use Rattle.ecow_base.specs.declared.capacity.TheConstants.{MAX_LEN}
use Rattle.ecow_bytes.proofs.Limits.{keeps_mode, none_refused}
use Rattle.ecow_bytes.proofs.Repeats.{more_copies, places}
use Rattle.ecow_bytes.proofs.bytes.SmallBytes.repeat.Goals as goal
use Rattle.ecow_bytes.proofs.bytes.SmallBytes.repeat.Goals.{then-len-eq0-via-then-len-eq0, then-len-eq0-via-else-len-eq0+then-count-eq0}

pub returns-in_err-extend_from_slice : goal.returns-in_err-extend_from_slice
returns-in_err-extend_from_slice g c =
    let some : 0 < c.args.count = search rules in
    let once = le-mul_of_pos_right (length c.args.self.now.bytes) some in
    record { bytes = search rules; mode = search rules; free = search rules; capacity = search rules }

-- none is refused where they fit inline
pub returns-in_err-append_front : goal.returns-in_err-append_front
returns-in_err-append_front g c = record {
  bytes = IfOk-from_err c.from_residual-in_err-append_front.result _ c.from_residual-in_err-append_front.ensures.0;
  mode = search rules;
  free =
      let k = c.loop-copies.copies in
      let more = c.min-more.result in
      let len = c.len-len.result in
      let less : more ≤ k = search rules in
      let within : k + more ≤ c.args.count = search rules in
      let all = places len c.args.count k more (length c.loop-copies.target.bytes) c.loop-copies.invariant.long less within in
      let past =
      none_refused g.row.N (len * c.args.count) c.loop-copies.target.inline
      (length c.loop-copies.target.bytes) (more * len) c.loop-copies.invariant.mode all.1
      c.in_err-append_front.ensures.mode.free in
      λ fits. let same : len * c.args.count ≡ length c.args.self.now.bytes * c.args.count =
      ap (λ n. n * c.args.count) c.len-len.ensures.len in absurd (omega arith);
  capacity = search rules;
}

pub returns-then-len-eq0 : goal.returns-then-len-eq0
returns-then-len-eq0 g c = record {
  bytes =
      elim c.then-len-eq0.branch [
        | then-len-eq0-via-then-len-eq0 w ↦ (let none : length c.args.self.now.bytes ≡ 0 = search rules in c.new.ensures.bytes
            ∙ repeat-nil c.args.count c.args.self.now.bytes none)
        | then-len-eq0-via-else-len-eq0+then-count-eq0 w ↦ (let never : 0 ≡ c.args.count = search rules in c.new.ensures.bytes
            ∙ ap (λ k. repeat k c.args.self.now.bytes) never)
      ];
  mode = search rules;
  free = search rules;
  capacity = search rules;
}

pub append_front-requires : goal.append_front-requires
append_front-requires g c =
    let k = c.loop-copies.copies in
    let more = c.min-more.result in
    let len = c.len-len.result in
    let less : more ≤ k = search rules in
    let within : k + more ≤ c.args.count = search rules in
    let all = places len c.args.count k more (length c.loop-copies.target.bytes) c.loop-copies.invariant.long less within in
    let room : len * c.args.count ≤ MAX_LEN = search rules in
    (search rules, (all.0, omega arith))

pub loop-copies-preserved : goal.loop-copies-preserved
loop-copies-preserved g c =
    let k = c.loop-copies.copies in
    let more = c.min-more.result in
    let len = c.len-len.result in
    let less : more ≤ k = search rules in
    let within : k + more ≤ c.args.count = search rules in
    let given = c.in_ok-append_front.ensures in
    let all = places len c.args.count k more (length c.loop-copies.target.bytes) c.loop-copies.invariant.long less within in
    let joined =
    more_copies c.args.self.now.bytes k more len c.loop-copies.target.bytes c.append_front.new.self.bytes
    c.len-len.ensures.len c.loop-copies.invariant.joined less given.bytes in
    record {
      some = omega (arith, c.loop-copies.invariant.some);
      within = within;
      joined = joined;
      long = ap length joined ∙ (length-repeat (k + more) c.args.self.now.bytes ∙ ap (λ n. (k + more) * n) (sym c.len-len.ensures.len));
      mode = given.mode.mode ∙ keeps_mode g.row.N (len * c.args.count) c.loop-copies.target.inline
          (length c.loop-copies.target.bytes) (more * len) c.loop-copies.invariant.mode all.1;
    }
