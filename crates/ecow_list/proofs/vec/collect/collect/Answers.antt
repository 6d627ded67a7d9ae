use Rattle.std.proofs.Common.{rules, ◌≡◌, ◌≤◌, List, length, ◌+◌, ◌∷◌, ◌++◌, [], refl, ap, sym, subst, ◌∙◌, arith, length-append}
use Rattle.std.specs.Iterator.{Yields}
use Rattle.std.proofs.iter.Next.{Yields-more}
use Rattle.ecow_list.proofs.Fronts.{on_err}
use Rattle.ecow_list.proofs.vec.collect.collect.Goals as goal

pub returns-then-len-most-clause-refused : goal.returns-then-len-most-clause-refused
returns-then-len-most-clause-refused g c =
    let first = c.args.iter.now in
    let xs = c.fill_from.new.self.items in
    let x = c.in-Some.item in
    let led = c.loop-iter-test.ensures.items first c.loop-iter.invariant.0 in
    let same = c.len-len.ensures.len in
    let all = c.if-len-most.true in
    let few = c.loop-iter-test.ensures.len in
    let len : length (xs ++ x ∷ []) ≡ length xs + 1 = length-append xs (x ∷ []) in (
      xs ++ x ∷ [],
      Yields-more g.I.Iterator.next_gives first xs c.fill_from.new.iter x c.next.new.self led c.in-Some.ensures.steps,
      (λ none. omega arith),
      omega arith,
      ((λ is. omega arith), (λ more. refl)),
    )

pub returns-in_err-grow-clause-refused : goal.returns-in_err-grow-clause-refused
returns-in_err-grow-clause-refused g c =
    let first = c.args.iter.now in
    let xs = c.fill_from.new.self.items in
    let x = c.in-Some.item in
    let led = c.loop-iter-test.ensures.items first c.loop-iter.invariant.0 in
    let same = c.len-len.ensures.len in
    let below = c.if-len-most.false in
    let len : length (xs ++ x ∷ []) ≡ length xs + 1 = length-append xs (x ∷ []) in
    on_err c.from_residual-in_err-grow.result (
      xs ++ x ∷ [],
      Yields-more g.I.Iterator.next_gives first xs c.fill_from.new.iter x c.next.new.self led c.in-Some.ensures.steps,
      (λ none. omega arith),
      omega arith,
      ((λ is. search rules), (λ more. absurd (omega arith))),
    )

pub loop-iter-preserved : goal.loop-iter-preserved
loop-iter-preserved g c =
    let steps = g.I.Iterator.next_gives in
    let first = c.args.iter.now in
    let xs = c.fill_from.new.self.items in
    let x = c.in-Some.item in
    let led = c.loop-iter-test.ensures.items first c.loop-iter.invariant.0 in
    let goes = c.in-Some.ensures.goes.on (c.loop-iter-test.ensures.callable refl).1 in
    let same = c.len-len.ensures.len in
    let below = c.if-len-most.false in
    let items : c.push_within_capacity.new.self.items ≡ xs ++ x ∷ [] =
    ap (λ b. b.items) c.push_within_capacity.ensures ∙ ap (λ b. b.items ++ x ∷ []) c.grow.ensures.block in
    let len : length c.push_within_capacity.new.self.items ≡ length xs + 1 = ap length items ∙ length-append xs (x ∷ []) in
    let kept = c.loop-iter.invariant.2 in
    let room : c.args.least ≤ c.push_within_capacity.new.self.capacity = search rules in (
      subst (λ (ys : List g.row.T.Denot). Yields steps first ys c.next.new.self) (sym items)
          (Yields-more steps first xs c.fill_from.new.iter x c.next.new.self led c.in-Some.ensures.steps),
      omega arith,
      room,
      goes.0,
      goes.1,
    )
