use Rattle.std.proofs.Common.{arith, refl, ap, sym, ◌∙◌, drop, []}
use Rattle.std.specs.Cmp.Lexicographic.{pointwise}
use Rattle.ecow_tree.proofs.More.{run_within, none_behind}
use Rattle.ecow_tree.proofs.Runs.{not_false, not_true, runs_same, runs_other}
use Rattle.ecow_tree.proofs.comparisons.EcoTreePartialEq.eq.Goals as goal

pub loop-at-init : goal.loop-at-init
loop-at-init g c = record {
  len = c.len-len.ensures;
  as_long = omega (arith, c.len.ensures, c.len-len.ensures, c.if-len.false);
  within = omega arith;
  same = refl;
}

pub returns-then-ne : goal.returns-then-ne
returns-then-ne g c =
    let ours = c.chunk_at-ours.ensures.part in
    let theirs = c.chunk_at-theirs.ensures.part in
    sym (c.loop-at.invariant.same
    ∙ runs_other g.T.PartialEq.eq c.args.self.now c.args.other.now c.chunk_at-ours.result.now c.chunk_at-theirs.result.now ours.0 theirs.0 c.loop-at.at
    c.min-both.result ours.1 theirs.1 (omega (arith, c.min-both.ensures)) (omega (arith, c.min-both.ensures))
    (not_true _ (sym c.if-ne.true ∙ c.ne.ensures)))

pub overflow_add-at : goal.overflow_add-at
overflow_add-at g c =
    let ours = c.chunk_at-ours.ensures.part in
    omega (
      arith,
      run_within c.args.self.now c.chunk_at-ours.result.now ours.0 c.loop-at.at c.loop-at.invariant.within ours.1,
      c.min-both.ensures,
      c.loop-at.invariant.len,
      c.len-len.type_inv,
    )

pub loop-at-preserved : goal.loop-at-preserved
loop-at-preserved g c =
    let ours = c.chunk_at-ours.ensures.part in
    let theirs = c.chunk_at-theirs.ensures.part in record {
      len = c.loop-at.invariant.len;
      as_long = c.loop-at.invariant.as_long;
      within = omega (
        arith,
        run_within c.args.self.now c.chunk_at-ours.result.now ours.0 c.loop-at.at c.loop-at.invariant.within ours.1,
        c.min-both.ensures,
      );
      same = c.loop-at.invariant.same
          ∙ runs_same g.T.PartialEq.eq c.args.self.now c.args.other.now c.chunk_at-ours.result.now c.chunk_at-theirs.result.now ours.0 theirs.0 c.loop-at.at
          c.min-both.result ours.1 theirs.1 (omega (arith, c.min-both.ensures)) (omega (arith, c.min-both.ensures))
          (not_false _ (sym c.if-ne.false ∙ c.ne.ensures));
    }

pub returns : goal.returns
returns g c =
    let past = c.loop-at-test.false in
    sym (c.loop-at.invariant.same
    ∙ ap (λ xs. pointwise g.T.PartialEq.eq xs (drop c.loop-at.at c.args.other.now))
    (none_behind c.args.self.now c.loop-at.at (omega (arith, past, c.loop-at.invariant.len)))
    ∙ ap (λ xs. pointwise g.T.PartialEq.eq [] xs)
    (none_behind c.args.other.now c.loop-at.at (omega (arith, past, c.loop-at.invariant.len, c.loop-at.invariant.as_long))))
