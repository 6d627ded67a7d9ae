use Rattle.std.proofs.Common.{rules, arith, ◌≡◌, ◌+◌, ◌<◌, List, [], ◌∷◌, ◌++◌, ◌∙◌, ap, sym, get_or, drop, length, take, of_calls}
use Rattle.std.proofs.lemmas.List.{drop_more, take-set-le}
use Rattle.std.proofs.Math.ListN.{drop_of_length-le}
use Rattle.std.proofs.RetainMut.{Called-Mut}
use Rattle.std.specs.Fn.{CalledAtMut}
use Rattle.ecow_block.proofs.Retained.{none_done, one_kept, one_gone, all_done, stays, moves, behind_written, behind_swapped}
use Rattle.ecow_block.proofs.block.edits.keep_first.Goals.{then-f, then-count-index, else-count-index, else-f}
use Rattle.ecow_block.proofs.block.edits.keep_first.Goals as goal

pub loop-index-preserved : goal.loop-index-preserved
loop-index-preserved g c =
    let before = c.loop-index.invariant in let called = Called-Mut g.F.FnMut c.f.ensures in
    let xs = c.loop-index.items in let n = c.loop-index.count in let i = c.loop-index.index in let in_xs = c.loop-index-test.true in
    let x = get_or xs i c.index-items-index.result in let y = c.f.new.arg2 in let now = c.if-f.items in
    let R = CalledAtMut g.F.FnMut in
    let goes_on : (more : List g.row.T.Denot) → more ≡ drop (i + 1) xs → drop i xs ≡ x ∷ more
    = λ more e. drop_more xs i c.index-items-index.result in_xs ∙ ap (λ l. x ∷ l) (sym e) in
    elim c.if-f.branch [
      | then-f w ↦
          let yes = one_kept R c.args.f c.args.items.now c.loop-index.f c.f.new.self x y (drop i xs) (drop (i + 1) now) (take n xs) (take c.if-f.count now) in
          let more = ap (λ m. take m now) w.count-is in
          elim w.if-count-index.branch [
            | then-count-index v ↦
                let lt = v.if-count-index.true in let e = w.items-is ∙ v.items-is ∙ v.swap.ensures.after in (
                  search of_calls,
                  omega (arith, w.count-is, before.1),
                  omega (arith, in_xs, before.3),
                  search rules,
                  yes (goes_on (drop (i + 1) now) (ap (drop (i + 1)) e ∙ behind_swapped xs n i y in_xs lt)) before.4 (rw w.if-f.true at called)
                      (more ∙ ap (take (n + 1)) e ∙ moves xs n i y in_xs lt),
                )
            | else-count-index v ↦
                let e = w.items-is ∙ v.items-is in (
                  search of_calls,
                  omega (arith, w.count-is, before.1),
                  omega (arith, in_xs, before.3),
                  search rules,
                  yes (goes_on (drop (i + 1) now) (ap (drop (i + 1)) e ∙ behind_written xs n i y in_xs)) before.4 (rw w.if-f.true at called)
                      (more ∙ ap (take (n + 1)) e ∙ stays xs n i y in_xs (omega (arith, v.if-count-index.false, before.1))),
                )
          ]
      | else-f w ↦
          let e = w.items-is in (
            search of_calls,
            omega (arith, w.count-is, before.1),
            omega (arith, in_xs, before.3),
            search rules,
            one_gone R c.args.f c.args.items.now c.loop-index.f c.f.new.self x y (drop i xs) (drop (i + 1) now) (take n xs) (take c.if-f.count now)
                (goes_on (drop (i + 1) now) (ap (drop (i + 1)) e ∙ behind_written xs n i y in_xs)) before.4 (rw w.if-f.false at called)
                (ap (λ m. take m now) w.count-is ∙ ap (take n) e ∙ take-set-le n xs i y before.1),
          )
    ]

pub returns-clause-kept : goal.returns-clause-kept
returns-clause-kept g c =
    let xs = c.loop-index.items in
    all_done (CalledAtMut g.F.FnMut) c.args.f c.args.items.now c.loop-index.f (drop c.loop-index.index xs) (take c.loop-index.count xs)
    _ c.loop-index.invariant.4 (drop_of_length-le xs c.loop-index-test.false) (search rules)
