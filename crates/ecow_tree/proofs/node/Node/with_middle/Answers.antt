use Rattle.std.proofs.Common.{arith, ◌≡◌, ◌≤◌, length, ap, sym, subst, ◌∙◌, length-append, length-drop}
use Rattle.ecow_tree.specs.Kept.{IsKeptTwice}
use Rattle.ecow_tree.proofs.Kept.{long, same_twice}
use Rattle.ecow_tree.proofs.More.{length_taken}
use Rattle.ecow_tree.proofs.node.Node.with_middle.Goals.{then-self-eq0+in_ok-raise, else-self-eq0}
use Rattle.ecow_tree.proofs.node.Node.with_middle.Goals as goal

pub returns-in_err-raise-clause-kept : goal.returns-in_err-raise-clause-kept
returns-in_err-raise-clause-kept g c =
    subst (IsKeptTwice g.T.Clone.is_clone c.args.self.now.items) (sym c.raise.ensures.items) (same_twice g.T.Clone.is_clone c.args.self.now.items)

pub cut-requires-2-clause-within : goal.cut-requires-2-clause-within
cut-requires-2-clause-within g c =
    let items : c.if-self-eq0.self.items ≡ c.args.self.now.items =
    elim c.if-self-eq0.branch [
      | then-self-eq0+in_ok-raise w ↦ ap (λ n. n.items) w.self-is ∙ w.raise.ensures.items
      | else-self-eq0 w ↦ ap (λ n. n.items) w.self-is
    ] in
    omega (arith, c.requires.within, ap length items, long g.T.Clone.is_clone _ _ c.cut.ensures.kept)

pub halves-requires : goal.halves-requires
halves-requires g c =
    let items : c.if-self-eq0.self.items ≡ c.args.self.now.items =
    elim c.if-self-eq0.branch [
      | then-self-eq0+in_ok-raise w ↦ ap (λ n. n.items) w.self-is ∙ w.raise.ensures.items
      | else-self-eq0 w ↦ ap (λ n. n.items) w.self-is
    ] in
    omega (arith, c.requires.ordered, c.requires.within, ap length items, long g.T.Clone.is_clone _ _ c.cut.ensures.kept, long g.T.Clone.is_clone _ _ c.cut-2.ensures.kept)

pub halves-requires-2 : goal.halves-requires-2
halves-requires-2 g c =
    let items : c.if-self-eq0.self.items ≡ c.args.self.now.items =
    elim c.if-self-eq0.branch [
      | then-self-eq0+in_ok-raise w ↦ ap (λ n. n.items) w.self-is ∙ w.raise.ensures.items
      | else-self-eq0 w ↦ ap (λ n. n.items) w.self-is
    ] in
    omega (arith, c.requires.within, ap length items, long g.T.Clone.is_clone _ _ c.cut.ensures.kept, long g.T.Clone.is_clone _ _ c.cut-2.ensures.kept)

pub concat-requires-2 : goal.concat-requires-2
concat-requires-2 g c =
    let items : c.if-self-eq0.self.items ≡ c.args.self.now.items =
    elim c.if-self-eq0.branch [
      | then-self-eq0+in_ok-raise w ↦ ap (λ n. n.items) w.self-is ∙ w.raise.ensures.items
      | else-self-eq0 w ↦ ap (λ n. n.items) w.self-is
    ] in
    let count : c.args.start ≤ length c.cut-2.new.self.items = omega (arith, c.requires.ordered, c.requires.within, ap length items, long g.T.Clone.is_clone _ _ c.cut.ensures.kept, long g.T.Clone.is_clone _ _ c.cut-2.ensures.kept) in
    omega (
      arith,
      c.requires.ordered,
      c.requires.within,
      c.requires.bounded,
      ap length items,
      long g.T.Clone.is_clone _ _ c.cut.ensures.kept,
      long g.T.Clone.is_clone _ _ c.cut-2.ensures.kept,
      ap length c.in_ok-front-2.ensures.items,
      length-append c.in_ok-front.front.items c.args.middle.now.items,
      ap length c.in_ok-front.ensures.front,
      length_taken c.args.start c.cut-2.new.self.items count,
      ap length c.in_ok-_before.ensures.back,
      length-drop c.args.end c.cut-2.new.self.items,
    )
