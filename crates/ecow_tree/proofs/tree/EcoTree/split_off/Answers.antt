use Rattle.std.proofs.Common.{rules, arith, refl, ◌≡◌, length, take, drop, ap, sym, subst, ◌∙◌}
use Rattle.ecow_base.specs.Clones.{ClonesAreEqual}
use Rattle.ecow_tree.specs.Kept.{AreKept, SomeKept}
use Rattle.ecow_tree.proofs.Cuts.{halves_exact, halves_len, halves_whole, halves_none}
use Rattle.ecow_tree.proofs.Kept.{same, long, unchanged}
use Rattle.ecow_tree.proofs.tree.EcoTree.split_off.Goals as goal

pub returns-then-at-len-clause-kept : goal.returns-then-at-len-clause-kept
returns-then-at-len-clause-kept g c =
    halves_whole g.T.Clone.is_clone c.args.self.now c.args.self.now _ c.args.at (search rules) refl c.new.ensures

pub returns-then-at-eq0-clause-kept : goal.returns-then-at-eq0-clause-kept
returns-then-at-eq0-clause-kept g c =
    halves_none g.T.Clone.is_clone c.args.self.now _ _ c.args.at c.if-at-eq0.true (search rules) (search rules)

pub returns-in_err-root-clause-refused : goal.returns-in_err-root-clause-refused
returns-in_err-root-clause-refused g c =
    let whole : c.split.new.self.items ≡ c.args.self.now = c.in_err-root.ensures.refused.unchanged ∙ c.self.view_is in
    let kept : AreKept g.T.Clone.is_clone c.args.self.now c.split.new.self.items = subst (AreKept g.T.Clone.is_clone c.args.self.now) (sym whole) (same g.T.Clone.is_clone c.args.self.now) in
    let exact : ClonesAreEqual g.T.Clone.is_clone → c.split.new.self.items ≡ c.args.self.now = λ equal. whole in
    search (rules, kept, exact)

pub returns-then-height-eq0-clause-ok : goal.returns-then-height-eq0-clause-ok
returns-then-height-eq0-clause-ok g c equal =
    halves_exact g.T.Clone.is_clone c.args.self.now c.split.new.self.items c.in_ok-root.root.items c.args.at equal
    (subst (λ old. SomeKept g.T.Clone.is_clone old (λ xs. (c.split.new.self.items ≡ take c.args.at xs) × (c.in_ok-root.root.items ≡ drop c.args.at xs))) c.self.view_is c.in_ok-root.ensures.kept)

pub halves-requires : goal.halves-requires
halves-requires g c =
    let kept : AreKept g.T.Clone.is_clone c.args.self.now c.cut.new.self.items = subst (λ old. AreKept g.T.Clone.is_clone old c.cut.new.self.items) c.self.view_is c.cut.ensures.kept in
    omega (arith, c.requires, long g.T.Clone.is_clone _ _ kept)

pub returns-in_err-front-clause-refused : goal.returns-in_err-front-clause-refused
returns-in_err-front-clause-refused g c =
    let kept : AreKept g.T.Clone.is_clone c.args.self.now c.cut.new.self.items = subst (λ old. AreKept g.T.Clone.is_clone old c.cut.new.self.items) c.self.view_is c.cut.ensures.kept in
    let exact : ClonesAreEqual g.T.Clone.is_clone → c.cut.new.self.items ≡ c.args.self.now = λ equal. unchanged g.T.Clone.is_clone equal c.args.self.now c.cut.new.self.items kept in
    search (rules, kept, exact)

pub returns-clause-ok : goal.returns-clause-ok
returns-clause-ok g c equal =
    let kept : AreKept g.T.Clone.is_clone c.args.self.now c.cut.new.self.items = subst (λ old. AreKept g.T.Clone.is_clone old c.cut.new.self.items) c.self.view_is c.cut.ensures.kept in
    halves_exact g.T.Clone.is_clone c.args.self.now c.in_ok-front.front.items c.in_ok-front.root.items c.args.at equal
    (c.cut.new.self.items, kept, (c.in_ok-front.ensures.front, c.in_ok-front.ensures.back))

pub returns-clause-len : goal.returns-clause-len
returns-clause-len g c =
    let kept : AreKept g.T.Clone.is_clone c.args.self.now c.cut.new.self.items = subst (λ old. AreKept g.T.Clone.is_clone old c.cut.new.self.items) c.self.view_is c.cut.ensures.kept in
    halves_len g.T.Clone.is_clone c.args.self.now c.in_ok-front.front.items c.in_ok-front.root.items c.args.at c.requires
    (c.cut.new.self.items, kept, (c.in_ok-front.ensures.front, c.in_ok-front.ensures.back))
