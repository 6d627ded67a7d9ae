use Rattle.std.proofs.Common.{rules, arith, ◌≡◌, ◌++◌, subst}
use Rattle.std.specs.Prelude.{OnOk}
use Rattle.ecow_tree.specs.Kept.{ExtendsKept}
use Rattle.ecow_tree.proofs.Extended.{extends_none, extends_exact, extends_count}
use Rattle.ecow_tree.proofs.Kept.{same}
use Rattle.ecow_tree.proofs.tree.EcoTree.extend_from_slice.Goals as goal

pub returns-then-added-eq0-clause-appends : goal.returns-then-added-eq0-clause-appends
returns-then-added-eq0-clause-appends g c = extends_none g.T.Clone.is_clone c.args.self.now c.args.elements.now (omega (arith, c.if-added-eq0.true))

pub returns-then-added-spare-clause-ok : goal.returns-then-added-spare-clause-ok
returns-then-added-spare-clause-ok g c equal =
    extends_exact g.T.Clone.is_clone c.extend.result c.args.self.now c.args.elements.now c.extend.new.self.items equal
    (subst (λ old. OnOk c.extend.result (ExtendsKept g.T.Clone.is_clone old c.args.elements.now c.extend.new.self.items)) c.self.view_is c.extend.ensures.appends)

pub returns-then-added-spare-clause-len : goal.returns-then-added-spare-clause-len
returns-then-added-spare-clause-len g c =
    extends_count g.T.Clone.is_clone c.extend.result c.args.self.now c.args.elements.now c.extend.new.self.items
    (subst (λ old. OnOk c.extend.result (ExtendsKept g.T.Clone.is_clone old c.args.elements.now c.extend.new.self.items)) c.self.view_is c.extend.ensures.appends)

pub returns-clause-appends : goal.returns-clause-appends
returns-clause-appends g c =
    let whole : c.in_ok-self-inside.field-0.items ≡ c.args.self.now ++ c.in_ok-others.others = search rules in
    (c.args.self.now, same g.T.Clone.is_clone c.args.self.now, (c.in_ok-others.others, c.in_ok-others.ensures.clones, whole))
