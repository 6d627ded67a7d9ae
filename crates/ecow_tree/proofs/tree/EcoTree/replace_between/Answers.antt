use Rattle.std.proofs.Common.{rules, ◌≡◌, [], length, ◌∙◌}
use Rattle.ecow_tree.proofs.Kept.{replaced_none, same_twice}
use Rattle.ecow_tree.proofs.Parts.{length_0}
use Rattle.ecow_tree.proofs.tree.EcoTree.replace_between.Goals as goal

pub returns-then-left-gt-MAX_LEN-clause-refused : goal.returns-then-left-gt-MAX_LEN-clause-refused
returns-then-left-gt-MAX_LEN-clause-refused g c = same_twice g.T.Clone.is_clone c.args.self.now

pub returns-in_err-middle-clause-refused : goal.returns-in_err-middle-clause-refused
returns-in_err-middle-clause-refused g c =
    let same = same_twice g.T.Clone.is_clone c.args.self.now in
    search (rules, same)

pub returns-then-is_empty-clause-kept : goal.returns-then-is_empty-clause-kept
returns-then-is_empty-clause-kept g c =
    let count : length c.args.self.now ≡ 0 = search rules in
    let none : c.args.self.now ≡ [] = length_0 c.args.self.now count in
    let is = replaced_none g.T.Clone.is_clone c.args.self.now c.in_ok-middle.middle c.args.start c.args.end none in
    (c.args.self.now, same_twice g.T.Clone.is_clone c.args.self.now, c.in_ok-middle.middle, c.in_ok-middle.ensures.clones, c.middle.view_is ∙ is)
