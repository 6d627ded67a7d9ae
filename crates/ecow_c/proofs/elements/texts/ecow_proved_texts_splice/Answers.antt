use Rattle.std.proofs.Common.{rules, ◌≡◌, ◌∙◌, ◌≤◌, length}
use Rattle.std.specs.List.{splice}
use Rattle.ecow_list.proofs.Items.{given_items}
use Rattle.ecow_c.proofs.Spliced.{spliced}
use Rattle.ecow_c.proofs.elements.texts.ecow_proved_texts_splice.Goals as goal

pub returns-in-Ok-splice-clause-texts : goal.returns-in-Ok-splice-clause-texts
returns-in-Ok-splice-clause-texts c =
    let done = c.in-Ok-splice.ensures.change.ok (λ x y same. same) in
    let in_order : c.args.start ≤ c.args.end = search rules in
    let in_bounds : c.args.end ≤ length c.in-Some.value.now = search rules in
    let clones = c.in-Ok.ensures.items_if_clones_equal (λ x y same. same) in
    let left : c.splice.new.self ≡ splice c.in-Some.value.now c.args.start c.args.end c.in-Some-texts.value.now =
    spliced _ c.in-Some.value.now c.splice.new.self c.in-Some-texts.value.now done.0 c.args.start c.args.end in_order in_bounds
    (given_items c.in-Ok.value done.0 done.1 ∙ clones ∙ c.as_slice.ensures) done.2 in
    search rules
