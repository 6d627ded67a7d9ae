use Rattle.std.proofs.Common.{ap, sym, ◌∙◌}
use Rattle.std.specs.List.{flat_map, fold}
use Rattle.std.proofs.lemmas.Grind.{fold-append}
use Rattle.ecow_tree.proofs.comparisons.EcoTreeHash.hash.Goals as goal

pub loop-element-preserved : goal.loop-element-preserved
loop-element-preserved g c =
    let fed = g.T.Hash.hash_input in
    ap (λ s. fold g.H.Hasher.write s (flat_map fed c.next.new.self)) c.hash.ensures
    ∙ sym (fold-append g.H.Hasher.write c.loop-element.state (fed c.in-Some.element.now) (flat_map fed c.next.new.self))
    ∙ ap (λ xs. fold g.H.Hasher.write c.loop-element.state (flat_map fed xs)) (sym c.in-Some.ensures.steps)
    ∙ c.loop-element.invariant
