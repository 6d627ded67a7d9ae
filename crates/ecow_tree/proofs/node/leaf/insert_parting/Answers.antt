use Rattle.std.proofs.Common.{rules, arith, ◌≡◌, ◌<◌, ◌≤◌, ◌^◌, ◌+◌, length, sym, ap, subst, ◌∙◌}
use Rattle.std.specs.Prelude.{IfSome}
use Rattle.ecow_base.specs.declared.capacity.TheConstants.{MAX_LEN}
use Rattle.ecow_tree.specs.Grown.{Grown}
use Rattle.ecow_tree.proofs.Moved.{back_kept, back_some, front_kept, front_some, some_inserted}
use Rattle.ecow_tree.proofs.More.{lent_there}
use Rattle.ecow_tree.proofs.Places.{placed_before, placed_behind, parting_kept, two_tallest, two_fit}
use Rattle.ecow_tree.proofs.node.leaf.insert_parting.Goals.{then-index-len, else-index-len}
use Rattle.ecow_tree.proofs.node.leaf.insert_parting.Goals as goal

pub returns-then-index-half-clause-kept : goal.returns-then-index-half-clause-kept
returns-then-index-half-clause-kept g c all l =
    let was = c.in-Ok.ensures.value (λ x y same. same) in
    let found = lent_there c.args.nodes.now c.in-Ok.block.now.items c.as_mut_slice.result.now c.args.at c.args.index c.index-as_mut_slice-at.result c.as_mut_slice.ensures.value was c.requires.in_bounds in
    let leaf = subst (λ o. IfSome o (λ (node : Grown g.row.T.Denot). (node.height ≡ 0) × (2 ≤ length node.items) × (length node.items < MAX_LEN) × (c.args.index ≤ length node.items))) found c.requires.found in
    parting_kept g.T.Clone.is_clone c.args.nodes.now _ c.args.at c.args.index all c.args.value _ c.in_ok-front.front c.part_off.new.self l found
    (placed_before c.args.nodes.now c.in-Ok.block.now.items c.as_mut_slice.result.now _ c.args.at c.as_mut_slice.ensures.value was c.in_ok-front.front c.part_off.new.self c.requires.in_bounds
    (c.own_with_room.follows.holds _ (search rules) ∙ ap (λ b. b.items) c.insert_within_capacity.ensures))
    (front_kept g.T.Clone.is_clone _ _ _ _ _ _ (omega (arith, c.if-index-half.true)) (omega (arith, c.len-len.ensures)) c.in_ok-front.ensures.moved)

pub returns-then-index-half-clause-tallest : goal.returns-then-index-half-clause-tallest
returns-then-index-half-clause-tallest g c =
    let was = c.in-Ok.ensures.value (λ x y same. same) in
    let found = lent_there c.args.nodes.now c.in-Ok.block.now.items c.as_mut_slice.result.now c.args.at c.args.index c.index-as_mut_slice-at.result c.as_mut_slice.ensures.value was c.requires.in_bounds in
    let leaf = subst (λ o. IfSome o (λ (node : Grown g.row.T.Denot). (node.height ≡ 0) × (2 ≤ length node.items) × (length node.items < MAX_LEN) × (c.args.index ≤ length node.items))) found c.requires.found in
    two_tallest c.args.nodes.now _ c.args.at _ c.in_ok-front.front c.part_off.new.self found
    (placed_before c.args.nodes.now c.in-Ok.block.now.items c.as_mut_slice.result.now _ c.args.at c.as_mut_slice.ensures.value was c.in_ok-front.front c.part_off.new.self c.requires.in_bounds
    (c.own_with_room.follows.holds _ (search rules) ∙ ap (λ b. b.items) c.insert_within_capacity.ensures))
    (c.in_ok-front.ensures.leaf ∙ sym leaf.0) c.part_off.ensures.height

pub returns-then-index-half-clause-fit : goal.returns-then-index-half-clause-fit
returns-then-index-half-clause-fit g c h all =
    let was = c.in-Ok.ensures.value (λ x y same. same) in
    let found = lent_there c.args.nodes.now c.in-Ok.block.now.items c.as_mut_slice.result.now c.args.at c.args.index c.index-as_mut_slice-at.result c.as_mut_slice.ensures.value was c.requires.in_bounds in
    let leaf = subst (λ o. IfSome o (λ (node : Grown g.row.T.Denot). (node.height ≡ 0) × (2 ≤ length node.items) × (length node.items < MAX_LEN) × (c.args.index ≤ length node.items))) found c.requires.found in
    let one = ap (λ n. 4 ^ n) leaf.0 in
    let parts = front_some g.T.Clone.is_clone _ _ _ _ _ _ (omega (arith, c.len-len.ensures, leaf.1)) c.in_ok-front.ensures.moved in
    two_fit c.args.nodes.now _ c.args.at _ c.in_ok-front.front c.part_off.new.self found
    (placed_before c.args.nodes.now c.in-Ok.block.now.items c.as_mut_slice.result.now _ c.args.at c.as_mut_slice.ensures.value was c.in_ok-front.front c.part_off.new.self c.requires.in_bounds
    (c.own_with_room.follows.holds _ (search rules) ∙ ap (λ b. b.items) c.insert_within_capacity.ensures))
    h all (c.in_ok-front.ensures.leaf ∙ sym leaf.0) c.part_off.ensures.height (omega (arith, one, parts.0)) (omega (arith, one, parts.1))

pub returns-then-index-half-clause-some : goal.returns-then-index-half-clause-some
returns-then-index-half-clause-some g c =
    some_inserted _ _ c.args.at c.in_ok-front.front (c.own_with_room.follows.holds _ (search rules) ∙ ap (λ b. b.items) c.insert_within_capacity.ensures)

pub part_off-requires-2 : goal.part_off-requires-2
part_off-requires-2 g c =
    let was = c.in-Ok.ensures.value (λ x y same. same) in
    let found = lent_there c.args.nodes.now c.in-Ok.block.now.items c.as_mut_slice.result.now c.args.at c.args.index c.index-as_mut_slice-at.result c.as_mut_slice.ensures.value was c.requires.in_bounds in
    let leaf = subst (λ o. IfSome o (λ (node : Grown g.row.T.Denot). (node.height ≡ 0) × (2 ≤ length node.items) × (length node.items < MAX_LEN) × (c.args.index ≤ length node.items))) found c.requires.found in
    let low : c.if-index-len.start ≤ c.args.index =
    elim c.if-index-len.branch [
      | then-index-len w ↦ omega (arith, w.start-is, w.if-index-len.true)
      | else-index-len w ↦ omega (arith, w.start-is, c.if-index-half.false)
    ] in
    record { leaf = leaf.0; start = low; end = omega (arith, c.len-len.ensures, leaf.3); in_bounds = omega (arith, c.len-len.ensures); bounded = leaf.2 }

pub returns-clause-kept : goal.returns-clause-kept
returns-clause-kept g c all l =
    let was = c.in-Ok.ensures.value (λ x y same. same) in
    let found = lent_there c.args.nodes.now c.in-Ok.block.now.items c.as_mut_slice.result.now c.args.at c.args.index c.index-as_mut_slice-at.result c.as_mut_slice.ensures.value was c.requires.in_bounds in
    let leaf = subst (λ o. IfSome o (λ (node : Grown g.row.T.Denot). (node.height ≡ 0) × (2 ≤ length node.items) × (length node.items < MAX_LEN) × (c.args.index ≤ length node.items))) found c.requires.found in
    let low : c.if-index-len.start ≤ c.len-len.result =
    elim c.if-index-len.branch [
      | then-index-len w ↦ omega (arith, w.start-is)
      | else-index-len w ↦ omega (arith, w.start-is)
    ] in
    let behind : c.if-index-len.start ≤ c.args.index =
    elim c.if-index-len.branch [
      | then-index-len w ↦ omega (arith, w.start-is, w.if-index-len.true)
      | else-index-len w ↦ omega (arith, w.start-is, c.if-index-half.false)
    ] in
    let some : 0 < c.if-index-len.start =
    elim c.if-index-len.branch [
      | then-index-len w ↦ omega (arith, w.start-is, c.len-len.ensures, leaf.1)
      | else-index-len w ↦ omega (arith, w.start-is, c.len-len.ensures, leaf.1)
    ] in
    parting_kept g.T.Clone.is_clone c.args.nodes.now _ c.args.at c.args.index all c.args.value _ c.part_off-2.new.self c.in_ok-back.back l found
    (placed_behind c.args.nodes.now c.in-Ok.block.now.items c.as_mut_slice.result.now _ c.args.at c.as_mut_slice.ensures.value was c.part_off-2.new.self c.in_ok-back.back
    (c.own_with_room.follows.holds _ (search rules) ∙ ap (λ b. b.items) c.insert_within_capacity-2.ensures))
    (back_kept g.T.Clone.is_clone _ _ _ _ _ _ _ c.len-len.ensures behind (omega (arith, c.len-len.ensures, leaf.3)) c.in_ok-back.ensures.moved)

pub returns-clause-tallest : goal.returns-clause-tallest
returns-clause-tallest g c =
    let was = c.in-Ok.ensures.value (λ x y same. same) in
    let found = lent_there c.args.nodes.now c.in-Ok.block.now.items c.as_mut_slice.result.now c.args.at c.args.index c.index-as_mut_slice-at.result c.as_mut_slice.ensures.value was c.requires.in_bounds in
    let leaf = subst (λ o. IfSome o (λ (node : Grown g.row.T.Denot). (node.height ≡ 0) × (2 ≤ length node.items) × (length node.items < MAX_LEN) × (c.args.index ≤ length node.items))) found c.requires.found in
    two_tallest c.args.nodes.now _ c.args.at _ c.part_off-2.new.self c.in_ok-back.back found
    (placed_behind c.args.nodes.now c.in-Ok.block.now.items c.as_mut_slice.result.now _ c.args.at c.as_mut_slice.ensures.value was c.part_off-2.new.self c.in_ok-back.back
    (c.own_with_room.follows.holds _ (search rules) ∙ ap (λ b. b.items) c.insert_within_capacity-2.ensures))
    c.part_off-2.ensures.height (c.in_ok-back.ensures.leaf ∙ sym leaf.0)

pub returns-clause-fit : goal.returns-clause-fit
returns-clause-fit g c h all =
    let was = c.in-Ok.ensures.value (λ x y same. same) in
    let found = lent_there c.args.nodes.now c.in-Ok.block.now.items c.as_mut_slice.result.now c.args.at c.args.index c.index-as_mut_slice-at.result c.as_mut_slice.ensures.value was c.requires.in_bounds in
    let leaf = subst (λ o. IfSome o (λ (node : Grown g.row.T.Denot). (node.height ≡ 0) × (2 ≤ length node.items) × (length node.items < MAX_LEN) × (c.args.index ≤ length node.items))) found c.requires.found in
    let low : c.if-index-len.start ≤ c.len-len.result =
    elim c.if-index-len.branch [
      | then-index-len w ↦ omega (arith, w.start-is)
      | else-index-len w ↦ omega (arith, w.start-is)
    ] in
    let behind : c.if-index-len.start ≤ c.args.index =
    elim c.if-index-len.branch [
      | then-index-len w ↦ omega (arith, w.start-is, w.if-index-len.true)
      | else-index-len w ↦ omega (arith, w.start-is, c.if-index-half.false)
    ] in
    let some : 0 < c.if-index-len.start =
    elim c.if-index-len.branch [
      | then-index-len w ↦ omega (arith, w.start-is, c.len-len.ensures, leaf.1)
      | else-index-len w ↦ omega (arith, w.start-is, c.len-len.ensures, leaf.1)
    ] in
    let one = ap (λ n. 4 ^ n) leaf.0 in
    let parts = back_some g.T.Clone.is_clone _ _ _ _ _ _ _ c.len-len.ensures low some c.in_ok-back.ensures.moved in
    two_fit c.args.nodes.now _ c.args.at _ c.part_off-2.new.self c.in_ok-back.back found
    (placed_behind c.args.nodes.now c.in-Ok.block.now.items c.as_mut_slice.result.now _ c.args.at c.as_mut_slice.ensures.value was c.part_off-2.new.self c.in_ok-back.back
    (c.own_with_room.follows.holds _ (search rules) ∙ ap (λ b. b.items) c.insert_within_capacity-2.ensures))
    h all c.part_off-2.ensures.height (c.in_ok-back.ensures.leaf ∙ sym leaf.0) (omega (arith, one, parts.0)) (omega (arith, one, parts.1))

pub returns-clause-some : goal.returns-clause-some
returns-clause-some g c =
    some_inserted _ _ (c.args.at + 1) c.in_ok-back.back (c.own_with_room.follows.holds _ (search rules) ∙ ap (λ b. b.items) c.insert_within_capacity-2.ensures)
