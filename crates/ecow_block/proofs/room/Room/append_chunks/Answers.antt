use Rattle.std.proofs.Common.{rules, arith, ◌≡◌, ◌+◌, ◌≤◌, ◌++◌, length, take, drop}
use Rattle.std.proofs.lemmas.Grind.{common_steps}
use Rattle.std.proofs.Math.Seq.{drop-drop, take-add}
use Rattle.ecow_block.proofs.Cloned.{some_more}
use Rattle.ecow_block.proofs.room.Room.append_chunks.Goals as goal

pub loop-chunk-preserved : goal.loop-chunk-preserved
loop-chunk-preserved g c =
    let xs = c.args.elements.now in let old = c.args.self.now.items in let count = c.loop-chunk.count in
    let within : count + 128 ≤ length xs = grind (arith, common_steps) in
    let next : take count xs ++ c.in-Some.chunk.now ≡ take (count + 128) xs = search (rules, take-add count 128 xs) in
    let left : c.in-Some.others.now ≡ drop (count + 128) xs = search (rules, drop-drop 128 count xs) in
    let grown =
    some_more g.T.Clone.is_clone old (take count xs) c.in-Some.chunk.now c.loop-chunk.self.items
    c.append_chunk-put.new.self.items c.loop-chunk.invariant.5 (search rules) in
    (within, left, search rules, grind (arith, common_steps), grind (arith, common_steps), rw next at grown)
