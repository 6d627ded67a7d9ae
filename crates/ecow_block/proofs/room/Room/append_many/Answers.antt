use Rattle.std.proofs.Common.{rules, arith, ◌≡◌, ◌-◌, ◌++◌, length, length-drop, take, drop, ap, ◌∙◌}
use Rattle.std.proofs.lemmas.List.{take-append-drop, take_all}
use Rattle.ecow_block.proofs.Cloned.{some_more}
use Rattle.ecow_block.proofs.room.Room.append_many.Goals as goal

pub returns-clause-clones : goal.returns-clause-clones
returns-clause-clones g c =
    let xs = c.args.elements.now in let count = c.in_ok-count.count in let rest = take (length xs - count) (drop count xs) in
    let all : take count xs ++ rest ≡ xs =
    ap (λ l. take count xs ++ l) (take_all (length xs - count) (drop count xs) (omega (arith, length-drop count xs))) ∙ take-append-drop count xs in
    let grown =
    some_more g.T.Clone.is_clone c.args.self.now.items
    (take count xs) rest c.append_chunks.new.self.items c.append_each-put.new.self.items (search rules) (search rules) in
    rw all at grown
