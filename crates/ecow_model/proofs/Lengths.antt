-- How long a list is after an edit.
use Rattle.std.proofs.Common.{append_assoc, arith, length, take, drop, length-append, length-drop, ◌+◌, ◌-◌, ◌≤◌, ◌++◌, ◌∷◌, ◌≡◌, ℕ, List, sym}
use Rattle.std.proofs.lemmas.List.{length-take-le}
use Rattle.std.proofs.lemmas.Option.{slice_get_past, slice_get_within}
use Rattle.std.specs.List.{insert as insert_at, splice, insert_slice}

-- how long a list is that an item or a part was put in
pub length-inserted : {X : Type 0} (xs : List X) (i : ℕ) (x : X) → i ≤ length xs → length (insert_at xs i x) ≡ length xs + 1
length-inserted xs i x h = omega (arith, length-append (take i xs) (x ∷ drop i xs), length-take-le i xs h, length-drop i xs)

pub length-spliced : {X : Type 0} (xs : List X) (s e : ℕ) (ys : List X) → s ≤ e → e ≤ length xs → length (splice xs s e ys) ≡ length xs - (e - s) + length ys
length-spliced xs s e ys h k =
    let fits : s ≤ length xs = omega arith in
    omega (arith, length-append (take s xs) (ys ++ drop e xs), length-append ys (drop e xs), length-take-le s xs fits, length-drop e xs)

pub spliced_in : {X : Type 0} (xs : List X) (i : ℕ) (ys : List X) → splice xs i i ys ≡ insert_slice xs i ys
spliced_in xs i ys = sym (append_assoc (take i xs) ys (drop i xs))

pub length-inserted_slice : {X : Type 0} (xs : List X) (i : ℕ) (ys : List X) → i ≤ length xs → length (insert_slice xs i ys) ≡ length xs + length ys
length-inserted_slice xs i ys h =
    omega (arith, length-append (take i xs ++ ys) (drop i xs), length-append (take i xs) ys, length-take-le i xs h, length-drop i xs)

pub ruleset edits = (length-append, length-inserted, length-spliced, spliced_in, length-inserted_slice, slice_get_past, slice_get_within)
