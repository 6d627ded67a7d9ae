-- The items that an iterator gave up to a refusal.
use Rattle.std.proofs.Common.{◌≡◌, ◌+◌, List, ◌∷◌, ◌++◌, [], length, Option, Some, Result, Ok, Err, OnErr, ap, arith, append_assoc, length-append, ◌∙◌}
use Rattle.std.specs.Iterator.{Yields}
use Rattle.std.proofs.iter.Next.{Yields-more}
use Rattle.ecow_list.specs.Vectors.{Appends, AppendsKept, ExtendsBy, GivesFirst, GivesItems, IsKept, Lengthens}

module _ {C I T : Type 0} (gives : C → I → Type 0) (steps : I → Option T → I → Type 0) (c : C) where
  -- one item more came
  pub one_more : (it : I) (xs : List T) (t : I) (x : T) (u : I) → gives c it → Yields steps it xs t
      → steps t (Some x) u → GivesFirst gives steps c (xs ++ x ∷ [])
  one_more it xs t x u g y s = (it, u, g, Yields-more steps it xs t x u y s)

  -- all items are the first ones
  pub all_first : (xs : List T) → GivesItems gives steps c xs → GivesFirst gives steps c xs
  all_first xs h = (h.0, h.2.1.0, h.1, h.2.1.1)

  -- a refusal was at one item more than went in
  pub refused_at : {E : Type 0} (extends : List T → List T → List T → Type 0) (it : I) (old new : List T) (r : Result (Unit {0}) E) (rest : I)
      → ((xs : List T) → extends old xs new → length new ≡ length old + length xs) → gives c it → ExtendsBy steps extends it old new r rest
      → OnErr r ((xs : List T) × GivesFirst gives steps c xs × (length new + 1 ≡ length old + length xs))
  refused_at extends it old new (Ok u) rest lengthens g h = tt
  refused_at extends it old new (Err e) rest lengthens g h =
      let len : length (h.0 ++ h.2.0 ∷ []) ≡ length h.0 + 1 = length-append h.0 (h.2.0 ∷ []) in
      let went = lengthens h.0 h.1 in
      (h.0 ++ h.2.0 ∷ [], one_more it h.0 h.2.1.0 h.2.0 rest g h.2.1.1 h.2.1.2, omega arith)

-- an item was given, and then those that went behind it
module _ {I T : Type 0} (steps : I → Option T → I → Type 0) (it t : I) (x : T) (s : steps it (Some x) t)
    (old kept new : List T) where
  pub begun_kept : {E : Type 0} (is_clone : T → T → Type 0) (r : Result (Unit {0}) E) (rest : I) → IsKept is_clone old kept
      → ExtendsBy steps Appends t (kept ++ x ∷ []) new r rest → ExtendsBy steps (AppendsKept is_clone) it old new r rest
  begun_kept is_clone (Ok u) rest is h =
      (x ∷ h.0, (kept, is, h.1 ∙ append_assoc kept (x ∷ []) h.0), (h.2.0, (t, s, h.2.1), h.2.2))
  begun_kept is_clone (Err e) rest is h =
      (x ∷ h.0, (kept, is, h.1 ∙ append_assoc kept (x ∷ []) h.0), (h.2.0, (h.2.1.0, (t, s, h.2.1.1), h.2.1.2)))

  -- so there are more
  longer : (xs : List T) → length kept ≡ length old → new ≡ (kept ++ x ∷ []) ++ xs → Lengthens old (x ∷ xs) new
  longer xs same e =
      let all = length-append kept (x ∷ xs) in
      let len = ap length (e ∙ append_assoc kept (x ∷ []) xs) in
      (omega arith, λ none. absurd (omega (arith, ap length none)))

  pub begun_len : {E : Type 0} (r : Result (Unit {0}) E) (rest : I) → length kept ≡ length old
      → ExtendsBy steps Appends t (kept ++ x ∷ []) new r rest → ExtendsBy steps Lengthens it old new r rest
  begun_len (Ok u) rest same h = (x ∷ h.0, longer h.0 same h.1, (h.2.0, (t, s, h.2.1), h.2.2))
  begun_len (Err e) rest same h = (x ∷ h.0, longer h.0 same h.1, (h.2.0, (h.2.1.0, (t, s, h.2.1.1), h.2.1.2)))

-- what holds anyway holds where there is an error
pub on_err : {T E P : Type 0} (r : Result T E) → P → OnErr r P
on_err (Ok x) p = tt
on_err (Err e) p = p
