-- What a vector ends as, once a borrow of its block or of its elements has ended.
use mathlib.Core.Option as maybe
use Rattle.std.specs.Prelude.{◌≡◌, List, [], ◌∷◌, length, Option, Result, IsOk, OnErr}
use Rattle.std.specs.declared.result.Result.TheVariants.{Ok, Err}
use Rattle.std.specs.Borrow.{LendsIf, LendsSoOk, follows_so, GName, Fml, RattleType, MutBor, Array}
use Rattle.ecow_block.specs.Contents.{Contents}
use Rattle.ecow_block.specs.contracts.block.Block.{the_row as block_row}
use Rattle.ecow_list.specs.Vectors.{IsKept}
use Rattle.ecow_list.specs.contracts.vec.EcoVec.{the_row as vec_row}

-- the name of a borrowed slice; one of no elements needs none
abbrev pub name_of_slice : {X : Type 0} → GName → List X → maybe.Option GName
name_of_slice g [] = maybe.none
name_of_slice g (x ∷ xs) = maybe.some g

-- the name of a slice that was lent, if one was
abbrev pub name_if_lent : {X E : Type 0} → Result (MutBor (List X)) E → maybe.Option GName
name_if_lent (Ok s) = name_of_slice s.ghost_name s.now
name_if_lent (Err e) = maybe.none

module _ (T : RattleType) where
  -- the elements are those of the block that was lent, and at `None` they stay
  abbrev pub lends_block : MutBor (List T.Denot) → Option (MutBor (Contents T.Denot)) → Fml
  lends_block v r = LendsIf (vec_row T) (block_row T) v r (λ b. b.items) v.now

  -- the elements are those of the block that was lent; at `Err` they stay, or clones stand in their
  -- places
  abbrev pub lends_own_block : (T.Denot → T.Denot → Type 0) → MutBor (List T.Denot)
      → {E : Type 0} → Result (MutBor (Contents T.Denot)) E → Fml
  lends_own_block is_clone v r =
      LendsSoOk (vec_row T) (block_row T) v r (λ n b. n ≡ b.items) (λ n. IsKept is_clone v.now n)

  -- the elements are those that were written last through the slice, as many as there were; where
  -- there are none, none come, and at `Err` they stay, or clones stand in their places
  abbrev pub lends_slice : (T.Denot → T.Denot → Type 0) → MutBor (List T.Denot) → {E : Type 0}
      → Result (MutBor (List T.Denot)) E → Fml
  lends_slice is_clone v r =
      follows_so (vec_row T) (Array T 0) v.ghost_name (name_if_lent r)
      (λ written n. IsOk r → length written ≡ length v.now → n ≡ written)
      (λ n. OnErr r (IsKept is_clone v.now n) × (v.now ≡ [] → n ≡ []))
