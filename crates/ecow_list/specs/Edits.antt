-- What an edit of a vector's own block makes of its elements.
use Rattle.std.specs.Prelude.{◌≡◌, ◌+◌, ◌≤◌, ◌<◌, ◌↔◌, ℕ, List, length, Result, IfOk, IfErr, IsErrAnd, OnErr}
use Rattle.std.specs.declared.result.Result.TheVariants.{Ok, Err}
use Rattle.std.specs.Borrow.{MutBor}
use Rattle.std.specs.Fn.{Once}
use Rattle.ecow_base.specs.Clones.{ClonesAreEqual}
use Rattle.ecow_base.specs.declared.capacity.TheConstants.{MAX_LEN}
use Rattle.ecow_block.specs.Contents.{Contents}
use Rattle.ecow_list.specs.declared.error.EcoError.TheVariants.{Capacity, Memory}
use Rattle.ecow_list.specs.declared.error.Rejected.{Rejected}
use Rattle.ecow_list.specs.Vectors.{IsKept}

module _ {F A T R : Type 0} (g : Once F (MutBor (Contents T) × (A × Unit {0})) (Result R A
    × (MutBor (Contents T) × Unit {0}))) (edit : F) (given : A) where
  -- it may be called at a block of the old elements, or of a clone of each, with room for
  -- `additional` more
  abbrev pub Edits : (T → T → Type 0) → List T → ℕ → Type 0
  Edits is_clone old additional =
      (b : MutBor (Contents T))
      → IsKept is_clone old b.now.items
      → length b.now.items ≡ length old
      → length old + additional ≤ b.now.capacity
      → g.pre edit (b, (given, tt))

  -- where it refuses, it leaves the elements as they were, and hands back what it was given
  abbrev pub RefusesClean : Type 0
  RefusesClean =
      (b left : MutBor (Contents T)) (back : A)
      → g.post edit (b, (given, tt)) (Err back, (left, tt))
      → (left.now.items ≡ b.now.items) × (back ≡ given)

  -- it answers r at a block of the elements xs, and leaves ys there
  pub record EditsTo (xs : List T) (r : R) (ys : List T) : Type 0 where
    pub shown : MutBor (Contents T)
    pub shows : shown.now.items ≡ xs
    pub left : MutBor (Contents T)
    pub met : g.post edit (shown, (given, tt)) (Ok r, (left, tt))
    pub leaves : left.now.items ≡ ys

  -- it answers r at a block of the old elements, or of a clone of each, and leaves the new ones
  -- there
  pub record EditsKept (is_clone : T → T → Type 0) (old : List T) (r : R)
      (new : List T) : Type 0 where
    pub kept : List T
    pub is_kept : IsKept is_clone old kept
    pub same_length : length kept ≡ length old
    pub edited : EditsTo kept r new

  -- what a vector's edit of its own block, with room for `additional` more elements, answers and
  -- leaves
  pub record Edited (is_clone : T → T → Type 0) (old : List T) (additional : ℕ)
      (result : Result R (Rejected A)) (new : List T) : Type 0 where
    -- where clones equal their sources, the old elements were edited
    pub ok : ClonesAreEqual is_clone → IfOk result (λ r. EditsTo old r new)
    -- for any clones, the old elements were edited, or a clone of each
    pub kept : IfOk result (λ r. EditsKept is_clone old r new)
    -- a refusal leaves the old elements
    pub unchanged : OnErr result (new ≡ old)
    -- a refusal hands back what was given
    pub value_returned : IfErr result (λ rejected. rejected.value ≡ given)
    -- it is for capacity just where the length and `additional` pass the limit
    pub capacity : IsErrAnd result (λ rejected. rejected.error ≡ Capacity)
        ↔ (MAX_LEN < length old + additional)
    -- it is for memory where no element is added
    pub memory : additional ≡ 0 → IfErr result (λ rejected. rejected.error ≡ Memory)
