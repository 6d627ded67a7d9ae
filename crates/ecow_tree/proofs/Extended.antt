-- Clones that come behind all elements, in the last leaf.
use Rattle.std.proofs.Common.{◌≡◌, ◌<◌, ◌≤◌, ◌+◌, ◌-◌, ℕ, suc, List, [], ◌∷◌, ◌++◌, Some, Result, Ok, Err, length, take, drop, get_or, slice_get, slice_set, refl, ap, subst, sym, ◌∙◌, arith, append-nil, append_assoc, length-append, length-drop}
use Rattle.std.specs.Prelude.{OnOk, OnErr}
use Rattle.std.specs.List.{AllZip, refill}
use Rattle.std.proofs.lemmas.Option.{slice_get-get_or}
use Rattle.std.proofs.lemmas.List.{take-append-drop}
use Rattle.ecow_base.specs.Clones.{ClonesAreEqual}
use Rattle.ecow_list.specs.Vectors.{IsKeptBefore}
use Rattle.ecow_tree.specs.Grown.{Grown}
use Rattle.ecow_tree.specs.Kept.{AreKept, ExtendsKept}
use Rattle.ecow_tree.specs.Nodes.{items_of}
use Rattle.ecow_tree.proofs.Kept.{joined, from_vec, same, long, unchanged}
use Rattle.ecow_tree.proofs.More.{none_behind, next_run, length_taken, all_taken}
use Rattle.ecow_tree.proofs.Parts.{parted, parted_set, written}

on_ok : {R E A B : Type 0} (result : Result R E) → (A → B) → OnOk result A → OnOk result B
on_ok (Ok r) f a = f a
on_ok (Err e) f a = tt

module _ {T : Type 0} (is_clone : T → T → Type 0) where
  pub clones_len : (xs ys : List T) → AllZip is_clone xs ys → length ys ≡ length xs
  clones_len [] [] each = refl
  clones_len [] (y ∷ ys) each = absurd each
  clones_len (x ∷ xs) [] each = absurd each
  clones_len (x ∷ xs) (y ∷ ys) each = ap (λ n. suc n) (clones_len xs ys each.1)

module _ {T : Type 0} (is_clone : T → T → Type 0) (xs : List T) where
  pub extends_len : (old new : List T) → ExtendsKept is_clone old xs new → length new ≡ length old + length xs
  extends_len old new (kept, is, (added, each, made)) =
      omega (arith, ap length made, length-append kept added, long is_clone old kept is, clones_len is_clone xs added each)

  pub extends_longer : {R E : Type 0} (result : Result R E) (old new : List T) → OnOk result (ExtendsKept is_clone old xs new)
      → OnErr result (new ≡ old) → length old ≤ length new
  extends_longer (Ok r) old new k e = omega (arith, extends_len old new k)
  extends_longer (Err r) old new k e = omega (arith, ap length e)

  -- a leaf takes them
  pub leaf_extends : (own new all : List T) (nodes : List (Grown T)) → nodes ≡ [] → own ≡ all → IsKeptBefore is_clone own xs new
      → ExtendsKept is_clone all xs (new ++ items_of nodes)
  leaf_extends own new all nodes none whole (kept, added, is, each, made) = (
    kept,
    subst (λ ys. AreKept is_clone ys kept) whole (from_vec is_clone own kept is),
    (added, each, ap (λ ns. new ++ items_of ns) none ∙ append-nil new ∙ made),
  )

  -- the last of some nodes takes them
  module _ {R E : Type 0} (result : Result R E) (nodes block lent left : List (Grown T)) (last : ℕ) (d new : Grown T) (end : last + 1 ≡ length nodes)
      (is : left ≡ refill (length block) block (slice_set lent last new)) (same_lent : lent ≡ block) (was : block ≡ nodes) where
    abbrev node : Grown T
    node = get_or lent last d

    abbrev before : List T
    before = items_of (take last nodes)

    found : slice_get nodes last ≡ Some node
    found =
        slice_get-get_or nodes last d (omega (arith, end)) ∙ ap Some (ap (λ ns. get_or ns last d) (sym (same_lent ∙ was)))

    none : items_of (drop (suc last) nodes) ≡ []
    none = ap (λ ns. items_of ns) (none_behind nodes (suc last) (omega (arith, end)))

    old_is : items_of nodes ≡ before ++ node.items
    old_is = parted nodes last node found ∙ ap (λ ys. before ++ (node.items ++ ys)) none ∙ ap (λ ys. before ++ ys) (append-nil node.items)

    new_is : items_of left ≡ before ++ new.items
    new_is =
        ap (λ ns. items_of ns) (written nodes block lent left last new is same_lent was) ∙ parted_set nodes last node new found
        ∙ ap (λ ys. before ++ (new.items ++ ys)) none ∙ ap (λ ys. before ++ ys) (append-nil new.items)

    extended : ExtendsKept is_clone node.items xs new.items → ExtendsKept is_clone (items_of nodes) xs (items_of left)
    extended (kept, k, (added, each, made)) = (
      before ++ kept,
      subst (λ ys. AreKept is_clone ys (before ++ kept)) (sym old_is) (joined is_clone before node.items before kept (same is_clone before) k),
      (added, each, new_is ∙ ap (λ ys. before ++ ys) made ∙ sym (append_assoc before kept added)),
    )

    pub last_extends : OnOk result (ExtendsKept is_clone node.items xs new.items) → OnOk result (ExtendsKept is_clone (items_of nodes) xs (items_of left))
    last_extends k = on_ok result extended k

-- what was cloned up to an index, and the next few
module _ {T : Type 0} (is_clone : T → T → Type 0) where
  joined_clones : (xs zs ys ws : List T) → AllZip is_clone xs ys → AllZip is_clone zs ws → AllZip is_clone (xs ++ zs) (ys ++ ws)
  joined_clones [] zs [] ws a b = b
  joined_clones [] zs (y ∷ ys) ws a b = absurd a
  joined_clones (x ∷ xs) zs [] ws a b = absurd a
  joined_clones (x ∷ xs) zs (y ∷ ys) ws a b = (a.0, joined_clones xs zs ys ws a.1 b)

  pub next_clones : (elements root items new : List T) (at few more : ℕ) → at ≤ length elements → AllZip is_clone (take at elements) root
      → AllZip is_clone (take few (drop at elements)) items → few ≤ length elements - at → new ≡ root ++ items → more ≡ at + few
      → AllZip is_clone (take more elements) new
  next_clones elements root items new at few more within done next fits is end =
      let run = take few (drop at elements) in
      let size : length run ≡ few = length_taken few (drop at elements) (omega (arith, fits, length-drop at elements)) in
      let all : take more elements ≡ take at elements ++ run =
      ap (λ n. take n elements) (end ∙ ap (λ n. at + n) (sym size))
      ∙ next_run elements run (drop few (drop at elements)) at within (sym (take-append-drop few (drop at elements))) in
      subst (AllZip is_clone (take more elements)) (sym is)
      (subst (λ xs. AllZip is_clone xs (root ++ items)) (sym all) (joined_clones (take at elements) run root items done next))

  pub all_clones : (elements new : List T) (at : ℕ) → length elements ≤ at → AllZip is_clone (take at elements) new → AllZip is_clone elements new
  all_clones elements new at end each = subst (λ xs. AllZip is_clone xs new) (all_taken elements at end) each

  pub clones_equal : ClonesAreEqual is_clone → (xs ys : List T) → AllZip is_clone xs ys → ys ≡ xs
  clones_equal equal [] [] each = refl
  clones_equal equal [] (y ∷ ys) each = absurd each
  clones_equal equal (x ∷ xs) [] each = absurd each
  clones_equal equal (x ∷ xs) (y ∷ ys) each =
      let head : y ≡ x = equal x y each.0 in
      let tail : ys ≡ xs = clones_equal equal xs ys each.1 in cc

-- what a call that extends a tree leaves
module _ {T : Type 0} (is_clone : T → T → Type 0) where
  pub extends_none : (old xs : List T) → length xs ≡ 0 → ExtendsKept is_clone old xs old
  extends_none old [] none = (old, same is_clone old, ([], tt, sym (append-nil old)))
  extends_none old (x ∷ xs) none = absurd (omega (arith, none))

  pub extends_exact : {R E : Type 0} (result : Result R E) (old xs new : List T) → ClonesAreEqual is_clone
      → OnOk result (ExtendsKept is_clone old xs new) → OnOk result (new ≡ old ++ xs)
  extends_exact (Ok r) old xs new equal (kept, is, (added, each, made)) =
      made ∙ ap (λ ys. ys ++ added) (unchanged is_clone equal old kept is) ∙ ap (λ ys. old ++ ys) (clones_equal is_clone equal xs added each)
  extends_exact (Err e) old xs new equal k = tt

  pub extends_count : {R E : Type 0} (result : Result R E) (old xs new : List T) → OnOk result (ExtendsKept is_clone old xs new)
      → OnOk result (length new ≡ length old + length xs)
  extends_count (Ok r) old xs new k = extends_len is_clone xs old new k
  extends_count (Err e) old xs new k = tt
