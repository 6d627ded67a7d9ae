-- What stays of all elements, where those of one block may have been cloned.
use Rattle.std.proofs.Common.{◌≡◌, ◌<◌, ◌+◌, ◌-◌, ℕ, suc, List, [], ◌∷◌, ◌++◌, Some, length, take, drop, slice_get, refl, ap, subst, sym, ◌∙◌, arith, inl, inr, append-nil, append_assoc, length-append, length-drop}
use Rattle.std.proofs.lemmas.List.{take-append-drop}
use Rattle.std.specs.Prelude.{◌⊎◌, Result, OnOk, IfOk}
use Rattle.std.specs.List.{AllZip, insert, remove, replace_range, slice_set}
use Rattle.std.specs.declared.result.Result.TheVariants.{Ok, Err}
use Rattle.std.specs.Borrow.{MutBor}
use Rattle.std.specs.Fn.{Once}
use Rattle.ecow_base.specs.Clones.{ClonesAreEqual}
use Rattle.ecow_block.specs.Updates.{UpdatesAt}
use Rattle.ecow_list.specs.Vectors.{IsKept, IsKeptIn, SomeKept as SomeKeptInList}
use Rattle.ecow_tree.specs.Grown.{Grown}
use Rattle.ecow_tree.specs.Nodes.{items_of, LeadsTo}
use Rattle.ecow_tree.specs.Kept.{AreKept, AreKeptIn, IsKeptTwice, Removes, ReplacesKept, SomeKept, Changes, ChangesBy}
use Rattle.ecow_tree.proofs.More.{all_taken, none_behind, length_taken}
use Rattle.ecow_tree.proofs.Parts.{parted, parted_set, parted_pair, set_middle, insert_middle, remove_middle, get_behind, get_front}

module _ {T : Type 0} (is_clone : T → T → Type 0) where
  pub same : (xs : List T) → AreKept is_clone xs xs
  same [] = tt
  same (x ∷ xs) = (inl refl, same xs)

  pub joined : (xs ys ks bs : List T) → AreKept is_clone xs ks → AreKept is_clone ys bs → AreKept is_clone (xs ++ ys) (ks ++ bs)
  joined [] ys [] bs l r = r
  joined [] ys (a ∷ ks) bs l r = absurd l
  joined (x ∷ xs) ys [] bs l r = absurd l
  joined (x ∷ xs) ys (a ∷ ks) bs l r = (l.0, joined xs ys ks bs l.1 r)

  pub long : (xs ks : List T) → AreKept is_clone xs ks → length ks ≡ length xs
  long [] [] each = refl
  long [] (a ∷ ks) each = absurd each
  long (x ∷ xs) [] each = absurd each
  long (x ∷ xs) (a ∷ ks) each = ap (λ n. suc n) (long xs ks each.1)

  each_clone : (xs ks : List T) → AllZip is_clone xs ks → AreKept is_clone xs ks
  each_clone [] [] each = tt
  each_clone [] (a ∷ ks) each = absurd each
  each_clone (x ∷ xs) [] each = absurd each
  each_clone (x ∷ xs) (a ∷ ks) each = (inr each.0, each_clone xs ks each.1)

  -- what a vector keeps, a tree keeps
  pub from_vec : (xs ks : List T) → IsKept is_clone xs ks → AreKept is_clone xs ks
  from_vec xs ks (inl is) = subst (AreKept is_clone xs) (sym is) (same xs)
  from_vec xs ks (inr each) = each_clone xs ks each

  is_same : ClonesAreEqual is_clone → (x y : T) → (y ≡ x) ⊎ is_clone x y → y ≡ x
  is_same equal x y (inl is) = is
  is_same equal x y (inr clone) = equal x y clone

  pub unchanged : ClonesAreEqual is_clone → (xs ks : List T) → AreKept is_clone xs ks → ks ≡ xs
  unchanged equal [] [] each = refl
  unchanged equal [] (a ∷ ks) each = absurd each
  unchanged equal (x ∷ xs) [] each = absurd each
  unchanged equal (x ∷ xs) (a ∷ ks) each =
      let head : a ≡ x = is_same equal x a each.0 in
      let tail : ks ≡ xs = unchanged equal xs ks each.1 in cc

  -- the clauses of a public call
  pub changes : {R E : Type 0} (old new : List T) (change : List T → List T) (result : Result R E)
      → OnOk result (AreKeptIn is_clone old change new) → Changes is_clone old change result new
  changes old new change (Ok r) (k, is, made) = record { ok = λ equal. made ∙ ap change (unchanged equal old k is); kept = (k, is, made) }
  changes old new change (Err e) k = record { ok = λ equal. tt; kept = tt }

  pub changes_by : {R E : Type 0} (old new : List T) (step : List T → R → List T → Type 0) (result : Result R E)
      → IfOk result (λ r. SomeKept is_clone old (λ xs. step xs r new)) → ChangesBy is_clone old step result new
  changes_by old new step (Ok r) (k, is, made) = record { ok = λ equal. subst (λ xs. step xs r new) (unchanged equal old k is) made; kept = (k, is, made) }
  changes_by old new step (Err e) k = record { ok = λ equal. tt; kept = tt }

  -- the same of elements that may have been cloned twice
  pub same_twice : (xs : List T) → IsKeptTwice is_clone xs xs
  same_twice xs = (xs, same xs, same xs)

  pub unchanged_twice : ClonesAreEqual is_clone → (xs ks : List T) → IsKeptTwice is_clone xs ks → ks ≡ xs
  unchanged_twice equal xs ks (once, is, again) = unchanged equal once ks again ∙ unchanged equal xs once is

  pub replaced_exact : ClonesAreEqual is_clone → (old new xs : List T) (start end : ℕ) → ReplacesKept is_clone old start end xs new
      → new ≡ replace_range old start end xs
  replaced_exact equal old new xs start end (kept, is, added, clones, made) =
      made
      ∙ ap (λ ys. replace_range kept start end ys) (unchanged equal xs added (each_clone xs added clones))
      ∙ ap (λ ys. replace_range ys start end xs) (unchanged_twice equal old kept is)

  pub replaced_none : (old xs : List T) (start end : ℕ) → old ≡ [] → xs ≡ replace_range old start end xs
  replaced_none old xs start end none =
      sym (ap (λ ys. replace_range ys start end xs) none
      ∙ ap (λ ys. (ys ++ xs) ++ drop end []) (all_taken [] start (omega arith))
      ∙ ap (λ ys. xs ++ ys) (none_behind [] end (omega arith)) ∙ append-nil xs)

  -- one element goes
  pub kept_removed : (old new : List T) (index : ℕ) (x : T) → index < length old → Removes is_clone old index x new → length new + 1 ≡ length old
  kept_removed old new index x within (k, is, there) =
      omega (
        arith,
        within,
        ap length there.1,
        length-append (take index k) (drop (suc index) k),
        length_taken index k (omega (arith, within, long old k is)),
        length-drop (suc index) k,
        long old k is,
      )

  pub removed_len : {E : Type 0} (old new : List T) (index : ℕ) (result : Result T E) → index < length old
      → IfOk result (λ x. Removes is_clone old index x new) → OnOk result (length new + 1 ≡ length old)
  removed_len old new index (Ok x) within k = kept_removed old new index x within k
  removed_len old new index (Err e) within k = tt

  insert_end : (xs : List T) (n : ℕ) (x : T) → n ≡ length xs → insert xs n x ≡ xs ++ x ∷ []
  insert_end xs n x is =
      ap (λ ys. ys ++ x ∷ drop n xs) (all_taken xs n (omega (arith, is)))
      ∙ ap (λ ys. xs ++ x ∷ ys) (none_behind xs n (omega (arith, is)))

  -- what is inserted at the length comes behind all
  pub appended : {R E : Type 0} (old new : List T) (n : ℕ) (x : T) (result : Result R E) → n ≡ length old
      → Changes is_clone old (λ xs. insert xs n x) result new → Changes is_clone old (λ xs. xs ++ x ∷ []) result new
  appended old new n x (Ok r) count c =
      let k = c.kept in
      changes old new (λ xs. xs ++ x ∷ []) (Ok r)
      (k.0, k.1, k.2 ∙ insert_end k.0 n x (omega (arith, count, long old k.0 k.1)))
  appended old new n x (Err e) count c = record { ok = λ equal. tt; kept = tt }

  -- what is removed before the length is the last one
  pub popped : (old new : List T) (n : ℕ) (x : T) → n ≡ length old → 0 < n → Removes is_clone old (n - 1) x new
      → SomeKept is_clone old (λ xs. (Some x ≡ slice_get xs (length xs - 1)) × (new ≡ take (length xs - 1) xs))
  popped old new n x count some (k, is, there) =
      let same_n : n - 1 ≡ length k - 1 = omega (arith, count, long old k is) in (
        k,
        is,
        (
          sym there.0 ∙ ap (λ i. slice_get k i) same_n,
          there.1
              ∙ ap (λ ys. take (n - 1) k ++ ys) (none_behind k (suc (n - 1)) (omega (arith, count, some, long old k is)))
              ∙ append-nil (take (n - 1) k)
              ∙ ap (λ i. take i k) same_n,
        ),
      )

  -- one element comes among all
  pub kept_inserted : (old new : List T) (index : ℕ) (x : T) → AreKeptIn is_clone old (λ xs. insert xs index x) new → length new ≡ length old + 1
  kept_inserted old new index x (k, is, made) =
      omega (
        arith,
        ap length made,
        length-append (take index k) (x ∷ drop index k),
        length-append (take index k) (drop index k),
        ap length (take-append-drop index k),
        long old k is,
      )

  -- a leaf has its elements alone
  leaf_is : (own all : List T) (nodes : List (Grown T)) → nodes ≡ [] → own ++ items_of nodes ≡ all → own ≡ all
  leaf_is own all nodes none whole = sym (append-nil own) ∙ ap (λ ns. own ++ items_of ns) (sym none) ∙ whole

  pub in_leaf : (own new all : List T) (nodes : List (Grown T)) (change : List T → List T) → nodes ≡ [] → own ++ items_of nodes ≡ all
      → IsKeptIn is_clone own change new → AreKeptIn is_clone all change (new ++ items_of nodes)
  in_leaf own new all nodes change none whole (k, is, made) = (
    k,
    subst (λ xs. AreKept is_clone xs k) (leaf_is own all nodes none whole) (from_vec own k is),
    ap (λ ns. new ++ items_of ns) none ∙ append-nil new ∙ made,
  )

  -- the same of an element that a closure changes
  pub update_leaf : {F R : Type 0} (g : Once F (MutBor T × Unit {0}) (R × (MutBor T × Unit {0}))) (f : F) (answer : R)
      (own new all : List T) (nodes : List (Grown T)) (index : ℕ) → nodes ≡ [] → own ++ items_of nodes ≡ all
      → SomeKeptInList is_clone own (λ xs. UpdatesAt g f index xs new answer)
      → SomeKept is_clone all (λ xs. UpdatesAt g f index xs (new ++ items_of nodes) answer)
  update_leaf g f answer own new all nodes index none whole (k, is, there) = (
    k,
    subst (λ xs. AreKept is_clone xs k) (leaf_is own all nodes none whole) (from_vec own k is),
    (there.0, there.1, there.2, there.3, ap (λ ns. new ++ items_of ns) none ∙ append-nil new ∙ there.4),
  )

  -- the same of an element that comes out
  pub out_of_leaf : (own new all : List T) (nodes : List (Grown T)) (index : ℕ) (x : T) → nodes ≡ [] → own ++ items_of nodes ≡ all
      → SomeKeptInList is_clone own (λ xs. (slice_get xs index ≡ Some x) × (new ≡ remove xs index))
      → SomeKept is_clone all (λ xs. (slice_get xs index ≡ Some x) × (new ++ items_of nodes ≡ remove xs index))
  out_of_leaf own new all nodes index x none whole (k, is, there) = (
    k,
    subst (λ xs. AreKept is_clone xs k) (leaf_is own all nodes none whole) (from_vec own k is),
    (there.0, ap (λ ns. new ++ items_of ns) none ∙ append-nil new ∙ there.1),
  )

  -- another node has those of the nodes below alone
  pub in_nodes : (own behind all new : List T) (change : List T → List T) → own ≡ [] → own ++ behind ≡ all
      → AreKeptIn is_clone behind change new → AreKeptIn is_clone all change (own ++ new)
  in_nodes own behind all new change none whole k =
      subst (λ n. AreKeptIn is_clone all change n) (ap (λ o. o ++ new) (sym none))
      (subst (λ b. AreKeptIn is_clone b change new) (ap (λ o. o ++ behind) (sym none) ∙ whole) k)

  -- a change of the elements of one node is one of all elements
  module _ (nodes : List (Grown T)) (at : ℕ) (node : Grown T) (found : slice_get nodes at ≡ Some node) where
    abbrev pub before : List T
    before = items_of (take at nodes)

    abbrev pub behind : List T
    behind = items_of (drop (suc at) nodes)

    pub all_kept : (k : List T) → AreKept is_clone node.items k → AreKept is_clone (items_of nodes) (before ++ (k ++ behind))
    all_kept k each =
        subst (λ ys. AreKept is_clone ys (before ++ (k ++ behind))) (sym (parted nodes at node found))
        (joined before (node.items ++ behind) before (k ++ behind) (same before) (joined node.items behind k behind each (same behind)))

    around : (f g : List T → List T) (part : List T)
        → ((k : List T) → length k ≡ length node.items → g (before ++ (k ++ behind)) ≡ before ++ (f k ++ behind))
        → AreKeptIn is_clone node.items f part → AreKeptIn is_clone (items_of nodes) g (before ++ (part ++ behind))
    around f g part commutes (k, is, made) = (
      before ++ (k ++ behind),
      all_kept k is,
      ap (λ ys. before ++ (ys ++ behind)) made ∙ sym (commutes k (long node.items k is)),
    )

    pub below : (f g : List T → List T) (new : Grown T)
        → ((k : List T) → length k ≡ length node.items → g (before ++ (k ++ behind)) ≡ before ++ (f k ++ behind))
        → AreKeptIn is_clone node.items f new.items → AreKeptIn is_clone (items_of nodes) g (items_of (slice_set nodes at new))
    below f g new commutes k =
        subst (AreKeptIn is_clone (items_of nodes) g) (sym (parted_set nodes at node new found)) (around f g new.items commutes k)

  -- the same, where an index leads to the node
  module _ (nodes : List (Grown T)) (index at rest : ℕ) (l : LeadsTo nodes index at rest) where
    pub set_below : (x : T) (new : Grown T) → rest < length l.node.items
        → AreKeptIn is_clone l.node.items (λ xs. slice_set xs rest x) new.items
        → AreKeptIn is_clone (items_of nodes) (λ xs. slice_set xs index x) (items_of (slice_set nodes at new))
    set_below x new within k =
        below nodes at l.node l.found (λ xs. slice_set xs rest x) (λ xs. slice_set xs index x) new
        (λ ks e. set_middle (items_of (take at nodes)) ks (items_of (drop (suc at) nodes)) index rest l.before x (omega (arith, within, e))) k

    inserts : (x : T) (k : List T) → length k ≡ length l.node.items
        → insert (items_of (take at nodes) ++ (k ++ items_of (drop (suc at) nodes))) index x
        ≡ items_of (take at nodes) ++ (insert k rest x ++ items_of (drop (suc at) nodes))
    inserts x k e = insert_middle (items_of (take at nodes)) k (items_of (drop (suc at) nodes)) index rest l.before x (omega (arith, l.inside, e))

    pub insert_below : (x : T) (new : Grown T)
        → AreKeptIn is_clone l.node.items (λ xs. insert xs rest x) new.items
        → AreKeptIn is_clone (items_of nodes) (λ xs. insert xs index x) (items_of (slice_set nodes at new))
    insert_below x new k =
        below nodes at l.node l.found (λ xs. insert xs rest x) (λ xs. insert xs index x) new (inserts x) k

    -- two nodes come in place of the one
    pub insert_pair : (x : T) (first second : Grown T)
        → AreKeptIn is_clone l.node.items (λ xs. insert xs rest x) (first.items ++ second.items)
        → AreKeptIn is_clone (items_of nodes) (λ xs. insert xs index x) (items_of (insert (slice_set nodes at first) (suc at) second))
    insert_pair x first second k =
        let before = items_of (take at nodes) in
        let behind = items_of (drop (suc at) nodes) in
        let is : before ++ ((first.items ++ second.items) ++ behind) ≡ items_of (insert (slice_set nodes at first) (suc at) second) =
        ap (λ ys. before ++ ys) (append_assoc first.items second.items behind) ∙ sym (parted_pair nodes at l.node first second l.found) in
        subst (AreKeptIn is_clone (items_of nodes) (λ xs. insert xs index x)) is
        (around nodes at l.node l.found (λ xs. insert xs rest x) (λ xs. insert xs index x) (first.items ++ second.items) (inserts x) k)

    -- what a closure leaves of an element of the node, it leaves of one of all elements
    pub update_below : {F R : Type 0} (g : Once F (MutBor T × Unit {0}) (R × (MutBor T × Unit {0}))) (f : F) (answer : R) (new : Grown T)
        → rest < length l.node.items → SomeKept is_clone l.node.items (λ xs. UpdatesAt g f rest xs new.items answer)
        → SomeKept is_clone (items_of nodes) (λ xs. UpdatesAt g f index xs (items_of (slice_set nodes at new)) answer)
    update_below g f answer new within (k, is, there) =
        let before = items_of (take at nodes) in
        let behind = items_of (drop (suc at) nodes) in (
          before ++ (k ++ behind),
          all_kept nodes at l.node l.found k is,
          (
            there.0,
            there.1,
            get_behind before (k ++ behind) index rest there.0 l.before (get_front k behind rest there.0 there.2),
            there.3,
            parted_set nodes at l.node new l.found
                ∙ ap (λ ys. before ++ (ys ++ behind)) there.4
                ∙ sym (set_middle before k behind index rest l.before there.1 (omega (arith, within, long l.node.items k is))),
          ),
        )

    pub remove_below : (x : T) (part : List T) → rest < length l.node.items
        → SomeKept is_clone l.node.items (λ xs. (slice_get xs rest ≡ Some x) × (part ≡ remove xs rest))
        → SomeKept is_clone (items_of nodes)
        (λ xs. (slice_get xs index ≡ Some x) × (items_of (take at nodes) ++ (part ++ items_of (drop (suc at) nodes)) ≡ remove xs index))
    remove_below x part within (k, is, there) =
        let before = items_of (take at nodes) in
        let behind = items_of (drop (suc at) nodes) in (
          before ++ (k ++ behind),
          all_kept nodes at l.node l.found k is,
          (
            get_behind before (k ++ behind) index rest x l.before (get_front k behind rest x there.0),
            ap (λ ys. before ++ (ys ++ behind)) there.1
                ∙ sym (remove_middle before k behind index rest l.before (omega (arith, within, long l.node.items k is))),
          ),
        )
