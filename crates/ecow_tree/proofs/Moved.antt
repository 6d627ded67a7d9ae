-- A run of elements that moves to another vector, with one more.
use Rattle.std.proofs.Common.{◌≡◌, ◌<◌, ◌≤◌, ◌-◌, ℕ, List, [], ◌∷◌, ◌++◌, length, take, drop, refl, ap, subst, sym, ◌∙◌, arith}
use Rattle.std.specs.Prelude.{IfSome, slice_range}
use Rattle.std.specs.List.{insert, remove_range}
use Rattle.std.specs.declared.ops.Bound.TheVariants.{Included, Excluded}
use Rattle.std.proofs.lemmas.List.{take-append-drop}
use Rattle.ecow_list.proofs.Ranges.{within}
use Rattle.ecow_list.specs.Ranges.{AtRange}
use Rattle.ecow_list.specs.Vectors.{SomeKept as SomeKeptInList}
use Rattle.std.proofs.Common.{append-nil, length-append, length-drop}
use Rattle.std.proofs.lemmas.List.Edits.{insert-append_left, insert-append_right}
use Rattle.ecow_tree.specs.Grown.{Grown}
use Rattle.ecow_tree.specs.Nodes.{items_of}
use Rattle.ecow_tree.proofs.More.{all_taken, length_taken, none_behind}
use Rattle.ecow_tree.specs.Kept.{SomeKept, AreKept, AreKeptIn}
use Rattle.ecow_tree.proofs.Kept.{same, from_vec, long}

module _ {T : Type 0} (is_clone : T → T → Type 0) (items : List T) (start end index : ℕ) (x : T) where
  -- none moves
  pub moved_alone : (fresh : List T) → start ≡ end → start ≤ index → index ≤ end → fresh ≡ x ∷ []
      → SomeKept is_clone items (λ xs. (items ≡ remove_range xs start end) × (fresh ≡ insert (slice_range xs start end) (index - start) x))
  moved_alone fresh none low high is =
      let nothing : end - start ≡ 0 = omega (arith, none) in
      let first : index - start ≡ 0 = omega (arith, none, low, high) in (
        items,
        same is_clone items,
        (
          sym (ap (λ n. take start items ++ drop n items) (sym none) ∙ take-append-drop start items),
          is
              ∙ sym (ap (λ i. insert (take (end - start) (drop start items)) i x) first
              ∙ ap (λ n. insert (take n (drop start items)) 0 x) nothing),
        ),
      )

  pub moved_some : (new moved block fresh : List T) → start ≤ end → end ≤ length items
      → SomeKeptInList is_clone items
      (λ xs. AtRange (Included start, Excluded end) (length items) (λ s e. (moved ≡ slice_range xs s e) × (new ≡ remove_range xs s e)))
      → block ≡ [] → fresh ≡ insert (block ++ moved) (index - start) x
      → SomeKept is_clone items (λ xs. (new ≡ remove_range xs start end) × (fresh ≡ insert (slice_range xs start end) (index - start) x))
  moved_some new moved block fresh in_order in_bounds (kept, is, at) none made =
      let there = subst (λ o. IfSome o (λ (part : ℕ × ℕ). (moved ≡ slice_range kept part.0 part.1) × (new ≡ remove_range kept part.0 part.1)))
      (within start end (length items) in_order in_bounds) at in (
        kept,
        from_vec is_clone items kept is,
        (
          there.1,
          made ∙ ap (λ ys. insert (ys ++ moved) (index - start) x) none ∙ ap (λ ys. insert ys (index - start) x) there.0,
        ),
      )

-- a leaf whose elements from `start` up to `end` moved
module _ {T : Type 0} (is_clone : T → T → Type 0) (items new fresh all : List T) (nodes : List (Grown T)) (none : nodes ≡ []) (whole : items ≡ all)
    (start end index : ℕ) (x : T) where
  alone : new ++ items_of nodes ≡ new
  alone = ap (λ ns. new ++ items_of ns) none ∙ append-nil new

  pub off_leaf : (leaf : List T) → SomeKept is_clone items (λ xs. (new ≡ remove_range xs start end) × (fresh ≡ insert (slice_range xs start end) (index - start) x))
      → leaf ≡ fresh
      → SomeKept is_clone all (λ xs. (new ++ items_of nodes ≡ remove_range xs start end) × (leaf ≡ insert (slice_range xs start end) (index - start) x))
  off_leaf leaf (kept, is, there) copied = (kept, subst (λ ys. AreKept is_clone ys kept) whole is, (alone ∙ there.0, copied ∙ there.1))

  pub off_len : (len : ℕ) → SomeKept is_clone items (λ xs. (new ≡ remove_range xs start end) × (fresh ≡ insert (slice_range xs start end) (index - start) x))
      → len ≡ length items → start ≤ end → end ≤ len → len - (end - start) ≡ length new
  off_len len (kept, is, there) counted low high =
      let count : length kept ≡ length items = long is_clone items kept is in
      omega (
        arith,
        counted,
        count,
        low,
        high,
        ap length there.0,
        length-append (take start kept) (drop end kept),
        length_taken start kept (omega (arith, counted, count, low, high)),
        length-drop end kept,
      )

pub some_inserted : {T : Type 0} (xs ys : List T) (i : ℕ) (x : T) → ys ≡ insert xs i x → 0 < length ys
some_inserted xs ys i x is = omega (arith, ap length is, length-append (take i xs) (x ∷ drop i xs))

-- the two parts of a leaf, cut at `cut`
module _ {T : Type 0} (is_clone : T → T → Type 0) (items new fresh : List T) (cut index : ℕ) (x : T) where
  seam : (kept : List T) → cut ≤ length kept → length (take cut kept) ≡ cut
  seam kept within = length_taken cut kept within

  pub back_kept : (len : ℕ) → len ≡ length items → cut ≤ index → index ≤ len
      → SomeKept is_clone items (λ xs. (new ≡ remove_range xs cut len) × (fresh ≡ insert (slice_range xs cut len) (index - cut) x))
      → AreKeptIn is_clone items (λ xs. insert xs index x) (new ++ fresh)
  back_kept len counted low high (kept, is, there) =
      let count : len ≡ length kept = omega (arith, counted, long is_clone items kept is) in
      let lt = seam kept (omega (arith, count, low, high)) in
      let rest : take (len - cut) (drop cut kept) ≡ drop cut kept = all_taken (drop cut kept) (len - cut) (omega (arith, length-drop cut kept, count)) in
      let front : new ≡ take cut kept = there.0 ∙ ap (λ ys. take cut kept ++ ys) (none_behind kept len (omega (arith, count))) ∙ append-nil (take cut kept) in (
        kept,
        is,
        ap (λ ys. ys ++ fresh) front
            ∙ ap (λ ys. take cut kept ++ ys) (there.1 ∙ ap (λ ys. insert ys (index - cut) x) rest)
            ∙ sym (insert-append_right (take cut kept) (drop cut kept) (length (take cut kept)) index x refl (omega (arith, lt, low))
            ∙ ap (λ n. take cut kept ++ insert (drop cut kept) (index - n) x) lt)
            ∙ ap (λ ys. insert ys index x) (take-append-drop cut kept),
      )

  pub back_some : (len : ℕ) → len ≡ length items → cut ≤ len → 0 < cut
      → SomeKept is_clone items (λ xs. (new ≡ remove_range xs cut len) × (fresh ≡ insert (slice_range xs cut len) (index - cut) x))
      → (0 < length new) × (0 < length fresh)
  back_some len counted low some (kept, is, there) =
      let count : len ≡ length kept = omega (arith, counted, long is_clone items kept is) in
      let lt = seam kept (omega (arith, count, low)) in (
        omega (arith, some, lt, ap length there.0, length-append (take cut kept) (drop len kept)),
        some_inserted (slice_range kept cut len) fresh (index - cut) x there.1,
      )

  front_is : (kept : List T) → fresh ≡ insert (slice_range kept 0 cut) (index - 0) x → fresh ≡ insert (take cut kept) index x
  front_is kept is =
      let i : index - 0 ≡ index = omega arith in
      let c : cut - 0 ≡ cut = omega arith in
      is ∙ ap (λ n. insert (take n kept) (index - 0) x) c ∙ ap (λ n. insert (take cut kept) n x) i

  pub front_kept : index ≤ cut → cut ≤ length items
      → SomeKept is_clone items (λ xs. (new ≡ remove_range xs 0 cut) × (fresh ≡ insert (slice_range xs 0 cut) (index - 0) x))
      → AreKeptIn is_clone items (λ xs. insert xs index x) (fresh ++ new)
  front_kept low high (kept, is, there) =
      let lt = seam kept (omega (arith, high, long is_clone items kept is)) in (
        kept,
        is,
        ap (λ ys. fresh ++ ys) there.0
            ∙ ap (λ ys. ys ++ drop cut kept) (front_is kept there.1)
            ∙ sym (insert-append_left (take cut kept) (drop cut kept) index x (omega (arith, lt, low)))
            ∙ ap (λ ys. insert ys index x) (take-append-drop cut kept),
      )

  pub front_some : cut < length items
      → SomeKept is_clone items (λ xs. (new ≡ remove_range xs 0 cut) × (fresh ≡ insert (slice_range xs 0 cut) (index - 0) x))
      → (0 < length fresh) × (0 < length new)
  front_some high (kept, is, there) = (
    some_inserted (slice_range kept 0 cut) fresh (index - 0) x there.1,
    omega (arith, high, ap length there.0, length-drop cut kept, long is_clone items kept is),
  )
