-- An element below some nodes, and those behind it.
use Rattle.std.proofs.Common.{◌≡◌, ◌<◌, ◌≤◌, ◌+◌, ◌-◌, ℕ, zero, suc, List, [], ◌∷◌, ◌++◌, Some, length, get_or, take, drop, slice_get, refl, ap, subst, sym, ◌∙◌, arith, append_assoc, append-nil, length-drop, length-append}
use Rattle.std.specs.Prelude.{IfSome}
use Rattle.std.proofs.lemmas.List.{take-append-drop, take-append-le}
use Rattle.std.proofs.Math.Seq.{take-append-add, take-append_seam}
use Rattle.std.proofs.lemmas.Option.{get_or_from_slice_get, slice_get-get_or}
use denote.Param.Weighed.{most, at_most}
use Rattle.ecow_tree.specs.Grown.{Grown}
use Rattle.ecow_tree.specs.Nodes.{items_of, tallest, LeadsTo}
use Rattle.ecow_tree.proofs.Parts.{read, parted, tallest_at, taken_within}

pub length_taken : {X : Type 0} (n : ℕ) (xs : List X) → n ≤ length xs → length (take n xs) ≡ n
length_taken zero xs within = refl
length_taken (suc n) [] within = absurd (omega (arith, within))
length_taken (suc n) (x ∷ xs) within = ap (λ m. suc m) (length_taken n xs (omega (arith, within)))

pub none_behind : {X : Type 0} (xs : List X) (n : ℕ) → length xs ≤ n → drop n xs ≡ []
none_behind [] zero past = refl
none_behind [] (suc n) past = refl
none_behind (x ∷ xs) zero past = absurd (omega (arith, past))
none_behind (x ∷ xs) (suc n) past = none_behind xs n (omega (arith, past))

-- what stands behind an index
module _ {T : Type 0} where
  drop_front : (xs ys : List T) (n : ℕ) → n ≤ length xs → drop n (xs ++ ys) ≡ drop n xs ++ ys
  drop_front [] ys zero within = refl
  drop_front [] ys (suc n) within = absurd (omega (arith, within))
  drop_front (x ∷ xs) ys zero within = refl
  drop_front (x ∷ xs) ys (suc n) within = drop_front xs ys n (omega (arith, within))

  drop_behind : (xs ys : List T) (i j : ℕ) → length xs + j ≡ i → drop i (xs ++ ys) ≡ drop j ys
  drop_behind [] ys i j at = let e : i ≡ j = omega (arith, at) in ap (λ n. drop n ys) e
  drop_behind (x ∷ xs) ys zero j at = absurd (omega (arith, at))
  drop_behind (x ∷ xs) ys (suc i) j at = drop_behind xs ys i j (omega (arith, at))

  pub all_taken : (xs : List T) (n : ℕ) → length xs ≤ n → take n xs ≡ xs
  all_taken [] zero past = refl
  all_taken [] (suc n) past = refl
  all_taken (x ∷ xs) zero past = absurd (omega (arith, past))
  all_taken (x ∷ xs) (suc n) past = ap (λ ys. x ∷ ys) (all_taken xs n (omega (arith, past)))

  pub slice_some : (xs : List T) (index : ℕ) → index < length xs → 0 < length (take (length xs - index) (drop index xs))
  slice_some xs index within =
      omega (arith, ap length (all_taken (drop index xs) (length xs - index) (omega (arith, length-drop index xs))), length-drop index xs)

  -- a slice up to the end
  pub rest_of_slice : (own seen all : List T) (index : ℕ) → seen ≡ own → own ≡ all → index ≤ length own
      → drop index all ≡ take (length seen - index) (drop index seen) ++ []
  rest_of_slice own seen all index old whole within =
      ap (drop index) (sym (old ∙ whole))
      ∙ sym (all_taken (drop index seen) (length seen - index) (omega (arith, length-drop index seen)))
      ∙ sym (append-nil (take (length seen - index) (drop index seen)))

-- the node to which an index leads, as it was read
module _ {T : Type 0} (nodes seen again : List (Grown T)) (index at rest : ℕ) (d : Grown T) (old : seen ≡ nodes) (same : again ≡ nodes)
    (is : d ≡ get_or again at d) (l : LeadsTo seen index at rest) where
  pub node_is : d ≡ l.node
  node_is = is ∙ ap (λ ns. get_or ns at d) (same ∙ sym old) ∙ get_or_from_slice_get seen at l.node d l.found

  pub inside_of : IfSome (slice_get seen at) (λ node. rest < length node.items) → rest < length d.items
  inside_of within =
      subst (λ (n : Grown T). rest < length n.items) (sym node_is) (subst (λ o. IfSome o (λ node. rest < length node.items)) l.found within)

  pub lower_at : (h : ℕ) → tallest nodes ≤ h → d.height < h
  lower_at h low = omega (arith, ap (λ n. n.height) node_is, tallest_at seen at l.node l.found, ap (λ ns. tallest ns) old, low)

  pub read_at : (all : List T) (x : T) → items_of nodes ≡ all → slice_get d.items rest ≡ Some x → slice_get all index ≡ Some x
  read_at all x whole found =
      ap (λ ys. slice_get ys index) (sym whole ∙ ap (λ ns. items_of ns) (sym old))
      ∙ read seen index at rest x l (ap (λ n. slice_get n.items rest) (sym node_is) ∙ found)

  pub rest_below : (all part more : List T) → items_of nodes ≡ all → drop rest d.items ≡ part ++ more
      → drop index all ≡ part ++ (more ++ items_of (drop (suc at) seen))
  rest_below all part more whole parts =
      let behind = items_of (drop (suc at) seen) in
      ap (drop index) (sym whole ∙ ap (λ ns. items_of ns) (sym old) ∙ parted seen at l.node l.found)
      ∙ drop_behind (items_of (take at seen)) (l.node.items ++ behind) index rest l.before
      ∙ drop_front l.node.items behind rest l.inside
      ∙ ap (λ ys. ys ++ behind) (ap (λ n. drop rest n.items) (sym node_is) ∙ parts)
      ∙ append_assoc part more behind

  -- the elements up to one behind the index
  pub first_below : (all less part : List T) (end : ℕ) → items_of nodes ≡ all → end ≡ index + 1 → rest < length d.items
      → take (rest + 1) d.items ≡ less ++ part → take end all ≡ (items_of (take at seen) ++ less) ++ part
  first_below all less part end whole is_end within parts =
      let before = items_of (take at seen) in
      let behind = items_of (drop (suc at) seen) in
      let sum : end ≡ length before + (rest + 1) = omega (arith, is_end, l.before) in
      let bound : rest + 1 ≤ length l.node.items = omega (arith, within, ap (λ n. length n.items) node_is) in
      ap (take end) (sym whole ∙ ap (λ ns. items_of ns) (sym old) ∙ parted seen at l.node l.found)
      ∙ ap (λ n. take n (before ++ (l.node.items ++ behind))) sum
      ∙ take-append-add before (l.node.items ++ behind) (rest + 1)
      ∙ ap (λ ys. before ++ ys) (take-append-le (rest + 1) l.node.items behind bound ∙ ap (λ n. take (rest + 1) n.items) (sym node_is) ∙ parts)
      ∙ sym (append_assoc before less part)

  pub is_there : slice_get nodes at ≡ Some d
  is_there = ap (λ ns. slice_get ns at) (sym old) ∙ l.found ∙ ap Some (sym node_is)

  pub leads_there : LeadsTo nodes index at rest
  leads_there = subst (λ ns. LeadsTo ns index at rest) old l

  pub part_inside : IfSome (slice_get nodes at) (λ node. rest ≤ length node.items)
  part_inside = subst (λ o. IfSome o (λ (node : Grown T). rest ≤ length node.items)) (sym (ap (λ ns. slice_get ns at) (sym old) ∙ l.found)) l.inside

  pub part_leaf : (m : ℕ) → at < length nodes → (d.height ≡ 0) × (2 ≤ length d.items) → length (items_of nodes) < m
      → IfSome (slice_get nodes at) (λ node. (node.height ≡ 0) × (2 ≤ length node.items) × (length node.items < m) × (rest ≤ length node.items))
  part_leaf m bound (leaf, full) few =
      subst (λ o. IfSome o (λ (node : Grown T). (node.height ≡ 0) × (2 ≤ length node.items) × (length node.items < m) × (rest ≤ length node.items)))
      (sym is_there) (
        leaf,
        full,
        omega (arith, few, taken_within nodes at d (is ∙ ap (λ ns. get_or ns at d) same) bound),
        omega (arith, ap (λ n. length n.items) node_is, l.inside),
      )

-- the node at a place of a block that is lent
module _ {T : Type 0} (nodes block lent : List (Grown T)) (at index : ℕ) (d : Grown T) (same : lent ≡ block) (was : block ≡ nodes)
    (bound : at < length nodes) where
  pub lent_there : slice_get nodes at ≡ Some (get_or lent at d)
  lent_there = slice_get-get_or nodes at d bound ∙ ap Some (ap (λ ns. get_or ns at d) (sym (same ∙ was)))

  pub lent_inside : IfSome (slice_get nodes at) (λ node. index ≤ length node.items) → index ≤ length (get_or lent at d).items
  lent_inside within = subst (λ o. IfSome o (λ (node : Grown T). index ≤ length node.items)) lent_there within

  pub lent_bounded : (m : ℕ) → length (items_of nodes) < m → length (get_or lent at d).items < m
  lent_bounded m few =
      omega (
        arith,
        few,
        ap length (parted nodes at (get_or lent at d) lent_there),
        length-append (items_of (take at nodes)) ((get_or lent at d).items ++ items_of (drop (suc at) nodes)),
        length-append (get_or lent at d).items (items_of (drop (suc at) nodes)),
      )

  -- what a measure gives of it is at most what it gives of all
  pub lent_most : (μ : Grown T → ℕ) → μ (get_or lent at d) ≤ most μ nodes
  lent_most μ = omega (arith, at_most μ nodes at d bound, ap (λ ns. μ (get_or ns at d)) (same ∙ was))

-- the end of all elements stands at the end of the last node
pub leads_last : {T : Type 0} (nodes : List (Grown T)) (last index n : ℕ) (d : Grown T) → last + 1 ≡ length nodes → d ≡ get_or nodes last d
    → n ≡ length d.items → index ≡ length (items_of nodes) → LeadsTo nodes index last n
leads_last nodes last index n d behind is counted all =
    let found = slice_get-get_or nodes last d (omega (arith, behind)) ∙ ap Some (sym is) in record {
      node = d;
      found = found;
      inside = omega (arith, counted);
      before = omega (
        arith,
        counted,
        all,
        ap length (parted nodes last d found),
        length-append (items_of (take last nodes)) (d.items ++ items_of (drop (suc last) nodes)),
        length-append d.items (items_of (drop (suc last) nodes)),
        ap (λ ns. length (items_of ns)) (none_behind nodes (suc last) (omega (arith, behind))),
      );
    }

-- the elements up to the end of a run that begins at an index
pub next_run : {X : Type 0} (xs run more : List X) (at : ℕ) → at ≤ length xs → drop at xs ≡ run ++ more
    → take (at + length run) xs ≡ take at xs ++ run
next_run xs run more at within part =
    ap (λ ys. take (at + length run) ys) (sym (take-append-drop at xs))
    ∙ ap (λ n. take (n + length run) (take at xs ++ drop at xs)) (sym (length_taken at xs within))
    ∙ take-append-add (take at xs) (drop at xs) (length run)
    ∙ ap (λ ys. take at xs ++ take (length run) ys) part
    ∙ ap (λ ys. take at xs ++ ys) (take-append_seam run more)

pub run_within : {X : Type 0} (xs run more : List X) (at : ℕ) → at ≤ length xs → drop at xs ≡ run ++ more → at + length run ≤ length xs
run_within xs run more at within part = omega (arith, within, ap length part, length-append run more, length-drop at xs)
